-- What the contract of the straight line asks.
-- Assumes nothing.
use Rattle.std.specs.Prelude.{ℕ, ◌<◌, ◌≤◌}

-- two points of a line that doesn't fall, with x from the one to the other
pub record Piece (x₀ y₀ x₁ y₁ x : ℕ) : Type 0 where
  pub across : x₀ < x₁
  pub rising : y₀ ≤ y₁
  pub low : x₀ ≤ x
  pub high : x ≤ x₁
