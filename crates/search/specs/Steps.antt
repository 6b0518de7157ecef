-- What the contracts of the search say.
-- Assumes nothing.
use Rattle.std.specs.Prelude.{◌≡◌, ℕ, ◌≤◌, ◌<◌}
use Rattle.plan.specs.Plan.{mark, least_to}

-- a place of 1 .. n that has the least of f, which is below the mark
pub record Picked (n : ℕ) (f : ℕ → ℕ) (t : ℕ) : Type 0 where
  pub low : 0 < t
  pub high : t ≤ n
  pub at : f t ≡ least_to n f
  pub real : least_to n f < mark
