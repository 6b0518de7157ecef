-- What the contract of the search says.
-- Assumes nothing.
use Rattle.std.specs.Prelude.{ℕ, ◌+◌, ◌<◌, ◌≤◌}
use Rattle.coefficient.specs.Table.{key_at}

-- i is the place of the last key that is at most m
pub record Reached (m i : ℕ) : Type 0 where
  pub inside : i < 486
  pub low : key_at i ≤ m
  pub high : i < 485 → m < key_at (i + 1)
