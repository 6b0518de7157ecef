-- Document 02, L5: the walk from a section over its parents to the pump.
-- Assumes nothing.
use Rattle.std.specs.Prelude.{◌≡◌, ℕ, ◌+◌}
use Rattle.basis.specs.Sections.{path_of}

-- "At the start of each turn the sum so far plus the path loss of the section then reached is the path loss asked for."
abbrev pub AtTurn : (ℕ → ℕ) → (ℕ → ℕ) → (asked sum at : ℕ) → Type 0
AtTurn parent loss asked sum at = sum + path_of parent loss at ≡ path_of parent loss asked
