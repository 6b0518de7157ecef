-- A loop over heads.
-- Assumes nothing.
use Rattle.std.proofs.Common.{◌≡◌, ℕ, ◌≤◌, max}
use Rattle.std.specs.declared.ops.Range.{Range}

-- the heads that a loop over `heads` has not come to: they end where all end, and it has come to the end at most, or stays at the start where that is above
abbrev pub Left : Range ℕ → Range ℕ → Type 0
Left heads left = (left.end ≡ heads.end) × (heads.start ≤ left.start) × (left.start ≤ max heads.end heads.start)
