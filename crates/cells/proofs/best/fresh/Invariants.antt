-- Each place that the loop has passed has the mark.
-- Assumes nothing.
use Rattle.std.proofs.Common.{◌≡◌, ℕ, ◌≤◌, ◌<◌, length, get_or}
use Rattle.plan.specs.Plan.{mark}
use Rattle.cells.proofs.Heads.{Left}
use Rattle.cells.proofs.best.fresh.Given as goal

abbrev pub invariant-loop-h : goal.invariant-loop-h
invariant-loop-h l =
    Left l.fn.heads l.h-iterator × (length l.best ≡ 7001) ×
    ((x : ℕ) → l.fn.heads.start ≤ x → x < l.h-iterator.start → get_or l.best x 0 ≡ mark)
