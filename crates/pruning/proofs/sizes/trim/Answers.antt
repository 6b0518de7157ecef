-- Each turn keeps a size or takes it out.
-- Assumes nothing.
use Rattle.std.proofs.Common.{◌+◌, rules, arith}
use Rattle.pruning.proofs.Trims.{Trimming, turn_out, turn_kept, turn_end}
use Rattle.pruning.proofs.sizes.trim.Goals as goal
use Rattle.pruning.proofs.sizes.trim.Goals.{Joined-is_needless, then-is_needless, else-is_needless}

turned : (c : Joined-is_needless) → Trimming c.args.tables.now c.args.head c.args.s c.if-is_needless.tables c.if-is_needless.last (c.loop-t.t + 1)
turned c =
    elim c.if-is_needless.branch [
      | then-is_needless w ↦
          turn_out c.loop-t.invariant (search rules) (search rules) (search rules) w.last-is (c.is_needless.ensures.needless w.if-is_needless.true)
          (omega arith) (omega arith) (omega arith) (omega arith)
      | else-is_needless w ↦
          turn_kept c.loop-t.invariant (search rules) (search rules) (search rules) w.last-is (c.is_needless.ensures.kept w.if-is_needless.false)
          (omega arith) (omega arith)
    ]

pub loop-t-preserved : goal.loop-t-preserved
loop-t-preserved c = turned (goal.at.loop-t-preserved c).Joined-is_needless

pub returns-after-is_needless-clause-keeps : goal.returns-after-is_needless-clause-keeps
returns-after-is_needless-clause-keeps c = (turn_end (turned (goal.at.returns-after-is_needless-clause-keeps c).Joined-is_needless) (omega arith)).0
