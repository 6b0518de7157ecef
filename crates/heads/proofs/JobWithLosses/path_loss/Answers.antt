-- The walk adds the loss of each section on the way to the pump.
-- Assumes nothing.
use Rattle.std.proofs.Common.{arith}
use Rattle.heads.proofs.Bounds.{given_few, path_small}
use Rattle.heads.proofs.Loss.{walk_over}
use Rattle.heads.proofs.Walked.{walk_lower, walk_step}
use Rattle.heads.proofs.JobWithLosses.path_loss.Goals as goal

pub loop-at-init : goal.loop-at-init
loop-at-init c = (omega arith, omega (arith, given_few c.args.self.now.given), omega arith)

pub overflow_add-sum : goal.overflow_add-sum
overflow_add-sum c =
    omega (arith, walk_step c.args.self.now.given c.loop-at.at (omega arith) (omega arith), path_small c.args.self.now.given c.args.section (omega arith))

pub loop-at-smaller : goal.loop-at-smaller
loop-at-smaller c = omega (arith, walk_lower c.args.self.now.given c.loop-at.at (omega arith) (omega arith))

pub loop-at-preserved : goal.loop-at-preserved
loop-at-preserved c =
    let lower = walk_lower c.args.self.now.given c.loop-at.at (omega arith) (omega arith) in
    let step = walk_step c.args.self.now.given c.loop-at.at (omega arith) (omega arith) in
    (omega arith, omega arith, grind arith)

pub returns : goal.returns
returns c = grind (arith, walk_over)
