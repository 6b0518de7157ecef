-- `tree::Tree::sets` meets its contract: each turn takes one section more.
-- Assumes nothing.
use Rattle.std.proofs.Common.{arith}
use Rattle.tree.proofs.Upward.{joined_start, joined_fits, joined_more, joined_end}
use Rattle.tree.proofs.Tree.sets.Goals as goal

pub loop-t-init : goal.loop-t-init
loop-t-init c = joined_start c.args.self.now.rooted c.singles-sets.ensures c.count-count.ensures.is

pub overflow_add-sets : goal.overflow_add-sets
overflow_add-sets c = record { fits = joined_fits c.args.self.now.rooted (omega arith) (omega arith) c.from.ensures c.loop-t.invariant }

pub loop-t-preserved : goal.loop-t-preserved
loop-t-preserved c = joined_more c.args.self.now.rooted (omega arith) (omega arith) c.from.ensures c.loop-t.invariant

pub returns : goal.returns
returns c = joined_end c.args.self.now.rooted c.loop-t.invariant (omega arith)
