-- `tree::Tree::gather` meets its contract: each turn takes one section more.
-- Assumes nothing.
use Rattle.std.proofs.Common.{arith}
use Rattle.tree.proofs.Upward.{summed_start, summed_fits, summed_more, summed_end}
use Rattle.tree.proofs.Tree.gather.Goals as goal

pub loop-t-init : goal.loop-t-init
loop-t-init c = summed_start c.args.self.now.rooted c.requires c.count-t.ensures.is

pub add_row-requires : goal.add_row-requires
add_row-requires c = summed_fits c.args.self.now.rooted (omega arith) (omega arith) c.from.ensures c.loop-t.invariant

pub loop-t-preserved : goal.loop-t-preserved
loop-t-preserved c = summed_more c.args.self.now.rooted (omega arith) (omega arith) c.from.ensures c.loop-t.invariant c.add_row.ensures

pub returns : goal.returns
returns c = summed_end c.args.self.now.rooted c.loop-t.invariant (omega arith)
