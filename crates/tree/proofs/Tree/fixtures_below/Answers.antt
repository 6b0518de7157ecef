-- `tree::Tree::fixtures_below` meets its contract: each turn takes one section more, and the set has none from the last place on.
-- Assumes nothing.
use Rattle.std.proofs.Common.{arith}
use Rattle.tree.specs.Tree.{set_of, fixtures_below}
use Rattle.tree.proofs.Below.{below_under}
use Rattle.tree.proofs.Members.{places, place_in, passed_start, passed_more, passed_end}
use Rattle.tree.proofs.Tree.fixtures_below.Goals as goal

pub loop-j-init : goal.loop-j-init
loop-j-init c = passed_start c.args.i (omega arith) (λ k p q. below_under c.args.self.now.rooted c.args.i k q (omega arith))

pub loop-j-preserved : goal.loop-j-preserved
unfolding set_of
loop-j-preserved c =
    let h = places c.args.set (omega arith) in
    passed_more c.loop-j.invariant c.requires.1 (place_in _ _ c.requires.1 h.1 (omega arith)) c.from.ensures (omega arith)

pub returns : goal.returns
unfolding set_of fixtures_below
returns c = passed_end c.loop-j.invariant c.requires.1 (places c.args.set (omega arith)).0 (omega arith)
