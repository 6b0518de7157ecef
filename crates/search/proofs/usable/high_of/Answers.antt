-- Each turn raises the most of a section's end and of its parent's.
-- Assumes nothing.
use Rattle.std.proofs.Common.{refl, rules, arith}
use Rattle.search.proofs.Usables.{usable_none, usable_more}
use Rattle.search.proofs.usable.high_of.Goals as goal

pub loop-s-init : goal.loop-s-init
loop-s-init c = usable_none c.args.tables.now.sound.few c.args.tables.now.sound.lower

pub loop-s-preserved : goal.loop-s-preserved
loop-s-preserved c =
    let sound = c.args.tables.now.sound in
    usable_more sound.few sound.lower c.loop-s.invariant (λ s t. refl) c.greatest_of-most.result (omega arith) (omega arith)
    (search rules) (search rules) (λ k l r. search rules) (search rules)
