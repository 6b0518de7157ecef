-- `rules::childless_zero` meets its contract: the chain tests each section's kind and set.
-- Assumes nothing.
use Rattle.std.proofs.Common.{ℕ, ◌+◌, ◌^◌, ◌&&◌, eqb, get_or, ap, sym, ◌∙◌, rules, tests, arith}
use Rattle.std.proofs.lemmas.Iterator.{YieldsList-from_range}
use Rattle.std.proofs.lemmas.Iterator.Search.{any_from_yields_List}
use Rattle.fields.specs.Fields.{count_of, section_of}
use Rattle.rules.specs.Rules.{childless_zero}
use Rattle.rules.proofs.Ends.{childless_zero_at, zero_set}
use Rattle.basis.proofs.Listed.{range_any}
use Rattle.rules.proofs.childless_zero.Goals as goal

pub returns : goal.returns
unfolding childless_zero
returns c =
    let tree = c.args.tree.now in
    let job = tree.job.now in
    let n = count_of job in
    let below = c.sets-below.result in
    let test = λ (i : ℕ). eqb (section_of job i).kind 0 && eqb (get_or below i 0) (2 ^ i) in
    let each = any_from_yields_List test _ _ _ c.any.ensures.ran (YieldsList-from_range 1 (n + 1) n (cc) (omega arith)) (λ x b q k. search (rules, tests)) in
    each ∙ range_any test (childless_zero_at job) 1 n
    (λ k h. ap test (omega arith) ∙
    sym (zero_set tree.rooted (k + 1) (omega arith) (omega arith) _ (c.sets-below.ensures (k + 1) (omega (arith, tree.rooted.few)))))
