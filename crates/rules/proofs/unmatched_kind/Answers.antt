-- `rules::unmatched_kind` meets its contract: the chain tests each kind by its residents and the house's row of counts.
-- Assumes nothing.
use Rattle.std.proofs.Common.{ℕ, not, eqb, get_or, [], ap, sym, ◌∙◌, refl, rules, tests, arith}
use Rattle.std.specs.Bool.{beq}
use Rattle.std.proofs.lemmas.Iterator.{YieldsList-from_range}
use Rattle.std.proofs.lemmas.Iterator.Search.{any_from_yields_List}
use Rattle.rules.specs.Rules.{unmatched}
use Rattle.rules.proofs.House.{odd_at, odd_served}
use Rattle.basis.proofs.Listed.{range_any}
use Rattle.rules.proofs.unmatched_kind.Goals as goal

pub returns : goal.returns
unfolding unmatched
returns c =
    let tree = c.args.tree.now in
    let house = get_or c.counts.result 0 [] in
    let test = λ (i : ℕ). not (beq (eqb (get_or tree.job.now.residents i 0) 0) (eqb (get_or house i 0) 0)) in
    let each = any_from_yields_List test _ _ _ c.any.ensures.ran (YieldsList-from_range 0 12 12 refl refl) (λ x b q k. search (rules, tests)) in
    each ∙ range_any test (odd_at tree.job.now) 0 12
    (λ k h. ap test (omega arith) ∙ sym (odd_served tree.rooted k _ (c.counts.ensures.at 0 k (omega arith) h)))
