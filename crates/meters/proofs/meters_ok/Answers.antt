-- `meters::meters_ok` meets its contract: a list of another length is refused, and of one that is let pass the chain tests each meter.
-- Assumes nothing.
use Rattle.std.proofs.Common.{◌≡◌, ◌+◌, ◌∙◌, List, [], ℕ, true, false, length, ap, sym, arith, rules, tests, eqb-true, eq-eqb}
use Rattle.std.proofs.lemmas.Iterator.{YieldsList-from_slice}
use Rattle.std.proofs.lemmas.Iterator.Search.{all_from_yields_List}
use Rattle.basis.specs.Range.{within}
use Rattle.basis.proofs.Bools.{apart}
use Rattle.basis.proofs.Listed.{listed_all}
use Rattle.basis.proofs.Within.{within_in, in_within}
use Rattle.meters.specs.Meters.{meters_in, meter_at, meter_ok}
use Rattle.meters.proofs.Bounds.{list_each, list_refused}
use Rattle.meters.proofs.Chunks.{chunk_meter}
use Rattle.meters.proofs.meters_ok.Goals.{then-contains, else-contains}
use Rattle.meters.proofs.meters_ok.Goals as goal

pub returns-then-is_empty : goal.returns-then-is_empty
returns-then-is_empty c =
    let list = c.args.list.now in
    let chunks = c.as_chunks.result.0.now in
    let count : length chunks ≡ meters_in list = c.as_chunks.ensures.front_len in
    let test = λ (bytes : List ℕ). meter_ok (meter_at bytes 1) in
    let each = all_from_yields_List test _ _ _ c.all.ensures.ran (YieldsList-from_slice chunks cc) (λ x b q k. search (rules, tests)) in
    let all = listed_all [] test (λ t. meter_ok (meter_at list t)) chunks
    (λ k h. ap meter_ok (chunk_meter list _ k (k + 1) chunks c.as_chunks.ensures.front (omega arith) (omega arith))) in
    elim c.if-contains.branch [
      | then-contains w ↦
          let empty : length c.as_chunks.result.1.now ≡ 0 = eqb-true _ _ (sym w.is_empty.ensures ∙ sym w.value-is ∙ c.if-is_empty.true) in
          let inside : within 1 8 (length chunks) ≡ true = search (rules, tests) in
          each ∙ all ∙ rw count (list_each list (within_in 1 8 _ (rw count at inside)) (omega arith))
      | else-contains w ↦ absurd (apart c.if-is_empty.true cc)
    ]

pub returns-else-is_empty : goal.returns-else-is_empty
returns-else-is_empty c =
    let list = c.args.list.now in
    c.if-is_empty.false ∙ elim c.if-contains.branch [
      | then-contains w ↦ list_refused list (λ b. apart (eq-eqb _ _ (omega arith)) (sym w.is_empty.ensures ∙ sym w.value-is ∙ c.if-is_empty.false))
      | else-contains w ↦
          let outside : within 1 8 (length c.as_chunks.result.0.now) ≡ false = search (rules, tests) in
          list_refused list (λ b. apart (in_within 1 8 _ b.few) (rw c.as_chunks.ensures.front_len at outside))
    ]
