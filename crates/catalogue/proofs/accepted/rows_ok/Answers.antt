-- `catalogue::accepted::rows_ok` meets its contract: the chain tests each row after the first.
-- Assumes nothing.
use Rattle.std.proofs.Common.{ℕ, length, ◌-◌, ◌&&◌, ap, sym, ◌∙◌, refl, rules, tests, arith}
use Rattle.std.specs.List.{concat}
use Rattle.std.proofs.lemmas.Iterator.{YieldsList-from_range}
use Rattle.std.proofs.lemmas.Iterator.Search.{all_from_yields_List}
use Rattle.catalogue.specs.Rules.{row_ok, rises_at}
use Rattle.basis.proofs.Listed.{range_all}
use Rattle.catalogue.proofs.RowBounds.{rows_each, first_refused}
use Rattle.catalogue.proofs.accepted.rows_ok.Goals as goal

pub returns-then-row_ok : goal.returns-then-row_ok
returns-then-row_ok c =
    let rows = concat c.args.rows.now in
    let n = length c.args.rows.now in
    let test = λ (k : ℕ). row_ok rows k && rises_at rows k in
    let each = all_from_yields_List test _ _ _ c.all.ensures.ran (YieldsList-from_range 1 n (n - 1) (cc) refl) (λ x b q k. search (rules, tests)) in
    each ∙ range_all test test 1 (n - 1) (λ k h. ap test (omega arith)) ∙ rows_each rows n (sym c.if-row_ok.ensures) (omega arith)

pub returns-else-row_ok : goal.returns-else-row_ok
returns-else-row_ok c = c.if-row_ok.false ∙ first_refused _ _ (omega arith) cc
