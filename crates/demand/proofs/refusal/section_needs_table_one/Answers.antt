-- `demand::refusal::section_needs_table_one` meets its contract: the chain tests each section.
-- Assumes nothing.
use Rattle.std.proofs.Common.{◌+◌, ap, ◌∙◌, rules, tests, arith}
use Rattle.std.proofs.lemmas.Iterator.{YieldsList-from_range}
use Rattle.std.proofs.lemmas.Iterator.Search.{any_from_yields_List}
use Rattle.fields.specs.Fields.{count_of}
use Rattle.basis.proofs.Listed.{range_any}
use Rattle.demand.proofs.Deciding.{section_test}
use Rattle.demand.proofs.refusal.section_needs_table_one.Goals as goal

pub returns : goal.returns
returns c =
    let n = count_of c.args.tree.now.job.now in
    let test = section_test c.args.tree.now.job.now in
    let each = any_from_yields_List test _ _ _ c.any.ensures.ran (YieldsList-from_range 1 (n + 1) n (cc) (omega arith)) (λ x b q k. (search rules, search (rules, tests))) in
    each ∙ range_any test test 1 n (λ k h. ap test (omega arith))
