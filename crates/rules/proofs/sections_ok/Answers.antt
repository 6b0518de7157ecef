-- `rules::sections_ok` meets its contract: the chain tests each section.
-- Assumes nothing.
use Rattle.std.proofs.Common.{ℕ, ◌+◌, ap, ◌∙◌, rules, tests, arith}
use Rattle.std.proofs.lemmas.Iterator.{YieldsList-from_range}
use Rattle.std.proofs.lemmas.Iterator.Search.{all_from_yields_List}
use Rattle.fields.specs.Fields.{count_of, section_of}
use Rattle.rules.specs.Rules.{section_ok, sections_ok}
use Rattle.basis.proofs.Listed.{range_all}
use Rattle.rules.proofs.sections_ok.Goals as goal

pub returns : goal.returns
unfolding sections_ok
returns c =
    let job = c.args.job.now in
    let n = count_of job in
    let test = λ (i : ℕ). section_ok i (section_of job i) in
    let each = all_from_yields_List test _ _ _ c.all.ensures.ran (YieldsList-from_range 1 (n + 1) n (cc) (omega arith)) (λ x b q k. search (rules, tests)) in
    each ∙ range_all test test 1 n (λ k h. ap test (omega arith))
