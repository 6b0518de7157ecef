-- 12, by the list's length and a test of each size.
-- Assumes nothing.
use Rattle.std.proofs.Common.{◌≡◌, length, sym, ◌∙◌, rules, tests, arith}
use Rattle.std.specs.List.{list_all}
use Rattle.std.proofs.lemmas.Iterator.{YieldsList-from_slice}
use Rattle.std.proofs.lemmas.Iterator.Search.{all_from_yields_List}
use Rattle.basis.specs.Range.{within}
use Rattle.fields.specs.Fields.{count_of}
use Rattle.catalogue.specs.Layout.{sizes_of}
use Rattle.sizing.proofs.Named as named
use Rattle.rating.proofs.Listed.{all_listed}
use Rattle.rating.proofs.sections.list_ok.Goals as goal

pub returns-then-list-count : goal.returns-then-list-count
returns-then-list-count c =
    let test = within 1 (sizes_of c.args.catalogue.now.bytes.now) in
    let each : c.all.result ≡ list_all test c.args.list.now =
    all_from_yields_List test _ _ _ c.all.ensures.ran (YieldsList-from_slice c.args.list.now cc) (λ x b q k. search (rules, tests)) in
    let long : length c.args.list.now ≡ count_of c.args.job.now = omega arith in
    each ∙ all_listed test c.args.list.now ∙ rw long (sym (named.list_all c.args.job.now c.args.catalogue.now.bytes.now c.args.list.now long))

pub returns-else-list-count : goal.returns-else-list-count
returns-else-list-count c =
    rw (named.other_length c.args.job.now c.args.catalogue.now.bytes.now c.args.list.now (λ e. omega arith)) (search (rules, tests))
