-- `catalogue::accepted::sizes_ok` meets its contract: the chain tests each size, and each lies within the catalogue.
-- Assumes nothing.
use Rattle.std.proofs.Common.{◌+◌, ap, ◌∙◌, rules, tests, arith}
use Rattle.std.proofs.lemmas.Iterator.{YieldsList-from_range, serves_from_Range}
use Rattle.std.proofs.lemmas.Iterator.Search.{all_from_yields_List}
use Rattle.catalogue.specs.Layout.{sizes_of}
use Rattle.catalogue.specs.Rules.{size_ok, sizes_ok}
use Rattle.basis.proofs.Listed.{range_all}
use Rattle.catalogue.proofs.ShapeBounds.{shape_in, shape_sized}
use Rattle.catalogue.proofs.accepted.sizes_ok.Goals as goal

pub all-requires-clause-callable : goal.all-requires-clause-callable
all-requires-clause-callable c =
    let shape = shape_in _ c.requires in
    serves_from_Range (λ x q r. search (rules, tests)) (λ x low high. let rows = shape.rows.low in let sized = shape_sized {s = x} shape low (omega arith) in search (rules, tests))

pub returns : goal.returns
unfolding sizes_ok
returns c =
    let cat = c.args.cat.now in
    let each = all_from_yields_List (size_ok cat) _ _ _ c.all.ensures.ran (YieldsList-from_range 1 (sizes_of cat + 1) (sizes_of cat) (cc) (omega arith)) (λ x b q k. search (rules, tests)) in
    each ∙ range_all (size_ok cat) (size_ok cat) 1 (sizes_of cat) (λ k h. ap (size_ok cat) (omega arith))
