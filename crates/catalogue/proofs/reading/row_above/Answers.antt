-- `catalogue::reading::row_above`: the flows rise, so the search finds the first that reaches q.
-- Assumes nothing.
use Rattle.std.proofs.Common.{arith, rules, of_calls, ltb}
use Rattle.std.proofs.lemmas.Fn.{always_returns_same}
use Rattle.catalogue.proofs.FirstRow.{flow_of, flows_part, point_above}
use Rattle.catalogue.proofs.reading.row_above.Goals as goal

pub returns : goal.returns
returns c =
    let rows = c.args.rows.now in
    let q = c.args.q in
    let point =
    c.partition_point.ensures.partitioned (λ y. ltb (flow_of y) q) (always_returns_same _ _ _ (λ a r f k. search (rules, of_calls)))
    (flows_part rows c.told-rows c.requires.0 q) in
    let a = point_above rows c.told-rows c.requires.0 q c.partition_point.result c.requires.1 c.partition_point.ensures.bound point in
    record { within = omega (arith, a.within); reached = omega (arith, a.reached); under = λ h. omega (arith, a.under) }
