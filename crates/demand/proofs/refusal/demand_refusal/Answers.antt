-- `demand::refusal::demand_refusal` meets its contract: each test in its turn.
-- Assumes nothing.
use Rattle.std.proofs.Common.{arith}
use Rattle.std.proofs.Math.Logic.{⊎_elim}
use Rattle.demand.proofs.Deciding.{Found, found, found_over_house, found_over_hour, found_table_one_house, found_table_one_any, found_table_one_hour, found_table_one_not}
use Rattle.demand.proofs.refusal.demand_refusal.Goals as goal
use Rattle.demand.proofs.refusal.demand_refusal.Goals.{After-hour_sums-hour, then-needs_table_one-via-then-needs_table_one, then-needs_table_one-via-else-needs_table_one+then-section_needs_table_one, then-needs_table_one-via-else-needs_table_one+else-section_needs_table_one+then-needs_table_one-2}

facts : (c : After-hour_sums-hour) → Found c.args.job c.sums_of-house.result.m c.fixtures_below-fixtures.result c.hour_sums-hour.result.shares
facts c = found c.requires c.sums_of-house.ensures.0 c.fixtures_below-fixtures.ensures c.hour_sums-hour.ensures.0

pub returns-then-house-gt-LAST_M : goal.returns-then-house-gt-LAST_M
returns-then-house-gt-LAST_M c =
    let k = facts (goal.at.returns-then-house-gt-LAST_M c).After-hour_sums-hour in
    ⊎_elim (λ h. found_over_house k (omega arith)) (λ h. found_over_hour k (omega arith) (omega arith)) c.then-house-gt-LAST_M.either

pub returns-then-needs_table_one : goal.returns-then-needs_table_one
returns-then-needs_table_one c =
    let k = facts (goal.at.returns-then-needs_table_one c).After-hour_sums-hour in
    elim c.then-needs_table_one.branch [
      | then-needs_table_one-via-then-needs_table_one w ↦ found_table_one_house k (omega arith) (omega arith) w.if-needs_table_one.ensures
      | then-needs_table_one-via-else-needs_table_one+then-section_needs_table_one w ↦
          found_table_one_any k (omega arith) (omega arith) w.if-needs_table_one.ensures w.if-section_needs_table_one.ensures
      | then-needs_table_one-via-else-needs_table_one+else-section_needs_table_one+then-needs_table_one-2 w ↦
          found_table_one_hour k (omega arith) (omega arith) w.if-needs_table_one.ensures w.if-section_needs_table_one.ensures w.if-needs_table_one-2.ensures
    ]

pub returns : goal.returns
returns c =
    let k = facts (goal.at.returns c).After-hour_sums-hour in
    found_table_one_not k (omega arith) (omega arith) c.if-needs_table_one.ensures c.if-section_needs_table_one.ensures c.if-needs_table_one-2.ensures
