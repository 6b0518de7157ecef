-- Two records that differ in the meter loss alone: the one is accepted where the other is, given a meter loss in range, and flow and mean
-- hour of the house are the same.
-- Assumes nothing.
use mathlib.Core.Path.{◌≡◌, refl, sym}
use mathlib.Core.Bool.{true}
use mathlib.Core.List.{List}
use Prim.Native.Nat.{ℕ, ◌≤◌}
use native.Mathlib.Omega.{arith}
use Rattle.answer.specs.Checks.{first_no}
use Rattle.wire.specs.Wire.{be_at}
use Rattle.fields.specs.declared.Job.{Job}
use Rattle.rules.specs.Rules.{header_ok, field_checks}
use Rattle.rules.proofs.HeaderBounds.{header_in, in_head}
use Rattle.rules.proofs.Same.{checks_same}
use Rattle.record.specs.Record.{header_at, decode}
use Rattle.record.specs.Edited.{meter_place, SameBut, with_meter}
use Rattle.record.proofs.Edited.{meter_changed}
use Rattle.job.specs.Calls.{shape_checks}
use Rattle.job.proofs.Decided.{read_passed}
use Rattle.job.proofs.Edited.{shape_kept}
use Rattle.demand.specs.Demand.{house_flow, mean_of, demand_checks, Accepted}
use Rattle.demand.proofs.Same.{house_flow_same, mean_same, demand_checks_same}
use Rattle.acceptance.specs.Acceptance.{job_no}
use Rattle.acceptance.proofs.Accepting.{accept_passed, accept_shape, accept_accepted}

-- the job with another meter loss
module _ (job : Job) (n : ℕ) where
  with_flow : house_flow (with_meter job n) ≡ house_flow job
  unfolding with_meter
  with_flow = house_flow_same (with_meter job n) job refl refl refl refl

  with_mean : mean_of (with_meter job n) ≡ mean_of job
  unfolding with_meter
  with_mean = mean_same (with_meter job n) job refl refl refl refl refl

  with_fields : field_checks (with_meter job n) ≡ field_checks job
  unfolding with_meter
  with_fields = checks_same (with_meter job n) job refl refl (λ i h k. refl)

  with_demand : demand_checks (with_meter job n) ≡ demand_checks job
  unfolding with_meter
  with_demand = demand_checks_same (with_meter job n) job refl refl refl refl

  with_head : header_ok job.header ≡ true → n ≤ 1000 → header_ok (with_meter job n).header ≡ true
  unfolding with_meter
  with_head ok h =
      let i = header_in job.header ok in
      in_head (with_meter job n).header
      (record {
        service = i.service;
        tenths = i.tenths;
        sections = i.sections;
        hours = i.hours;
        meter = h;
        guaranteed = i.guaranteed;
        delivered = i.delivered;
        limit = i.limit;
      })

module _ {b e : List ℕ} (same : SameBut meter_place 2 b e) where
  pub metered_flow : house_flow (decode e) ≡ house_flow (decode b)
  metered_flow = rw (meter_changed same) (with_flow (decode b) (be_at 2 e meter_place))

  pub metered_mean : mean_of (decode e) ≡ mean_of (decode b)
  metered_mean = rw (meter_changed same) (with_mean (decode b) (be_at 2 e meter_place))

  -- the head that is read is that of the fields
  head_of : (l : List ℕ) → header_at l ≡ (decode l).header
  unfolding decode
  head_of l = refl

  pub metered_accepted : job_no b ≡ 0 → be_at 2 e meter_place ≤ 1000 → job_no e ≡ 0
  metered_accepted accepted few =
      let n = be_at 2 e meter_place in
      let a : Accepted (decode b) = accept_accepted b accepted in
      let head : header_ok (header_at e) ≡ true = rw (head_of e, meter_changed same) (with_head (decode b) n a.valid.header few) in
      let shape : first_no (shape_checks e) ≡ 0 = shape_kept same (omega arith) (accept_shape b accepted) head in
      let fields : first_no (field_checks (decode e)) ≡ 0 = rw (meter_changed same, with_fields (decode b) n) a.valid.fields in
      let demand : first_no (demand_checks (decode e)) ≡ 0 = rw (meter_changed same, with_demand (decode b) n) a.demand in
      sym (accept_passed e (read_passed e (sym shape) (sym fields)) (sym demand))
