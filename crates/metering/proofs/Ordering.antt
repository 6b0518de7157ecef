-- The numbers of the meter call, each check after those before it.
-- Assumes nothing.
use mathlib.Core.Path.{◌≡◌, ◌∙◌}
use mathlib.Core.Bool.{true, false}
use mathlib.Core.List.{List, [], ◌∷◌}
use Prim.Native.Nat.{ℕ, ◌≤◌, ◌<◌}
use native.Mathlib.Omega.{arith}
use lib.ListN.{length}
use borrow.Author.Tests.{not-false}
use Rattle.answer.proofs.Some.{number_at_exit}
use Rattle.answer.specs.declared.Refusal.{Refusal}
use Rattle.answer.specs.Answer.{refusal_number}
use Rattle.answer.specs.Checks.{first_no}
use Rattle.answer.proofs.First.{first_none, first_found, first_next, short_found, short_next, first_clear, first_split}
use Rattle.record.specs.Record.{decode}
use Rattle.demand.specs.Demand.{mean_of, house_flow}
use Rattle.acceptance.specs.Acceptance.{job_checks, job_no}
use Rattle.acceptance.proofs.Accepting.{job_numbered, job_stops, job_refused, job_passes}
use Rattle.meters.specs.Meters.{meters_ok, none_qualifies}
use Rattle.metering.specs.Calls.{meter_length, meter_no}

-- what holds where the call finds nothing
pub record Clear (b meters : List ℕ) (room : ℕ) : Type 0 where
  pub accepted : job_no b ≡ 0
  pub listed : meters_ok meters ≡ true
  pub some : none_qualifies meters (house_flow (decode b)) (mean_of (decode b)) ≡ false

module _ (b meters : List ℕ) (room : ℕ) where
  pub meter_clear : meter_no b meters room ≡ 0 → Clear b meters room
  unfolding meter_no job_no
  meter_clear e =
      let parts = first_split (job_checks b) _ (job_numbered b) e in
      let list = first_clear _ 17 _ (omega arith) parts.1 in
      let room = first_clear _ 14 _ (omega arith) list.1 in
      let last = first_clear _ 18 _ (omega arith) room.1 in
      record { accepted = parts.0; listed = not-false _ list.0; some = last.0 }

  pub meter_refused : (job_no b ≡ 0 → ⊥) → meter_no b meters room ≡ job_no b
  unfolding meter_no
  meter_refused n = job_stops b _ n

  pub meter_exit : (r : Refusal) → refusal_number r ≡ job_no b → refusal_number r ≡ meter_no b meters room
  unfolding meter_no
  meter_exit r e = job_refused b _ r e

  module _ (accepted : job_no b ≡ 0) where
    pub meter_listed : meters_ok meters ≡ false → meter_no b meters room ≡ 17
    unfolding meter_no
    meter_listed e = job_passes b _ accepted ∙ first_found 17 _ (rw e)

    module _ (listed : meters_ok meters ≡ true) where
      pub meter_short : room < meter_length (length b) → meter_no b meters room ≡ 14
      unfolding meter_no
      meter_short h = job_passes b _ accepted ∙ first_next 17 _ (rw listed) ∙ short_found room (meter_length (length b)) _ h

      module _ (fits : meter_length (length b) ≤ room) where
        last : meter_no b meters room ≡ first_no ((none_qualifies meters (house_flow (decode b)) (mean_of (decode b)), 18) ∷ [])
        unfolding meter_no
        last = job_passes b _ accepted ∙ first_next 17 _ (rw listed) ∙ short_next room (meter_length (length b)) _ fits

        pub meter_none : none_qualifies meters (house_flow (decode b)) (mean_of (decode b)) ≡ true → meter_no b meters room ≡ 18
        meter_none e = last ∙ first_found 18 [] e

        pub meter_done : none_qualifies meters (house_flow (decode b)) (mean_of (decode b)) ≡ false → meter_no b meters room ≡ 0
        meter_done e = last ∙ first_next 18 [] e ∙ first_none

-- the refusals before a meter is looked for, in turn
pub ruleset refusals = (number_at_exit, meter_exit, meter_listed, meter_short)
