-- The meter call's promise, read back from the bytes of its result.
-- Assumes nothing.
use mathlib.Core.Path.{◌≡◌, sym, ◌∙◌}
use mathlib.Core.Bool.{true, false}
use mathlib.Core.Logic.{◌⊎◌, inl, inr, ⊎_elim}
use mathlib.Core.List.{List, [], ◌∷◌, ◌++◌}
use Prim.Native.Nat.{ℕ, ◌≤◌, ◌<◌}
use native.Mathlib.Omega.{arith}
use lib.ListN.{length, drop}
use Rattle.std.proofs.lemmas.Bool.{cases_Bool, cases_lt}
use Rattle.basis.proofs.Bools.{apart}
use Rattle.basis.proofs.Part.{part_front, part_right}
use Rattle.basis.proofs.Stored.{stored_front}
use Rattle.wire.specs.Wire.{be_at}
use Rattle.fields.specs.declared.Job.{Job}
use Rattle.record.specs.Record.{decode}
use Rattle.record.specs.Edited.{meter_place, SameBut, with_meter}
use Rattle.record.proofs.Edited.{edited_same, edited_field, edited_over, meter_changed}
use Rattle.demand.specs.Demand.{house_flow, mean_of}
use Rattle.acceptance.specs.Acceptance.{job_no}
use Rattle.acceptance.proofs.Accepting.{accept_long, job_passes}
use Rattle.acceptance.proofs.Metered.{metered_flow, metered_mean, metered_accepted}
use Rattle.catalogue.specs.Rules.{cat_no}
use Rattle.choosing.specs.Calls.{Ample, Chosen}
use Rattle.meters.specs.Meters.{meter_at, meters_ok, none_qualifies}
use Rattle.meters.proofs.Qualifying.{loss_top}
use Rattle.meters.proofs.Least.{none_fits, winner_first, winner_bound}
use Rattle.metering.specs.Calls.{place_for, loss_for, metered_record, meter_bytes, meter_length, meter_no}
use Rattle.metering.proofs.Ordering.{Clear, meter_clear, meter_none, meter_done}
use Rattle.order.specs.Promises.{MeterGiven}
use Rattle.demands.specs.Demand3.{SixteenOrList}
use Rattle.demands.specs.Metering.{meter_loss_at, Wins, place_in, record_in, with_place, Metered, EighteenOrMeter, Metering}
use Rattle.demands.proofs.Demand3.{demand_3}

-- the winner of the definition
wins_of : (job : Job) (meters : List ℕ) → none_qualifies meters (house_flow job) (mean_of job) ≡ false → Wins job meters (place_for job meters)
wins_of job meters some =
    let q = house_flow job in
    let mean = mean_of job in
    let first = winner_first meters q mean some in
    let t = place_for job meters in
    record {
      qualified = record { low = first.low; high = first.high; by = first.fit };
      least = λ u f.
          ⊎_elim
          (λ (under : u < t). inl (first.lower u f.low under f.by))
          (λ (over : t ≤ u).
          ⊎_elim
          (λ (less : meter_loss_at job meters t < meter_loss_at job meters u). inl less)
          (λ (ge : meter_loss_at job meters u ≤ meter_loss_at job meters t). let le = winner_bound meters q mean some u f.low f.high f.by in inr (omega arith, over))
          (cases_lt (meter_loss_at job meters t) (meter_loss_at job meters u)))
          (cases_lt u t);
    }

-- a result
module _ (job meters out₀ out : List ℕ) (g : MeterGiven job meters out₀ out 0) where
  clear : Clear job meters (length out₀)
  clear = meter_clear job meters (length out₀) (sym g.number)

  long : 40 ≤ length job
  long = accept_long job clear.accepted

  written : SameBut meter_place 2 job (metered_record job meters)
  unfolding metered_record
  written = edited_same 2 job meter_place (loss_for (decode job) meters) (omega (arith, long))

  result : out ≡ place_for (decode job) meters ∷ (metered_record job meters ++ drop (length (meter_bytes job meters)) out₀)
  unfolding meter_bytes
  result = g.buffer ∙ stored_front out₀ (meter_bytes job meters)

  place_is : place_in out ≡ place_for (decode job) meters
  place_is = rw result

  record_is : record_in job out ≡ metered_record job meters
  record_is =
      rw result
      (part_right (place_for (decode job) meters ∷ []) (metered_record job meters ++ _) 0 (length job) ∙
      part_front (metered_record job meters) _ (length job) written.long)

  small : loss_for (decode job) meters ≤ 500
  small = loss_top (meter_at meters (place_for (decode job) meters)) _ _ (winner_first meters _ _ clear.some).fit

  loss_is : be_at 2 (metered_record job meters) meter_place ≡ loss_for (decode job) meters
  unfolding metered_record
  loss_is = edited_field 2 job meter_place (loss_for (decode job) meters) (omega (arith, long)) (omega (arith, small))

  metered_of : Metered job meters out
  metered_of =
      record {
        wins = rw place_is (wins_of (decode job) meters clear.some);
        loss = rw (record_is, place_is) loss_is;
        bytes = rw record_is written;
        fields = rw (record_is, place_is) (meter_changed written ∙ rw loss_is);
        accepted = rw record_is (metered_accepted written clear.accepted (rw loss_is (omega (arith, small))));
      }

  -- S and H are old fields, so the space for the old job is enough for the new one
  ample : {list work : List ℕ} → Ample job list work → Ample (record_in job out) list work
  unfolding with_meter
  ample a = record { result = rw metered_of.fields a.result; space = rw metered_of.fields a.space }

  chosen_of : {cat list₀ work₀ list work : List ℕ} {n : ℕ} → cat_no cat ≡ 0 → Ample job list₀ work₀ → Chosen (record_in job out) cat list₀ work₀ list work n →
      SixteenOrList (with_place job meters out) cat list n
  chosen_of {cat} {list₀} {work₀} {list} {work} {n} listed a c =
      rw metered_of.fields at
      (demand_3.sixteen (record_in job out) cat list₀ work₀ list work n metered_of.accepted listed (ample a) c)

-- 18, or a result
module _ (job meters out₀ out : List ℕ) (n : ℕ) (accepted : job_no job ≡ 0) (listed : meters_ok meters ≡ true)
    (room : meter_length (length job) ≤ length out₀) (g : MeterGiven job meters out₀ out n) where
  eighteen_of : EighteenOrMeter job meters out n
  eighteen_of =
      ⊎_elim
      (λ (e : none_qualifies meters (house_flow (decode job)) (mean_of (decode job)) ≡ true).
      let no = g.number ∙ meter_none job meters (length out₀) accepted listed room e in
      record {
        none = λ z t f. apart f.by (none_fits meters _ _ e t f.low f.high);
        only = λ z. no;
        otherwise = λ other. absurd (other no);
      })
      (λ (e : none_qualifies meters (house_flow (decode job)) (mean_of (decode job)) ≡ false).
      let no = g.number ∙ meter_done job meters (length out₀) accepted listed room e in
      record {
        none = λ z t f. omega arith;
        only = λ z. absurd (z _ (wins_of (decode job) meters e).qualified);
        otherwise = λ other. (no, metered_of job meters out₀ out (rw no at g));
      })
      (cases_Bool (none_qualifies meters (house_flow (decode job)) (mean_of (decode job))))

-- the meter loss that a job has plays no part
module _ (job other meters : List ℕ) (same : SameBut meter_place 2 job other) (accepted : job_no job ≡ 0) where
  same_no : job_no other ≡ 0 → (room : ℕ) → meter_no other meters room ≡ meter_no job meters room
  unfolding meter_no
  same_no accepted' room = job_passes other _ accepted' ∙ rw (same.long, metered_flow same, metered_mean same) (sym (job_passes job _ accepted))

  same_result : meter_bytes other meters ≡ meter_bytes job meters
  unfolding meter_bytes metered_record
  same_result = rw (metered_flow same, metered_mean same, edited_over same _ (omega (arith, accept_long job accepted)))

pub metering : Metering
metering =
    record {
      metered = λ job meters out₀ out g. let clear = meter_clear job meters (length out₀) (sym g.number) in (clear.accepted, clear.listed, metered_of job meters out₀ out g);
      eighteen = λ job meters out₀ out n accepted listed room g. eighteen_of job meters out₀ out n accepted listed room g;
      chosen = λ job meters out₀ out cat list₀ work₀ list work n g listed a c. chosen_of job meters out₀ out g listed a c;
      in_range = λ job other same accepted few. metered_accepted same accepted few;
      own_loss = λ job other meters out₀ out out' n n' same accepted accepted' g g'.
          let no = g'.number ∙ same_no job other meters same accepted accepted' (length out₀) ∙ sym g.number in
          (no, g'.buffer ∙ rw (no, same_result job other meters same accepted) (sym g.buffer));
    }
