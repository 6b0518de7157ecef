-- The numbers of the heat call, each check after those before it.
-- Assumes nothing.
use mathlib.Core.Path.{◌≡◌, ◌∙◌}
use mathlib.Core.Bool.{true, false}
use mathlib.Core.List.{List, []}
use Prim.Native.Nat.{ℕ, ◌≤◌, ◌<◌}
use native.Mathlib.Omega.{arith}
use lib.Dec.{leb}
use borrow.Author.Tests.{leb-true, le-leb, eqb-true, eq-eqb, ne_eqb, not-false, ltb-false}
use Rattle.basis.proofs.Bools.{left, right}
use Rattle.answer.proofs.Some.{number_at_exit}
use Rattle.answer.proofs.First.{first_none, first_found, first_next, short_found, short_next, first_clear, first_split}
use Rattle.fields.specs.Fields.{service_of}
use Rattle.record.specs.Record.{decode}
use Rattle.acceptance.specs.Acceptance.{job_checks, job_no}
use Rattle.acceptance.proofs.Accepting.{job_numbered, job_stops, job_refused, job_passes}
use Rattle.heating.specs.Heat.{hot_job, heat_ok}
use Rattle.heating.specs.Calls.{heat_no}

-- temperature and loss that 21 lets pass
pub record HeatIn (t loss : ℕ) : Type 0 where
  pub cold : t ≤ 30
  pub lost : loss ≤ 1000000

heat_in : (t loss : ℕ) → heat_ok t loss ≡ true → HeatIn t loss
unfolding heat_ok
heat_in t loss e =
    record { cold = leb-true t 30 (left (leb t 30) (leb loss 1000000) e); lost = leb-true loss 1000000 (right (leb t 30) (leb loss 1000000) e) }

pub in_heat : (t loss : ℕ) → HeatIn t loss → heat_ok t loss ≡ true
unfolding heat_ok
in_heat t loss h = rw (le-leb t 30 h.cold, le-leb loss 1000000 h.lost)

-- what holds where the call finds nothing
pub record Clear (b : List ℕ) (t loss room : ℕ) : Type 0 where
  pub accepted : job_no b ≡ 0
  pub hot : service_of (decode b) ≡ 2
  pub inside : HeatIn t loss
  pub fits : 8 ≤ room

module _ (b : List ℕ) (t loss room : ℕ) where
  pub heat_clear : heat_no b t loss room ≡ 0 → Clear b t loss room
  unfolding heat_no job_no hot_job
  heat_clear e =
      let parts = first_split (job_checks b) _ (job_numbered b) e in
      let hot = first_clear _ 20 _ (omega arith) parts.1 in
      let ranges = first_clear _ 21 _ (omega arith) hot.1 in
      let last = first_clear _ 14 _ (omega arith) ranges.1 in
      record {
        accepted = parts.0;
        hot = eqb-true _ 2 (not-false _ hot.0);
        inside = heat_in t loss (not-false _ ranges.0);
        fits = ltb-false room 8 last.0;
      }

  pub heat_refused : (job_no b ≡ 0 → ⊥) → heat_no b t loss room ≡ job_no b
  unfolding heat_no
  heat_refused n = job_stops b _ n

  module _ (accepted : job_no b ≡ 0) where
    pub heat_other : (service_of (decode b) ≡ 2 → ⊥) → heat_no b t loss room ≡ 20
    unfolding heat_no hot_job
    heat_other n = job_passes b _ accepted ∙ first_found 20 _ (rw (ne_eqb (service_of (decode b)) 2 n))

    module _ (hot : service_of (decode b) ≡ 2) where
      pub heat_range : heat_ok t loss ≡ false → heat_no b t loss room ≡ 21
      unfolding heat_no hot_job
      heat_range e = job_passes b _ accepted ∙ first_next 20 _ (rw (eq-eqb (service_of (decode b)) 2 hot)) ∙ first_found 21 _ (rw e)

      module _ (inside : heat_ok t loss ≡ true) where
        pub heat_short : room < 8 → heat_no b t loss room ≡ 14
        unfolding heat_no hot_job
        heat_short h =
            job_passes b _ accepted ∙ first_next 20 _ (rw (eq-eqb (service_of (decode b)) 2 hot)) ∙ first_next 21 _ (rw inside) ∙ short_found room 8 [] h

        pub heat_done : 8 ≤ room → heat_no b t loss room ≡ 0
        unfolding heat_no hot_job
        heat_done h =
            job_passes b _ accepted ∙
            first_next 20 _ (rw (eq-eqb (service_of (decode b)) 2 hot)) ∙
            first_next 21 _ (rw inside) ∙
            short_next room 8 [] h ∙
            first_none

-- the outcomes in turn
pub ruleset outcomes = (number_at_exit, job_refused, heat_other, heat_range, heat_short, heat_done)
