-- The number of the heads call, each check after those before it.
-- Assumes nothing.
use mathlib.Core.Path.{◌≡◌, ◌∙◌}
use mathlib.Core.Bool.{true, false}
use mathlib.Core.List.{List, []}
use Prim.Native.Nat.{ℕ, ◌≤◌, ◌<◌}
use native.Mathlib.Omega.{arith}
use borrow.Author.Tests.{not-false}
use Rattle.answer.specs.Answer.{refusal_number}
use Rattle.answer.specs.declared.Refusal.{Refusal}
use Rattle.answer.proofs.First.{first_none, first_found, first_next, short_found, short_next, first_clear, first_split}
use Rattle.fields.specs.Fields.{count_of}
use Rattle.record.specs.Record.{decode}
use Rattle.acceptance.specs.Acceptance.{job_checks, job_no}
use Rattle.acceptance.proofs.Accepting.{job_numbered, job_stops, job_refused, job_passes}
use Rattle.rated_bytes.specs.RatedBytes.{heads_length}
use Rattle.lent_losses.specs.LentLosses.{losses_ok}
use Rattle.lent_losses.specs.Calls.{heads_no}

-- what holds where the call finds nothing
pub record Clear (b losses : List ℕ) : Type 0 where
  pub accepted : job_no b ≡ 0
  pub listed : losses_ok (count_of (decode b)) losses ≡ true

module _ (b losses : List ℕ) (room : ℕ) where
  pub heads_clear : heads_no b losses room ≡ 0 → Clear b losses
  unfolding heads_no job_no
  heads_clear e =
      let parts = first_split (job_checks b) _ (job_numbered b) e in
      record { accepted = parts.0; listed = not-false _ (first_clear _ 19 _ (omega arith) parts.1).0 }

  pub heads_refused : (job_no b ≡ 0 → ⊥) → heads_no b losses room ≡ job_no b
  unfolding heads_no
  heads_refused n = job_stops b _ n

  pub heads_exit : (r : Refusal) → refusal_number r ≡ job_no b → refusal_number r ≡ heads_no b losses room
  unfolding heads_no
  heads_exit r e = job_refused b _ r e

  module _ (accepted : job_no b ≡ 0) where
    pub heads_listed : losses_ok (count_of (decode b)) losses ≡ false → heads_no b losses room ≡ 19
    unfolding heads_no
    heads_listed e = job_passes b _ accepted ∙ first_found 19 _ (rw e)

    module _ (listed : losses_ok (count_of (decode b)) losses ≡ true) where
      pub heads_short : room < heads_length → heads_no b losses room ≡ 14
      unfolding heads_no
      heads_short h = job_passes b _ accepted ∙ first_next 19 _ (rw listed) ∙ short_found room heads_length [] h

      pub heads_done : heads_length ≤ room → heads_no b losses room ≡ 0
      unfolding heads_no
      heads_done h = job_passes b _ accepted ∙ first_next 19 _ (rw listed) ∙ short_next room heads_length [] h ∙ first_none
