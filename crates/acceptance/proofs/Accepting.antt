-- What acceptance finds, part by part of its lists of checks, and what an accepted job and an accepted catalogue are.
-- Assumes nothing.
use mathlib.Core.Path.{◌≡◌}
use mathlib.Core.Bool.{Bool}
use mathlib.Core.List.{List, ◌++◌}
use Prim.{tt}
use Prim.Native.Nat.{ℕ, ◌≤◌}
use lib.ListN.{length}
use native.Mathlib.Omega.{arith}
use Rattle.answer.specs.declared.Refusal.{Refusal}
use Rattle.answer.specs.Answer.{refusal_number}
use Rattle.answer.specs.Checks.{first_no}
use Rattle.answer.proofs.First.{Numbered, numbered_append, first_after, first_before, first_split}
use Rattle.answer.proofs.Some.{first_refused, first_passed}
use Rattle.fields.specs.declared.Job.{Job}
use Rattle.record.specs.Record.{decode}
use Rattle.job.specs.Calls.{shape_checks, read_checks, read_no}
use Rattle.job.proofs.Shape.{shaped}
use Rattle.job.proofs.Decided.{readable, read_numbered}
use Rattle.job.proofs.RoundTrip.{read_header}
use Rattle.demand.specs.Demand.{demand_checks, Valid, Accepted}
use Rattle.catalogue.specs.Rules.{cat_checks, cat_no}
use Rattle.catalogue.specs.Steps.{AcceptedCat}
use Rattle.catalogue.proofs.AcceptedCat.{cat_numbered, cat_of}
use Rattle.acceptance.specs.Acceptance.{job_checks, job_no, input_checks, input_no}

demand_numbered : (job : Job) → Numbered (demand_checks job)
unfolding demand_checks
demand_numbered job = (omega arith, (omega arith, tt))

module _ (b : List ℕ) where
  pub job_numbered : Numbered (job_checks b)
  unfolding job_checks
  job_numbered = numbered_append (read_checks b) (demand_checks (decode b)) (read_numbered b) (demand_numbered (decode b))

  -- the reader's number where it finds something, else that of 8 and 9
  pub accept_refused : (r : Refusal) → refusal_number r ≡ read_no b → refusal_number r ≡ job_no b
  unfolding job_no job_checks read_no
  accept_refused r e = first_refused (read_checks b) (demand_checks (decode b)) (read_numbered b) r e

  pub accept_passed : {n : ℕ} → 0 ≡ read_no b → n ≡ first_no (demand_checks (decode b)) → n ≡ job_no b
  unfolding job_no job_checks read_no
  accept_passed none e = first_passed (read_checks b) (demand_checks (decode b)) (read_numbered b) none e

  -- a record that the reader accepts keeps its rules, and one that is accepted its bounds
  pub read_valid : read_no b ≡ 0 → Valid (decode b)
  read_valid e = record { header = read_header b e; fields = (readable b e).fields }

  accept_parts : job_no b ≡ 0 → (read_no b ≡ 0) × (first_no (demand_checks (decode b)) ≡ 0)
  unfolding job_no job_checks read_no
  accept_parts e = first_split (read_checks b) (demand_checks (decode b)) (read_numbered b) e

  pub accept_accepted : job_no b ≡ 0 → Accepted (decode b)
  accept_accepted e = let parts = accept_parts e in record { valid = read_valid parts.0; demand = parts.1 }

  -- it has all bytes of the head
  pub accept_shape : job_no b ≡ 0 → first_no (shape_checks b) ≡ 0
  accept_shape e = (readable b (accept_parts e).0).shape

  pub accept_long : job_no b ≡ 0 → 40 ≤ length b
  accept_long e = (shaped b (accept_shape e)).long

  -- a call that takes a job goes on with the rest of its checks where the job is accepted
  module _ (rest : List (Bool × ℕ)) where
    pub job_stops : (job_no b ≡ 0 → ⊥) → first_no (job_checks b ++ rest) ≡ job_no b
    unfolding job_no
    job_stops n = first_before (job_checks b) rest job_numbered n

    pub job_refused : (r : Refusal) → refusal_number r ≡ job_no b → refusal_number r ≡ first_no (job_checks b ++ rest)
    unfolding job_no
    job_refused r e = first_refused (job_checks b) rest job_numbered r e

    pub job_passes : job_no b ≡ 0 → first_no (job_checks b ++ rest) ≡ first_no rest
    unfolding job_no
    job_passes e = first_after (job_checks b) rest job_numbered e

module _ (b cat : List ℕ) where
  pub input_numbered : Numbered (input_checks b cat)
  unfolding input_checks
  input_numbered = numbered_append (job_checks b) (cat_checks cat) (job_numbered b) (cat_numbered cat)

  -- the job's number where it has one, else the catalogue's
  pub input_refused : (r : Refusal) → refusal_number r ≡ job_no b → refusal_number r ≡ input_no b cat
  unfolding input_no input_checks job_no
  input_refused r e = first_refused (job_checks b) (cat_checks cat) (job_numbered b) r e

  pub input_passed : {n : ℕ} → 0 ≡ job_no b → n ≡ cat_no cat → n ≡ input_no b cat
  unfolding input_no input_checks job_no cat_no
  input_passed none e = first_passed (job_checks b) (cat_checks cat) (job_numbered b) none e

  module _ (none : input_no b cat ≡ 0) where
    pub input_both : (job_no b ≡ 0) × (cat_no cat ≡ 0)
    unfolding input_no input_checks job_no cat_no
    input_both = first_split (job_checks b) (cat_checks cat) (job_numbered b) none

    pub input_accepted : Accepted (decode b)
    input_accepted = accept_accepted b input_both.0

    pub input_listed : AcceptedCat cat
    input_listed = cat_of cat input_both.1

  module _ (rest : List (Bool × ℕ)) where
    pub input_stops : (input_no b cat ≡ 0 → ⊥) → first_no (input_checks b cat ++ rest) ≡ input_no b cat
    unfolding input_no
    input_stops n = first_before (input_checks b cat) rest input_numbered n

    pub input_exit : (r : Refusal) → refusal_number r ≡ input_no b cat → refusal_number r ≡ first_no (input_checks b cat ++ rest)
    unfolding input_no
    input_exit r e = first_refused (input_checks b cat) rest input_numbered r e

    pub input_passes : input_no b cat ≡ 0 → first_no (input_checks b cat ++ rest) ≡ first_no rest
    unfolding input_no
    input_passes e = first_after (input_checks b cat) rest input_numbered e
