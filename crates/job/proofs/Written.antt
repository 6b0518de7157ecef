-- A buffer that a job was written into: the record at its front, and what reading it gives.
-- Assumes nothing.
use mathlib.Core.Path.{◌≡◌, sym, ap, ◌∙◌}
use mathlib.Core.List.{List}
use Prim.{tt}
use Prim.Native.Nat.{ℕ, ◌≤◌}
use native.Mathlib.Omega.{arith}
use lib.ListN.{length, take}
use lib.Seq.{take_at}
use borrow.Author.Tests.{eq-eqb, ne_eqb}
use Rattle.std.specs.Prelude.{Result, Ok, Err, IfOk, IsErrAnd}
use Rattle.basis.specs.Stored.{stored}
use Rattle.basis.proofs.Stored.{stored_front, stored_length}
use Rattle.answer.specs.declared.Refusal.{Refusal}
use Rattle.answer.specs.Answer.{refusal_number, number_of}
use Rattle.answer.specs.Checks.{buffer_after}
use Rattle.answer.proofs.Some.{refusal_some}
use Rattle.fields.specs.declared.Job.{Job}
use Rattle.fields.specs.Fields.{blank_job, version_of, count_of}
use Rattle.record.specs.Record.{length_of, decode, encode, kept}
use Rattle.record.proofs.Lengths.{encode_length}
use Rattle.job.specs.Calls.{read_no, read_job, write_no, job_in, WrittenRead}
use Rattle.job.proofs.Decided.{read_accepted, writable}
use Rattle.job.proofs.RoundTrip.{SixteenBits, accepted_again, same_fields}

-- the fields that a reading gives are those that the reader's promise has
pub job_read : (r : Result Job Refusal) (b : List ℕ) → number_of r ≡ read_no b → IfOk r (λ job. job ≡ decode b) → job_in r ≡ read_job b
unfolding read_job
job_read (Ok job) b number fields = fields ∙ sym (read_accepted b (sym number))
job_read (Err refusal) b number fields =
    sym (rw (← number, ne_eqb (refusal_number refusal) 0 (λ none. omega (arith, refusal_some refusal))))

-- also where a `?` ends the reading
pub fields_at_exit : (r : Result Job Refusal) (refusal : Refusal) (b : List ℕ) → IsErrAnd r (λ e. e ≡ refusal) → refusal_number refusal ≡ read_no b →
    job_in r ≡ read_job b
fields_at_exit (Ok job) refusal b err number = absurd err
fields_at_exit (Err other) refusal b err number = job_read (Err other) b (ap refusal_number err ∙ number) tt

-- what the writer gives: a number, and the buffer after it
module _ (job : Job) (out₀ : List ℕ) {out : List ℕ} {n : ℕ} (number : n ≡ write_no job (length out₀))
    (buffer : out ≡ buffer_after n (encode job) out₀) where
  pub refused_again : (n ≡ 0 → ⊥) → WrittenRead job out₀ out n blank_job
  refused_again h = record { number = number; buffer = buffer; read = λ e. absurd (h e); fields = sym (rw (ne_eqb n 0 h)) }

  module _ (taken : n ≡ 0) where
    done : write_no job (length out₀) ≡ 0
    done = sym number ∙ taken

    whole : out ≡ stored out₀ 0 (encode job)
    whole = buffer ∙ rw (eq-eqb n 0 taken)

    pub long : length_of (version_of job) (count_of job) ≤ length out
    long =
        let room : length_of (version_of job) (count_of job) ≤ length out₀ = (writable job (length out₀) done).fits in
        rw (whole, stored_length out₀ 0 (encode job) (rw (encode_length job) (omega (arith, room)))) room

    front : take (length_of (version_of job) (count_of job)) out ≡ encode job
    front = rw (whole, stored_front out₀ (encode job)) (take_at (encode job) _ (length_of (version_of job) (count_of job)) (encode_length job))

    -- the record at the front, read
    pub read_again : {m : ℕ} {again : Job} → SixteenBits job → m ≡ read_no (take (length_of (version_of job) (count_of job)) out) →
        again ≡ read_job (take (length_of (version_of job) (count_of job)) out) → WrittenRead job out₀ out m again
    read_again {m} {again} held a b =
        let none : m ≡ 0 = a ∙ rw front (accepted_again job (length out₀) done held) in
        let fields : again ≡ kept job = b ∙ rw front (same_fields job (length out₀) done held) in
        record { number = none ∙ sym done; buffer = rw (eq-eqb m 0 none) whole; read = λ e. b; fields = rw (eq-eqb m 0 none) fields }
