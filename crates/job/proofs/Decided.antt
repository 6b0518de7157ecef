-- The numbers of reading, writing and copying, part by part of their lists of checks.
-- Assumes nothing.
use mathlib.Core.Path.{◌≡◌, sym, ◌∙◌}
use mathlib.Core.Bool.{true}
use mathlib.Core.List.{List, [], ◌∷◌, ◌++◌}
use Prim.{tt}
use Prim.Native.Nat.{ℕ, ◌≤◌, ◌<◌}
use native.Mathlib.Omega.{arith}
use lib.ListN.{length}
use lib.Dec.{ltb}
use borrow.Author.Tests.{eq-eqb, ltb-false}
use Rattle.answer.specs.declared.Refusal.{Refusal}
use Rattle.answer.specs.Answer.{refusal_number}
use Rattle.answer.specs.Checks.{first_no, too_short}
use Rattle.answer.proofs.First.{Numbered, first_none, short_found, short_next, first_clear, first_after, first_before, first_split, numbered_append}
use Rattle.answer.proofs.Some.{first_refused, first_passed, number_at_exit}
use Rattle.fields.specs.declared.Header.{Header}
use Rattle.fields.specs.declared.Job.{Job}
use Rattle.fields.specs.Fields.{version_of, count_of}
use Rattle.rules.specs.Rules.{version_ok, header_ok, field_checks}
use Rattle.record.specs.Record.{length_of, decode}
use Rattle.rules.proofs.HeaderBounds.{header_in}
use Rattle.job.proofs.Shape.{header_checks, header_numbered, header_clear, headed, shaped, few}
use Rattle.job.specs.Calls.{shape_checks, read_checks, read_no, read_job, write_checks, write_no, copy_checks, copy_no}

shape_numbered : (b : List ℕ) → Numbered (shape_checks b)
unfolding shape_checks
shape_numbered b = (omega arith, (omega arith, (omega arith, (omega arith, tt))))

fields_numbered : (job : Job) → Numbered (field_checks job)
unfolding field_checks
fields_numbered job = (omega arith, (omega arith, (omega arith, tt)))

-- reading: the number of 1 to 4, else that of 5 to 7
module _ (b : List ℕ) where
  pub read_refused : (r : Refusal) → refusal_number r ≡ first_no (shape_checks b) → refusal_number r ≡ read_no b
  unfolding read_no read_checks
  read_refused r e = first_refused (shape_checks b) (field_checks (decode b)) (shape_numbered b) r e

  pub read_passed : {n : ℕ} → 0 ≡ first_no (shape_checks b) → n ≡ first_no (field_checks (decode b)) → n ≡ read_no b
  unfolding read_no read_checks
  read_passed none e = first_passed (shape_checks b) (field_checks (decode b)) (shape_numbered b) none e

  pub read_accepted : read_no b ≡ 0 → read_job b ≡ decode b
  unfolding read_job
  read_accepted e = rw (eq-eqb (read_no b) 0 e)

-- what holds where the reader finds nothing
pub record Readable (b : List ℕ) : Type 0 where
  pub shape : first_no (shape_checks b) ≡ 0
  pub fields : first_no (field_checks (decode b)) ≡ 0

pub readable : (b : List ℕ) → read_no b ≡ 0 → Readable b
unfolding read_no read_checks
readable b e =
    let parts = first_split (shape_checks b) (field_checks (decode b)) (shape_numbered b) e in
    record { shape = parts.0; fields = parts.1 }

pub read_numbered : (b : List ℕ) → Numbered (read_checks b)
unfolding read_checks
read_numbered b = numbered_append (shape_checks b) (field_checks (decode b)) (shape_numbered b) (fields_numbered (decode b))

-- copying: the reader's number where it finds something, else 14
module _ (b : List ℕ) (room : ℕ) where
  pub copy_refused : (read_no b ≡ 0 → ⊥) → copy_no b room ≡ read_no b
  unfolding copy_no copy_checks read_no
  copy_refused n = first_before (read_checks b) ((too_short room (length b), 14) ∷ []) (read_numbered b) n

  pub copy_exit : (r : Refusal) → refusal_number r ≡ read_no b → refusal_number r ≡ copy_no b room
  unfolding copy_no copy_checks read_no
  copy_exit r e = first_refused (read_checks b) ((too_short room (length b), 14) ∷ []) (read_numbered b) r e

  pub copy_room : read_no b ≡ 0 → copy_no b room ≡ first_no ((too_short room (length b), 14) ∷ [])
  unfolding copy_no copy_checks read_no
  copy_room e = first_after (read_checks b) ((too_short room (length b), 14) ∷ []) (read_numbered b) e

-- writing: 2, else 3, else 5 to 7, else 14
module _ (job : Job) (room : ℕ) where
  pub write_header : (r : Refusal) → refusal_number r ≡ first_no (header_checks job.header) → refusal_number r ≡ write_no job room
  unfolding write_no write_checks
  write_header r e = first_refused (header_checks job.header) _ (header_numbered job.header) r e

  module _ (clear : first_no (header_checks job.header) ≡ 0) where
    write_rest : write_no job room ≡ first_no (field_checks job ++ ((too_short room (length_of (version_of job) (count_of job)), 14) ∷ []))
    unfolding write_no write_checks
    write_rest = first_after (header_checks job.header) _ (header_numbered job.header) clear

    pub fields_exit : (r : Refusal) → refusal_number r ≡ first_no (field_checks job) → refusal_number r ≡ write_no job room
    fields_exit r e = first_refused (field_checks job) _ (fields_numbered job) r e ∙ sym write_rest

    module _ (fields : first_no (field_checks job) ≡ 0) where
      pub write_room : write_no job room ≡ first_no ((too_short room (length_of (version_of job) (count_of job)), 14) ∷ [])
      write_room = write_rest ∙ first_after (field_checks job) _ (fields_numbered job) fields

      pub write_short : room < length_of (version_of job) (count_of job) → write_no job room ≡ 14
      write_short h = write_room ∙ short_found room (length_of (version_of job) (count_of job)) [] h

      pub write_done : length_of (version_of job) (count_of job) ≤ room → write_no job room ≡ 0
      write_done h = write_room ∙ short_next room (length_of (version_of job) (count_of job)) [] h ∙ first_none

  -- neither 2 nor 3
  module _ (version : version_ok job.header ≡ true) (head : header_ok job.header ≡ true) where
    pub write_fields : (first_no (field_checks job) ≡ 0 → ⊥) → write_no job room ≡ first_no (field_checks job)
    write_fields n = write_rest (header_clear job.header version head) ∙ first_before (field_checks job) _ (fields_numbered job) n

-- what holds where the writer finds nothing
pub record Writable (job : Job) (room : ℕ) : Type 0 where
  pub version : version_ok job.header ≡ true
  pub header : header_ok job.header ≡ true
  pub fields : first_no (field_checks job) ≡ 0
  pub fits : length_of (version_of job) (count_of job) ≤ room

pub writable : (job : Job) (room : ℕ) → write_no job room ≡ 0 → Writable job room
unfolding write_no write_checks
writable job room e =
    let parts = first_split (header_checks job.header) _ (header_numbered job.header) e in
    let head = headed job.header parts.0 in
    let rest = first_split (field_checks job) _ (fields_numbered job) parts.1 in
    let last = first_clear (ltb room (length_of (version_of job) (count_of job))) 14 [] (omega arith) rest.1 in
    record {
      version = head.version;
      header = head.range;
      fields = rest.0;
      fits = ltb-false room (length_of (version_of job) (count_of job)) last.0;
    }

-- a header that 2 and 3 let pass has at most 63 sections
pub few_head : (h : Header) → first_no (header_checks h) ≡ 0 → h.sections ≤ 63
few_head h e = (header_in h (headed h e).range).sections.high

-- the outcomes of reading and of writing, in turn
pub ruleset outcomes_read = (number_at_exit, read_refused, read_passed, shaped, few)

pub ruleset outcomes_written = (number_at_exit, few_head, write_header, fields_exit, write_short, write_done)
