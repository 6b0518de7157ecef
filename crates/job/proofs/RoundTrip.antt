-- Written and read again, a job has the same fields; read and written, an accepted record has the same bytes; and the writer does not refuse it.
-- Assumes nothing.
use mathlib.Core.Path.{◌≡◌, refl, sym, ap, ◌∙◌}
use mathlib.Core.Bool.{true}
use mathlib.Core.List.{List, [], ◌∷◌, append_assoc}
use Prim.Native.Nat.{ℕ, ◌+◌, ◌≤◌, ◌<◌}
use native.Mathlib.Omega.{arith}
use lib.ListN.{length, get_or}
use borrow.Author.Tests.{eq-eqb}
use Rattle.basis.proofs.Slots.{slots_in}
use Rattle.answer.specs.Checks.{first_no, too_short}
use Rattle.answer.proofs.First.{first_none, short_next}
use Rattle.wire.specs.Wire.{byte_at, be_at, bytes_of}
use Rattle.wire.proofs.Fields.{be_bytes}
use Rattle.fields.specs.declared.Job.{Job}
use Rattle.fields.specs.Fields.{blank_section, version_of, count_of, section_of}
use Rattle.rules.specs.Rules.{version_ok, header_ok, field_checks}
use Rattle.rules.proofs.HeaderBounds.{version_in, HeaderIn, header_in}
use Rattle.rules.proofs.SectionBounds.{SectionIn}
use Rattle.rules.proofs.Elevation.{elevation_small}
use Rattle.rules.proofs.Kept.{sections_in, kept_of}
use Rattle.rules.proofs.Same.{checks_same}
use Rattle.record.specs.Record.{length_of, version_at, header_at, header_bytes, decode, encode, kept, SectionFits, JobFits}
use Rattle.record.proofs.Lengths.{from_in, encode_length}
use Rattle.record.proofs.RoundTrip.{encode_decode, decode_encode}
use Rattle.job.specs.Calls.{read_no, read_job, write_no, copy_no, WrittenRead, SameFields}
use Rattle.job.proofs.Shape.{header_clear, Shaped, shaped, few, well_formed}
use Rattle.job.proofs.Decided.{readable, read_passed, read_accepted, Writable, writable, write_room, copy_room}

-- an accepted record, read and written
module _ (b : List ℕ) (accepted : read_no b ≡ 0) where
  read_shaped : Shaped b
  read_shaped = shaped b (readable b accepted).shape

  pub read_version : version_ok (decode b).header ≡ true
  unfolding decode
  read_version = read_shaped.version

  pub read_header : header_ok (decode b).header ≡ true
  unfolding decode
  read_header = read_shaped.header

  read_length : length_of (version_of (decode b)) (count_of (decode b)) ≡ length b
  unfolding decode header_at
  read_length = sym read_shaped.whole

  fields_read : read_job b ≡ decode b
  fields_read = read_accepted b accepted

  -- it has the same bytes
  pub same_bytes : ((k : ℕ) → byte_at b k < 256) → encode (read_job b) ≡ b
  same_bytes byte =
      let s : Shaped b = read_shaped in rw fields_read (encode_decode b byte (few s) s.stated s.whole)

  -- the writer gives 14 or nothing, as the room is
  pub rewritten : (room : ℕ) → write_no (read_job b) room ≡ first_no ((too_short room (length b), 14) ∷ [])
  rewritten room =
      let clear = header_clear (decode b).header read_version read_header in
      rw fields_read (write_room (decode b) room clear (readable b accepted).fields ∙ rw read_length)

  -- and copying gives what the writer gives
  pub copied : (room : ℕ) → copy_no b room ≡ write_no (read_job b) room
  copied room = copy_room b room accepted ∙ sym (rewritten room)

  -- with enough room it is not refused
  pub not_refused : (room : ℕ) → length b ≤ room → write_no (read_job b) room ≡ 0
  not_refused room h = rewritten room ∙ short_next room (length b) [] h ∙ first_none

-- what no rule bounds, and the types hold: residents of twelve kinds, and fixtures, of 16 bits each.
-- `held` (`Held.antt`) has it of every job that code can hold, so `write_read` promises the same fields without asking for it.
pub record SixteenBits (job : Job) : Type 0 where
  pub kinds : length job.residents ≡ 12
  pub residents : (c : ℕ) → c < 12 → get_or job.residents c 0 < 65536
  pub fixtures : (i : ℕ) → 0 < i → i ≤ count_of job → (section_of job i).fixtures < 65536

-- a job that is written
module _ (job : Job) (room : ℕ) (done : write_no job room ≡ 0) where
  may : Writable job room
  may = writable job room done

  bounds : HeaderIn job.header
  bounds = header_in job.header may.header

  few_again : count_of job ≤ 63
  few_again = bounds.sections.high

  -- a record keeps its fields
  pub kept_same : SameFields job (kept job)
  unfolding kept
  kept_same =
      let slot : (i : ℕ) → 0 < i → i ≤ count_of job → section_of (kept job) i ≡ section_of job i =
      λ i a h. slots_in 64 1 (count_of job + 1) blank_section (section_of job) i blank_section (omega arith) (omega arith)
      (omega (arith, few_again)) in
      record { header = refl; residents = refl; sections = slot }

  same_checks : field_checks job ≡ field_checks (kept job)
  same_checks =
      let s : SameFields job (kept job) = kept_same in
      checks_same job (kept job) (ap (λ h. h.sections) (sym s.header)) (sym s.residents) (λ i a h. sym (s.sections i a h))

  -- and read again
  module _ (sixteen : SixteenBits job) where
    section_fits : (i : ℕ) → 0 < i → i ≤ count_of job → SectionFits (section_of job i)
    section_fits i a h =
        let s : SectionIn i (section_of job i) = sections_in job (kept_of job may.fields).sections i a h in
        record {
          fixtures = sixteen.fixtures i a h;
          decimetres = omega arith;
          elevation = omega (arith, elevation_small (section_of job i).elevation s.elevation);
          free = omega arith;
        }

    fits : JobFits job
    fits =
        let h : HeaderIn job.header = bounds in
        let v = version_in job.header may.version in
        let total : (version_of job ≡ 2 → ⊥) → job.header.service ≡ 0 = λ n. h.service.total (omega arith) in
        record {
          header = record { total = total; meter = omega arith; guaranteed = omega arith; delivered = omega arith; limit = omega arith };
          kinds = sixteen.kinds;
          residents = sixteen.residents;
          sections = section_fits;
        }

    again : decode (encode job) ≡ kept job
    again = decode_encode job fits

    head_again : header_at (encode job) ≡ job.header
    unfolding decode kept
    head_again = ap (λ (j : Job). j.header) again

    fields_again : first_no (field_checks (decode (encode job))) ≡ 0
    fields_again = rw (again, ← same_checks) may.fields

    stated_again : be_at 4 (encode job) 0 ≡ length (encode job)
    unfolding encode header_bytes
    stated_again =
        let few : count_of job ≤ 63 = few_again in
        let from = from_in (version_of job) in
        rw (encode_length job, append_assoc (bytes_of 4 (length_of (version_of job) (count_of job))) _ _)
        (be_bytes 4 (length_of (version_of job) (count_of job)) _ (omega arith))

    version_again : version_ok (header_at (encode job)) ≡ true
    version_again = rw head_again may.version

    shape_again : length (encode job) ≡ length_of (version_at (encode job)) (byte_at (encode job) 6)
    unfolding encode header_bytes bytes_of
    shape_again = encode_length job

    -- it is accepted, with the fields that a record keeps
    pub accepted_again : read_no (encode job) ≡ 0
    accepted_again =
        let from = from_in (version_of job) in
        let long : 40 ≤ length (encode job) = rw (encode_length job) (omega arith) in
        let head : header_ok (header_at (encode job)) ≡ true = rw head_again may.header in
        let clear = header_clear (header_at (encode job)) version_again head in
        sym (read_passed (encode job) (sym (well_formed (encode job) long stated_again clear shape_again)) (sym fields_again))

    pub same_fields : read_job (encode job) ≡ kept job
    same_fields = read_accepted (encode job) accepted_again ∙ again

-- what `write_read` promises: where it gives 0, the job that comes back has the same fields
pub written_read_same : {job : Job} {out₀ out : List ℕ} {n : ℕ} {again : Job} →
    WrittenRead job out₀ out n again → n ≡ 0 → SameFields job again
written_read_same {job} {out₀} {out} {n} {again} w e =
    let back : again ≡ kept job = w.fields ∙ rw (eq-eqb n 0 e) in
    rw back (kept_same job (length out₀) (sym w.number ∙ e))
