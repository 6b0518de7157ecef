-- Reading and writing a record: the checks in the order of document 01, "Refused orders", as L4 of document 02 changes them, and what
-- is given back.
-- Assumes nothing.
use Rattle.std.specs.Prelude.{ℕ, ◌≤◌, ◌<◌, ◌≡◌, Bool, not, ◌||◌, cond, List, [], ◌∷◌, ◌++◌, length, ltb, eqb, Result, Ok, Err}
use Rattle.basis.specs.Part.{part}
use Rattle.answer.specs.declared.Refusal.{Refusal}
use Rattle.answer.specs.Checks.{first_no, too_short, buffer_after}
use Rattle.wire.specs.Wire.{byte_at, be_at}
use Rattle.fields.specs.declared.Job.{Job}
use Rattle.fields.specs.Fields.{blank_job, version_of, count_of, section_of}
use Rattle.rules.specs.Rules.{version_ok, header_ok, field_checks}
use Rattle.record.specs.Record.{length_of, version_at, header_at, decode, encode, kept}

-- 1: job under 40 bytes, or its length isn't the bytes lent
unfoldable pub wrong_length : List ℕ → Bool
wrong_length b = ltb (length b) 40 || not (eqb (be_at 4 b 0) (length b))

-- 2: version neither 1 nor 2
unfoldable pub wrong_version : List ℕ → Bool
wrong_version b = not (version_ok (header_at b))

-- 4: length isn't 40 + 10 × S, or 41 + 10 × S in version 2
unfoldable pub wrong_count : List ℕ → Bool
wrong_count b = not (eqb (length b) (length_of (version_at b) (byte_at b 6)))

-- 1 to 4, of the record as it stands
unfoldable pub shape_checks : List ℕ → List (Bool × ℕ)
shape_checks b = (wrong_length b, 1) ∷ (wrong_version b, 2) ∷ (not (header_ok (header_at b)), 3) ∷ (wrong_count b, 4) ∷ []

-- reading: 1 to 4, and then 5 to 7 of its fields
unfoldable pub read_checks : List ℕ → List (Bool × ℕ)
read_checks b = shape_checks b ++ field_checks (decode b)

unfoldable pub read_no : List ℕ → ℕ
read_no b = first_no (read_checks b)

-- the fields that a call gives with a number: all zero after a refusal
abbrev pub fields_after : ℕ → Job → Job
fields_after n job = cond (eqb n 0) job blank_job

unfoldable pub read_job : List ℕ → Job
read_job b = fields_after (read_no b) (decode b)

-- writing into so many bytes: 2, 3, 5 to 7, and 14 where the result buffer is too short
unfoldable pub write_checks : Job → ℕ → List (Bool × ℕ)
write_checks job room =
    (not (version_ok job.header), 2) ∷
    (not (header_ok job.header), 3) ∷ (field_checks job ++ ((too_short room (length_of (version_of job) (count_of job)), 14) ∷ []))

unfoldable pub write_no : Job → ℕ → ℕ
write_no job room = first_no (write_checks job room)

-- reading and writing again into so many bytes: 1 to 7, and 14
unfoldable pub copy_checks : List ℕ → ℕ → List (Bool × ℕ)
copy_checks b room = read_checks b ++ ((too_short room (length b), 14) ∷ [])

unfoldable pub copy_no : List ℕ → ℕ → ℕ
copy_no b room = first_no (copy_checks b room)

-- the fields that a call gives back: all zero where it refuses
abbrev pub job_in : Result Job Refusal → Job
job_in (Ok job) = job
job_in (Err refusal) = blank_job

-- writing a job and reading the record again: the writer's number, the buffer as the writer leaves it, and where the number is 0 the
-- fields that reading gives, which are those that a record keeps; after a refusal nothing is read, and they are all zero
pub record WrittenRead (job : Job) (out₀ out : List ℕ) (n : ℕ) (again : Job) : Type 0 where
  pub number : n ≡ write_no job (length out₀)
  pub buffer : out ≡ buffer_after n (encode job) out₀
  pub read : n ≡ 0 → again ≡ read_job (part out 0 (length_of (version_of job) (count_of job)))
  pub fields : again ≡ fields_after n (kept job)

-- two jobs with the same fields: the header, the residents and sections 1 to S
pub record SameFields (job again : Job) : Type 0 where
  pub header : again.header ≡ job.header
  pub residents : again.residents ≡ job.residents
  pub sections : (i : ℕ) → 0 < i → i ≤ count_of job → section_of again i ≡ section_of job i
