-- The lengths of a record's parts, and the parts written one after another.
-- Assumes nothing.
use mathlib.Core.Path.{◌≡◌, refl, sym, ◌∙◌}
use mathlib.Core.Logic.{⊎_elim}
use mathlib.Core.List.{List, ◌++◌, append_assoc}
use Prim.Native.Nat.{ℕ, ◌+◌, ◌*◌, ◌≤◌}
use native.Mathlib.Omega.{arith}
use lib.ListN.{length, length-append}
use borrow.Author.Tests.{eq-eqb, ne_eqb}
use Rattle.std.proofs.lemmas.Bool.{cases_eq}
use Rattle.basis.specs.Stored.{stored}
use Rattle.basis.proofs.Within.{Within}
use Rattle.basis.proofs.Concat.{concat_length}
use Rattle.basis.proofs.Stored.{stored_next}
use Rattle.wire.specs.Wire.{bytes_of}
use Rattle.wire.proofs.Fields.{bytes_length}
use Rattle.fields.specs.declared.Section.{Section}
use Rattle.fields.specs.declared.Header.{Header}
use Rattle.fields.specs.declared.Job.{Job}
use Rattle.fields.specs.Fields.{version_of, count_of, section_of, residents_of}
use Rattle.record.specs.Record.{sections_from, length_of, header_bytes, section_bytes, residents_bytes, service_bytes, sections_bytes, encode}

-- version 2 has one byte more before its sections
module _ {version : ℕ} where
  pub from_two : version ≡ 2 → sections_from version ≡ 41
  unfolding sections_from
  from_two e = rw (eq-eqb version 2 e)

  pub from_other : (version ≡ 2 → ⊥) → sections_from version ≡ 40
  unfolding sections_from
  from_other n = rw (ne_eqb version 2 n)

pub from_in : (version : ℕ) → Within 40 41 (sections_from version)
from_in version =
    ⊎_elim
    (λ e. record { low = omega (arith, from_two e); high = omega (arith, from_two e) })
    (λ n. record { low = omega (arith, from_other n); high = omega (arith, from_other n) })
    (cases_eq version 2)

pub head_length : (h : Header) → length (header_bytes h) ≡ 16
unfolding header_bytes bytes_of
head_length h = refl

pub section_length : (s : Section) → length (section_bytes s) ≡ 10
unfolding section_bytes bytes_of
section_length s = refl

pub residents_length : (job : Job) → length (residents_bytes job) ≡ 24
unfolding residents_bytes
residents_length job = concat_length 2 (λ kind. bytes_of 2 (residents_of job kind)) (λ kind. bytes_length 2 (residents_of job kind)) 12

pub sections_length : (job : Job) → length (sections_bytes job) ≡ 10 * count_of job
unfolding sections_bytes
sections_length job = concat_length 10 (λ i. section_bytes (section_of job i)) (λ i. section_length (section_of job i)) (count_of job)

-- the service byte stands between the residents and the sections
pub service_length : (h : Header) → 40 + length (service_bytes h) ≡ sections_from h.version
unfolding service_bytes
service_length h =
    ⊎_elim
    (λ (e : h.version ≡ 2). rw (eq-eqb h.version 2 e, from_two e))
    (λ (n : h.version ≡ 2 → ⊥). rw (ne_eqb h.version 2 n, from_other n))
    (cases_eq h.version 2)

-- what stands before the sections: the head, the residents and the service
module _ (job : Job) where
  pub front : List ℕ
  front = header_bytes job.header ++ residents_bytes job

  pub before : List ℕ
  before = front ++ service_bytes job.header

  pub front_length : length front ≡ 40
  unfolding front
  front_length = rw (length-append (header_bytes job.header) (residents_bytes job), head_length job.header, residents_length job)

  pub before_length : length before ≡ sections_from (version_of job)
  unfolding before
  before_length = length-append front (service_bytes job.header) ∙ rw front_length (service_length job.header)

  pub encode_front : encode job ≡ front ++ (service_bytes job.header ++ sections_bytes job)
  unfolding encode front
  encode_front = sym (append_assoc (header_bytes job.header) (residents_bytes job) (service_bytes job.header ++ sections_bytes job))

  pub encode_parts : encode job ≡ before ++ sections_bytes job
  unfolding before
  encode_parts = encode_front ∙ sym (append_assoc front (service_bytes job.header) (sections_bytes job))

  pub encode_length : length (encode job) ≡ length_of (version_of job) (count_of job)
  encode_length = rw (encode_parts, length-append before (sections_bytes job), before_length, sections_length job)

  -- head, residents, service and sections, written one after another, are the whole record
  pub whole_stored : (l : List ℕ) → length_of (version_of job) (count_of job) ≤ length l →
      stored (stored (stored (stored l 0 (header_bytes job.header)) 16 (residents_bytes job)) 40 (service_bytes job.header))
      (sections_from (version_of job)) (sections_bytes job) ≡
      stored l 0 (encode job)
  unfolding before front
  whole_stored l h =
      let from = from_in (version_of job) in
      let a : 16 ≡ 0 + length (header_bytes job.header) = rw (head_length job.header) in
      let b : 40 ≡ 0 + length front = rw front_length in
      let c : sections_from (version_of job) ≡ 0 + length before = rw before_length (omega arith) in
      rw (
        stored_next l 0 (header_bytes job.header) 16 (residents_bytes job) a (omega arith),
        stored_next l 0 front 40 (service_bytes job.header) b (omega arith),
        stored_next l 0 before (sections_from (version_of job)) (sections_bytes job) c (omega arith),
        encode_parts,
      )
