-- A record read and written again has the same bytes, and fields written and read again are the same fields.
-- Assumes nothing.
use mathlib.Core.Path.{◌≡◌, refl, sym, ap, ◌∙◌}
use mathlib.Core.Logic.{⊎_elim}
use mathlib.Core.List.{List, [], ◌∷◌, ◌++◌, append-nil}
use Prim.Native.Nat.{ℕ, ◌+◌, ◌-◌, ◌*◌, ◌≤◌, ◌<◌}
use native.Mathlib.Omega.{arith}
use native.Mathlib.Nat.{add-zero}
use lib.ListN.{length, get_or}
use lib.Seq.{get_or-append-add}
use borrow.Author.Tests.{eq-eqb, ne_eqb}
use Rattle.std.proofs.lemmas.Bool.{cases_eq}
use Rattle.basis.specs.Range.{concat_to}
use Rattle.basis.specs.Slots.{tabulate}
use Rattle.basis.specs.Part.{part}
use Rattle.basis.proofs.Part.{part_cons, part_next, part_then, part_all, part_at}
use Rattle.basis.proofs.Concat.{concat_ext, concat_within, parts_concat}
use Rattle.basis.proofs.Slots.{tabulate_at, tabulated, slots_in, slots_ext}
use Rattle.wire.specs.Wire.{byte_at, be_at, bytes_of, bits_of}
use Rattle.wire.proofs.Fields.{be_lt, be_part, be_written, bytes_be, bytes_length}
use Rattle.wire.proofs.Signed.{bits_signed, signed_bits, bits_lt}
use Rattle.fields.specs.declared.Section.{Section}
use Rattle.fields.specs.declared.Header.{Header}
use Rattle.fields.specs.declared.Job.{Job}
use Rattle.fields.specs.Fields.{version_of, count_of, blank_section, section_of, residents_of}
use Rattle.record.specs.Record.{sections_from, length_of, place_of, version_at, service_at, header_at, residents_at, section_from, section_at, decode, header_bytes, section_bytes, residents_bytes, service_bytes, sections_bytes, encode, kept, SectionFits, HeadFits, JobFits}
use Rattle.record.proofs.Service.{service_two, service_other}
use Rattle.record.proofs.Lengths.{from_in, from_two, from_other, head_length, section_length, front, front_length, before, before_length, encode_front, encode_parts}

module _ (b : List ℕ) (byte : (k : ℕ) → byte_at b k < 256) where
  -- the bytes of the fields that were read are the bytes read: the head, a section, the residents, the service and the sections
  head_again : be_at 4 b 0 ≡ length b → length b ≡ length_of (version_at b) (byte_at b 6) → header_bytes (header_at b) ≡ part b 0 16
  unfolding header_bytes header_at
  head_again long size =
      let from = from_in (version_at b) in
      let n : length_of (version_at b) (byte_at b 6) ≡ be_at 4 b 0 = sym (long ∙ size) in
      let four : part b 4 12 ≡ version_at b ∷ byte_at b 5 ∷ byte_at b 6 ∷ byte_at b 7 ∷ part b 8 8 =
      rw (
        part_cons b 4 11 (omega arith),
        part_cons b 5 10 (omega arith),
        part_cons b 6 9 (omega arith),
        part_cons b 7 8 (omega arith),
      ) in
      rw (
        n,
        bytes_be 4 b 0 byte (omega arith),
        bytes_be 2 b 8 byte (omega arith),
        bytes_be 2 b 10 byte (omega arith),
        bytes_be 2 b 12 byte (omega arith),
        bytes_be 2 b 14 byte (omega arith),
        part_next b 12 2 2,
        part_next b 10 2 4,
        part_next b 8 2 6,
        ← four,
      ) (part_next b 0 4 12)

  section_again : (at : ℕ) → at + 10 ≤ length b → section_bytes (section_from b at) ≡ part b at 10
  unfolding section_bytes section_from
  section_again at h =
      let past : at + 1 + 1 ≡ at + 2 = omega arith in
      let two : part b at 10 ≡ byte_at b at ∷ byte_at b (at + 1) ∷ part b (at + 2) 8 =
      rw (part_cons b at 9 (omega arith), part_cons b (at + 1) 8 (omega arith), past) in
      rw (
        bits_signed 15 (be_at 2 b (at + 6)) (be_lt 2 b (at + 6) byte),
        bytes_be 2 b (at + 2) byte (omega arith),
        bytes_be 2 b (at + 4) byte (omega arith),
        bytes_be 2 b (at + 6) byte (omega arith),
        bytes_be 2 b (at + 8) byte (omega arith),
        part_then b (at + 6) 2 (at + 8) 2 (omega arith),
        part_then b (at + 4) 2 (at + 6) 4 (omega arith),
        part_then b (at + 2) 2 (at + 4) 6 (omega arith),
        two,
      )

  residents_again : 40 ≤ length b → residents_bytes (decode b) ≡ part b 16 24
  unfolding residents_bytes decode residents_at
  residents_again h =
      concat_ext 12 (λ kind. bytes_of 2 (residents_of (decode b) kind)) (λ kind. part b (16 + 2 * (kind - 1)) 2)
      (λ kind a c. ap (bytes_of 2) (tabulate_at 12 (residents_at b) (kind - 1) 0 (omega arith)) ∙
      bytes_be 2 b (16 + 2 * (kind - 1)) byte (omega arith)) ∙
      parts_concat b 16 2 12

  service_again : sections_from (version_at b) ≤ length b → service_bytes (header_at b) ≡ part b 40 (sections_from (version_at b) - 40)
  unfolding service_bytes header_at service_at
  service_again long =
      ⊎_elim
      (λ (e : version_at b ≡ 2).
      let from = from_two e in
      let one : sections_from (version_at b) - 40 ≡ 1 = omega arith in
      rw (eq-eqb (version_at b) 2 e, one) (sym (part_cons b 40 0 (omega arith))))
      (λ (n : version_at b ≡ 2 → ⊥).
      let from = from_other n in
      let none : sections_from (version_at b) - 40 ≡ 0 = omega arith in
      rw (ne_eqb (version_at b) 2 n, none))
      (cases_eq (version_at b) 2)

  sections_again : byte_at b 6 ≤ 63 → length b ≡ length_of (version_at b) (byte_at b 6) →
      sections_bytes (decode b) ≡ part b (sections_from (version_at b)) (10 * byte_at b 6)
  unfolding sections_bytes decode header_at
  sections_again few size =
      concat_ext (byte_at b 6) (λ i. section_bytes (section_of (decode b) i)) (λ i. part b (place_of (version_at b) i) 10)
      (λ i a c. ap section_bytes (slots_in 64 1 (byte_at b 6 + 1) blank_section (section_at b) i blank_section (omega arith) (omega arith) (omega arith)) ∙
      section_again (place_of (version_at b) i) (omega arith)) ∙
      parts_concat b (sections_from (version_at b)) 10 (byte_at b 6)

-- read and written again
pub encode_decode : (b : List ℕ) → ((k : ℕ) → byte_at b k < 256) → byte_at b 6 ≤ 63 → be_at 4 b 0 ≡ length b →
    length b ≡ length_of (version_at b) (byte_at b 6) → encode (decode b) ≡ b
unfolding encode decode
encode_decode b byte few long size =
    let from = from_in (version_at b) in
    let service = sections_from (version_at b) - 40 in
    let sections = 10 * byte_at b 6 in
    let all : 16 + (24 + (service + sections)) ≡ length b = omega arith in
    rw (
      head_again b byte long size,
      residents_again b byte (omega arith),
      service_again b byte (omega arith),
      sections_again b byte few size,
      part_then b 40 service (sections_from (version_at b)) sections (omega arith),
      part_next b 16 24 (service + sections),
      part_next b 0 16 (24 + (service + sections)),
      all,
    ) (part_all b)

-- the head's fields, read from the front of a record; the service stands further on
head_read : (h : Header) (rest : List ℕ) → HeadFits h → service_at (header_bytes h ++ rest) ≡ h.service → header_at (header_bytes h ++ rest) ≡ h
unfolding header_at header_bytes bytes_of be_at
head_read h rest t service =
    let meter : be_at 2 (header_bytes h ++ rest) 8 ≡ h.meter = omega arith in
    let guaranteed : be_at 2 (header_bytes h ++ rest) 10 ≡ h.guaranteed = omega arith in
    let delivered : be_at 2 (header_bytes h ++ rest) 12 ≡ h.delivered = omega arith in
    let limit : be_at 2 (header_bytes h ++ rest) 14 ≡ h.limit = omega arith in
    rw (service, meter, guaranteed, delivered, limit)

-- a section's fields, read from its ten bytes
section_read : (s : Section) → SectionFits s → section_from (section_bytes s) 0 ≡ s
unfolding section_from section_bytes bytes_of be_at
section_read s t =
    let z : bits_of 16 s.elevation < 65536 = bits_lt 15 s.elevation t.elevation in
    let fixtures : be_at 2 (section_bytes s) 2 ≡ s.fixtures = omega arith in
    let decimetres : be_at 2 (section_bytes s) 4 ≡ s.decimetres = omega arith in
    let elevation : be_at 2 (section_bytes s) 6 ≡ bits_of 16 s.elevation = omega arith in
    let free : be_at 2 (section_bytes s) 8 ≡ s.free = omega arith in
    rw (fixtures, decimetres, elevation, free, signed_bits 15 s.elevation t.elevation)

-- a section's fields are those of its ten bytes alone
section_part : (b : List ℕ) (at : ℕ) → section_from (part b at 10) 0 ≡ section_from b at
unfolding section_from
section_part b at =
    rw (
      part_at b at 10 0 (omega arith),
      part_at b at 10 1 (omega arith),
      be_part 2 b at 10 2 (omega arith),
      be_part 2 b at 10 4 (omega arith),
      be_part 2 b at 10 6 (omega arith),
      be_part 2 b at 10 8 (omega arith),
      add-zero at,
    )

-- where the residents of a kind and the sections stand in the bytes written, and that they are read there again
residents_part : (job : Job) (c : ℕ) → c < 12 → part (encode job) (16 + 2 * c) 2 ≡ bytes_of 2 (get_or job.residents c 0)
unfolding encode residents_bytes
residents_part job c h =
    let e : c + 1 - 1 ≡ c = omega arith in
    rw e at
    (concat_within 2 (λ kind. bytes_of 2 (residents_of job kind)) (λ kind. bytes_length 2 (residents_of job kind)) 12 (c + 1)
    (header_bytes job.header) (service_bytes job.header ++ sections_bytes job) 16 (head_length job.header) (omega arith) (omega arith))

residents_read : (job : Job) → JobFits job → tabulate 12 (residents_at (encode job)) ≡ job.residents
unfolding residents_at
residents_read job t =
    sym (tabulated 12 (residents_at (encode job)) job.residents 0 t.kinds
    (λ c h. sym (be_written 2 (encode job) (16 + 2 * c) (get_or job.residents c 0) (t.residents c h) (residents_part job c h))))

sections_part : (job : Job) (i : ℕ) → 0 < i → i ≤ count_of job →
    part (encode job) (place_of (version_of job) i) 10 ≡ section_bytes (section_of job i)
unfolding sections_bytes
sections_part job i a h =
    let row : List ℕ = concat_to (count_of job) (λ j. section_bytes (section_of job j)) in
    let split : encode job ≡ before job ++ (row ++ []) = rw (append-nil row) (encode_parts job) in
    rw split
    (concat_within 10 (λ j. section_bytes (section_of job j)) (λ j. section_length (section_of job j)) (count_of job) i
    (before job) [] (sections_from (version_of job)) (before_length job) a h)

version_read : (job : Job) → version_at (encode job) ≡ version_of job
unfolding encode header_bytes bytes_of
version_read job = refl

sections_read : (job : Job) → JobFits job → (i : ℕ) → 0 < i → i ≤ count_of job → section_at (encode job) i ≡ section_of job i
sections_read job t i a h =
    ap (λ v. section_from (encode job) (place_of v i)) (version_read job) ∙
    sym (section_part (encode job) (place_of (version_of job) i)) ∙
    rw (sections_part job i a h) (section_read (section_of job i) (t.sections i a h))

-- byte 40 is the service in version 2
service_byte : (job : Job) → version_of job ≡ 2 → byte_at (encode job) 40 ≡ job.header.service
unfolding service_bytes
service_byte job e =
    let rest : List ℕ = service_bytes job.header ++ sections_bytes job in
    let first : byte_at (front job ++ rest) 40 ≡ byte_at rest 0 = rw (front_length job) at (get_or-append-add (front job) rest 0 0) in
    rw (encode_front job) (first ∙ rw (eq-eqb (version_of job) 2 e))

service_read : (job : Job) → JobFits job → service_at (encode job) ≡ job.header.service
service_read job t =
    ⊎_elim
    (λ (e : version_of job ≡ 2). service_two (encode job) (version_read job ∙ e) ∙ service_byte job e)
    (λ (n : version_of job ≡ 2 → ⊥). service_other (encode job) (λ e. n (sym (version_read job) ∙ e)) ∙ sym (t.header.total n))
    (cases_eq (version_of job) 2)

head_whole : (job : Job) → JobFits job → header_at (encode job) ≡ job.header
unfolding encode
head_whole job t =
    head_read job.header (residents_bytes job ++ (service_bytes job.header ++ sections_bytes job)) t.header (service_read job t)

count_read : (job : Job) → JobFits job → byte_at (encode job) 6 ≡ count_of job
unfolding header_at
count_read job t = ap (λ (h : Header). h.sections) (head_whole job t)

-- written and read again
pub decode_encode : (job : Job) → JobFits job → decode (encode job) ≡ kept job
unfolding decode kept
decode_encode job t =
    rw (
      head_whole job t,
      residents_read job t,
      count_read job t,
      slots_ext 64 1 (count_of job + 1) blank_section (section_at (encode job)) (section_of job)
          (λ i a b h. sections_read job t i (omega arith) (omega arith)),
    )
