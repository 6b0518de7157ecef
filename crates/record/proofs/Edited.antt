-- A record in which one field's bytes are replaced has the same length, every other byte as it was, and the same fields but that one.
-- Assumes nothing.
use mathlib.Core.Path.{◌≡◌, refl, sym, ap, ◌∙◌}
use mathlib.Core.Logic.{◌⊎◌, inl, inr, ⊎_elim}
use mathlib.Core.List.{List, [], append-nil}
use Prim.Native.Nat.{ℕ, ◌+◌, ◌-◌, ◌*◌, ◌%◌, ◌^◌, ◌≤◌, ◌<◌}
use native.Mathlib.Omega.{arith}
use lib.ListN.{length, set}
use lib.Seq.{get_or-set_same, set-set, ext_get_or}
use Rattle.std.proofs.lemmas.Bool.{cases_lt, cases_eq}
use Rattle.basis.specs.Slots.{tabulate, slots}
use Rattle.basis.proofs.Stored.{stored_length, stored_in, stored_before, stored_after}
use Rattle.basis.proofs.Slots.{tabulate_ext, slots_length, slots_in, slots_full, slots_ext, slots_set}
use Rattle.wire.specs.Wire.{byte_at, be_at, bytes_of}
use Rattle.wire.proofs.Fields.{be_same, be_bytes, bytes_length}
use Rattle.fields.specs.Fields.{blank_section, section_of}
use Rattle.record.specs.Record.{sections_from, place_of, version_at, service_at, header_at, residents_at, section_from, section_at, decode}
use Rattle.record.proofs.Service.{service_two, service_other}
use Rattle.record.proofs.Lengths.{from_in, from_two}
use Rattle.record.specs.Edited.{meter_place, residents_place, fixtures_place, free_place, edited, SameBut, with_meter, with_residents, with_section, fitted}

-- any field: its own value, and every other byte as it was
module _ (width : ℕ) (b : List ℕ) (at n : ℕ) (fits : at + width ≤ length b) where
  pub edited_same : SameBut at width b (edited width b at n)
  edited_same =
      let size : length (bytes_of width n) ≡ width = bytes_length width n in
      record {
        long = stored_length b at (bytes_of width n) (rw size fits);
        bytes = λ j apart.
            ⊎_elim
            (λ before. stored_before b at (bytes_of width n) j (omega arith) before)
            (λ from. ⊎_elim
            (λ inside. absurd (apart from inside))
            (λ past. stored_after b at (bytes_of width n) j (omega arith) (rw size past))
            (cases_lt j (at + width)))
            (cases_lt j at);
      }

  pub edited_field : n < 256 ^ width → be_at width (edited width b at n) at ≡ n
  edited_field h =
      be_same width (edited width b at n) (bytes_of width n) at 0
      (λ k lt. let e : 0 + k ≡ k = omega arith in rw e (stored_in b at (bytes_of width n) k (omega arith) (rw (bytes_length width n) lt))) ∙
      (rw append-nil at (be_bytes width n [] h))

module _ {at width : ℕ} {b e : List ℕ} (same : SameBut at width b e) where
  -- a field that shares no byte with the one that was replaced
  pub field_kept : (w j : ℕ) → ((k : ℕ) → k < w → at ≤ j + k → j + k < at + width → ⊥) → be_at w e j ≡ be_at w b j
  field_kept w j apart = be_same w e b j j (λ k h. same.bytes (j + k) (apart k h))

  -- whatever the field held, with n in it the record is the same
  pub edited_over : (n : ℕ) → at + width ≤ length b → edited width e at n ≡ edited width b at n
  edited_over n fits =
      let size : length (bytes_of width n) ≡ width = bytes_length width n in
      let one = edited_same width e at n (rw same.long fits) in
      let other = edited_same width b at n fits in
      let outside : (j : ℕ) → (at ≤ j → j < at + width → ⊥) → byte_at (edited width e at n) j ≡ byte_at (edited width b at n) j =
      λ j apart. one.bytes j apart ∙ same.bytes j apart ∙ sym (other.bytes j apart) in
      ext_get_or 0 (edited width e at n) (edited width b at n) (one.long ∙ same.long ∙ sym other.long)
      (λ j h. ⊎_elim
      (λ (before : j < at). outside j (λ c d. omega arith))
      (λ (from : at ≤ j). ⊎_elim
      (λ (inside : j < at + width).
      let k : at + (j - at) ≡ j = omega arith in
      let fit : j - at < length (bytes_of width n) = rw size (omega arith) in
      let long : at ≤ length e = rw same.long (omega arith) in
      rw (← k) (stored_in e at (bytes_of width n) (j - at) long fit ∙ sym (stored_in b at (bytes_of width n) (j - at) (omega arith) fit)))
      (λ (past : at + width ≤ j). outside j (λ c d. omega arith))
      (cases_lt j (at + width)))
      (cases_lt j at))

  version_kept : 5 ≤ at → version_at e ≡ version_at b
  version_kept h = same.bytes 4 (λ c d. omega arith)

  -- the service byte lies before the sections
  service_kept : 5 ≤ at → (at + width ≤ 40) ⊎ (sections_from (version_at b) ≤ at) → service_at e ≡ service_at b
  service_kept h apart =
      ⊎_elim
      (λ (two : version_at b ≡ 2).
      service_two e (version_kept h ∙ two) ∙
      ⊎_elim
      (λ (before : at + width ≤ 40). same.bytes 40 (λ c d. omega arith))
      (λ (behind : sections_from (version_at b) ≤ at). same.bytes 40 (λ c d. omega (arith, from_two two)))
      apart ∙
      sym (service_two b two))
      (λ (other : version_at b ≡ 2 → ⊥). service_other e (λ two. other (sym (version_kept h) ∙ two)) ∙ sym (service_other b other))
      (cases_eq (version_at b) 2)

  head_kept : 16 ≤ at → (at + width ≤ 40) ⊎ (sections_from (version_at b) ≤ at) → header_at e ≡ header_at b
  unfolding header_at
  head_kept h apart =
      rw (
        version_kept (omega arith),
        service_kept (omega arith) apart,
        same.bytes 5 (λ c d. omega arith),
        same.bytes 6 (λ c d. omega arith),
        same.bytes 7 (λ c d. omega arith),
        field_kept 2 8 (λ k l c d. omega arith),
        field_kept 2 10 (λ k l c d. omega arith),
        field_kept 2 12 (λ k l c d. omega arith),
        field_kept 2 14 (λ k l c d. omega arith),
      )

  residents_kept : ((k : ℕ) → 16 ≤ k → k < 40 → at ≤ k → k < at + width → ⊥) → tabulate 12 (residents_at e) ≡ tabulate 12 (residents_at b)
  unfolding residents_at
  residents_kept apart =
      tabulate_ext 12 (residents_at e) (residents_at b) 0
      (λ c h. field_kept 2 (16 + 2 * c) (λ k l. apart (16 + 2 * c + k) (omega arith) (omega arith)))

  section_kept : (from : ℕ) → ((k : ℕ) → from ≤ k → k < from + 10 → at ≤ k → k < at + width → ⊥) → section_from e from ≡ section_from b from
  unfolding section_from
  section_kept from apart =
      rw (
        same.bytes from (apart from (omega arith) (omega arith)),
        same.bytes (from + 1) (apart (from + 1) (omega arith) (omega arith)),
        field_kept 2 (from + 2) (λ k l. apart (from + 2 + k) (omega arith) (omega arith)),
        field_kept 2 (from + 4) (λ k l. apart (from + 4 + k) (omega arith) (omega arith)),
        field_kept 2 (from + 6) (λ k l. apart (from + 6 + k) (omega arith) (omega arith)),
        field_kept 2 (from + 8) (λ k l. apart (from + 8 + k) (omega arith) (omega arith)),
      )

  -- a section that shares no byte with what was replaced
  slot_kept : 5 ≤ at → (i : ℕ) → ((k : ℕ) → place_of (version_at b) i ≤ k → k < place_of (version_at b) i + 10 → at ≤ k → k < at + width → ⊥) →
      section_at e i ≡ section_at b i
  slot_kept h i apart = ap (λ v. section_from e (place_of v i)) (version_kept h) ∙ section_kept (place_of (version_at b) i) apart

  sections_kept : 5 ≤ at → at + width ≤ 40 →
      slots 64 1 (byte_at b 6 + 1) blank_section (section_at e) ≡ slots 64 1 (byte_at b 6 + 1) blank_section (section_at b)
  sections_kept from h =
      let start = from_in (version_at b) in
      slots_ext 64 1 (byte_at b 6 + 1) blank_section (section_at e) (section_at b) (λ i a c d. slot_kept from i (λ k l m n o. omega arith))

  -- bytes replaced inside section i change that section alone
  pub section_changed : (i : ℕ) → 0 < i → i ≤ byte_at b 6 → byte_at b 6 ≤ 63 → place_of (version_at b) i ≤ at →
      at + width ≤ place_of (version_at b) i + 10 →
      decode e ≡ with_section (decode b) i (section_at e i)
  unfolding decode with_section
  section_changed i low high few from to =
      let start = from_in (version_at b) in
      rw (
        head_kept (omega arith) (inr (omega arith)),
        residents_kept (λ k l m n o. omega arith),
        same.bytes 6 (λ c d. omega arith),
        slots_set 64 1 (byte_at b 6 + 1) blank_section (section_at b) (section_at e) i (omega arith) (omega arith) (omega arith)
            (λ j c d ne. slot_kept (omega arith) j (λ k l m n o. ne (omega arith))),
      )

-- the meter loss
pub meter_changed : {b e : List ℕ} → SameBut meter_place 2 b e → decode e ≡ with_meter (decode b) (be_at 2 e meter_place)
unfolding decode with_meter header_at
meter_changed same =
    rw (
      version_kept same (omega arith),
      service_kept same (omega arith) (inl (omega arith)),
      same.bytes 5 (λ c d. omega arith),
      same.bytes 6 (λ c d. omega arith),
      same.bytes 7 (λ c d. omega arith),
      field_kept same 2 10 (λ k l c d. omega arith),
      field_kept same 2 12 (λ k l c d. omega arith),
      field_kept same 2 14 (λ k l c d. omega arith),
      residents_kept same (λ k l m o p. omega arith),
      sections_kept same (omega arith) (omega arith),
    )

pub edited_meter : (b : List ℕ) (n : ℕ) → meter_place + 2 ≤ length b → n < 65536 → decode (edited 2 b meter_place n) ≡ with_meter (decode b) n
edited_meter b n fits h = meter_changed (edited_same 2 b meter_place n fits) ∙ rw (edited_field 2 b meter_place n fits h)

-- the residents of a kind
pub edited_residents : (b : List ℕ) (kind n : ℕ) → 0 < kind → kind ≤ 12 → residents_place kind + 2 ≤ length b → n < 65536 →
    decode (edited 2 b (residents_place kind) n) ≡ with_residents (decode b) kind n
unfolding decode with_residents residents_at
edited_residents b kind n low high fits h =
    let e = edited 2 b (residents_place kind) n in
    let same = edited_same 2 b (residents_place kind) n fits in
    let changed : tabulate 12 (residents_at e) ≡ set (tabulate 12 (residents_at b)) (kind - 1) n =
    sym (slots_full 12 0 (residents_at e)) ∙
    slots_set 12 0 12 0 (residents_at b) (residents_at e) (kind - 1) (omega arith) (omega arith) (omega arith)
    (λ c l m ne. field_kept same 2 (16 + 2 * c) (λ k o p q. ne (omega arith))) ∙
    rw (slots_full 12 0 (residents_at b), edited_field 2 b (residents_place kind) n fits h) in
    rw (
      head_kept same (omega arith) (inl (omega arith)),
      changed,
      same.bytes 6 (λ c d. omega arith),
      sections_kept same (omega arith) (omega arith),
    )

within : (b : List ℕ) (i : ℕ) → i ≤ 63 → i < length (decode b).sections
unfolding decode
within b i h = rw (slots_length 64 1 (byte_at b 6 + 1) blank_section (section_at b)) (omega arith)

-- the fixtures and the free head of section i
module _ (b : List ℕ) (i : ℕ) (low : 0 < i) (high : i ≤ byte_at b 6) (few : byte_at b 6 ≤ 63) where
  section_in : section_of (decode b) i ≡ section_at b i
  unfolding decode
  section_in = slots_in 64 1 (byte_at b 6 + 1) blank_section (section_at b) i blank_section (omega arith) (omega arith) (omega arith)

  -- bytes replaced at offset 2 or 8 of section i leave its other fields
  fitted_changed : {o : ℕ} {e : List ℕ} → SameBut (place_of (version_at b) i + o) 2 b e → o % 6 ≡ 2 → o ≤ 8 →
      decode e ≡ with_section (decode b) i (fitted (section_of (decode b) i) (be_at 2 e (fixtures_place (version_at b) i)) (be_at 2 e (free_place (version_at b) i)))
  unfolding fitted section_from
  fitted_changed same two most =
      let start = from_in (version_at b) in
      section_changed same i low high few (omega arith) (omega arith) ∙
      rw (
        section_in,
        version_kept same (omega arith),
        same.bytes (place_of (version_at b) i) (λ c d. omega arith),
        same.bytes (place_of (version_at b) i + 1) (λ c d. omega arith),
        field_kept same 2 (place_of (version_at b) i + 4) (λ k l c d. omega arith),
        field_kept same 2 (place_of (version_at b) i + 6) (λ k l c d. omega arith),
      )

  pub edited_fixtures : (n : ℕ) → fixtures_place (version_at b) i + 2 ≤ length b → n < 65536 →
      decode (edited 2 b (fixtures_place (version_at b) i) n) ≡ with_section (decode b) i (fitted (section_of (decode b) i) n (section_of (decode b) i).free)
  unfolding section_from
  edited_fixtures n fits h =
      let same = edited_same 2 b (fixtures_place (version_at b) i) n fits in
      fitted_changed same refl (omega arith) ∙
      rw (edited_field 2 b (fixtures_place (version_at b) i) n fits h, field_kept same 2 (free_place (version_at b) i) (λ k l c d. omega arith), section_in)

  pub edited_free : (n : ℕ) → free_place (version_at b) i + 2 ≤ length b → n < 65536 →
      decode (edited 2 b (free_place (version_at b) i) n) ≡ with_section (decode b) i (fitted (section_of (decode b) i) (section_of (decode b) i).fixtures n)
  unfolding section_from
  edited_free n fits h =
      let same = edited_same 2 b (free_place (version_at b) i) n fits in
      fitted_changed same refl (omega arith) ∙
      rw (edited_field 2 b (free_place (version_at b) i) n fits h, field_kept same 2 (fixtures_place (version_at b) i) (λ k l c d. omega arith), section_in)

-- both, one after the other
pub edited_end : (b : List ℕ) (i : ℕ) → 0 < i → i ≤ byte_at b 6 → byte_at b 6 ≤ 63 → (fixtures free : ℕ) →
    free_place (version_at b) i + 2 ≤ length b → fixtures < 65536 → free < 65536 →
    decode (edited 2 (edited 2 b (fixtures_place (version_at b) i) fixtures) (free_place (version_at b) i) free) ≡ with_section (decode b) i (fitted (section_of (decode b) i) fixtures free)
unfolding with_section fitted
edited_end b i low high few fixtures free fits h k =
    let start = from_in (version_at b) in
    let first = edited_same 2 b (fixtures_place (version_at b) i) fixtures (omega arith) in
    let count = first.bytes 6 (λ c d. omega arith) in
    let version = first.bytes 4 (λ c d. omega arith) in
    let job = decode b in
    (rw version at
    (edited_free (edited 2 b (fixtures_place (version_at b) i) fixtures) i low (rw count high) (rw count few) free (rw (version, first.long) fits) k)) ∙
    rw (
      edited_fixtures b i low high few fixtures (omega arith) h,
      get_or-set_same job.sections i (fitted (section_of job i) fixtures (section_of job i).free) blank_section (within b i (omega arith)),
      set-set,
    )
