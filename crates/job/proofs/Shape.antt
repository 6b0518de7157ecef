-- Checks 1 to 4: the number that they give, and what holds where they find nothing.
-- Assumes nothing.
use mathlib.Core.Path.{◌≡◌, refl, sym, ◌∙◌}
use mathlib.Core.Bool.{Bool, true, false, not, ◌||◌}
use mathlib.Core.List.{List, [], ◌∷◌, ◌++◌}
use Prim.{tt}
use Prim.Native.Nat.{ℕ, ◌≤◌, ◌<◌}
use native.Mathlib.Omega.{arith}
use lib.ListN.{length}
use lib.Dec.{ltb, eqb}
use borrow.Author.Tests.{lt-ltb, le-ltb, ltb-false, eq-eqb, ne_eqb, eqb-true, not-false}
use Rattle.answer.specs.declared.Refusal.{Refusal}
use Rattle.answer.specs.Answer.{refusal_number}
use Rattle.answer.specs.Checks.{first_no}
use Rattle.answer.proofs.First.{Numbered, first_none, first_found, first_next, first_clear, first_after}
use Rattle.answer.proofs.Some.{first_refused, number_at_exit}
use Rattle.fields.specs.declared.Header.{Header}
use Rattle.wire.specs.Wire.{byte_at, be_at}
use Rattle.rules.specs.Rules.{version_ok, header_ok}
use Rattle.rules.proofs.HeaderBounds.{header_in}
use Rattle.record.specs.Record.{length_of, version_at, header_at}
use Rattle.job.specs.Calls.{wrong_length, wrong_version, wrong_count, shape_checks}

-- 2 and 3, of a header, and where neither finds anything
abbrev pub header_checks : Header → List (Bool × ℕ)
header_checks h = (not (version_ok h), 2) ∷ (not (header_ok h), 3) ∷ []

pub header_numbered : (h : Header) → Numbered (header_checks h)
header_numbered h = (omega arith, (omega arith, tt))

pub header_clear : (h : Header) → version_ok h ≡ true → header_ok h ≡ true → first_no (header_checks h) ≡ 0
unfolding first_no
header_clear h v e = rw (v, e)

-- a header that 2 and 3 let pass
pub record Headed (h : Header) : Type 0 where
  pub version : version_ok h ≡ true
  pub range : header_ok h ≡ true

pub headed : (h : Header) → first_no (header_checks h) ≡ 0 → Headed h
headed h e =
    let two = first_clear _ 2 _ (omega arith) e in
    let three = first_clear _ 3 _ (omega arith) two.1 in
    record { version = not-false (version_ok h) two.0; range = not-false (header_ok h) three.0 }

-- the number that the code gives, each test after those before it
module _ (b : List ℕ) where
  pub short : length b < 40 → first_no (shape_checks b) ≡ 1
  unfolding shape_checks first_no wrong_length
  short h = rw (lt-ltb (length b) 40 h)

  module _ (long : 40 ≤ length b) where
    pub not_stated : (be_at 4 b 0 ≡ length b → ⊥) → first_no (shape_checks b) ≡ 1
    unfolding shape_checks first_no wrong_length
    not_stated n = rw (le-ltb (length b) 40 long, ne_eqb (be_at 4 b 0) (length b) n)

    module _ (stated : be_at 4 b 0 ≡ length b) where
      right_length : wrong_length b ≡ false
      unfolding wrong_length
      right_length = rw (le-ltb (length b) 40 long, eq-eqb (be_at 4 b 0) (length b) stated)

      shape_rest : first_no (shape_checks b) ≡ first_no (header_checks (header_at b) ++ ((wrong_count b, 4) ∷ []))
      unfolding shape_checks first_no wrong_version
      shape_rest = rw right_length

      pub other_header : (r : Refusal) → refusal_number r ≡ first_no (header_checks (header_at b)) → refusal_number r ≡ first_no (shape_checks b)
      other_header r e = first_refused (header_checks (header_at b)) _ (header_numbered (header_at b)) r e ∙ sym shape_rest

      module _ (clear : first_no (header_checks (header_at b)) ≡ 0) where
        count_rest : first_no (shape_checks b) ≡ first_no ((wrong_count b, 4) ∷ [])
        count_rest = shape_rest ∙ first_after (header_checks (header_at b)) _ (header_numbered (header_at b)) clear

        pub other_count : (length b ≡ length_of (version_at b) (byte_at b 6) → ⊥) → first_no (shape_checks b) ≡ 4
        unfolding wrong_count
        other_count n = count_rest ∙ first_found 4 [] (rw (ne_eqb (length b) (length_of (version_at b) (byte_at b 6)) n))

        pub well_formed : length b ≡ length_of (version_at b) (byte_at b 6) → first_no (shape_checks b) ≡ 0
        unfolding wrong_count
        well_formed e =
            count_rest ∙ first_next 4 [] (rw (eq-eqb (length b) (length_of (version_at b) (byte_at b 6)) e)) ∙ first_none

-- a record that 1 to 4 let pass
pub record Shaped (b : List ℕ) : Type 0 where
  pub long : 40 ≤ length b
  pub stated : be_at 4 b 0 ≡ length b
  pub version : version_ok (header_at b) ≡ true
  pub header : header_ok (header_at b) ≡ true
  pub whole : length b ≡ length_of (version_at b) (byte_at b 6)

neither : (s t : Bool) → (s || not t) ≡ false → (s ≡ false) × (t ≡ true)
neither false t e = (refl, not-false t e)
neither true t e = let z : ◌≡◌ {A = ℕ} 0 1 = cc in absurd (omega arith)

pub shaped : (b : List ℕ) → first_no (shape_checks b) ≡ 0 → Shaped b
unfolding shape_checks wrong_length wrong_version wrong_count
shaped b e =
    let one = first_clear _ 1 _ (omega arith) e in
    let two = first_clear _ 2 _ (omega arith) one.1 in
    let three = first_clear _ 3 _ (omega arith) two.1 in
    let four = first_clear _ 4 _ (omega arith) three.1 in
    let lengths = neither (ltb (length b) 40) (eqb (be_at 4 b 0) (length b)) one.0 in
    record {
      long = ltb-false (length b) 40 lengths.0;
      stated = eqb-true (be_at 4 b 0) (length b) lengths.1;
      version = not-false (version_ok (header_at b)) two.0;
      header = not-false (header_ok (header_at b)) three.0;
      whole = eqb-true (length b) (length_of (version_at b) (byte_at b 6)) (not-false _ four.0);
    }

pub few : {b : List ℕ} → Shaped b → byte_at b 6 ≤ 63
unfolding header_at
few {b} s = (header_in (header_at b) s.header).sections.high

-- the tests of a record as it stands, in turn
pub ruleset tested = (number_at_exit, short, not_stated, other_header, other_count, well_formed)
