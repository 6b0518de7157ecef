-- The rules of a section's own fields as a record of bounds, from the test and back.
-- Assumes nothing.
use mathlib.Core.Path.{◌≡◌, sym, ◌∙◌}
use mathlib.Core.Bool.{true, ◌&&◌}
use mathlib.Core.Logic.{⊎_elim}
use Prim.Native.Nat.{ℕ, ◌≤◌, ◌<◌}
use native.Mathlib.Omega.{arith}
use lib.Dec.{leb, ltb, eqb}
use borrow.Author.Tests.{leb-true, le-leb, ltb-true, lt-ltb, eqb-true, eq-eqb, ne_eqb}
use Rattle.std.proofs.lemmas.Bool.{cases_eq}
use Rattle.basis.specs.Range.{within}
use Rattle.basis.proofs.Bools.{left, right}
use Rattle.basis.proofs.Within.{Within, within_in, in_within}
use Rattle.fields.specs.declared.Section.{Section}
use Rattle.rules.specs.Rules.{kind_ok, elevation_ok, section_ok}

pub record KindIn (s : Section) : Type 0 where
  pub twelve : s.kind ≤ 12
  pub bare : s.kind ≡ 0 → (s.fixtures ≡ 0) × (s.free ≡ 0)
  pub fitted : 0 < s.kind → 1 ≤ s.fixtures

pub record SectionIn (i : ℕ) (s : Section) : Type 0 where
  pub parent : s.parent < i
  pub kinds : KindIn s
  pub decimetres : Within 1 5000 s.decimetres
  pub elevation : elevation_ok s.elevation ≡ true
  pub free : s.free ≤ 1000

module _ (s : Section) where
  pub kind_bare : s.kind ≡ 0 → kind_ok s ≡ (eqb s.fixtures 0 && eqb s.free 0)
  unfolding kind_ok
  kind_bare z = rw (eq-eqb s.kind 0 z)

  pub kind_fitted : (s.kind ≡ 0 → ⊥) → kind_ok s ≡ (leb s.kind 12 && leb 1 s.fixtures)
  unfolding kind_ok
  kind_fitted n = rw (ne_eqb s.kind 0 n)

  pub kind_in : kind_ok s ≡ true → KindIn s
  kind_in e =
      ⊎_elim
      (λ z.
      let b = sym (kind_bare z) ∙ e in
      let f = eqb-true s.fixtures 0 (left _ _ b) in
      let g = eqb-true s.free 0 (right (eqb s.fixtures 0) _ b) in
      record { twelve = omega arith; bare = λ _. (f, g); fitted = λ p. absurd (omega arith) })
      (λ n.
      let b = sym (kind_fitted n) ∙ e in
      let t = leb-true s.kind 12 (left _ _ b) in
      record { twelve = t; bare = λ z. absurd (n z); fitted = λ _. leb-true 1 s.fixtures (right (leb s.kind 12) _ b) })
      (cases_eq s.kind 0)

  pub in_kind : KindIn s → kind_ok s ≡ true
  in_kind k =
      ⊎_elim (λ z. kind_bare z ∙ rw (eq-eqb s.fixtures 0 (k.bare z).0, eq-eqb s.free 0 (k.bare z).1))
      (λ n. kind_fitted n ∙ rw (le-leb s.kind 12 k.twelve, le-leb 1 s.fixtures (k.fitted (omega arith)))) (cases_eq s.kind 0)

module _ (i : ℕ) (s : Section) where
  pub section_in : section_ok i s ≡ true → SectionIn i s
  unfolding section_ok
  section_in e =
      let e₁ = right (ltb s.parent i) _ e in
      let e₂ = right (kind_ok s) _ e₁ in
      let e₃ = right (within 1 5000 s.decimetres) _ e₂ in
      record {
        parent = ltb-true s.parent i (left _ _ e);
        kinds = kind_in s (left _ _ e₁);
        decimetres = within_in 1 5000 s.decimetres (left _ _ e₂);
        elevation = left _ _ e₃;
        free = leb-true s.free 1000 (right (elevation_ok s.elevation) _ e₃);
      }

  pub in_section : SectionIn i s → section_ok i s ≡ true
  unfolding section_ok
  in_section b =
      rw (
        lt-ltb s.parent i b.parent,
        in_kind s b.kinds,
        in_within 1 5000 s.decimetres b.decimetres,
        b.elevation,
        le-leb s.free 1000 b.free,
      )
