-- The head's ranges as a record of bounds, from the test and back: version and service, and all that 3 looks at.
-- Assumes nothing.
use mathlib.Core.Path.{◌≡◌}
use mathlib.Core.Logic.{⊎_elim}
use mathlib.Core.Bool.{true, not}
use Prim.Native.Nat.{ℕ, ◌≤◌, ◌<◌}
use native.Mathlib.Omega.{arith}
use lib.Dec.{leb, eqb}
use borrow.Author.Tests.{leb-true, le-leb, eq-eqb, ne_eqb, eqb-true}
use Rattle.std.proofs.lemmas.Bool.{cases_eq}
use Rattle.basis.specs.Range.{within}
use Rattle.basis.proofs.Bools.{left, right}
use Rattle.basis.proofs.Within.{Within, within_in, in_within}
use Rattle.fields.specs.declared.Header.{Header}
use Rattle.rules.specs.Rules.{version_ok, service_ok, header_ok}

-- a version that 2 lets pass
pub version_in : (h : Header) → version_ok h ≡ true → Within 1 2 h.version
unfolding version_ok
version_in h e = within_in 1 2 h.version e

pub in_version : (h : Header) → Within 1 2 h.version → version_ok h ≡ true
unfolding version_ok
in_version h b = in_within 1 2 h.version b

-- the service is at most 2, and total with version 1
pub record ServiceIn (version service : ℕ) : Type 0 where
  pub most : service ≤ 2
  pub total : version ≡ 1 → service ≡ 0

pub service_in : (h : Header) → service_ok h ≡ true → ServiceIn h.version h.service
unfolding service_ok
service_in h e =
    ⊎_elim
    (λ (one : h.version ≡ 1).
    let zero : h.service ≡ 0 = eqb-true h.service 0 (rw (eq-eqb h.version 1 one) at e) in record { most = omega arith; total = λ v. zero })
    (λ (other : h.version ≡ 1 → ⊥).
    record { most = leb-true h.service 2 (rw (ne_eqb h.version 1 other) at e); total = λ v. absurd (other v) })
    (cases_eq h.version 1)

pub in_service : (h : Header) → ServiceIn h.version h.service → service_ok h ≡ true
unfolding service_ok
in_service h b =
    ⊎_elim
    (λ (one : h.version ≡ 1). rw (eq-eqb h.version 1 one, eq-eqb h.service 0 (b.total one)))
    (λ (other : h.version ≡ 1 → ⊥). rw (ne_eqb h.version 1 other, le-leb h.service 2 b.most))
    (cases_eq h.version 1)

-- cold and hot pass but with version 1
pub service_line : (h : Header) → 0 < h.service → h.service ≤ 2 → service_ok h ≡ not (eqb h.version 1)
unfolding service_ok
service_line h some most =
    ⊎_elim
    (λ (one : h.version ≡ 1). rw (eq-eqb h.version 1 one, ne_eqb h.service 0 (λ e. omega arith)))
    (λ (other : h.version ≡ 1 → ⊥). rw (ne_eqb h.version 1 other, le-leb h.service 2 most))
    (cases_eq h.version 1)

pub record HeaderIn (h : Header) : Type 0 where
  pub service : ServiceIn h.version h.service
  pub tenths : Within 2 3 h.tenths
  pub sections : Within 1 63 h.sections
  pub hours : Within 1 24 h.hours
  pub meter : h.meter ≤ 1000
  pub guaranteed : h.guaranteed ≤ 6000
  pub delivered : h.delivered ≤ 6000
  pub limit : Within 1 3000 h.limit

module _ (h : Header) where
  pub header_in : header_ok h ≡ true → HeaderIn h
  unfolding header_ok
  header_in e =
      let e₀ = right (service_ok h) _ e in
      let e₁ = right (within 2 3 h.tenths) _ e₀ in
      let e₂ = right (within 1 63 h.sections) _ e₁ in
      let e₃ = right (within 1 24 h.hours) _ e₂ in
      let e₄ = right (leb h.meter 1000) _ e₃ in
      let e₅ = right (leb h.guaranteed 6000) _ e₄ in
      record {
        service = service_in h (left _ _ e);
        tenths = within_in 2 3 h.tenths (left _ _ e₀);
        sections = within_in 1 63 h.sections (left _ _ e₁);
        hours = within_in 1 24 h.hours (left _ _ e₂);
        meter = leb-true h.meter 1000 (left _ _ e₃);
        guaranteed = leb-true h.guaranteed 6000 (left _ _ e₄);
        delivered = leb-true h.delivered 6000 (left _ _ e₅);
        limit = within_in 1 3000 h.limit (right (leb h.delivered 6000) _ e₅);
      }

  pub in_head : HeaderIn h → header_ok h ≡ true
  unfolding header_ok
  in_head b =
      rw (
        in_service h b.service,
        in_within 2 3 h.tenths b.tenths,
        in_within 1 63 h.sections b.sections,
        in_within 1 24 h.hours b.hours,
        le-leb h.meter 1000 b.meter,
        le-leb h.guaranteed 6000 b.guaranteed,
        le-leb h.delivered 6000 b.delivered,
        in_within 1 3000 h.limit b.limit,
      )
