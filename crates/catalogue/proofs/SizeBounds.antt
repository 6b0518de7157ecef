-- The rules of a size as a record of bounds, from the test.
-- Assumes nothing.
use mathlib.Core.Path.{◌≡◌}
use mathlib.Core.Bool.{true, ◌||◌}
use mathlib.Core.List.{List}
use Prim.Native.Nat.{ℕ, ◌-◌, ◌≤◌, ◌<◌}
use native.Mathlib.Omega.{arith}
use lib.Dec.{leb, ltb, eqb}
use borrow.Author.Tests.{leb-true, ltb-true, ne_eqb}
use Rattle.basis.specs.Range.{within}
use Rattle.basis.proofs.Bools.{left, right}
use Rattle.basis.proofs.Within.{Within, within_in}
use Rattle.catalogue.specs.Layout.{rows_of, bore_of, price_of, part_of}
use Rattle.catalogue.specs.Rules.{rows_ok, size_ok}

-- the bore is over that of the size before
abbrev pub Over : List ℕ → ℕ → Type 0
Over cat s = 1 < s → bore_of cat (s - 1) < bore_of cat s

pub record SizeIn (cat : List ℕ) (s : ℕ) : Type 0 where
  pub bore : 1 ≤ bore_of cat s
  pub over : Over cat s
  pub price : Within 1 10000 (price_of cat s)
  pub rows : rows_ok (part_of cat s) (rows_of cat) ≡ true

module _ (cat : List ℕ) (s : ℕ) where
  over_in : (eqb s 1 || ltb (bore_of cat (s - 1)) (bore_of cat s)) ≡ true → Over cat s
  over_in e h = ltb-true (bore_of cat (s - 1)) (bore_of cat s) (rw (ne_eqb s 1 (λ q. omega arith)) at e)

  pub size_in : size_ok cat s ≡ true → SizeIn cat s
  unfolding size_ok
  size_in e =
      let e₁ = right (leb 1 (bore_of cat s)) _ e in
      let e₂ = right (eqb s 1 || ltb (bore_of cat (s - 1)) (bore_of cat s)) _ e₁ in
      record {
        bore = leb-true 1 (bore_of cat s) (left _ _ e);
        over = over_in (left _ _ e₁);
        price = within_in 1 10000 (price_of cat s) (left _ _ e₂);
        rows = right (within 1 10000 (price_of cat s)) _ e₂;
      }
