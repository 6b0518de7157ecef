-- What 10 looks at as a record of bounds, from the test.
-- Assumes nothing.
use mathlib.Core.Path.{◌≡◌}
use mathlib.Core.Bool.{true}
use mathlib.Core.List.{List}
use Prim.Native.Nat.{ℕ, ◌+◌, ◌*◌, ◌≤◌, ◌<◌}
use native.Mathlib.Nat.{mul-le-mul}
use native.Mathlib.Omega.{arith}
use lib.ListN.{length}
use lib.Dec.{leb, eqb}
use borrow.Author.Tests.{leb-true, eqb-true}
use Rattle.basis.specs.Range.{within}
use Rattle.basis.proofs.Bools.{left, right}
use Rattle.basis.proofs.Within.{Within, within_in}
use Rattle.wire.specs.Wire.{byte_at, be_at}
use Rattle.catalogue.specs.Layout.{sizes_of, rows_of, size_length}
use Rattle.catalogue.specs.Rules.{shape_ok}
use Rattle.catalogue.specs.Steps.{Sized}

pub record ShapeIn (cat : List ℕ) : Type 0 where
  pub long : 7 ≤ length cat
  pub version : byte_at cat 4 ≡ 1
  pub sizes : Within 1 12 (sizes_of cat)
  pub rows : Within 2 64 (rows_of cat)
  pub stated : be_at 4 cat 0 ≡ length cat
  pub whole : length cat ≡ 7 + sizes_of cat * size_length (rows_of cat)

module _ (cat : List ℕ) where
  pub shape_in : shape_ok cat ≡ true → ShapeIn cat
  unfolding shape_ok
  shape_in e =
      let e₁ = right (leb 7 (length cat)) _ e in
      let e₂ = right (eqb (byte_at cat 4) 1) _ e₁ in
      let e₃ = right (within 1 12 (sizes_of cat)) _ e₂ in
      let e₄ = right (within 2 64 (rows_of cat)) _ e₃ in
      record {
        long = leb-true 7 (length cat) (left _ _ e);
        version = eqb-true (byte_at cat 4) 1 (left _ _ e₁);
        sizes = within_in 1 12 (sizes_of cat) (left _ _ e₂);
        rows = within_in 2 64 (rows_of cat) (left _ _ e₃);
        stated = eqb-true (be_at 4 cat 0) (length cat) (left _ _ e₄);
        whole = eqb-true (length cat) _ (right (eqb (be_at 4 cat 0) (length cat)) _ e₄);
      }

-- each size of a catalogue of the right shape lies within it
pub shape_sized : {cat : List ℕ} {s : ℕ} → ShapeIn cat → 0 < s → s ≤ sizes_of cat → Sized cat s
shape_sized {cat} {s} b h k =
    let fit : s * size_length (rows_of cat) ≤ sizes_of cat * size_length (rows_of cat) = mul-le-mul {n₂ = sizes_of cat} {m₂ = size_length (rows_of cat)} k (omega arith) in
    record { low = h; high = omega (arith, b.sizes.high); rows = b.rows.high; fits = omega (arith, b.whole) }
