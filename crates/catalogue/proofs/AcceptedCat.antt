-- What holds of a catalogue that 10 and 11 let pass, and that these are two numbered checks.
-- Assumes nothing.
use mathlib.Core.Path.{◌≡◌}
use mathlib.Core.List.{List}
use Prim.{tt}
use Prim.Native.Nat.{ℕ, ◌≤◌, ◌<◌}
use native.Mathlib.Omega.{arith}
use borrow.Author.Tests.{not-false}
use Rattle.basis.proofs.Each.{all_at}
use Rattle.basis.proofs.Within.{Within}
use Rattle.answer.proofs.First.{Numbered, first_clear}
use Rattle.catalogue.specs.Layout.{sizes_of, rows_of, price_of, part_of}
use Rattle.catalogue.specs.Rules.{shape_ok, size_ok, sizes_ok, cat_checks, cat_no}
use Rattle.catalogue.specs.Steps.{Sized, Rows, AcceptedCat}
use Rattle.catalogue.proofs.Places.{part_long}
use Rattle.catalogue.proofs.ShapeBounds.{ShapeIn, shape_in, shape_sized}
use Rattle.catalogue.proofs.SizeBounds.{SizeIn, size_in}

pub cat_numbered : (cat : List ℕ) → Numbered (cat_checks cat)
unfolding cat_checks
cat_numbered cat = (omega arith, (omega arith, tt))

pub cat_of : (cat : List ℕ) → cat_no cat ≡ 0 → AcceptedCat cat
unfolding cat_no cat_checks
cat_of cat e =
    let ten = first_clear _ 10 _ (omega arith) e in
    let eleven = first_clear _ 11 _ (omega arith) ten.1 in
    record { shape = not-false (shape_ok cat) ten.0; sizes = not-false (sizes_ok cat) eleven.0 }

module _ {cat : List ℕ} (l : AcceptedCat cat) where
  cat_shape : ShapeIn cat
  cat_shape = shape_in cat l.shape

  pub cat_counts : Within 1 12 (sizes_of cat) × Within 2 64 (rows_of cat)
  cat_counts = (cat_shape.sizes, cat_shape.rows)

  module _ (s : ℕ) (low : 0 < s) (high : s ≤ sizes_of cat) where
    pub cat_sized : Sized cat s
    cat_sized = shape_sized cat_shape low high

    pub cat_size : SizeIn cat s
    unfolding sizes_ok
    cat_size = size_in cat s (all_at (sizes_of cat) (λ t. size_ok cat t) l.sizes s low high)

    pub cat_price : Within 1 10000 (price_of cat s)
    cat_price = cat_size.price

    pub cat_rows : Rows (part_of cat s) (rows_of cat)
    cat_rows =
        record {
          low = cat_shape.rows.low;
          high = cat_shape.rows.high;
          long = part_long cat_sized;
          rules = cat_size.rows;
        }
