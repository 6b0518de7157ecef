-- Size s lies within the catalogue, and so does the size before it; its rows are a part of their length.
-- Assumes nothing.
use mathlib.Core.Path.{◌≡◌, ap, ◌∙◌}
use mathlib.Core.List.{List}
use Prim.Native.Nat.{ℕ, suc, ◌+◌, ◌-◌, ◌*◌, ◌≤◌, ◌<◌}
use native.Mathlib.Nat.{suc-mul}
use native.Mathlib.Omega.{arith}
use lib.ListN.{length}
use Rattle.basis.specs.Part.{part}
use Rattle.basis.proofs.Part.{part_length}
use Rattle.catalogue.specs.Layout.{rows_of, size_length, size_from, part_of}
use Rattle.catalogue.specs.Steps.{Sized}

next : (s m : ℕ) → 0 < s → s * m ≡ (s - 1) * m + m
next s m h =
    let e : s ≡ suc (s - 1) = omega arith in
    ap (λ (n : ℕ). n * m) e ∙ suc-mul (s - 1) m

module _ {cat : List ℕ} {s : ℕ} (z : Sized cat s) where
  pub sized_room : size_from cat s + size_length (rows_of cat) ≤ length cat
  sized_room = omega (arith, z.fits, next s (size_length (rows_of cat)) z.low)

  pub sized_before : 1 < s → Sized cat (s - 1)
  sized_before h = record { low = omega arith; high = omega (arith, z.high); rows = z.rows; fits = omega (arith, sized_room) }

  -- the part as the code hands it on, from 4 bytes after where the size begins
  pub part_handed : (a n : ℕ) → a ≡ size_from cat s → n ≡ rows_of cat → part cat (a + 4) (a + 4 + 8 * n - (a + 4)) ≡ part_of cat s
  unfolding part_of
  part_handed a n e r =
      let w : a + 4 + 8 * n - (a + 4) ≡ 8 * n = omega arith in
      rw (w, e, r)

  pub part_long : length (part_of cat s) ≡ 8 * rows_of cat
  unfolding part_of
  part_long = part_length cat (size_from cat s + 4) (8 * rows_of cat) (omega (arith, sized_room))
