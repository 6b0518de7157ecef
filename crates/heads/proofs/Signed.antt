-- Signed numbers: the order's laws, the greater of two, the size of a sum and a number that is not below 0.
-- Assumes nothing.
use mathlib.Core.Path.{◌≡◌, ap}
use mathlib.Core.Bool.{true, false}
use Prim.Native.Nat.{ℕ, zero, suc, ◌+◌, ◌<◌}
use native.Mathlib.Omega.{arith}
use lib.IntN.{ℤ, pos, negsuc, nat_abs, ◌+ℤ◌, ◌-ℤ◌}
use lib.Signed.{mag, lt_z, le_z}
use borrow.Author.Tests.{lt-ltb}
use Rattle.std.specs.Int.{int_max}
use Rattle.std.proofs.lemmas.Int.{ints}
use Rattle.heads.specs.Signed.{greater, clamped}

pub le_self : (a : ℤ) → le_z a a ≡ true
le_self a = grind (arith, ints)

pub le_trans : (a b c : ℤ) → le_z a b ≡ true → le_z b c ≡ true → le_z a c ≡ true
le_trans a b c h k = grind (arith, ints)

-- what a test by < says, by ≤
pub less_not : (a b : ℤ) → lt_z a b ≡ true → le_z b a ≡ false
less_not a b e = grind (arith, ints)

pub not_less : (a b : ℤ) → lt_z a b ≡ false → le_z b a ≡ true
not_less a b e = grind (arith, ints)

-- one of two orders
pub le_total : (a b : ℤ) → le_z a b ≡ false → le_z b a ≡ true
le_total a b e = grind (arith, ints)

pub le_both : (a b : ℤ) → le_z a b ≡ true → le_z b a ≡ true → a ≡ b
le_both a b h k = grind (arith, ints)

module _ (a b : ℤ) where
  pub greater_second : le_z a b ≡ true → greater a b ≡ b
  unfolding greater
  greater_second e = rw e

  pub greater_first : le_z b a ≡ true → greater a b ≡ a
  unfolding greater
  greater_first e = grind (arith, ints)

pub add_mag : (a b : ℤ) (k : ℕ) → mag a + mag b + 1 < k → mag (a +ℤ b) < k
add_mag a b k h = grind (arith, ints)

pub less_mag : (z : ℤ) (n k : ℕ) → mag z + n + 1 < k → mag (z -ℤ pos n) < k
less_mag z n k h = grind (arith, ints)

-- the greater of a number and 0 is the number, or 0 if less
pub clamped_max : (z m : ℤ) → m ≡ int_max z (pos 0) → nat_abs m ≡ clamped z
unfolding clamped
clamped_max (pos zero) m e = ap nat_abs e
clamped_max (pos (suc n)) m e = rw (e, lt-ltb 0 (suc n) (omega arith))
clamped_max (negsuc n) m e = ap nat_abs e
