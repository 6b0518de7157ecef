-- Two's complement at any width: which constructor a difference is, what fits, and the two directions' inverse laws.
-- Assumes nothing.
use mathlib.Core.Path.{◌≡◌, ◌∙◌}
use mathlib.Core.Logic.{⊎_elim}
use Prim.Native.Nat.{ℕ, zero, suc, ◌-◌, ◌*◌, ◌^◌, ◌≤◌, ◌<◌}
use native.Mathlib.Nat.{pow-suc}
use native.Mathlib.Omega.{arith}
use lib.IntN.{ℤ, pos, negsuc, ◌-ℤ◌}
use lib.Signed.{mag}
use borrow.Author.Tests.{lt-ltb, le-ltb}
use Rattle.std.proofs.lemmas.Bool.{cases_lt}
use Rattle.wire.specs.Wire.{signed_of, bits_of}

sub_neg : (a b : ℕ) → a < b → pos a -ℤ pos b ≡ negsuc (b - suc a)
sub_neg a zero h = absurd (omega arith)
sub_neg a (suc b) h = rw (lt-ltb a (suc b) h)

-- over a width of one bit more than h
module _ (h : ℕ) where
  twice : 2 ^ suc h ≡ 2 ^ h * 2
  twice = pow-suc 2 h

  less : suc h - 1 ≡ h
  less = omega arith

  -- where the highest bit is not set, and where it is
  pub signed_low : (n : ℕ) → n < 2 ^ h → signed_of (suc h) n ≡ pos n
  unfolding signed_of
  signed_low n l = rw (less, lt-ltb n (2 ^ h) l)

  pub signed_high : (n : ℕ) → 2 ^ h ≤ n → n < 2 ^ suc h → signed_of (suc h) n ≡ negsuc (2 ^ suc h - suc n)
  unfolding signed_of
  signed_high n l k = rw (less, le-ltb n (2 ^ h) l) (sub_neg n (2 ^ suc h) k)

  pub bits_signed : (n : ℕ) → n < 2 ^ suc h → bits_of (suc h) (signed_of (suc h) n) ≡ n
  unfolding bits_of
  bits_signed n l =
      ⊎_elim (λ lt. rw (signed_low n lt)) (λ ge. rw (signed_high n ge l) (omega arith)) (cases_lt n (2 ^ h))

  pub signed_bits : (z : ℤ) → mag z < 2 ^ h → signed_of (suc h) (bits_of (suc h) z) ≡ z
  unfolding bits_of
  signed_bits (pos n) l = signed_low n l
  signed_bits (negsuc n) l =
      let e : 2 ^ suc h - suc (2 ^ suc h - suc n) ≡ n = omega (arith, twice) in
      signed_high (2 ^ suc h - suc n) (omega (arith, twice)) (omega (arith, twice)) ∙ rw e

  pub bits_lt : (z : ℤ) → mag z < 2 ^ h → bits_of (suc h) z < 2 ^ suc h
  unfolding bits_of
  bits_lt (pos n) l = omega (arith, twice)
  bits_lt (negsuc n) l = omega (arith, twice)
