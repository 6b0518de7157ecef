-- What std's conversions of numbers give, in the words of the definitions: the bytes of a number and the number in bytes, and two's
-- complement.
-- Assumes nothing.
use mathlib.Core.Path.{◌≡◌, refl}
use mathlib.Core.Logic.{⊎_elim}
use mathlib.Core.List.{List, [], ◌∷◌}
use Prim.Native.Nat.{ℕ, suc, ◌+◌, ◌/◌, ◌%◌, ◌^◌, ◌<◌}
use native.Mathlib.Omega.{arith}
use lib.IntN.{ℤ, pos, negsuc}
use borrow.Author.Tests.{lt-ltb, le-ltb}
use mir.Syntax.{Width, w8, w16, w32, w64, w128}
use mir.Val.{SFits, bits, hbits}
use Rattle.std.specs.Int.{to_be_bytes, from_be_bytes, cast_signed, cast_unsigned}
use Rattle.std.proofs.lemmas.Int.{of_z-to_z, to_z-of_z}
use Rattle.std.proofs.lemmas.Bool.{cases_lt}
use Rattle.wire.specs.Wire.{byte_at, be_at, bytes_of, signed_of, bits_of}
use Rattle.wire.proofs.Signed.{signed_low, signed_high}

pub to_be_two : (n : ℕ) → n < 2 ^ 16 → to_be_bytes w16 n ≡ bytes_of 2 n
unfolding bytes_of
to_be_two n h = refl

pub to_be_four : (n : ℕ) → n < 2 ^ 32 → to_be_bytes w32 n ≡ bytes_of 4 n
unfolding bytes_of
to_be_four n h =
    let third : n / 256 ^ 3 % 256 ≡ n / 256 / 256 / 256 % 256 = omega arith in
    let second : n / 256 ^ 2 % 256 ≡ n / 256 / 256 % 256 = omega arith in
    rw (third, second)

pub from_be_two : (l : List ℕ) (i : ℕ) → from_be_bytes w16 (byte_at l i ∷ byte_at l (i + 1) ∷ []) ≡ be_at 2 l i
unfolding be_at
from_be_two l i = let e : i + 0 ≡ i = omega arith in rw e (omega arith)

pub from_be_four : (l : List ℕ) (i : ℕ) → from_be_bytes w32 (byte_at l i ∷ byte_at l (i + 1) ∷ byte_at l (i + 2) ∷ byte_at l (i + 3) ∷ []) ≡ be_at 4 l i
unfolding be_at
from_be_four l i = let e : i + 0 ≡ i = omega arith in rw e (omega arith)

pub bits_is : (w : Width) (z : ℤ) → cast_unsigned w z ≡ bits_of (bits w) z
unfolding bits_of
bits_is w (pos n) = refl
bits_is w (negsuc n) = refl

-- the same of a number that has been to its bits and back, as the code holds one
pub bits_held : (w : Width) (z : ℤ) → SFits w z → cast_unsigned w (cast_signed w (cast_unsigned w z)) ≡ bits_of (bits w) z
bits_held w z fit = rw (to_z-of_z w z fit) (bits_is w z)

-- the width is one more than the bits below the highest
bits_half : (w : Width) → bits w ≡ suc (hbits w)
bits_half w8 = refl
bits_half w16 = refl
bits_half w32 = refl
bits_half w64 = refl
bits_half w128 = refl

pub signed_is : (w : Width) (n : ℕ) → n < 2 ^ bits w → cast_signed w n ≡ signed_of (bits w) n
signed_is w n h =
    ⊎_elim (λ lt. rw (lt-ltb n (2 ^ hbits w) lt, bits_half w, signed_low (hbits w) n lt))
    (λ ge. rw (le-ltb n (2 ^ hbits w) ge, bits_half w, signed_high (hbits w) n ge (rw (bits_half w) at h))) (cases_lt n (2 ^ hbits w))

pub signed_held : (w : Width) (n : ℕ) (z : ℤ) → n < 2 ^ bits w → z ≡ cast_signed w n →
    cast_signed w (cast_unsigned w z) ≡ signed_of (bits w) n
signed_held w n z h e = rw (e, of_z-to_z w n h) (signed_is w n h)
