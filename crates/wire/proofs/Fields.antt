-- Big-endian fields at any width: how large one is, a field in a part, and that a field and its bytes are each other's inverse.
-- Assumes nothing.
use mathlib.Core.Path.{◌≡◌, refl, sym, ◌∙◌}
use mathlib.Core.List.{List, [], ◌∷◌, ◌++◌, append_assoc, append-nil}
use Prim.Native.Nat.{ℕ, zero, suc, ◌+◌, ◌*◌, ◌/◌, ◌%◌, ◌^◌, ◌≤◌, ◌<◌}
use native.Mathlib.Omega.{arith}
use native.Mathlib.Nat.{add-zero, add_assoc, div-lt_iff_lt-mul, pow-suc}
use lib.ListN.{length, drop, length-append, length-drop}
use lib.Seq.{take-suc, get_or-drop, get_or_at}
use Rattle.basis.specs.Part.{part}
use Rattle.basis.proofs.Part.{part_at}
use Rattle.wire.specs.Wire.{byte_at, be_at, bytes_of}

pub be_none : (l : List ℕ) (i : ℕ) → be_at zero l i ≡ 0
unfolding be_at
be_none l i = refl

pub be_more : (w : ℕ) (l : List ℕ) (i : ℕ) → be_at (suc w) l i ≡ be_at w l i * 256 + byte_at l (i + w)
unfolding be_at
be_more w l i = refl

pub bytes_none : (n : ℕ) → bytes_of zero n ≡ []
unfolding bytes_of
bytes_none n = refl

pub bytes_more : (w n : ℕ) → bytes_of (suc w) n ≡ bytes_of w (n / 256) ++ (n % 256 ∷ [])
unfolding bytes_of
bytes_more w n = refl

pub bytes_length : (w n : ℕ) → length (bytes_of w n) ≡ w
bytes_length zero n = rw (bytes_none n)
bytes_length (suc w) n =
    rw (bytes_more w n, length-append (bytes_of w (n / 256)) (n % 256 ∷ []), bytes_length w (n / 256)) (omega arith)

-- lists that agree on the field's bytes have the same field
pub be_same : (w : ℕ) (l m : List ℕ) (i j : ℕ) → ((k : ℕ) → k < w → byte_at l (i + k) ≡ byte_at m (j + k)) → be_at w l i ≡ be_at w m j
be_same zero l m i j h = be_none l i ∙ sym (be_none m j)
be_same (suc w) l m i j h =
    be_more w l i ∙ rw (be_same w l m i j (λ k b. h k (omega arith)), h w (omega arith)) (sym (be_more w m j))

-- a field of `w` bytes is below 256 ^ w
pub be_lt : (w : ℕ) (l : List ℕ) (i : ℕ) → ((k : ℕ) → byte_at l k < 256) → be_at w l i < 256 ^ w
be_lt zero l i byte = rw (be_none l i) (omega arith)
be_lt (suc w) l i byte =
    let high : be_at w l i < 256 ^ w = be_lt w l i byte in
    let low : byte_at l (i + w) < 256 = byte (i + w) in
    rw (be_more w l i, pow-suc 256 w) (omega arith)

-- a field of a part
pub be_part : (w : ℕ) (l : List ℕ) (i n k : ℕ) → k + w ≤ n → be_at w (part l i n) k ≡ be_at w l (i + k)
be_part w l i n k h =
    be_same w (part l i n) l k (i + k) (λ j b. part_at l i n (k + j) (omega arith) ∙ rw (add_assoc i k j))

-- a field that is written is read again
pub be_bytes : (w n : ℕ) (rest : List ℕ) → n < 256 ^ w → be_at w (bytes_of w n ++ rest) 0 ≡ n
be_bytes zero n rest h = be_none (bytes_of zero n ++ rest) 0 ∙ omega arith
be_bytes (suc w) n rest h =
    let high : List ℕ = bytes_of w (n / 256) in
    let less : n / 256 < 256 ^ w = (div-lt_iff_lt-mul {k = 256} {x = n} {y = 256 ^ w} (omega arith)).1 (rw (pow-suc 256 w) at h) in
    let e : 0 + w ≡ w = omega arith in
    rw (
      bytes_more w n,
      append_assoc high (n % 256 ∷ []) rest,
      be_more w (high ++ (n % 256 ∷ rest)) 0,
      be_bytes w (n / 256) (n % 256 ∷ rest) less,
      e,
      get_or_at high (n % 256) rest 0 w (bytes_length w (n / 256)),
    ) (omega arith)

-- a place whose bytes are those of n holds n
pub be_written : (w : ℕ) (l : List ℕ) (i n : ℕ) → n < 256 ^ w → part l i w ≡ bytes_of w n → be_at w l i ≡ n
be_written w l i n h e =
    let front : be_at w (part l i w) 0 ≡ be_at w l i = be_part w l i w 0 (omega arith) ∙ rw (add-zero i) in
    let whole : be_at w (bytes_of w n) 0 ≡ n = rw append-nil at (be_bytes w n [] h) in
    sym front ∙ rw e whole

-- the bytes of a field are those that were read
pub bytes_be : (w : ℕ) (l : List ℕ) (i : ℕ) → ((k : ℕ) → byte_at l k < 256) → i + w ≤ length l → bytes_of w (be_at w l i) ≡ part l i w
bytes_be zero l i byte h = bytes_none (be_at zero l i)
bytes_be (suc w) l i byte h =
    let b : byte_at l (i + w) < 256 = byte (i + w) in
    let high : (be_at w l i * 256 + byte_at l (i + w)) / 256 ≡ be_at w l i = omega arith in
    let low : (be_at w l i * 256 + byte_at l (i + w)) % 256 ≡ byte_at l (i + w) = omega arith in
    let more : w < length (drop i l) = rw (length-drop i l) (omega arith) in
    rw (
      be_more w l i,
      bytes_more w (be_at w l i * 256 + byte_at l (i + w)),
      high,
      low,
      bytes_be w l i byte (omega arith),
      take-suc (drop i l) w 0 more,
      get_or-drop i l w 0,
    )
