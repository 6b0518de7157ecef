-- Parts of a list: what stands in one, one up to the end, its first element, two in a row, and those of two lists in a row.
-- Assumes nothing.
use mathlib.Core.Path.{◌≡◌, sym, ◌∙◌}
use mathlib.Core.List.{List, ◌∷◌, ◌++◌}
use Prim.Native.Nat.{ℕ, suc, ◌+◌, ◌-◌, ◌≤◌, ◌<◌}
use native.Mathlib.Omega.{arith}
use native.Mathlib.Numerals.{add-one}
use lib.ListN.{length, drop, get_or, length-take, length-drop, get_or-eq_default}
use lib.Seq.{take_all, take-add, drop-drop, drop-cons, take-length, take_at, drop-append-add, get_or-take, get_or-drop}
use mathlib.Core.Logic.{⊎_elim}
use Rattle.std.proofs.lemmas.Bool.{cases_lt}
use Rattle.basis.specs.Part.{part}

pub part_at : (l : List ℕ) (i n k : ℕ) → k < n → get_or (part l i n) k 0 ≡ get_or l (i + k) 0
part_at l i n k h = get_or-take n (drop i l) k 0 h ∙ get_or-drop i l k 0

pub part_length : (l : List ℕ) (i n : ℕ) → i + n ≤ length l → length (part l i n) ≡ n
part_length l i n h = rw (length-take n (drop i l), length-drop i l) (omega arith)

pub part_next : (l : List ℕ) (i n m : ℕ) → part l i n ++ part l (i + n) m ≡ part l i (n + m)
part_next l i n m = rw (← drop-drop n i l) (sym (take-add n m (drop i l)))

-- the same with the second place named
pub part_then : (l : List ℕ) (i n j m : ℕ) → j ≡ i + n → part l i n ++ part l j m ≡ part l i (n + m)
part_then l i n j m e = rw e (part_next l i n m)

pub part_cons : (l : List ℕ) (i n : ℕ) → i < length l → part l i (suc n) ≡ get_or l i 0 ∷ part l (i + 1) n
part_cons l i n h = rw (drop-cons l i 0 h, add-one i)

pub part_all : (l : List ℕ) → part l 0 (length l) ≡ l
part_all l = take-length l

-- what stands from a place to the end
pub part_end : (l : List ℕ) (i : ℕ) → part l i (length l - i) ≡ drop i l
part_end l i = take_all (length l - i) (drop i l) (rw (length-drop i l) (omega arith))

pub part_front : (x y : List ℕ) (n : ℕ) → length x ≡ n → part (x ++ y) 0 n ≡ x
part_front x y n e = take_at x y n e

pub part_right : (x y : List ℕ) (i n : ℕ) → part (x ++ y) (length x + i) n ≡ part y i n
part_right x y i n = rw (drop-append-add x y i)

-- a bound on every place of a list, past its end too, holds of a part
pub part_below : (l : List ℕ) (i n b : ℕ) → 0 < b → ((k : ℕ) → get_or l k 0 < b) → (k : ℕ) → get_or (part l i n) k 0 < b
part_below l i n b h all k =
    ⊎_elim
    (λ lt. rw (part_at l i n k lt) (all (i + k)))
    (λ (ge : n ≤ k). rw (get_or-eq_default (part l i n) 0 {n = k} (rw (length-take n (drop i l)) (omega arith))) h)
    (cases_lt k n)
