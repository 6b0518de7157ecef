-- A run written over a list: its length, the run after it, a run inside it, a single element, and what stands at each place.
-- Assumes nothing.
use mathlib.Core.Path.{◌≡◌, sym, ap, ◌∙◌}
use mathlib.Core.List.{List, [], ◌∷◌, ◌++◌, append_assoc}
use Prim.Native.Nat.{ℕ, ◌+◌, ◌-◌, ◌≤◌, ◌<◌}
use native.Mathlib.Omega.{arith}
use native.Mathlib.Numerals.{add-one}
use native.Mathlib.Nat.{add-zero}
use lib.ListN.{length, take, drop, get_or, set, length-append, take-append-drop, get_or-append}
use lib.Seq.{length-take-le, take_at, take-append-le, take-append-add, drop-append-le, drop-append-add, drop-drop, set_split, get_or-take, get_or-drop, get_or-append-add, length-sets, sets-eq}
use Rattle.basis.specs.Stored.{stored}

-- the list as what stands before the end of the run, and what stands after it
stored_split : (l : List ℕ) (i : ℕ) (x : List ℕ) → stored l i x ≡ (take i l ++ x) ++ drop (i + length x) l
unfolding stored
stored_split l i x = sym (append_assoc (take i l) x (drop (i + length x) l))

front_length : (l : List ℕ) (i : ℕ) (x : List ℕ) → i ≤ length l → length (take i l ++ x) ≡ i + length x
front_length l i x h = rw (length-append (take i l) x, length-take-le i l h)

pub stored_length : (l : List ℕ) (i : ℕ) (x : List ℕ) → i + length x ≤ length l → length (stored l i x) ≡ length l
stored_length l i x h = rw (stored_split l i x, ← sets-eq x l i h) (length-sets l i x)

pub stored_none : (l : List ℕ) (i : ℕ) → stored l i [] ≡ l
unfolding stored
stored_none l i = rw (add-zero i) (take-append-drop i l)

pub stored_front : (l x : List ℕ) → stored l 0 x ≡ x ++ drop (length x) l
unfolding stored
stored_front l x = let e : 0 + length x ≡ length x = omega arith in rw e

-- two runs, one after the other, are one
pub stored_next : (l : List ℕ) (i : ℕ) (x : List ℕ) (j : ℕ) (y : List ℕ) → j ≡ i + length x → j ≤ length l →
    stored (stored l i x) j y ≡ stored l i (x ++ y)
unfolding stored
stored_next l i x j y e h =
    let p : List ℕ = take i l ++ x in
    let w : length p ≡ i + length x = front_length l i x (omega arith) in
    let w' : length p ≡ j = w ∙ sym e in
    let whole : take i l ++ (x ++ drop (i + length x) l) ≡ p ++ drop (i + length x) l = stored_split l i x in
    let after : j + length y ≡ length p + length y = rw w' in
    let sum : (i + length x) + length y ≡ i + length (x ++ y) = rw (length-append x y) (omega arith) in
    let rest : drop (j + length y) (p ++ drop (i + length x) l) ≡ drop (i + length (x ++ y)) l =
    rw (after, drop-append-add p (drop (i + length x) l) (length y), drop-drop (length y) (i + length x) l, sum) in
    rw (whole, take_at p (drop (i + length x) l) j w', rest)
    (append_assoc (take i l) x (y ++ drop (i + length (x ++ y)) l) ∙ rw (append_assoc x y (drop (i + length (x ++ y)) l)))

-- a run written inside another
pub stored_inside : (l : List ℕ) (i : ℕ) (b : List ℕ) (j : ℕ) (x : List ℕ) → i ≤ length l → j + length x ≤ length b →
    stored (stored l i b) (i + j) x ≡ stored l i (stored b j x)
unfolding stored
stored_inside l i b j x h k =
    let rest : List ℕ = drop (i + length b) l in
    let w : length (take i l) ≡ i = length-take-le i l h in
    let at : i + j ≡ length (take i l) + j = rw w in
    let past : i + j + length x ≡ length (take i l) + (j + length x) = rw w (omega arith) in
    let before : take (i + j) (take i l ++ (b ++ rest)) ≡ take i l ++ take j b =
    rw (at, take-append-add (take i l) (b ++ rest) j, take-append-le j b rest (omega arith)) in
    let after : drop (i + j + length x) (take i l ++ (b ++ rest)) ≡ drop (j + length x) b ++ rest =
    rw (past, drop-append-add (take i l) (b ++ rest) (j + length x), drop-append-le (j + length x) b rest k) in
    rw (before, after, stored_length b j x k)
    (append_assoc (take i l) (take j b) (x ++ (drop (j + length x) b ++ rest)) ∙
    rw (append_assoc (take j b) (x ++ drop (j + length x) b) rest, append_assoc x (drop (j + length x) b) rest))

pub stored_one : (l : List ℕ) (i a : ℕ) → i < length l → set l i a ≡ stored l i (a ∷ [])
unfolding stored
stored_one l i a h = set_split l i a h ∙ rw (add-one i)

-- one element more at the end of a run
pub stored_set : (l : List ℕ) (i : ℕ) (x : List ℕ) (j a : ℕ) → j ≡ i + length x → j < length l →
    set (stored l i x) j a ≡ stored l i (x ++ (a ∷ []))
stored_set l i x j a e h =
    let w : j < length (stored l i x) = rw (stored_length l i x (omega arith)) h in
    stored_one (stored l i x) j a w ∙ stored_next l i x j (a ∷ []) e (omega arith)

-- in the run, before it and after it
pub stored_in : (l : List ℕ) (i : ℕ) (x : List ℕ) (k : ℕ) → i ≤ length l → k < length x → get_or (stored l i x) (i + k) 0 ≡ get_or x k 0
unfolding stored
stored_in l i x k h b =
    let e : i + k ≡ length (take i l) + k = rw (length-take-le i l h) in
    rw (e, get_or-append-add (take i l) (x ++ drop (i + length x) l) k 0) (get_or-append x (drop (i + length x) l) 0 k b)

pub stored_before : (l : List ℕ) (i : ℕ) (x : List ℕ) (j : ℕ) → i ≤ length l → j < i → get_or (stored l i x) j 0 ≡ get_or l j 0
unfolding stored
stored_before l i x j h b =
    let w : j < length (take i l) = rw (length-take-le i l h) b in
    get_or-append (take i l) (x ++ drop (i + length x) l) 0 j w ∙ get_or-take i l j 0 b

pub stored_after : (l : List ℕ) (i : ℕ) (x : List ℕ) (j : ℕ) → i ≤ length l → i + length x ≤ j → get_or (stored l i x) j 0 ≡ get_or l j 0
stored_after l i x j h b =
    let e : j ≡ length (take i l ++ x) + (j - (i + length x)) = rw (front_length l i x h) (omega arith) in
    let f : (i + length x) + (j - (i + length x)) ≡ j = omega arith in
    rw (stored_split l i x)
    (ap (λ (k : ℕ). get_or ((take i l ++ x) ++ drop (i + length x) l) k 0) e ∙
    get_or-append-add (take i l ++ x) (drop (i + length x) l) (j - (i + length x)) 0 ∙
    get_or-drop (i + length x) l (j - (i + length x)) 0 ∙ rw f)
