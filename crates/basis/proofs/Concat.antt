-- Lists of one width, one after another: the whole length, and what stands in each.
-- Assumes nothing.
use mathlib.Core.Path.{◌≡◌, refl, sym, ◌∙◌}
use mathlib.Core.Logic.{⊎_elim}
use mathlib.Core.List.{List, [], ◌++◌, append_assoc}
use Prim.Native.Nat.{ℕ, zero, suc, ◌+◌, ◌-◌, ◌*◌, ◌≤◌, ◌<◌}
use native.Mathlib.Omega.{arith}
use native.Mathlib.Nat.{mul-zero, mul-suc}
use lib.ListN.{length, length-append}
use Rattle.std.proofs.lemmas.Bool.{cases_lt}
use Rattle.basis.specs.Range.{concat_to}
use Rattle.basis.specs.Part.{part}
use Rattle.basis.specs.Stored.{stored}
use Rattle.basis.proofs.Stored.{stored_next}
use Rattle.basis.proofs.Part.{part_right, part_front, part_next}

pub concat_none : (f : ℕ → List ℕ) → concat_to 0 f ≡ []
unfolding concat_to
concat_none f = refl

pub concat_more : (n : ℕ) (f : ℕ → List ℕ) → concat_to (suc n) f ≡ concat_to n f ++ f (suc n)
unfolding concat_to
concat_more n f = refl

pub concat_ext : (n : ℕ) (f g : ℕ → List ℕ) → ((i : ℕ) → 0 < i → i ≤ n → f i ≡ g i) → concat_to n f ≡ concat_to n g
concat_ext zero f g h = concat_none f ∙ sym (concat_none g)
concat_ext (suc n) f g h =
    concat_more n f ∙ rw (concat_ext n f g (λ i a b. h i a (omega arith)), h (suc n) (omega arith) (omega arith)) (sym (concat_more n g))

module _ (w : ℕ) (f : ℕ → List ℕ) (wide : (i : ℕ) → length (f i) ≡ w) where
  pub concat_length : (n : ℕ) → length (concat_to n f) ≡ w * n
  concat_length zero = rw (concat_none f, mul-zero w)
  concat_length (suc n) =
      rw (concat_more n f, length-append (concat_to n f) (f (suc n)), concat_length n, wide (suc n), mul-suc w n)

  -- the i-th list
  pub concat_part : (n i : ℕ) (rest : List ℕ) → 0 < i → i ≤ n → part (concat_to n f ++ rest) (w * (i - 1)) w ≡ f i
  concat_part zero i rest a b = absurd (omega arith)
  concat_part (suc n) i rest a b =
      rw (concat_more n f, append_assoc (concat_to n f) (f (suc n)) rest)
      (⊎_elim
      (λ lt. concat_part n i (f (suc n) ++ rest) a (omega arith))
      (λ (ge : suc n ≤ i). let e : i - 1 ≡ n = omega arith in
      let last : suc n ≡ i = omega arith in
      let at : w * n ≡ length (concat_to n f) + 0 = rw (concat_length n) (omega arith) in
      rw (e, at, part_right (concat_to n f) (f (suc n) ++ rest) 0 w, last) (part_front (f i) rest w (wide i)))
      (cases_lt i (suc n)))

  -- and where the row stands in the middle
  pub concat_within : (n i : ℕ) (before rest : List ℕ) (base : ℕ) → length before ≡ base → 0 < i → i ≤ n →
      part (before ++ (concat_to n f ++ rest)) (base + w * (i - 1)) w ≡ f i
  concat_within n i before rest base e a b =
      rw (← e) (part_right before (concat_to n f ++ rest) (w * (i - 1)) w ∙ concat_part n i rest a b)

  -- the i-th list written after those before it
  pub concat_stored : (l : List ℕ) (base i : ℕ) → 0 < i → base + w * i ≤ length l →
      stored (stored l base (concat_to (i - 1) f)) (base + w * (i - 1)) (f i) ≡ stored l base (concat_to i f)
  concat_stored l base zero a h = absurd (omega arith)
  concat_stored l base (suc n) a h =
      let e : suc n - 1 ≡ n = omega arith in
      let m : w * suc n ≡ w * n + w = mul-suc w n in
      let long : base + w * n ≡ base + length (concat_to n f) = rw (concat_length n) in
      rw (e, stored_next l base (concat_to n f) (base + w * n) (f (suc n)) long (omega arith), concat_more n f)

-- parts of one width in a row are one part
pub parts_concat : (l : List ℕ) (base w n : ℕ) → concat_to n (λ i. part l (base + w * (i - 1)) w) ≡ part l base (w * n)
parts_concat l base w zero = concat_none _ ∙ rw (mul-zero w)
parts_concat l base w (suc n) =
    let e : suc n - 1 ≡ n = omega arith in
    concat_more n (λ i. part l (base + w * (i - 1)) w) ∙
    rw (parts_concat l base w n, e, part_next l base (w * n) w, mul-suc w n)
