-- Numbers of one width written one after another: with one more, and the whole row by the places of its numbers.
-- Assumes nothing.
use Rattle.std.proofs.Common.{◌≡◌, ℕ, zero, suc, ◌+◌, ◌-◌, ◌*◌, ◌≤◌, ◌<◌, List, [], ◌∷◌, ◌++◌, length, get_or, take, arith, sym, ap, ◌∙◌, append-nil, add-one}
use Rattle.std.proofs.Math.Nat.{mul-le-mul_left}
use Rattle.std.proofs.Math.Seq.{take-suc, take-length}
use Rattle.std.specs.List.{flat_map}
use Rattle.std.proofs.lemmas.Grind.{flat_map-append}
use Rattle.basis.specs.Range.{concat_to}
use Rattle.basis.specs.Stored.{stored}
use Rattle.basis.proofs.Concat.{concat_none, concat_more, concat_length}
use Rattle.basis.proofs.Stored.{stored_next}

module _ {A : Type 0} (f : A → List ℕ) (xs : List A) (d : A) where
  front_more : (n : ℕ) → n < length xs → flat_map f (take (suc n) xs) ≡ flat_map f (take n xs) ++ f (get_or xs n d)
  front_more n h = rw (take-suc xs n d h, flat_map-append f (take n xs) (get_or xs n d ∷ []), append-nil)

  front_concat : (n : ℕ) → n ≤ length xs → flat_map f (take n xs) ≡ concat_to n (λ i. f (get_or xs (i - 1) d))
  front_concat zero h = sym (concat_none _)
  front_concat (suc n) h =
      let e : suc n - 1 ≡ n = omega arith in
      front_more n h ∙ rw (front_concat n (omega arith), concat_more n (λ i. f (get_or xs (i - 1) d)), e)

  -- the row by the places of its numbers
  pub row_concat : flat_map f xs ≡ concat_to (length xs) (λ i. f (get_or xs (i - 1) d))
  row_concat = sym (ap (flat_map f) (take-length xs)) ∙ front_concat (length xs) (omega arith)

  -- one number more is written after those before it
  pub row_more : (w : ℕ) → ((x : A) → length (f x) ≡ w) → (l now : List ℕ) (from i : ℕ) → now ≡ stored l from (flat_map f (take i xs)) → d ≡ get_or xs i d →
      i < length xs → from + w * length xs ≤ length l → stored now (from + w * i) (f d) ≡ stored l from (flat_map f (take (i + 1) xs))
  row_more w wide l now from i run e h room =
      let long : length (flat_map f (take i xs)) ≡ w * i =
      ap length (front_concat i (omega arith)) ∙ concat_length w (λ i. f (get_or xs (i - 1) d)) (λ i. wide _) i in
      let less : w * i ≤ w * length xs = mul-le-mul_left w (omega arith) in
      rw (run, add-one, front_more i h, ← e) (stored_next l from (flat_map f (take i xs)) (from + w * i) (f d) (rw long) (omega arith))
