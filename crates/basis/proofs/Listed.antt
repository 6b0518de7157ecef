-- A test of each element of a list, or of each number of a range, is a test of 1 to how many they are, also where the two are written
-- differently.
-- Assumes nothing.
use Rattle.std.proofs.Common.{◌≡◌, ℕ, zero, suc, ◌+◌, ◌≤◌, ◌<◌, Bool, List, take, length, get_or, sym, ap, ◌∙◌, refl, arith, add-one}
use Rattle.std.specs.List.{list_all, list_any, range_with_len}
use Rattle.std.proofs.Math.Seq.{take-length}
use Rattle.std.proofs.lemmas.List.Folds.{list_all_more, list_any_more}
use Rattle.std.proofs.lemmas.List.FromFn.{length-range_with_len, get_or-range_with_len}
use Rattle.basis.specs.Range.{all_to, any_to}

module _ {A : Type 0} (d : A) (test : A → Bool) (f : ℕ → Bool) (xs : List A) (same : (k : ℕ) → k < length xs → test (get_or xs k d) ≡ f (k + 1)) where
  at : (k : ℕ) → k < length xs → test (get_or xs k d) ≡ f (suc k)
  at k h = rw add-one at (same k h)

  first_all : (k : ℕ) → k ≤ length xs → list_all test (take k xs) ≡ all_to k f
  unfolding all_to
  first_all zero h = refl
  first_all (suc k) h =
      let more = rw add-one at (list_all_more test xs k d (omega arith)) in
      more ∙ rw (first_all k (omega arith), at k (omega arith)) refl

  first_any : (k : ℕ) → k ≤ length xs → list_any test (take k xs) ≡ any_to k f
  unfolding any_to
  first_any zero h = refl
  first_any (suc k) h =
      let more = rw add-one at (list_any_more test xs k d (omega arith)) in
      more ∙ rw (first_any k (omega arith), at k (omega arith)) refl

  pub listed_all : list_all test xs ≡ all_to (length xs) f
  listed_all = ap (list_all test) (sym (take-length xs)) ∙ first_all (length xs) (omega arith)

  pub listed_any : list_any test xs ≡ any_to (length xs) f
  listed_any = ap (list_any test) (sym (take-length xs)) ∙ first_any (length xs) (omega arith)

module _ (test f : ℕ → Bool) (a n : ℕ) (same : (k : ℕ) → k < n → test (a + k) ≡ f (k + 1)) where
  long : length (range_with_len a n) ≡ n
  long = length-range_with_len a n

  place : (k : ℕ) → k < length (range_with_len a n) → test (get_or (range_with_len a n) k 0) ≡ f (k + 1)
  place k h =
      let few : k < n = omega (arith, long) in
      ap test (get_or-range_with_len a n k 0 few) ∙ same k few

  pub range_all : list_all test (range_with_len a n) ≡ all_to n f
  range_all = rw long at (listed_all 0 test f (range_with_len a n) place)

  pub range_any : list_any test (range_with_len a n) ≡ any_to n f
  range_any = rw long at (listed_any 0 test f (range_with_len a n) place)
