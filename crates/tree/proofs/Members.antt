-- A sum over the sections of a set, bit by bit from a section's own up.
-- Assumes nothing.
use mathlib.Core.Path.{◌≡◌, sym, ap, ◌∙◌}
use mathlib.Core.Logic.{⊎_elim}
use mathlib.Core.Bool.{Bool, true, false, cond}
use Prim.Native.Nat.{ℕ, zero, suc, ◌+◌, ◌-◌, ◌*◌, ◌^◌, ◌/◌, ◌%◌, ◌≤◌, ◌<◌}
use native.Mathlib.Omega.{arith}
use native.Mathlib.Nat.{mul-le-mul_right, add-mul-div_left, div-eq_of_lt}
use lib.Dec.{ltb}
use borrow.Author.Tests.{lt-ltb}
use Rattle.std.proofs.lemmas.Nat.{and_mask, and_le_r, leading_length}
use lib.Count.{count_leading_zeros}
use Rattle.std.specs.Int.Bits.{bit_and}
use lib.Pow.{pow_pos, pow-add, pow_mono}
use Rattle.std.proofs.lemmas.Bool.{cases_eq, cases_lt, cases_Bool}
use Rattle.basis.specs.Range.{sum_to}
use Rattle.basis.proofs.Sum.{sum_none, sum_more, sum_some, sum_pow, sum_at, sum_nothing}

-- a power of 2 added or not: what it does to its own bit, and to a lower one
own_bit : (x n : ℕ) → x < 2 ^ n → (t : Bool) → (x + cond t (2 ^ n) 0) / 2 ^ n % 2 ≡ cond t 1 0
own_bit x n h true =
    let e : 2 ^ n ≡ 2 ^ n * 1 = omega arith in
    let d : (x + 2 ^ n * 1) / 2 ^ n ≡ x / 2 ^ n + 1 = add-mul-div_left x 1 (pow_pos n) in
    let z : x / 2 ^ n ≡ 0 = div-eq_of_lt h in
    ap (λ p. (x + p) / 2 ^ n % 2) e ∙ rw (d, z)
own_bit x n h false = let e : x + 0 ≡ x = omega arith in rw (e, div-eq_of_lt h)

low_bit : (x n j : ℕ) → j ≤ n → (t : Bool) → (x + cond t (2 ^ suc n) 0) / 2 ^ j % 2 ≡ x / 2 ^ j % 2
low_bit x n j h true =
    let k : suc n ≡ j + (1 + (n - j)) = omega arith in
    rw (k, pow-add 2 j (1 + (n - j)), pow-add 2 1 (n - j), add-mul-div_left x (2 ^ 1 * 2 ^ (n - j)) (pow_pos j)) (omega arith)
low_bit x n j h false = let e : x + 0 ≡ x = omega arith in rw e

-- the set of those of n sections that b is true of
abbrev members : (ℕ → Bool) → ℕ → ℕ
members b n = sum_to n (λ k. cond (b k) (2 ^ k) 0)

module _ (b : ℕ → Bool) where
  members_top : (n : ℕ) → members b n < 2 ^ suc n
  members_top n = omega (arith, sum_some n b (λ k. 2 ^ k), sum_pow n)

  -- bit j; bit 0 stands for no section
  bit_at : (n j : ℕ) → j ≤ n → members b n / 2 ^ j % 2 ≡ cond (ltb 0 j) (cond (b j) 1 0) 0
  bit_at zero j h = let e : j ≡ 0 = omega arith in rw (e, sum_none (λ k. cond (b k) (2 ^ k) 0))
  bit_at (suc n) j h =
      rw (sum_more n (λ k. cond (b k) (2 ^ k) 0))
      (⊎_elim
      (λ e. rw (e, lt-ltb 0 (suc n) (omega arith)) (own_bit (members b n) (suc n) (members_top n) (b (suc n))))
      (λ ne. low_bit (members b n) n j (omega arith) (b (suc n)) ∙ bit_at n j (omega arith))
      (cases_eq j (suc n)))

sum_next : (f : ℕ → ℕ) (j : ℕ) → sum_to (j + 1 - 1) f ≡ sum_to (j - 1) f + cond (ltb 0 j) (f j) 0
sum_next f zero = omega arith
sum_next f (suc j) =
    let a : suc j + 1 - 1 ≡ suc j = omega arith in
    let c : suc j - 1 ≡ j = omega arith in
    rw (a, c, lt-ltb 0 (suc j) (omega arith)) (sum_more j f)

bit_times : (s t : Bool) (x : ℕ) → cond s (cond t 1 0) 0 * x ≡ cond s (cond t x 0) 0
bit_times true true x = omega arith
bit_times true false x = omega arith
bit_times false t x = omega arith

-- no terms past m
sum_short : (n m : ℕ) (f : ℕ → ℕ) → m ≤ n → ((k : ℕ) → m < k → k ≤ n → f k ≡ 0) → sum_to n f ≡ sum_to m f
sum_short zero m f h none = let e : m ≡ 0 = omega arith in rw e
sum_short (suc n) m f h none =
    ⊎_elim
    (λ e. rw e)
    (λ ne. sum_more n f ∙ rw (none (suc n) (omega arith) (omega arith), sum_short n m f (omega arith) (λ k p q. none k p (omega arith))) (omega arith))
    (cases_eq m (suc n))

-- how many places the bits of a set take up: the set has none from there on, and up to there are sections
pub places : (set : ℕ) → set < 2 ^ 64 → (set < 2 ^ (64 - count_leading_zeros 64 set)) × (2 ^ (64 - count_leading_zeros 64 set) ≤ 2 * set + 1)
places set h =
    let l = leading_length 64 set h in
    let e : 64 - count_leading_zeros 64 set ≡ l.0 = omega (arith, l.1) in rw e (l.2, l.3)

pub place_in : (n : ℕ) (b : ℕ → Bool) {set j e : ℕ} → set ≡ members b n → 2 ^ e ≤ 2 * set + 1 → j < e → j ≤ n
place_in n b {j = j} {e = e} is h lt =
    ⊎_elim
    (λ over. absurd (omega (arith, members_top b n, pow_mono {i = suc (suc n)} {j = e} (omega arith))))
    (λ le. le)
    (cases_lt n j)

-- the sum over the sections of a set that come before j
pub record Passed (n : ℕ) (b : ℕ → Bool) (f : ℕ → ℕ) (j sum : ℕ) : Type 0 where
  pub taken : sum ≡ sum_to (j - 1) (λ k. cond (b k) (f k) 0)
  pub within : j ≤ n + 1
  pub small : sum ≤ j * 65535

module _ {n : ℕ} {b : ℕ → Bool} {f : ℕ → ℕ} where
  pub passed_start : (i : ℕ) → i ≤ n + 1 → ((k : ℕ) → 0 < k → k < i → b k ≡ false) → Passed n b f i 0
  passed_start i h none =
      record { taken = sym (sum_nothing (i - 1) _ (λ k p q. rw (none k p (omega arith)))); within = h; small = omega arith }

  module _ {set j sum : ℕ} (w : Passed n b f j sum) (is : set ≡ members b n) where
    -- the section at place j, if the set has it
    pub passed_more : {x : ℕ} → j ≤ n → x ≡ f j → f j < 65536 → Passed n b f (j + 1) (sum + bit_and (set / 2 ^ j) 1 * x)
    passed_more h e s =
        let bit : bit_and (set / 2 ^ j) 1 ≡ cond (ltb 0 j) (cond (b j) 1 0) 0 = and_mask (set / 2 ^ j) 1 ∙ rw is (bit_at b n j h) in
        rw e
        (record {
          taken = rw (sum_next (λ k. cond (b k) (f k) 0) j, ← w.taken, bit, bit_times (ltb 0 j) (b j) (f j));
          within = omega arith;
          small = omega (arith, w.small, s, mul-le-mul_right (f j) (and_le_r (set / 2 ^ j) 1));
        })

    none : set < 2 ^ j → (k : ℕ) → 0 < k → j ≤ k → k ≤ n → cond (b k) (f k) 0 ≡ 0
    none h k a p q =
        ⊎_elim
        (λ t.
        let at : cond (b k) (2 ^ k) 0 ≤ members b n = sum_at n k (λ k. cond (b k) (2 ^ k) 0) a q in
        let has : 2 ^ k ≤ members b n = rw t at at in
        absurd (omega (arith, pow_mono {i = j} {j = k} p)))
        (λ e. rw e)
        (cases_Bool (b k))

    pub passed_end : {e : ℕ} → set < 2 ^ e → e ≤ j → sum ≡ sum_to n (λ k. cond (b k) (f k) 0)
    passed_end {e} h le =
        let all : set < 2 ^ j = omega (arith, pow_mono {i = e} {j = j} le) in
        w.taken ∙ sym (sum_short n (j - 1) _ (omega (arith, w.within)) (λ k p q. none all k (omega arith) (omega arith) q))
