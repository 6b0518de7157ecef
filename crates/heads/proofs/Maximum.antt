-- The greatest of f 1 to f n: none is above it, one reaches it, and functions that agree have the same.
-- Assumes nothing.
use mathlib.Core.Path.{◌≡◌, refl, sym, ◌∙◌}
use mathlib.Core.Logic.{⊎_elim}
use Prim.Native.Nat.{ℕ, zero, suc, ◌≤◌, ◌<◌}
use native.Mathlib.Nat.{eq-or-lt_of_le}
use native.Mathlib.Omega.{arith}
use mathlib.Core.Bool.{true}
use lib.IntN.{ℤ}
use lib.Signed.{le_z}
use Rattle.std.proofs.lemmas.Bool.{cases_Bool}
use Rattle.heads.specs.Signed.{greater}
use Rattle.heads.specs.Heads.{greatest_to}
use Rattle.heads.proofs.Signed.{le_self, le_trans, le_total, greater_first, greater_second}

-- a number from 1 to n at which the greatest is reached
pub record Reached (n : ℕ) (f : ℕ → ℤ) : Type 0 where
  pub place : ℕ
  pub low : 0 < place
  pub high : place ≤ n
  pub reached : greatest_to n f ≡ f place

module _ (f : ℕ → ℤ) where
  pub greatest_more : (n : ℕ) → greatest_to (suc n) f ≡ greater (greatest_to n f) (f (suc n))
  unfolding greatest_to
  greatest_more n = refl

  pub greatest_one : greatest_to 1 f ≡ f 1
  unfolding greatest_to
  greatest_one = greater_first (f 1) (f 1) (le_self (f 1))

  pub greatest_bound : (n i : ℕ) → 0 < i → i ≤ n → le_z (f i) (greatest_to n f) ≡ true
  greatest_bound zero i h k = absurd (omega arith)
  greatest_bound (suc n) i h k =
      let a = greatest_to n f in
      let b = f (suc n) in
      rw (greatest_more n)
      (⊎_elim
      (λ t. rw (greater_second a b t)
      (⊎_elim (λ q. rw q (le_self b)) (λ l. le_trans (f i) a b (greatest_bound n i h (omega arith)) t) (eq-or-lt_of_le k)))
      (λ t. let u = le_total a b t in
      rw (greater_first a b u) (⊎_elim (λ q. rw q u) (λ l. greatest_bound n i h (omega arith)) (eq-or-lt_of_le k)))
      (cases_Bool (le_z a b)))

  pub greatest_reached : (n : ℕ) → 0 < n → Reached n f
  greatest_reached zero h = absurd (omega arith)
  greatest_reached (suc zero) h = record { place = 1; low = omega arith; high = omega arith; reached = greatest_one }
  greatest_reached (suc (suc n)) h =
      let a = greatest_to (suc n) f in
      let b = f (suc (suc n)) in
      let r : Reached (suc n) f = greatest_reached (suc n) (omega arith) in
      ⊎_elim
      (λ t. record {
        place = suc (suc n);
        low = omega arith;
        high = omega arith;
        reached = greatest_more (suc n) ∙ greater_second a b t;
      })
      (λ t. record {
        place = r.place;
        low = r.low;
        high = omega (arith, r.high);
        reached = greatest_more (suc n) ∙ greater_first a b (le_total a b t) ∙ r.reached;
      })
      (cases_Bool (le_z a b))

pub greatest_ext : (f g : ℕ → ℤ) (n : ℕ) → 0 < n → ((i : ℕ) → 0 < i → i ≤ n → f i ≡ g i) → greatest_to n f ≡ greatest_to n g
greatest_ext f g zero h e = absurd (omega arith)
greatest_ext f g (suc zero) h e = greatest_one f ∙ e 1 (omega arith) (omega arith) ∙ sym (greatest_one g)
greatest_ext f g (suc (suc n)) h e =
    rw (
      greatest_more f (suc n),
      greatest_more g (suc n),
      e (suc (suc n)) (omega arith) (omega arith),
      greatest_ext f g (suc n) (omega arith) (λ i a b. e i a (omega arith)),
    )
