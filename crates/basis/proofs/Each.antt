-- Tests over 1 to n: that all hold, and that one holds.
-- Assumes nothing.
use mathlib.Core.Path.{◌≡◌, refl, sym, ap, ◌∙◌}
use mathlib.Core.Bool.{Bool, true, false, not, ◌&&◌, ◌||◌}
use mathlib.Core.Logic.{⊎_elim}
use Prim.Native.Nat.{ℕ, zero, suc, ◌+◌, ◌≤◌, ◌<◌}
use native.Mathlib.Nat.{eq-or-lt_of_le}
use native.Mathlib.Omega.{arith}
use borrow.Author.Tests.{not-false}
use Rattle.std.proofs.lemmas.Bool.{false_from_ne_true, cases_Bool}
use Rattle.basis.specs.Range.{all_to, any_to}
use Rattle.basis.proofs.Bools.{left, right, apart, same}

pub all_none : (f : ℕ → Bool) → all_to 0 f ≡ true
unfolding all_to
all_none f = refl

all_one : (n : ℕ) (f : ℕ → Bool) → all_to (suc n) f ≡ (all_to n f && f (suc n))
unfolding all_to
all_one n f = refl

pub all_more : (n m : ℕ) (f : ℕ → Bool) → m ≡ n + 1 → all_to n f ≡ true → f m ≡ true → all_to m f ≡ true
all_more n m f q a e =
    let p : m ≡ suc n = omega arith in
    let e' : f (suc n) ≡ true = rw p at e in
    rw (p, all_one n f, a, e')

pub all_at : (n : ℕ) (f : ℕ → Bool) → all_to n f ≡ true → (t : ℕ) → 0 < t → t ≤ n → f t ≡ true
all_at zero f a t h k = absurd (omega arith)
all_at (suc n) f a t h k =
    let b : (all_to n f && f (suc n)) ≡ true = sym (all_one n f) ∙ a in
    ⊎_elim (λ q. rw q (right (all_to n f) (f (suc n)) b)) (λ l. all_at n f (left (all_to n f) (f (suc n)) b) t h (omega arith))
    (eq-or-lt_of_le k)

pub all_each : (n : ℕ) (f : ℕ → Bool) → ((t : ℕ) → 0 < t → t ≤ n → f t ≡ true) → all_to n f ≡ true
all_each zero f e = all_none f
all_each (suc n) f e = all_more n (suc n) f (omega arith) (all_each n f (λ t h k. e t h (omega arith))) (e (suc n) (omega arith) (omega arith))

-- one that fails
pub all_false : (n t : ℕ) (f : ℕ → Bool) → 0 < t → t ≤ n → f t ≡ false → all_to n f ≡ false
all_false n t f h k e = false_from_ne_true (all_to n f) (λ a. apart (all_at n f a t h k) e)

pub all_ext : (n : ℕ) (f g : ℕ → Bool) → ((t : ℕ) → 0 < t → t ≤ n → f t ≡ g t) → all_to n f ≡ all_to n g
all_ext n f g e =
    same (all_to n f) (all_to n g)
    (λ a. all_each n g (λ t h k. sym (e t h k) ∙ all_at n f a t h k))
    (λ a. all_each n f (λ t h k. e t h k ∙ all_at n g a t h k))

-- one holds where not all fail
any_not : (n : ℕ) (f : ℕ → Bool) → any_to n f ≡ not (all_to n (λ t. not (f t)))
unfolding all_to any_to
any_not zero f = refl
any_not (suc n) f = rw (any_not n f) (or_not (all_to n (λ t. not (f t))) (f (suc n)))
  where
    or_not : (a b : Bool) → (not a || b) ≡ not (a && not b)
    or_not false b = refl
    or_not true false = refl
    or_not true true = refl

pub any_none : (f : ℕ → Bool) → any_to 0 f ≡ false
unfolding any_to
any_none f = refl

pub any_more : (n m : ℕ) (f : ℕ → Bool) → m ≡ n + 1 → any_to n f ≡ false → f m ≡ false → any_to m f ≡ false
any_more n m f q a e =
    rw (any_not m f, all_more n m (λ t. not (f t)) q (not-false (all_to n (λ t. not (f t))) (sym (any_not n f) ∙ a)) (ap not e))

-- one that holds
pub any_true : (n t : ℕ) (f : ℕ → Bool) → 0 < t → t ≤ n → f t ≡ true → any_to n f ≡ true
any_true n t f h k e = rw (any_not n f, all_false n t (λ u. not (f u)) h k (ap not e))

pub any_at : (n : ℕ) (f : ℕ → Bool) → any_to n f ≡ false → (t : ℕ) → 0 < t → t ≤ n → f t ≡ false
any_at n f a t h k = false_from_ne_true (f t) (λ e. apart (any_true n t f h k e) a)

pub any_each : (n : ℕ) (f : ℕ → Bool) → ((t : ℕ) → 0 < t → t ≤ n → f t ≡ false) → any_to n f ≡ false
any_each n f e = rw (any_not n f, all_each n (λ t. not (f t)) (λ t h k. ap not (e t h k)))

pub any_ext : (n : ℕ) (f g : ℕ → Bool) → ((t : ℕ) → 0 < t → t ≤ n → f t ≡ g t) → any_to n f ≡ any_to n g
any_ext n f g e = any_not n f ∙ rw (all_ext n (λ t. not (f t)) (λ t. not (g t)) (λ t h k. ap not (e t h k))) (sym (any_not n g))

-- a number from 1 to n for which the test holds
pub record Found (n : ℕ) (f : ℕ → Bool) : Type 0 where
  pub place : ℕ
  pub low : 0 < place
  pub high : place ≤ n
  pub holds : f place ≡ true

any_one : (n : ℕ) (f : ℕ → Bool) → any_to (suc n) f ≡ (any_to n f || f (suc n))
unfolding any_to
any_one n f = refl

pub any_found : (n : ℕ) (f : ℕ → Bool) → any_to n f ≡ true → Found n f
any_found zero f e = absurd (apart e (any_none f))
any_found (suc n) f e =
    ⊎_elim
    (λ t. record { place = suc n; low = omega arith; high = omega arith; holds = t })
    (λ t. let r : Found n f = any_found n f (first t) in
    record { place = r.place; low = r.low; high = omega (arith, r.high); holds = r.holds })
    (cases_Bool (f (suc n)))
  where
    or_false : (a : Bool) → (a || false) ≡ a
    or_false true = refl
    or_false false = refl

    first : f (suc n) ≡ false → any_to n f ≡ true
    first t = sym (or_false (any_to n f)) ∙ rw (← t) (sym (any_one n f) ∙ e)
