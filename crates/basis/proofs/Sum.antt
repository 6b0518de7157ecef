-- Laws of the sums over the whole numbers from 1 to n.
-- Assumes nothing.
use mathlib.Core.Path.{◌≡◌, refl, sym, ◌∙◌}
use mathlib.Core.Logic.{⊎_elim}
use mathlib.Core.Bool.{Bool, true, false, cond}
use Prim.Native.Nat.{ℕ, zero, suc, ◌+◌, ◌*◌, ◌^◌, ◌≤◌, ◌<◌}
use native.Mathlib.Omega.{arith}
use native.Mathlib.Nat.{suc-mul, mul-add}
use lib.Dec.{eqb}
use lib.Pow.{pow_pos, pow-add}
use borrow.Author.Tests.{eq-eqb, ne_eqb}
use Rattle.std.proofs.lemmas.Bool.{cases_eq}
use Rattle.basis.specs.Range.{sum_to}

-- the definition's clauses
pub sum_none : (f : ℕ → ℕ) → sum_to 0 f ≡ 0
unfolding sum_to
sum_none f = refl

pub sum_more : (n : ℕ) (f : ℕ → ℕ) → sum_to (suc n) f ≡ sum_to n f + f (suc n)
unfolding sum_to
sum_more n f = refl

pub sum_ext : (n : ℕ) (f g : ℕ → ℕ) → ((j : ℕ) → 0 < j → j ≤ n → f j ≡ g j) → sum_to n f ≡ sum_to n g
sum_ext zero f g h = sum_none f ∙ sym (sum_none g)
sum_ext (suc n) f g h =
    sum_more n f ∙ rw (h (suc n) (omega arith) (omega arith), sum_ext n f g (λ j a b. h j a (omega arith))) (sym (sum_more n g))

pub sum_add : (n : ℕ) (f g : ℕ → ℕ) → sum_to n (λ j. f j + g j) ≡ sum_to n f + sum_to n g
sum_add zero f g = rw (sum_none (λ j. f j + g j), sum_none f, sum_none g)
sum_add (suc n) f g = rw (sum_more n (λ j. f j + g j), sum_more n f, sum_more n g, sum_add n f g) (omega arith)

pub sum_mono : (n : ℕ) (f g : ℕ → ℕ) → ((j : ℕ) → 0 < j → j ≤ n → f j ≤ g j) → sum_to n f ≤ sum_to n g
sum_mono zero f g h = rw (sum_none f, sum_none g) (omega arith)
sum_mono (suc n) f g h =
    rw (sum_more n f, sum_more n g)
    (omega (arith, h (suc n) (omega arith) (omega arith), sum_mono n f g (λ j a b. h j a (omega arith))))

pub sum_le : (n b : ℕ) (f : ℕ → ℕ) → ((j : ℕ) → 0 < j → j ≤ n → f j ≤ b) → sum_to n f ≤ n * b
sum_le zero b f h = rw (sum_none f) (omega arith)
sum_le (suc n) b f h =
    rw (sum_more n f, suc-mul n b)
    (omega (arith, h (suc n) (omega arith) (omega arith), sum_le n b f (λ j p q. h j p (omega arith))))

-- each term at most b times another's
pub sum_scale : (n b : ℕ) (f g : ℕ → ℕ) → ((j : ℕ) → 0 < j → j ≤ n → f j ≤ b * g j) → sum_to n f ≤ b * sum_to n g
sum_scale zero b f g h = rw (sum_none f) (omega arith)
sum_scale (suc n) b f g h =
    rw (sum_more n f, sum_more n g, mul-add b (sum_to n g) (g (suc n)))
    (omega (arith, h (suc n) (omega arith) (omega arith), sum_scale n b f g (λ j p q. h j p (omega arith))))

sum_zero : (n : ℕ) → sum_to n (λ j. 0) ≡ 0
sum_zero zero = sum_none (λ j. 0)
sum_zero (suc n) = sum_more n (λ j. 0) ∙ rw (sum_zero n)

-- a test that is the same for every term
pub sum_if : (b : Bool) (n : ℕ) (f : ℕ → ℕ) → sum_to n (λ j. cond b (f j) 0) ≡ cond b (sum_to n f) 0
sum_if true n f = refl
sum_if false n f = sum_zero n

-- term s alone: not among the n, or one of them
pub sum_out : (n s : ℕ) (f : ℕ → ℕ) → (0 < s → n < s) → sum_to n (λ j. cond (eqb j s) (f j) 0) ≡ 0
sum_out n s f h = sum_ext n _ (λ j. 0) (λ j p q. rw (ne_eqb j s (λ e. omega (arith, h (omega arith))))) ∙ sum_zero n

pub sum_one : (n s : ℕ) (f : ℕ → ℕ) → 0 < s → s ≤ n → sum_to n (λ j. cond (eqb j s) (f j) 0) ≡ f s
sum_one zero s f p h = absurd (omega arith)
sum_one (suc n) s f p h =
    sum_more n (λ j. cond (eqb j s) (f j) 0) ∙
    ⊎_elim
    (λ e. rw (eq-eqb (suc n) s e, sum_out n s f (λ q. omega arith), e) (omega arith))
    (λ ne. rw (ne_eqb (suc n) s ne, sum_one n s f p (omega arith)) (omega arith))
    (cases_eq (suc n) s)

cond_le : (b : Bool) (v : ℕ) → cond b v 0 ≤ v
cond_le true v = omega arith
cond_le false v = omega arith

-- some of the terms
pub sum_some : (n : ℕ) (b : ℕ → Bool) (f : ℕ → ℕ) → sum_to n (λ j. cond (b j) (f j) 0) ≤ sum_to n f
sum_some n b f = sum_mono n _ f (λ j p q. cond_le (b j) (f j))

-- one term is at most the whole
pub sum_at : (n j : ℕ) (f : ℕ → ℕ) → 0 < j → j ≤ n → f j ≤ sum_to n f
sum_at n j f a b = rw (← sum_one n j f a b) (sum_some n (λ k. eqb k j) f)

cond_more : (a b : Bool) (v : ℕ) → (a ≡ true → b ≡ true) → cond a v 0 ≤ cond b v 0
cond_more false b v h = omega arith
cond_more true b v h = let e : b ≡ true = h refl in rw e (omega arith)

-- more of the terms
pub sum_wider : (n : ℕ) (a b : ℕ → Bool) (f : ℕ → ℕ) → ((j : ℕ) → 0 < j → j ≤ n → a j ≡ true → b j ≡ true) →
    sum_to n (λ j. cond (a j) (f j) 0) ≤ sum_to n (λ j. cond (b j) (f j) 0)
sum_wider n a b f h = sum_mono n _ _ (λ j p q. cond_more (a j) (b j) (f j) (h j p q))

-- two terms are at most the whole
pub sum_two : (n i j : ℕ) (f : ℕ → ℕ) → 0 < i → i ≤ n → 0 < j → j ≤ n → (i ≡ j → ⊥) → f i + f j ≤ sum_to n f
sum_two n i j f a b c d ne =
    rw (← sum_one n i f a b, ← sum_one n j f c d, ← sum_add n (λ k. cond (eqb k i) (f k) 0) (λ k. cond (eqb k j) (f k) 0))
    (sum_mono n _ f (λ k p q. ⊎_elim
    (λ e. rw (eq-eqb k i e, ne_eqb k j (λ z. ne (sym e ∙ z))) (omega arith))
    (λ x. rw (ne_eqb k i x) (omega (arith, cond_le (eqb k j) (f k))))
    (cases_eq k i)))

-- terms that are all 0
pub sum_nothing : (n : ℕ) (f : ℕ → ℕ) → ((j : ℕ) → 0 < j → j ≤ n → f j ≡ 0) → sum_to n f ≡ 0
sum_nothing n f h = omega (arith, sum_le n 0 f (λ j p q. omega (arith, h j p q)))

-- f and g agree but at q: each sum with the other's term there is the same
pub sum_swap : (n q : ℕ) (f g : ℕ → ℕ) → 0 < q → q ≤ n → ((j : ℕ) → 0 < j → j ≤ n → (j ≡ q → ⊥) → f j ≡ g j) →
    sum_to n f + g q ≡ sum_to n g + f q
sum_swap n q f g a b h =
    rw (← sum_one n q g a b, ← sum_one n q f a b, ← sum_add n f (λ j. cond (eqb j q) (g j) 0), ← sum_add n g (λ j. cond (eqb j q) (f j) 0))
    (sum_ext n _ _ (λ j p r. ⊎_elim
    (λ e. rw (eq-eqb j q e) (omega arith))
    (λ ne. rw (ne_eqb j q ne, h j p r ne))
    (cases_eq j q)))

-- the powers of 2
pub sum_pow : (n : ℕ) → sum_to n (λ j. 2 ^ j) < 2 ^ suc n
sum_pow zero = rw (sum_none (λ j. 2 ^ j)) (pow_pos 1)
sum_pow (suc n) = rw (sum_more n (λ j. 2 ^ j)) (omega (arith, sum_pow n, pow-add 2 (suc n) 1))
