-- Laws of the least of f 1 .. f n, at most mark.
-- Assumes nothing.
use mathlib.Core.Path.{◌≡◌, refl, sym, ◌∙◌}
use mathlib.Core.Logic.{⊎_elim}
use Prim.Native.Nat.{ℕ, zero, suc, ◌+◌, ◌≤◌, ◌<◌, min}
use native.Mathlib.Nat.{eq-or-lt_of_le}
use native.Mathlib.Omega.{arith}
use native.Mathlib.Numerals.{add-one}
use Rattle.plan.specs.Plan.{mark, least_to}

-- the definition's clauses
pub least_none : (f : ℕ → ℕ) → least_to 0 f ≡ mark
unfolding least_to
least_none f = refl

pub least_more : (n : ℕ) (f : ℕ → ℕ) → least_to (suc n) f ≡ min (least_to n f) (f (suc n))
unfolding least_to
least_more n f = refl

pub least_next : (n : ℕ) (f : ℕ → ℕ) → least_to (n + 1) f ≡ min (least_to n f) (f (n + 1))
least_next n f = rw add-one (least_more n f)

-- functions with the same values have the same least
pub least_ext : (n : ℕ) (f g : ℕ → ℕ) → ((t : ℕ) → 0 < t → t ≤ n → f t ≡ g t) → least_to n f ≡ least_to n g
least_ext zero f g e = least_none f ∙ sym (least_none g)
least_ext (suc n) f g e =
    least_more n f ∙
    rw (least_ext n f g (λ t a b. e t a (omega arith)), e (suc n) (omega arith) (omega arith)) (sym (least_more n g))

pub least_le : (n : ℕ) (f : ℕ → ℕ) (t : ℕ) → 0 < t → t ≤ n → least_to n f ≤ f t
least_le zero f t p l = absurd (omega arith)
least_le (suc n) f t p l =
    rw (least_more n f)
    (⊎_elim (λ e. rw e (omega arith)) (λ m. omega (arith, least_le n f t p (omega arith))) (eq-or-lt_of_le l))

pub least_most : (n : ℕ) (f : ℕ → ℕ) → least_to n f ≤ mark
least_most zero f = rw (least_none f) (omega arith)
least_most (suc n) f = rw (least_more n f) (omega (arith, least_most n f))

-- where no value rises above the other's, as far as the mark, neither does the least
pub least_falls : (n : ℕ) (f g : ℕ → ℕ) → ((t : ℕ) → 0 < t → t ≤ n → min mark (f t) ≤ min mark (g t)) → least_to n f ≤ least_to n g
least_falls zero f g h = rw (least_none f, least_none g) (omega arith)
least_falls (suc n) f g h =
    rw (least_more n f, least_more n g)
    (omega (
      arith,
      least_falls n f g (λ t p l. h t p (omega arith)),
      h (suc n) (omega arith) (omega arith),
      least_most n f,
      least_most n g,
    ))
