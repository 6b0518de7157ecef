-- Laws of the most of f 1 .. f n: it bounds each, what bounds each bounds it, and where it is above 0 one of them is as much.
-- Assumes nothing.
use mathlib.Core.Path.{◌≡◌, refl, sym, ◌∙◌}
use mathlib.Core.Logic.{⊎_elim}
use Prim.Native.Nat.{ℕ, zero, suc, ◌≤◌, ◌<◌, max}
use native.Mathlib.Nat.{eq-or-lt_of_le}
use native.Mathlib.Omega.{arith}
use Rattle.std.proofs.lemmas.Bool.{cases_lt}
use Rattle.basis.specs.Range.{most_to}

-- the definition's clauses
pub most_none : (f : ℕ → ℕ) → most_to 0 f ≡ 0
unfolding most_to
most_none f = refl

pub most_more : (n : ℕ) (f : ℕ → ℕ) → most_to (suc n) f ≡ max (most_to n f) (f (suc n))
unfolding most_to
most_more n f = refl

pub most_bound : (n : ℕ) (f : ℕ → ℕ) (t : ℕ) → 0 < t → t ≤ n → f t ≤ most_to n f
most_bound zero f t p l = absurd (omega arith)
most_bound (suc n) f t p l =
    rw (most_more n f)
    (⊎_elim (λ e. rw e (omega arith)) (λ m. omega (arith, most_bound n f t p (omega arith))) (eq-or-lt_of_le l))

-- no more than what bounds each
pub most_le : (n b : ℕ) (f : ℕ → ℕ) → ((t : ℕ) → 0 < t → t ≤ n → f t ≤ b) → most_to n f ≤ b
most_le zero b f h = rw (most_none f) (omega arith)
most_le (suc n) b f h =
    rw (most_more n f)
    (omega (arith, h (suc n) (omega arith) (omega arith), most_le n b f (λ t p l. h t p (omega arith))))

pub most_ext : (n : ℕ) (f g : ℕ → ℕ) → ((t : ℕ) → 0 < t → t ≤ n → f t ≡ g t) → most_to n f ≡ most_to n g
most_ext zero f g h = most_none f ∙ sym (most_none g)
most_ext (suc n) f g h =
    most_more n f ∙ rw (h (suc n) (omega arith) (omega arith), most_ext n f g (λ t p l. h t p (omega arith))) (sym (most_more n g))

-- one that is as much
pub record Reached (n : ℕ) (f : ℕ → ℕ) : Type 0 where
  pub place : ℕ
  pub low : 0 < place
  pub high : place ≤ n
  pub by : most_to n f ≡ f place

pub most_reached : (n : ℕ) (f : ℕ → ℕ) → 0 < most_to n f → Reached n f
most_reached zero f h = absurd (omega (arith, most_none f))
most_reached (suc n) f h =
    ⊎_elim
    (λ (l : most_to n f < f (suc n)). record { place = suc n; low = omega arith; high = omega arith; by = omega (arith, most_more n f) })
    (λ (g : f (suc n) ≤ most_to n f).
    let r : Reached n f = most_reached n f (omega (arith, most_more n f)) in
    record { place = r.place; low = r.low; high = omega (arith, r.high); by = omega (arith, most_more n f, r.by) })
    (cases_lt (most_to n f) (f (suc n)))
