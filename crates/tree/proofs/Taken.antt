-- A value for each of n sections, added to the parent's place from the last section up: what each place holds on the way.
-- Assumes nothing.
use mathlib.Core.Path.{◌≡◌, refl, sym, ◌∙◌}
use mathlib.Core.Logic.{⊎_elim}
use mathlib.Core.Bool.{cond}
use Prim.Native.Nat.{ℕ, max, ◌+◌, ◌-◌, ◌≤◌, ◌<◌}
use native.Mathlib.Omega.{arith}
use lib.Dec.{eqb}
use borrow.Author.Tests.{eq-eqb, ne_eqb, le-leb, lt-leb}
use Rattle.std.proofs.lemmas.Bool.Decides.{nat_tests}
use Rattle.std.proofs.lemmas.Bool.{cases_lt}
use Rattle.basis.specs.Range.{within, sum_to}
use Rattle.basis.proofs.Sum.{sum_ext, sum_add, sum_if, sum_one, sum_out, sum_some}
use Rattle.tree.specs.Rows.{Filled}
use Rattle.tree.proofs.Climb.{climb, climb_stop, fall}

-- the values of the sections that come to s, going up to t at most
unfoldable pub part : ℕ → (ℕ → ℕ) → (ℕ → ℕ) → ℕ → ℕ → ℕ
part n up f t s = sum_to n (λ j. cond (eqb (climb up n t j) s) (f j) 0)

-- what each of 64 places holds once the sections above t are taken
pub record Taken (n : ℕ) (up f : ℕ → ℕ) (t : ℕ) (v : ℕ → ℕ) : Type 0 where
  pub at : (s : ℕ) → s < 64 → v s ≡ part n up f (max s t) s

-- a term of the sum once section i is taken, by the x that it had come to
term : (x i p s v : ℕ) → s < i →
    cond (eqb (cond (eqb x i) p x) s) v 0 ≡ cond (eqb x s) v 0 + cond (eqb s p) (cond (eqb x i) v 0) 0
term x i p s v h = grind (arith, nat_tests)

max_left : (a b : ℕ) → b ≤ a → max a b ≡ a
max_left a b h = omega arith

max_right : (a b : ℕ) → a ≤ b → max a b ≡ b
max_right a b h = omega arith

part_le : (n : ℕ) (up f : ℕ → ℕ) (t s : ℕ) → part n up f t s ≤ sum_to n f
unfolding part
part_le n up f t s = sum_some n (λ j. eqb (climb up n t j) s) f

-- before any section is taken, a section's place holds its own value
part_all : (n : ℕ) (up f : ℕ → ℕ) (t s : ℕ) → n ≤ t → part n up f t s ≡ cond (within 1 n s) (f s) 0
unfolding part
part_all n up f t s h =
    sum_ext n _ (λ j. cond (eqb j s) (f j) 0) (λ j a b. rw (climb_stop up n t j (omega arith))) ∙
    ⊎_elim
    (λ p. ⊎_elim
    (λ out. rw (le-leb 1 s p, lt-leb s n out) (sum_out n s f (λ q. out)))
    (λ one. rw (le-leb 1 s p, le-leb s n one) (sum_one n s f p one))
    (cases_lt n s))
    (λ z. rw (lt-leb 1 s (omega arith)) (sum_out n s f (λ q. absurd (omega arith))))
    (cases_lt 0 s)

pub taken_start : (n : ℕ) (up : ℕ → ℕ) {f v : ℕ → ℕ} → Filled n f v → Taken n up f n v
taken_start n up {f} own = record { at = λ s h. own.at s h ∙ sym (part_all n up f (max s n) s (omega arith)) }

pub taken_end : {n : ℕ} {up f : ℕ → ℕ} {t : ℕ} {v : ℕ → ℕ} → Taken n up f t v → t ≡ 0 → (s : ℕ) → s < 64 → v s ≡ part n up f s s
taken_end {n} {up} {f} {t} {v} w e s h = w.at s h ∙ rw (max_left s t (omega arith))

module _ (n : ℕ) (up f : ℕ → ℕ) (lower : (j : ℕ) → 0 < j → j ≤ n → up j < j) (i : ℕ) (p : 0 < i) (q : i ≤ n) where
  part_fall : (s : ℕ) → s < i → part n up f (i - 1) s ≡ part n up f i s + cond (eqb s (up i)) (part n up f i i) 0
  unfolding part
  part_fall s h =
      sum_ext n _ (λ j. cond (eqb (climb up n i j) s) (f j) 0 + cond (eqb s (up i)) (cond (eqb (climb up n i j) i) (f j) 0) 0)
      (λ j a b. rw (fall n up lower i p q n j b b) (term (climb up n i j) i (up i) s (f j) h)) ∙
      sum_add n (λ j. cond (eqb (climb up n i j) s) (f j) 0) (λ j. cond (eqb s (up i)) (cond (eqb (climb up n i j) i) (f j) 0) 0) ∙
      rw (sum_if (eqb s (up i)) n (λ j. cond (eqb (climb up n i j) i) (f j) 0))

  module _ {v : ℕ → ℕ} (few : n ≤ 63) (w : Taken n up f i v) where
    at_low : (s : ℕ) → s ≤ i → v s ≡ part n up f i s
    at_low s h = w.at s (omega arith) ∙ rw (max_right s i h)

    -- the sum to be stored fits wherever the sum of all values does
    pub taken_fits : v (up i) + v i ≤ sum_to n f
    taken_fits =
        let l : up i < i = lower i p q in
        rw (at_low (up i) (omega arith), at_low i (omega arith))
        (rw (eq-eqb (up i) (up i) refl) at (rw (part_fall (up i) l) at (part_le n up f (i - 1) (up i))))

    pub taken_more : {v' : ℕ → ℕ} → ((s : ℕ) → s < 64 → v' s ≡ v s + cond (eqb s (up i)) (v i) 0) → Taken n up f (i - 1) v'
    taken_more {v'} step =
        let l : up i < i = lower i p q in
        record {
          at = λ s h. step s h ∙ ⊎_elim
              (λ lt. rw (at_low s (omega arith), at_low i (omega arith), max_right s (i - 1) (omega arith), part_fall s lt))
              (λ ge. rw (ne_eqb s (up i) (λ e. omega arith), w.at s h, max_left s i ge, max_left s (i - 1) (omega arith)) (omega arith))
              (cases_lt s i);
        }
