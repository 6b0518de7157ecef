-- The value between rows whose flows rise: the straight line from zero, the line around q, never over the last row's, and not 0 for a flow above 0.
-- Assumes nothing.
use mathlib.Core.Path.{◌≡◌, refl, ◌∙◌}
use mathlib.Core.Logic.{⊎_elim}
use Prim.Native.Nat.{ℕ, zero, suc, ◌+◌, ◌*◌, ◌≤◌, ◌<◌}
use native.Mathlib.Nat.{eq-or-lt_of_le, mul_comm, mul-le-mul_left, mul-pos}
use native.Mathlib.Numerals.{add-one}
use native.Mathlib.Omega.{arith}
use borrow.Author.Tests.{le-leb, lt-leb}
use Rattle.std.proofs.lemmas.Bool.{cases_lt}
use Rattle.basis.specs.Round.{up, line}
use Rattle.basis.proofs.Round.{up_le, up_pos, line_low, line_high}
use Rattle.catalogue.specs.Reading.{between}

-- flows that rise to row n
abbrev pub Rising : (ℕ → ℕ) → ℕ → Type 0
Rising flow n = (i j : ℕ) → i < j → j ≤ n → flow i < flow j

module _ {flow : ℕ → ℕ} {n : ℕ} where
  less : Rising flow (suc n) → Rising flow n
  less r i j h k = r i j h (omega arith)

  pub rising_le : Rising flow n → (i j : ℕ) → i ≤ j → j ≤ n → flow i ≤ flow j
  rising_le r i j h k = ⊎_elim (λ e. rw e (omega arith)) (λ b. omega (arith, r i j b k)) (eq-or-lt_of_le h)

module _ (flow value : ℕ → ℕ) where
  -- a flow at or under row n leaves the row after it out, and one over it takes the line to that row
  module _ (n q : ℕ) where
    before_last : q ≤ flow n → between flow value (suc n) q ≡ between flow value n q
    unfolding between
    before_last h = rw (le-leb q (flow n) h)

    at_last : flow n < q → between flow value (suc n) q ≡ line (flow n) (value n) (flow (suc n)) (value (suc n)) q
    unfolding between
    at_last h = rw (lt-leb q (flow n) h)

  pub between_first : (n q : ℕ) → Rising flow n → q ≤ flow 0 → between flow value n q ≡ up (q * value 0) (flow 0)
  unfolding between
  between_first zero q r h = refl
  between_first (suc n) q r h =
      before_last n q (omega (arith, rising_le r 0 n (omega arith) (omega arith))) ∙ between_first n q (less r) h

  pub between_line : (n k q : ℕ) → Rising flow n → k < n → flow k < q → q ≤ flow (k + 1) →
      between flow value n q ≡ line (flow k) (value k) (flow (k + 1)) (value (k + 1)) q
  between_line zero k q r l h u = absurd (omega arith)
  between_line (suc n) k q r l h u =
      ⊎_elim
      (λ e. rw (add-one k) (rw e (at_last n q (rw e at h))))
      (λ (b : k < n). before_last n q (omega (arith, rising_le r (k + 1) n (omega arith) (omega arith))) ∙ between_line n k q (less r) b h u)
      (eq-or-lt_of_le (omega arith))

  module _ (some : 0 < flow 0) where
    -- the line from zero stays under the first row
    pub first_high : (q : ℕ) → q ≤ flow 0 → up (q * value 0) (flow 0) ≤ value 0
    first_high q h = up_le (q * value 0) (value 0) some (rw (mul_comm q (value 0)) (mul-le-mul_left (value 0) h))

    pub between_high : (n q : ℕ) → Rising flow n → ((k : ℕ) → k < n → value k ≤ value (k + 1)) → q ≤ flow n →
        between flow value n q ≤ value n
    unfolding between
    between_high zero q r keep h = first_high q h
    between_high (suc n) q r keep h =
        let one : value n ≤ value (suc n) = rw (add-one n) at (keep n (omega arith)) in
        ⊎_elim
        (λ b. rw (at_last n q b) (line_high (flow n) (value n) (flow (suc n)) (value (suc n)) q (r n (suc n) (omega arith) (omega arith)) h one))
        (λ b. rw (before_last n q b) (omega (arith, between_high n q (less r) (λ k l. keep k (omega arith)) b)))
        (cases_lt (flow n) q)

    pub between_pos : (n q : ℕ) → 0 < q → ((k : ℕ) → k ≤ n → 0 < value k) → 0 < between flow value n q
    unfolding between
    between_pos zero q h own = up_pos (q * value 0) (flow 0) (mul-pos h (own 0 (omega arith))) some
    between_pos (suc n) q h own =
        ⊎_elim
        (λ b. rw (at_last n q b) (omega (arith, own n (omega arith), line_low (flow n) (value n) (flow (suc n)) (value (suc n)) q)))
        (λ b. rw (before_last n q b) (between_pos n q h (λ k l. own k (omega arith))))
        (cases_lt (flow n) q)
