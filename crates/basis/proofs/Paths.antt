-- Path losses where each parent's number is less: 0 at the pump, a section's own loss plus its parent's path loss, and a comparison of two trees.
-- Assumes nothing.
use mathlib.Core.Path.{◌≡◌, refl, sym, ◌∙◌}
use mathlib.Core.Logic.{⊎_elim}
use Prim.Native.Nat.{ℕ, zero, suc, ◌+◌, ◌-◌, ◌≤◌, ◌<◌}
use native.Mathlib.Nat.{eq-zero-or-pos}
use native.Mathlib.Omega.{arith}
use borrow.Author.Tests.{ne_eqb}
use Rattle.basis.specs.Sections.{path_from, path_of}

from_pump : (n : ℕ) (parent loss : ℕ → ℕ) → path_from n parent loss 0 ≡ 0
unfolding path_from
from_pump zero parent loss = refl
from_pump (suc n) parent loss = refl

from_section : (n : ℕ) (parent loss : ℕ → ℕ) (i : ℕ) → 0 < i → i ≤ n → path_from n parent loss i ≡ loss i + path_from (n - 1) parent loss (parent i)
unfolding path_from
from_section zero parent loss i h k = absurd (omega arith)
from_section (suc n) parent loss i h k = let e : suc n - 1 ≡ n = omega arith in rw (ne_eqb i 0 (λ e. omega arith), e)

pub path_pump : (parent loss : ℕ → ℕ) → path_of parent loss 0 ≡ 0
unfolding path_of
path_pump parent loss = from_pump 0 parent loss

module _ {n : ℕ} {parent : ℕ → ℕ} (lower : (i : ℕ) → 0 < i → i ≤ n → parent i < i) where
  -- what holds of the pump, and of each section whose parent it holds of, holds of every section
  by_upto : (P : ℕ → Type 0) → P 0 → ((i : ℕ) → 0 < i → i ≤ n → P (parent i) → P i) → (m i : ℕ) → i ≤ m → i ≤ n → P i
  by_upto P z s zero i h k = let e : i ≡ 0 = omega arith in rw e z
  by_upto P z s (suc m) i h k =
      ⊎_elim
      (λ e. rw e z)
      (λ l. let p : parent i < i = lower i l k in s i l k (by_upto P z s m (parent i) (omega arith) (omega arith)))
      (eq-zero-or-pos i)

  pub by_parent : (P : ℕ → Type 0) → P 0 → ((i : ℕ) → 0 < i → i ≤ n → P (parent i) → P i) → (i : ℕ) → i ≤ n → P i
  by_parent P z s i k = by_upto P z s i i (omega arith) k

  module _ (loss : ℕ → ℕ) where
    -- two bounds that are both enough give the same
    from_enough : (i : ℕ) → i ≤ n → (a b : ℕ) → i ≤ a → i ≤ b → path_from a parent loss i ≡ path_from b parent loss i
    from_enough =
        by_parent (λ i. (a b : ℕ) → i ≤ a → i ≤ b → path_from a parent loss i ≡ path_from b parent loss i)
        (λ a b h j. from_pump a parent loss ∙ sym (from_pump b parent loss))
        (λ i l k up a b h j.
        let p : parent i < i = lower i l k in
        rw (from_section a parent loss i l h, from_section b parent loss i l j, up (a - 1) (b - 1) (omega arith) (omega arith)))

    pub path_step : (i : ℕ) → 0 < i → i ≤ n → path_of parent loss i ≡ loss i + path_of parent loss (parent i)
    unfolding path_of
    path_step i h k =
        let p : parent i < i = lower i h k in
        from_section i parent loss i h (omega arith) ∙ rw (from_enough (parent i) (omega arith) (i - 1) (parent i) (omega arith) (omega arith))

-- two trees with the same parents
module _ {n : ℕ} {parent : ℕ → ℕ} (lower : (i : ℕ) → 0 < i → i ≤ n → parent i < i)
    (parent' : ℕ → ℕ) (same : (i : ℕ) → 0 < i → i ≤ n → parent' i ≡ parent i) (loss loss' : ℕ → ℕ) where
  step' : (i : ℕ) → 0 < i → i ≤ n → path_of parent' loss' i ≡ loss' i + path_of parent' loss' (parent i)
  step' i h k = rw (← same i h k) (path_step {n = n} {parent = parent'} (λ j l m. rw (same j l m) (lower j l m)) loss' i h k)

  -- where no section loses more, no path does
  pub path_mono : ((i : ℕ) → 0 < i → i ≤ n → loss' i ≤ loss i) → (i : ℕ) → i ≤ n → path_of parent' loss' i ≤ path_of parent loss i
  path_mono less =
      by_parent lower (λ i. path_of parent' loss' i ≤ path_of parent loss i) (omega (arith, path_pump parent' loss'))
      (λ i h k up. omega (arith, step' i h k, path_step lower loss i h k, less i h k))

  pub path_ext : ((i : ℕ) → 0 < i → i ≤ n → loss' i ≡ loss i) → (i : ℕ) → i ≤ n → path_of parent' loss' i ≡ path_of parent loss i
  path_ext equal =
      by_parent lower (λ i. path_of parent' loss' i ≡ path_of parent loss i) (path_pump parent' loss' ∙ sym (path_pump parent loss))
      (λ i h k up. omega (arith, step' i h k, path_step lower loss i h k, equal i h k))
