-- Keys and values rise through the whole table: one computed test over it, and the law for any two entries.
-- Assumes nothing.
use mathlib.Core.Path.{◌≡◌, refl}
use mathlib.Core.Bool.{Bool, true, ◌&&◌}
use mathlib.Core.List.{List, [], ◌∷◌}
use mathlib.Core.Logic.{⊎_elim}
use Prim.Native.Nat.{ℕ, zero, suc, ◌+◌, ◌-◌, ◌*◌, ◌≤◌, ◌<◌}
use native.Mathlib.Nat.{eq-or-lt_of_le}
use native.Mathlib.Omega.{arith}
use lib.Dec.{ltb}
use lib.ListN.{length, get_or}
use borrow.Author.Tests.{ltb-true}
use Rattle.basis.proofs.Bools.{left, right}
use Rattle.coefficient.specs.Table.{table, key_at, value_at}

-- each number is below the one two places on: a key below the next key, a value below the next value
abbrev rises : List ℕ → Bool
rises (a ∷ b ∷ c ∷ l) = ltb a c && rises (b ∷ c ∷ l)
rises (a ∷ b ∷ []) = true
rises (a ∷ []) = true
rises [] = true

next : (l : List ℕ) → rises l ≡ true → (i : ℕ) → i + 2 < length l → get_or l i 0 < get_or l (suc (suc i)) 0
next [] e i h = absurd (omega arith)
next (a ∷ []) e i h = absurd (omega arith)
next (a ∷ b ∷ []) e i h = absurd (omega arith)
next (a ∷ b ∷ c ∷ l) e zero h = ltb-true a c (left (ltb a c) (rises (b ∷ c ∷ l)) e)
next (a ∷ b ∷ c ∷ l) e (suc i) h = next (b ∷ c ∷ l) (right (ltb a c) (rises (b ∷ c ∷ l)) e) i (omega arith)

-- and so below each number an even number of places on
later : (l : List ℕ) → rises l ≡ true → (n i j : ℕ) → j ≡ 2 * n + i + 2 → j < length l → get_or l i 0 < get_or l j 0
later l e zero i j q h = let p : j ≡ suc (suc i) = omega arith in rw p (next l e i (omega arith))
later l e (suc n) i j q h =
    let k : ℕ = 2 * n + i + 2 in
    let p : j ≡ suc (suc k) = omega arith in
    let a : get_or l i 0 < get_or l k 0 = later l e n i k refl (omega arith) in
    let b : get_or l k 0 < get_or l (suc (suc k)) 0 = next l e k (omega arith) in
    rw p (omega arith)

pub table_length : length table ≡ 972
unfolding table
table_length = refl

-- the test, computed over all of Table 2
table_rises : rises table ≡ true
unfolding table
table_rises = refl

pub rising : (i j : ℕ) → i < j → j < 486 → (key_at i < key_at j) × (value_at i < value_at j)
rising i j h k =
    let n : ℕ = j - i - 1 in (
      later table table_rises n (2 * i) (2 * j) (omega arith) (rw table_length (omega arith)),
      later table table_rises n (2 * i + 1) (2 * j + 1) (omega arith) (rw table_length (omega arith)),
    )

-- for entries that may be the same
pub rising_le : (i j : ℕ) → i ≤ j → j < 486 → (key_at i ≤ key_at j) × (value_at i ≤ value_at j)
rising_le i j h k =
    ⊎_elim (λ e. rw e (omega arith, omega arith)) (λ l. let r = rising i j l k in (omega arith, omega arith)) (eq-or-lt_of_le h)
