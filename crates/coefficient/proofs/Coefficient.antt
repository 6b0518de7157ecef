-- Coefficient α: its value under the first key, between two keys and from the last key on, and its bounds for every m.
-- Assumes nothing.
use mathlib.Core.Path.{◌≡◌, refl, ◌∙◌}
use mathlib.Core.Logic.{⊎_elim}
use Prim.Native.Nat.{ℕ, zero, suc, ◌+◌, ◌≤◌, ◌<◌}
use native.Mathlib.Numerals.{add-one}
use native.Mathlib.Omega.{arith}
use borrow.Author.Tests.{lt-ltb, le-ltb}
use Rattle.std.proofs.lemmas.Bool.{cases_lt}
use Rattle.basis.specs.Round.{line}
use Rattle.basis.proofs.Round.{line_low, line_high}
use Rattle.coefficient.specs.Table.{table, key_at, value_at}
use Rattle.coefficient.specs.Alpha.{along, alpha_of}
use Rattle.coefficient.proofs.Rising.{rising, rising_le}
use Rattle.coefficient.proofs.Along.{along_at, along_from}

pub alpha_low : (m : ℕ) → m < 15000 → alpha_of m ≡ 200000
unfolding alpha_of
alpha_low m h = rw (lt-ltb m 15000 h)

module _ (m i : ℕ) (from : 15000 ≤ m) (h : i < 485) (low : key_at i ≤ m) (high : m < key_at (i + 1)) where
  pub alpha_line : alpha_of m ≡ line (key_at i) (value_at i) (key_at (i + 1)) (value_at (i + 1)) m
  unfolding alpha_of
  alpha_line =
      rw (le-ltb m 15000 from) (along_from m i (omega arith) low ∙ along_at m i h ∙ rw (lt-ltb m (key_at (i + 1)) high))

  -- α lies between the values of the two neighbouring keys
  pub alpha_between : (value_at i ≤ alpha_of m) × (alpha_of m ≤ value_at (i + 1))
  alpha_between =
      let r : (key_at i < key_at (i + 1)) × (value_at i < value_at (i + 1)) = rising i (i + 1) (omega arith) (omega arith) in
      rw alpha_line (line_low _ _ _ _ _, line_high _ _ _ _ _ r.0 (omega arith) (omega arith))

pub alpha_last : (m : ℕ) → 400000000 ≤ m → alpha_of m ≡ 91900000
unfolding alpha_of along table
alpha_last m h = rw (le-ltb m 15000 (omega arith)) (along_from m 485 (omega arith) h)

first : (key_at 0 ≡ 15000) × (value_at 0 ≡ 202000)
unfolding table
first = (refl, refl)

last : (key_at 485 ≡ 400000000) × (value_at 485 ≡ 91900000)
unfolding table
last = (refl, refl)

-- below the n-th key, by the keys before it
bounds_under : (m n : ℕ) → 15000 ≤ m → n < 486 → m < key_at n → (200000 ≤ alpha_of m) × (alpha_of m ≤ 91900000)
bounds_under m zero from h high = absurd (omega (arith, first))
bounds_under m (suc n) from h high =
    ⊎_elim
    (λ lt. bounds_under m n from (omega arith) lt)
    (λ low. let b : (value_at n ≤ alpha_of m) × (alpha_of m ≤ value_at (n + 1)) =
    alpha_between m n from (omega arith) low (rw (add-one n) high) in
    let l = rising_le 0 n (omega arith) (omega arith) in
    let u = rising_le (n + 1) 485 (omega arith) (omega arith) in
    (omega (arith, first, last), omega (arith, first, last)))
    (cases_lt m (key_at n))

bounds : (m : ℕ) → (200000 ≤ alpha_of m) × (alpha_of m ≤ 91900000)
bounds m =
    ⊎_elim
    (λ low. rw (alpha_low m low) (omega arith, omega arith))
    (λ from. ⊎_elim
    (λ under. bounds_under m 485 from (omega arith) (rw last.0 under))
    (λ over. rw (alpha_last m over) (omega arith, omega arith))
    (cases_lt m 400000000))
    (cases_lt m 15000)

pub alpha_floor : (m : ℕ) → 200000 ≤ alpha_of m
alpha_floor m = (bounds m).0

pub alpha_ceiling : (m : ℕ) → alpha_of m ≤ 91900000
alpha_ceiling m = (bounds m).1
