-- The lowest of 1 to n that passes a test: it is at most n, it passes, none lower does, and only it is so; 0 where none passes.
-- Assumes nothing.
use mathlib.Core.Path.{◌≡◌, refl}
use mathlib.Core.Logic.{⊎_elim}
use Prim.Native.Nat.{ℕ, zero, suc, ◌≤◌, ◌<◌}
use native.Mathlib.Nat.{eq-or-lt_of_le}
use native.Mathlib.Omega.{arith}
use mathlib.Core.Bool.{Bool, true, false, cond}
use Rattle.std.proofs.lemmas.Bool.{cases_Bool, cases_lt}
use Rattle.basis.specs.Range.{any_to, lowest_to}
use Rattle.basis.proofs.Bools.{apart}
use Rattle.basis.proofs.Each.{Found, any_found, any_true, any_at, any_each, any_ext}

pub record Lowest (n : ℕ) (test : ℕ → Bool) (i : ℕ) : Type 0 where
  pub low : 0 < i
  pub high : i ≤ n
  pub holds : test i ≡ true
  pub first : (j : ℕ) → 0 < j → j < i → test j ≡ false

lowest_more : (n : ℕ) (test : ℕ → Bool) → lowest_to (suc n) test ≡ cond (any_to n test) (lowest_to n test) (cond (test (suc n)) (suc n) 0)
unfolding lowest_to
lowest_more n test = refl

-- at most n, passing or not
pub lowest_within : (n : ℕ) (test : ℕ → Bool) → lowest_to n test ≤ n
unfolding lowest_to
lowest_within zero test = omega arith
lowest_within (suc n) test =
    let below : lowest_to n test ≤ n = lowest_within n test in
    ⊎_elim
    (λ (a : any_to n test ≡ true). rw a (omega arith))
    (λ (a : any_to n test ≡ false).
    rw a
    (⊎_elim
    (λ (b : test (suc n) ≡ true). rw b (omega arith))
    (λ (b : test (suc n) ≡ false). rw b (omega arith))
    (cases_Bool (test (suc n)))))
    (cases_Bool (any_to n test))

-- one that passes: the lowest does
pub lowest_is : (n : ℕ) (test : ℕ → Bool) (t : ℕ) → 0 < t → t ≤ n → test t ≡ true → Lowest n test (lowest_to n test)
lowest_is zero test t h k e = absurd (omega arith)
lowest_is (suc n) test t h k e =
    rw (lowest_more n test)
    (⊎_elim
    (λ a.
    let f : Found n test = any_found n test a in
    let l : Lowest n test (lowest_to n test) = lowest_is n test f.place f.low f.high f.holds in
    rw a (record { low = l.low; high = omega (arith, l.high); holds = l.holds; first = l.first }))
    (λ a.
    let last : t ≡ suc n = ⊎_elim (λ q. q) (λ l. absurd (apart (any_true n t test h (omega arith) e) a)) (eq-or-lt_of_le k) in
    let e' : test (suc n) ≡ true = rw last at e in
    rw (a, e') (record { low = omega arith; high = omega arith; holds = e'; first = λ j p q. any_at n test a j p (omega arith) }))
    (cases_Bool (any_to n test)))

-- none that passes: 0
pub lowest_none : (n : ℕ) (test : ℕ → Bool) → ((i : ℕ) → 0 < i → i ≤ n → test i ≡ false) → lowest_to n test ≡ 0
unfolding lowest_to
lowest_none zero test e = refl
lowest_none (suc n) test e = rw (any_each n test (λ i h k. e i h (omega arith)), e (suc n) (omega arith) (omega arith))

pub lowest_only : (n : ℕ) (test : ℕ → Bool) (i : ℕ) → Lowest n test i → i ≡ lowest_to n test
lowest_only n test i l =
    let m : Lowest n test (lowest_to n test) = lowest_is n test i l.low l.high l.holds in
    ⊎_elim
    (λ lt. absurd (apart l.holds (m.first i l.low lt)))
    (λ ge.
    ⊎_elim
    (λ lt. absurd (apart m.holds (l.first (lowest_to n test) m.low lt)))
    (λ le. omega arith)
    (cases_lt (lowest_to n test) i))
    (cases_lt i (lowest_to n test))

pub lowest_ext : (n : ℕ) (test test' : ℕ → Bool) → ((i : ℕ) → 0 < i → i ≤ n → test i ≡ test' i) → lowest_to n test ≡ lowest_to n test'
unfolding lowest_to
lowest_ext zero test test' e = refl
lowest_ext (suc n) test test' e =
    rw (
      any_ext n test test' (λ i h k. e i h (omega arith)),
      lowest_ext n test test' (λ i h k. e i h (omega arith)),
      e (suc n) (omega arith) (omega arith),
    )
