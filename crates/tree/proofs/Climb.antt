-- Going up a tree of n sections, in which the parent of section j is up j, a lower number.
-- Assumes nothing.
use mathlib.Core.Path.{◌≡◌, refl, sym, ◌∙◌}
use mathlib.Core.Logic.{⊎_elim}
use mathlib.Core.Bool.{cond}
use Prim.Native.Nat.{ℕ, zero, suc, ◌-◌, ◌≤◌, ◌<◌}
use native.Mathlib.Omega.{arith}
use lib.Dec.{leb, eqb}
use borrow.Author.Tests.{le-leb, lt-leb, eq-eqb, ne_eqb}
use Rattle.std.proofs.lemmas.Bool.{cases_lt, cases_eq}

-- going up from j, the first number that is at most t; n steps suffice where j is at most n
unfoldable pub climb : (ℕ → ℕ) → ℕ → ℕ → ℕ → ℕ
climb up zero t j = j
climb up (suc n) t j = cond (leb j t) j (climb up n t (up j))

-- the definition's clauses
climb_none : (up : ℕ → ℕ) (t j : ℕ) → climb up zero t j ≡ j
unfolding climb
climb_none up t j = refl

climb_one : (up : ℕ → ℕ) (n t j : ℕ) → climb up (suc n) t j ≡ cond (leb j t) j (climb up n t (up j))
unfolding climb
climb_one up n t j = refl

pub climb_stop : (up : ℕ → ℕ) (n t j : ℕ) → j ≤ t → climb up n t j ≡ j
climb_stop up zero t j h = climb_none up t j
climb_stop up (suc n) t j h = rw (climb_one up n t j, le-leb j t h)

climb_go : (up : ℕ → ℕ) (n t j : ℕ) → t < j → climb up (suc n) t j ≡ climb up n t (up j)
climb_go up n t j h = rw (climb_one up n t j, lt-leb j t h)

module _ (n : ℕ) (up : ℕ → ℕ) (lower : (j : ℕ) → 0 < j → j ≤ n → up j < j) where
  -- a further step changes nothing
  climb_more : (m t j : ℕ) → j ≤ m → j ≤ n → climb up (suc m) t j ≡ climb up m t j
  climb_more zero t j h k = climb_stop up 1 t j (omega arith) ∙ sym (climb_none up t j)
  climb_more (suc m) t j h k =
      ⊎_elim
      (λ lt. let p : up j < j = lower j (omega arith) k in
      climb_go up (suc m) t j lt ∙ climb_more m t (up j) (omega arith) (omega arith) ∙ sym (climb_go up m t j lt))
      (λ ge. climb_stop up (suc (suc m)) t j ge ∙ sym (climb_stop up (suc m) t j ge))
      (cases_lt t j)

  pub climb_step : (t j : ℕ) → t < j → j ≤ n → climb up n t j ≡ climb up n t (up j)
  climb_step t j h k = sym (climb_more n t j k k) ∙ climb_go up n t j h

  module _ (i : ℕ) (p : 0 < i) (q : i ≤ n) where
    fall_at : (j : ℕ) → j ≤ i → climb up n (i - 1) j ≡ cond (eqb (climb up n i j) i) (up i) (climb up n i j)
    fall_at j h =
        ⊎_elim
        (λ e. let l : up i < i = lower i p q in
        rw e (rw (climb_stop up n i i (omega arith), eq-eqb i i refl)
        (climb_step (i - 1) i (omega arith) q ∙ climb_stop up n (i - 1) (up i) (omega arith))))
        (λ ne. rw (climb_stop up n i j h, ne_eqb j i ne) (climb_stop up n (i - 1) j (omega arith)))
        (cases_eq j i)

    -- one number less to stop at: what had come to i goes on to its parent
    pub fall : (m j : ℕ) → j ≤ m → j ≤ n → climb up n (i - 1) j ≡ cond (eqb (climb up n i j) i) (up i) (climb up n i j)
    fall zero j b r = fall_at j (omega arith)
    fall (suc m) j b r =
        ⊎_elim
        (λ lt. let l : up j < j = lower j (omega arith) r in
        rw (climb_step (i - 1) j (omega arith) r, climb_step i j lt r) (fall m (up j) (omega arith) (omega arith)))
        (λ ge. fall_at j ge)
        (cases_lt i j)
