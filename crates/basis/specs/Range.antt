-- Sums, the most and tests over the whole numbers from 1 to n, and the lowest that passes a test.
-- Assumes nothing.
use Rattle.std.specs.Prelude.{ℕ, zero, suc, ◌+◌, max, Bool, true, false, ◌&&◌, ◌||◌, cond, List, [], ◌++◌, leb}

-- lo to hi, both included
abbrev pub within : ℕ → ℕ → ℕ → Bool
within lo hi x = leb lo x && leb x hi

-- f 1 + .. + f n
unfoldable pub sum_to : ℕ → (ℕ → ℕ) → ℕ
sum_to zero f = 0
sum_to (suc n) f = sum_to n f + f (suc n)

-- the most of f 1 .. f n, 0 where there is none
unfoldable pub most_to : ℕ → (ℕ → ℕ) → ℕ
most_to zero f = 0
most_to (suc n) f = max (most_to n f) (f (suc n))

-- each of f 1 .. f n is true
unfoldable pub all_to : ℕ → (ℕ → Bool) → Bool
all_to zero f = true
all_to (suc n) f = all_to n f && f (suc n)

-- one of f 1 .. f n is true
unfoldable pub any_to : ℕ → (ℕ → Bool) → Bool
any_to zero f = false
any_to (suc n) f = any_to n f || f (suc n)

-- the lowest of 1 to n that passes a test, 0 where none does
unfoldable pub lowest_to : ℕ → (ℕ → Bool) → ℕ
lowest_to zero test = 0
lowest_to (suc n) test = cond (any_to n test) (lowest_to n test) (cond (test (suc n)) (suc n) 0)

-- f 1, then f 2, .. and f n, in one list
unfoldable pub concat_to : ℕ → (ℕ → List ℕ) → List ℕ
concat_to zero f = []
concat_to (suc n) f = concat_to n f ++ f (suc n)
