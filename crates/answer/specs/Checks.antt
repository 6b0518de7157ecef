-- A call's checks in their order, each with the number that it gives where it finds something.
-- Assumes nothing.
use Rattle.std.specs.Prelude.{ℕ, Bool, cond, List, [], ◌∷◌, ltb, eqb}
use Rattle.basis.specs.Stored.{stored}

-- the number of the first check that finds something, 0 where none does
unfoldable pub first_no : List (Bool × ℕ) → ℕ
first_no [] = 0
first_no (check ∷ rest) = cond check.0 check.1 (first_no rest)

-- 14: the result buffer of so many bytes is too short for a result of that length
abbrev pub too_short : ℕ → ℕ → Bool
too_short room long = ltb room long

-- the result buffer after a call that gives a number: the bytes at its front and the rest as it was where the number is 0, else all of it as it was
abbrev pub buffer_after : ℕ → List ℕ → List ℕ → List ℕ
buffer_after n bytes out = cond (eqb n 0) (stored out 0 bytes) out
