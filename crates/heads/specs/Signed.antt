-- Signed numbers: the greater of two, and one that is not below 0.
-- Assumes nothing.
use Rattle.std.specs.Prelude.{ℕ, cond, ℤ, pos, negsuc}
use Rattle.std.specs.Int.Signed.{le_z}

unfoldable pub greater : ℤ → ℤ → ℤ
greater a b = cond (le_z a b) b a

-- the number, or 0 if less
unfoldable pub clamped : ℤ → ℕ
clamped (pos n) = n
clamped (negsuc n) = 0
