-- Document 01, "The job record": big-endian numbers, and signed ones in two's complement.
-- Assumes nothing.
use Rattle.std.specs.Prelude.{ℕ, zero, suc, ◌+◌, ◌-◌, ◌*◌, ◌/◌, ◌%◌, ◌^◌, cond, List, [], ◌∷◌, ◌++◌, get_or, ltb, ℤ, pos, negsuc, ◌-ℤ◌}

-- the byte at place i, 0 past the end
abbrev pub byte_at : List ℕ → ℕ → ℕ
byte_at l i = get_or l i 0

-- the number in the `width` bytes from place i on, the highest first
unfoldable pub be_at : ℕ → List ℕ → ℕ → ℕ
be_at zero l i = 0
be_at (suc width) l i = be_at width l i * 256 + byte_at l (i + width)

-- the `width` bytes of n, the highest first
unfoldable pub bytes_of : ℕ → ℕ → List ℕ
bytes_of zero n = []
bytes_of (suc width) n = bytes_of width (n / 256) ++ (n % 256 ∷ [])

-- `width` bits in two's complement: less 2 to the width where the highest bit is set
unfoldable pub signed_of : ℕ → ℕ → ℤ
signed_of width n = cond (ltb n (2 ^ (width - 1))) (pos n) (pos n -ℤ pos (2 ^ width))

-- and back: a negative number's bits are 2 to the width more
unfoldable pub bits_of : ℕ → ℤ → ℕ
bits_of width (pos n) = n
bits_of width (negsuc n) = 2 ^ width - suc n
