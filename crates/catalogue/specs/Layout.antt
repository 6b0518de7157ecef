-- Document 01, "The catalogue": where its fields stand.
-- Assumes nothing.
use Rattle.std.specs.Prelude.{ℕ, ◌+◌, ◌-◌, ◌*◌, List}
use Rattle.basis.specs.Part.{part}
use Rattle.wire.specs.Wire.{byte_at, be_at}

-- the number of sizes, and of rows of each size
abbrev pub sizes_of : List ℕ → ℕ
sizes_of cat = byte_at cat 5

abbrev pub rows_of : List ℕ → ℕ
rows_of cat = byte_at cat 6

-- the bytes of one size with so many rows
abbrev pub size_length : ℕ → ℕ
size_length rows = 4 + 8 * rows

-- where size s begins, from 1
abbrev pub size_from : List ℕ → ℕ → ℕ
size_from cat s = 7 + (s - 1) * size_length (rows_of cat)

unfoldable pub bore_of : List ℕ → ℕ → ℕ
bore_of cat s = be_at 2 cat (size_from cat s)

unfoldable pub price_of : List ℕ → ℕ → ℕ
price_of cat s = be_at 2 cat (size_from cat s + 2)

-- the rows of size s: a part of the catalogue that starts in its middle
unfoldable pub part_of : List ℕ → ℕ → List ℕ
part_of cat s = part cat (size_from cat s + 4) (8 * rows_of cat)

-- flow in ml/s, velocity in mm/s and slope in mm per metre of row k of a part, from 0
unfoldable pub flow_at : List ℕ → ℕ → ℕ
flow_at rows k = be_at 4 rows (8 * k)

unfoldable pub velocity_at : List ℕ → ℕ → ℕ
velocity_at rows k = be_at 2 rows (8 * k + 4)

unfoldable pub slope_at : List ℕ → ℕ → ℕ
slope_at rows k = be_at 2 rows (8 * k + 6)
