-- Document 01, "The catalogue" and "Refused orders" 10 and 11.
-- Assumes nothing.
use Rattle.std.specs.Prelude.{ℕ, ◌+◌, ◌-◌, ◌*◌, Bool, not, ◌&&◌, ◌||◌, List, [], ◌∷◌, length, leb, ltb, eqb}
use Rattle.basis.specs.Range.{within, all_to}
use Rattle.answer.specs.Checks.{first_no}
use Rattle.wire.specs.Wire.{byte_at, be_at}
use Rattle.catalogue.specs.Layout.{sizes_of, rows_of, size_length, bore_of, price_of, part_of, flow_at, velocity_at, slope_at}

-- 10 finds nothing: at least 7 bytes, version 1, counts in range, and the length both stated and right
unfoldable pub shape_ok : List ℕ → Bool
shape_ok cat =
    leb 7 (length cat) &&
    (eqb (byte_at cat 4) 1 &&
    (within 1 12 (sizes_of cat) &&
    (within 2 64 (rows_of cat) &&
    (eqb (be_at 4 cat 0) (length cat) && eqb (length cat) (7 + sizes_of cat * size_length (rows_of cat))))))

-- row k of a part on its own: flow 1 to 1,000,000, velocity and slope at least 1
unfoldable pub row_ok : List ℕ → ℕ → Bool
row_ok rows k = within 1 1000000 (flow_at rows k) && (leb 1 (velocity_at rows k) && leb 1 (slope_at rows k))

-- row k against the row before it: flows rise strictly, velocities and slopes don't fall
unfoldable pub rises_at : List ℕ → ℕ → Bool
rises_at rows k =
    ltb (flow_at rows (k - 1)) (flow_at rows k) &&
    (leb (velocity_at rows (k - 1)) (velocity_at rows k) && leb (slope_at rows (k - 1)) (slope_at rows k))

-- n rows: each on its own, and each after the first against the one before it
unfoldable pub rows_ok : List ℕ → ℕ → Bool
rows_ok rows n = all_to n (λ k. row_ok rows (k - 1)) && all_to (n - 1) (λ k. rises_at rows k)

-- bore at least 1 and over that of the size before; price 1 to 10,000; the rows' rules
unfoldable pub size_ok : List ℕ → ℕ → Bool
size_ok cat s =
    leb 1 (bore_of cat s) &&
    ((eqb s 1 || ltb (bore_of cat (s - 1)) (bore_of cat s)) &&
    (within 1 10000 (price_of cat s) && rows_ok (part_of cat s) (rows_of cat)))

-- 11 finds nothing
unfoldable pub sizes_ok : List ℕ → Bool
sizes_ok cat = all_to (sizes_of cat) (λ s. size_ok cat s)

-- 10 and 11 in their order
unfoldable pub cat_checks : List ℕ → List (Bool × ℕ)
cat_checks cat = (not (shape_ok cat), 10) ∷ (not (sizes_ok cat), 11) ∷ []

unfoldable pub cat_no : List ℕ → ℕ
cat_no cat = first_no (cat_checks cat)
