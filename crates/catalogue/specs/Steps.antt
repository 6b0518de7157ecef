-- What the catalogue's contracts ask: room for size s, and rows that keep their rules; and a row as the code reads it.
-- Assumes nothing.
use Rattle.std.specs.Prelude.{◌≡◌, true, ℕ, ◌+◌, ◌-◌, ◌*◌, ◌≤◌, ◌<◌, cond, List, length, eqb}
use Rattle.wire.specs.Wire.{byte_at}
use Rattle.catalogue.specs.declared.layout.Row.{Row}
use Rattle.catalogue.specs.Layout.{rows_of, size_length, flow_at, velocity_at, slope_at}
use Rattle.catalogue.specs.Rules.{rows_ok, shape_ok, sizes_ok}

-- size s, from 1 to 12, lies within the catalogue, with at most 64 rows
pub record Sized (cat : List ℕ) (s : ℕ) : Type 0 where
  pub low : 0 < s
  pub high : s ≤ 12
  pub rows : rows_of cat ≤ 64
  pub fits : 7 + s * size_length (rows_of cat) ≤ length cat

-- a part of n rows, 2 to 64, that keep their rules
pub record Rows (rows : List ℕ) (n : ℕ) : Type 0 where
  pub low : 2 ≤ n
  pub high : n ≤ 64
  pub long : length rows ≡ 8 * n
  pub rules : rows_ok rows n ≡ true

-- numbers that are bytes
abbrev pub Bytes : List ℕ → Type 0
Bytes l = (k : ℕ) → byte_at l k < 256

-- a catalogue that 10 and 11 let pass
pub record AcceptedCat (cat : List ℕ) : Type 0 where
  pub shape : shape_ok cat ≡ true
  pub sizes : sizes_ok cat ≡ true

-- k is the first of n rows whose flow is at least q
pub record Above (rows : List ℕ) (n q k : ℕ) : Type 0 where
  pub within : k < n
  pub reached : q ≤ flow_at rows k
  pub under : 0 < k → flow_at rows (k - 1) < q

-- row k of a part, from 0
abbrev pub row_at : List ℕ → ℕ → Row
row_at rows k = record { flow = flow_at rows k; velocity = velocity_at rows k; slope = slope_at rows k }

-- the row before it; the lines to the first row come from zero
unfoldable pub row_before : List ℕ → ℕ → Row
row_before rows k = cond (eqb k 0) (record { flow = 0; velocity = 0; slope = 0 }) (row_at rows (k - 1))
