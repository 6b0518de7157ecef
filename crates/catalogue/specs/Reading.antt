-- Document 01, "The catalogue": a size read at a flow. Document 02, L6: a flow under the first row.
-- Assumes nothing.
use Rattle.std.specs.Prelude.{ℕ, zero, suc, ◌-◌, ◌*◌, Bool, cond, List, leb, Option, Some, None}
use Rattle.basis.specs.Round.{up, line}
use Rattle.catalogue.specs.declared.reading.Reading.{Reading}
use Rattle.catalogue.specs.Layout.{flow_at, velocity_at, slope_at}

-- a size read at a flow: whether it can serve it, velocity in mm/s and slope in mm per metre
pub record SizeAtFlow : Type 0 where
  pub serves : Bool
  pub velocity : ℕ
  pub slope : ℕ

-- the value at q of rows 0 to n, given by their flows and values: the straight line between the two rows around q, up;
-- for a flow under the first row the straight line from zero, q × first value / first flow, up. For q up to row n's flow
unfoldable pub between : (ℕ → ℕ) → (ℕ → ℕ) → ℕ → ℕ → ℕ
between flow value zero q = up (q * value 0) (flow 0)
between flow value (suc n) q =
    cond (leb q (flow n)) (between flow value n q) (line (flow n) (value n) (flow (suc n)) (value (suc n)) q)

-- a flow over the last row can't be served
unfoldable pub serves_at : List ℕ → ℕ → ℕ → Bool
serves_at rows n q = leb q (flow_at rows (n - 1))

-- n rows of a part read at q; velocity and slope are 0 where the size can't serve
unfoldable pub read_rows : List ℕ → ℕ → ℕ → SizeAtFlow
read_rows rows n q =
    record {
      serves = serves_at rows n q;
      velocity = cond (serves_at rows n q) (between (flow_at rows) (velocity_at rows) (n - 1) q) 0;
      slope = cond (serves_at rows n q) (between (flow_at rows) (slope_at rows) (n - 1) q) 0;
    }

-- velocity and slope, where the size can serve
unfoldable pub served_of : SizeAtFlow → Option Reading
served_of r = cond r.serves (Some (record { velocity = r.velocity; slope = r.slope })) None
