-- Rows that keep their rules read at a flow: whether they serve it, the line from zero, the line between two rows, and the largest and the least reading.
-- Assumes nothing.
use Rattle.std.proofs.Common.{Some, None}
use mathlib.Core.Path.{◌≡◌, sym, ◌∙◌}
use mathlib.Core.Bool.{true, false, cond}
use mathlib.Core.List.{List}
use mathlib.Core.Logic.{⊎_elim}
use Prim.Native.Nat.{ℕ, ◌+◌, ◌-◌, ◌*◌, ◌≤◌, ◌<◌}
use native.Mathlib.Omega.{arith}
use borrow.Author.Tests.{leb-true, le-leb, lt-leb, ne_eqb}
use Rattle.std.proofs.lemmas.Bool.{cases_Bool, cases_eq}
use Rattle.basis.specs.Round.{up, line}
use Rattle.basis.proofs.Round.{line_zero}
use Rattle.wire.specs.Wire.{byte_at}
use Rattle.wire.proofs.Fields.{be_lt}
use Rattle.catalogue.specs.Layout.{flow_at, velocity_at, slope_at}
use Rattle.catalogue.specs.Reading.{SizeAtFlow, between, serves_at, read_rows, served_of}
use Rattle.catalogue.specs.declared.reading.Reading.{Reading}
use Rattle.catalogue.specs.declared.layout.Row.{Row}
use Rattle.catalogue.specs.Steps.{Rows, Above, row_before}
use Rattle.catalogue.proofs.RowBounds.{RowIn, Rises, row_in, rows_own}
use Rattle.catalogue.proofs.Rising.{rises, flows_rise}
use Rattle.catalogue.proofs.Lines.{Rising, rising_le, between_first, between_line, between_high, between_pos}

module _ (rows : List ℕ) (n q : ℕ) where
  pub serves_last : serves_at rows n q ≡ true → q ≤ flow_at rows (n - 1)
  unfolding serves_at
  serves_last e = leb-true q (flow_at rows (n - 1)) e

  pub last_serves : q ≤ flow_at rows (n - 1) → serves_at rows n q ≡ true
  unfolding serves_at
  last_serves h = le-leb q (flow_at rows (n - 1)) h

  pub reading_over : flow_at rows (n - 1) < q → read_rows rows n q ≡ record { serves = false; velocity = 0; slope = 0 }
  unfolding read_rows serves_at
  reading_over h = rw (lt-leb q (flow_at rows (n - 1)) h)

-- what a reading gives, by whether it serves
module _ (r : SizeAtFlow) where
  given : r.serves ≡ true → served_of r ≡ Some (record { velocity = r.velocity; slope = r.slope })
  unfolding served_of
  given e = rw e

  kept : r.serves ≡ false → served_of r ≡ None
  unfolding served_of
  kept e = rw e

  pub served_none : served_of r ≡ None → r.serves ≡ false
  served_none e =
      ⊎_elim (λ (o : r.serves ≡ true). absurd (let f = sym (given o) ∙ e in cc)) (λ o. o) (cases_Bool r.serves)

  pub served_some : (x : Reading) → served_of r ≡ Some x → (r.serves ≡ true) × (x.velocity ≡ r.velocity) × (x.slope ≡ r.slope)
  served_some x e =
      ⊎_elim
      (λ (o : r.serves ≡ true). let f = sym (given o) ∙ e in (o, cc, cc))
      (λ (o : r.serves ≡ false). absurd (let f = sym (kept o) ∙ e in cc))
      (cases_Bool r.serves)

-- a point of flow x and row k, with the straight lines between them at q
abbrev pub on_line : List ℕ → ℕ → ℕ → ℕ → ℕ → ℕ → SizeAtFlow
on_line rows x velocity slope k q =
    record {
      serves = true;
      velocity = line x velocity (flow_at rows k) (velocity_at rows k) q;
      slope = line x slope (flow_at rows k) (slope_at rows k) q;
    }

-- the lines from a row to row k are those on which the rows are read at q
pub record Drawn (rows : List ℕ) (n q k : ℕ) (from : Row) : Type 0 where
  pub across : from.flow < flow_at rows k
  pub velocity_rises : from.velocity ≤ velocity_at rows k
  pub slope_rises : from.slope ≤ slope_at rows k
  pub low : from.flow ≤ q
  pub high : q ≤ flow_at rows k
  pub reading : read_rows rows n q ≡ on_line rows from.flow from.velocity from.slope k q

module _ {rows : List ℕ} {n : ℕ} (r : Rows rows n) where
  rising : Rising (flow_at rows) (n - 1)
  rising i j h k = flows_rise rows n r.rules i j h (omega arith)

  pub own : (k : ℕ) → k < n → RowIn rows k
  own k h = row_in rows k (rows_own rows n k r.rules h)

  pub first_flow : 0 < flow_at rows 0
  first_flow = (own 0 (omega (arith, r.low))).flow.low

  pub reading_low : (q : ℕ) → q ≤ flow_at rows 0 →
      read_rows rows n q ≡
      record {
        serves = true;
        velocity = up (q * velocity_at rows 0) (flow_at rows 0);
        slope = up (q * slope_at rows 0) (flow_at rows 0);
      }
  unfolding read_rows
  reading_low q h =
      let last : flow_at rows 0 ≤ flow_at rows (n - 1) = rising_le rising 0 (n - 1) (omega arith) (omega arith) in
      rw (
        last_serves rows n q (omega arith),
        between_first (flow_at rows) (velocity_at rows) (n - 1) q rising h,
        between_first (flow_at rows) (slope_at rows) (n - 1) q rising h,
      )

  pub reading_between : (q k : ℕ) → k + 1 < n → flow_at rows k < q → q ≤ flow_at rows (k + 1) → read_rows rows n q ≡ on_line rows (flow_at rows k) (velocity_at rows k) (slope_at rows k) (k + 1) q
  unfolding read_rows
  reading_between q k l h u =
      let last : flow_at rows (k + 1) ≤ flow_at rows (n - 1) = rising_le rising (k + 1) (n - 1) (omega arith) (omega arith) in
      rw (
        last_serves rows n q (omega arith),
        between_line (flow_at rows) (velocity_at rows) (n - 1) k q rising (omega arith) h u,
        between_line (flow_at rows) (slope_at rows) (n - 1) k q rising (omega arith) h u,
      )

  -- at the row that the search finds: the lines come from the row before it, and to the first row from zero
  module _ {q k : ℕ} (a : Above rows n q k) where
    drawn_first : k ≡ 0 → Drawn rows n q k (row_before rows k)
    unfolding row_before
    drawn_first e =
        let under : q ≤ flow_at rows 0 = rw e at a.reached in
        rw e
        (record {
          across = first_flow;
          velocity_rises = omega arith;
          slope_rises = omega arith;
          low = omega arith;
          high = under;
          reading = reading_low q under ∙
              rw (line_zero (flow_at rows 0) (velocity_at rows 0) q, line_zero (flow_at rows 0) (slope_at rows 0) q);
        })

    drawn_next : (k ≡ 0 → ⊥) → Drawn rows n q k (row_before rows k)
    unfolding row_before
    drawn_next h =
        let e : k - 1 + 1 ≡ k = omega arith in
        let under : flow_at rows (k - 1) < q = a.under (omega arith) in
        let rise = rises rows n r.rules (k - 1) k (omega arith) a.within in
        rw (ne_eqb k 0 h)
        (record {
          across = rise.flow;
          velocity_rises = rise.velocity;
          slope_rises = rise.slope;
          low = omega arith;
          high = a.reached;
          reading = rw e at (reading_between q (k - 1) (omega arith) under (rw e a.reached));
        })

    pub drawn : Drawn rows n q k (row_before rows k)
    drawn = ⊎_elim drawn_first drawn_next (cases_eq k 0)

  -- a value that does not fall from row to row is read at no more than the last row's
  top : (value : ℕ → ℕ) (q m : ℕ) → ((k : ℕ) → k < n - 1 → value k ≤ value (k + 1)) → value (n - 1) ≤ m →
      cond (serves_at rows n q) (between (flow_at rows) value (n - 1) q) 0 ≤ m
  top value q m keep h =
      ⊎_elim
      (λ e. rw e (omega (arith, between_high (flow_at rows) value first_flow (n - 1) q rising keep (serves_last rows n q e))))
      (λ e. rw e (omega arith))
      (cases_Bool (serves_at rows n q))

  pub reading_top : ((k : ℕ) → byte_at rows k < 256) → (q : ℕ) →
      ((read_rows rows n q).velocity ≤ 65535) × ((read_rows rows n q).slope ≤ 65535)
  unfolding read_rows velocity_at slope_at
  reading_top byte q = (
    top (velocity_at rows) q 65535 (λ k h. (next k h).velocity) (omega (arith, be_lt 2 rows (8 * (n - 1) + 4) byte)),
    top (slope_at rows) q 65535 (λ k h. (next k h).slope) (omega (arith, be_lt 2 rows (8 * (n - 1) + 6) byte)),
  )
    where
      next : (k : ℕ) → k < n - 1 → Rises rows k (k + 1)
      next k h = rises rows n r.rules k (k + 1) (omega arith) (omega arith)

  -- where a flow above 0 is served, neither is 0
  module _ (q : ℕ) (h : 0 < q) (e : serves_at rows n q ≡ true) where
    above : (value : ℕ → ℕ) → ((k : ℕ) → k < n → 0 < value k) → 0 < cond (serves_at rows n q) (between (flow_at rows) value (n - 1) q) 0
    above value each = rw e (between_pos (flow_at rows) value first_flow (n - 1) q h (λ k l. each k (omega (arith, r.low))))

    pub reading_pos : (0 < (read_rows rows n q).velocity) × (0 < (read_rows rows n q).slope)
    unfolding read_rows
    reading_pos = (above (velocity_at rows) (λ k l. (own k l).velocity), above (slope_at rows) (λ k l. (own k l).slope))
