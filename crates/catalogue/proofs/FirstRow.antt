-- The search for the first row whose flow is at least q: the flows rise, so that those under q come first.
-- Assumes nothing.
use Rattle.std.proofs.Common.{◌≡◌, true, false, List, [], ℕ, ◌-◌, ◌≤◌, ◌<◌, length, get_or, ltb, arith}
use mathlib.Core.Logic.{⊎_elim}
use native.Mathlib.Nat.{eq-or-lt_of_le}
use borrow.Author.Tests.{ltb-true, ltb-false}
use Rattle.std.specs.List.{concat}
use Rattle.std.specs.List.Sorted.{IsPartitionedBy, IsPartitionPoint}
use Rattle.std.proofs.lemmas.List.Sorted.{IsPartitionedBy-ltb, IsNonDecreasingBy-from_default}
use Rattle.catalogue.specs.Layout.{flow_at}
use Rattle.catalogue.specs.Steps.{Rows, Above}
use Rattle.catalogue.proofs.Chunks.{Eights, flow_row}
use Rattle.catalogue.proofs.Rising.{flows_rise}

-- the flow of a row of eight bytes
abbrev pub flow_of : List ℕ → ℕ
flow_of row = flow_at row 0

module _ (rows : List (List ℕ)) (e : Eights rows) (r : Rows (concat rows) (length rows)) where
  rise : (i j : ℕ) → i ≤ j → j < length rows → flow_of (get_or rows i []) ≤ flow_of (get_or rows j [])
  rise i j h k =
      ⊎_elim
      (λ (q : i ≡ j). rw q (omega arith))
      (λ (l : i < j).
      let up = flows_rise (concat rows) (length rows) r.rules i j l k in
      omega (arith, up, flow_row rows e i (omega arith), flow_row rows e j k))
      (eq-or-lt_of_le h)

  pub flows_part : (q : ℕ) → IsPartitionedBy (λ y. ltb (flow_of y) q) rows
  flows_part q = IsPartitionedBy-ltb flow_of rows q (IsNonDecreasingBy-from_default flow_of rows [] rise)

  -- the place between those under q and the others, where the last row reaches q
  pub point_above : (q k : ℕ) → q ≤ flow_at (concat rows) (length rows - 1) → k ≤ length rows →
      IsPartitionPoint (λ y. ltb (flow_of y) q ≡ true) (λ y. ltb (flow_of y) q ≡ false) rows k → Above (concat rows) (length rows) q k
  point_above q k last most p =
      let few = r.low in
      record {
        within = within;
        reached = rw (flow_row rows e k within) (ltb-false _ q (p.1 k [] (omega arith) within));
        under = λ h. rw (flow_row rows e (k - 1) (omega arith)) (ltb-true _ q (p.0 (k - 1) [] (omega arith) (omega arith)));
      }
    where
      within : k < length rows
      within =
          ⊎_elim
          (λ (all : k ≡ length rows).
          let few = r.low in
          let under = ltb-true _ q (p.0 (length rows - 1) [] (omega arith) (omega arith)) in
          absurd (omega (arith, under, flow_row rows e (length rows - 1) (omega arith))))
          (λ l. l)
          (eq-or-lt_of_le most)
