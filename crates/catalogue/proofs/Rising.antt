-- Rows that keep their rules: of any two, the later has the larger flow, and no smaller velocity or slope.
-- Assumes nothing.
use mathlib.Core.Path.{◌≡◌}
use mathlib.Core.Bool.{true}
use mathlib.Core.List.{List}
use mathlib.Core.Logic.{⊎_elim}
use Prim.Native.Nat.{ℕ, zero, suc, ◌-◌, ◌<◌}
use native.Mathlib.Nat.{eq-or-lt_of_le}
use native.Mathlib.Omega.{arith}
use Rattle.catalogue.specs.Layout.{flow_at}
use Rattle.catalogue.specs.Rules.{rows_ok}
use Rattle.catalogue.proofs.RowBounds.{Rises, rise_in, rows_rise}

module _ (rows : List ℕ) (n : ℕ) (ok : rows_ok rows n ≡ true) where
  next : (k : ℕ) → suc k < n → Rises rows k (suc k)
  next k h =
      let e : suc k - 1 ≡ k = omega arith in
      rw e at (rise_in rows (suc k) (rows_rise rows n (suc k) ok (omega arith) h))

  pub rises : (i j : ℕ) → i < j → j < n → Rises rows i j
  rises i zero h k = absurd (omega arith)
  rises i (suc j) h k =
      let one : Rises rows j (suc j) = next j k in
      ⊎_elim
      (λ e. rw e one)
      (λ (b : i < j). let more : Rises rows i j = rises i j b (omega arith) in omega arith)
      (eq-or-lt_of_le (omega arith))

  pub flows_rise : (i j : ℕ) → i < j → j < n → flow_at rows i < flow_at rows j
  flows_rise i j h k = (rises i j h k).flow
