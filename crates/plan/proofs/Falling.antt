-- More head never raises a cell.
-- Assumes nothing.
use mathlib.Core.Path.{◌≡◌}
use mathlib.Core.Logic.{⊎_elim}
use mathlib.Core.Bool.{true, ◌&&◌}
use Prim.Native.Nat.{ℕ, zero, suc, ◌+◌, ◌-◌, ◌≤◌, min}
use native.Mathlib.Omega.{arith}
use lib.Dec.{eqb, leb}
use borrow.Author.Tests.{le-leb, leb-true}
use Rattle.std.proofs.lemmas.Bool.{cases_Bool}
use Rattle.basis.proofs.Bools.{left, right}
use Rattle.nets.specs.Net.{Net}
use Rattle.plan.specs.Plan.{mark, option, rows, cell, plan_of}
use Rattle.plan.proofs.Least.{least_falls}

module _ (N : Net) (high : ℕ → ℕ) where
  option_falls : (s : ℕ) (v : ℕ → ℕ) → ((x y : ℕ) → x ≤ y → v y ≤ v x) → (x y : ℕ) → x ≤ y → (t : ℕ) →
      min mark (option (plan_of N high) s v y t) ≤ min mark (option (plan_of N high) s v x t)
  option_falls s v falls x y b t =
      ⊎_elim
      (λ e.
      let ok : N.allowed s t ≡ true = left (N.allowed s t) (leb (N.loss s t + N.need s) x) e in
      let fits : leb (N.loss s t + N.need s) x ≡ true = right (N.allowed s t) (leb (N.loss s t + N.need s) x) e in
      rw (ok, fits, le-leb (N.loss s t + N.need s) y (omega (arith, leb-true (N.loss s t + N.need s) x fits)))
      (omega (arith, falls (min (x - N.loss s t) (high s)) (min (y - N.loss s t) (high s)) (omega arith))))
      (λ e. rw e (omega arith))
      (cases_Bool (N.allowed s t && leb (N.loss s t + N.need s) x))

  rows_falls : (k p x y : ℕ) → x ≤ y → rows (plan_of N high) k p y ≤ rows (plan_of N high) k p x
  rows_falls zero p x y b = omega arith
  rows_falls (suc k) p x y b =
      let s : ℕ = N.sections - k in
      ⊎_elim
      (λ e.
      rw e
      (omega (
        arith,
        rows_falls k p x y b,
        least_falls N.sizes (option (plan_of N high) s (rows (plan_of N high) k s) y) (option (plan_of N high) s (rows (plan_of N high) k s) x)
            (λ t l m. option_falls s (rows (plan_of N high) k s) (λ u w c. rows_falls k s u w c) x y b t),
      )))
      (λ e. rw e (rows_falls k p x y b))
      (cases_Bool (eqb p (N.parent s)))

  pub cell_falls : (s p x y : ℕ) → x ≤ y → cell (plan_of N high) s p y ≤ cell (plan_of N high) s p x
  unfolding cell
  cell_falls s p x y b = rows_falls (N.sections - s) p x y b
