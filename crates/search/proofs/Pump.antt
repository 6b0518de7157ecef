-- What the pump's cell says of the filled rows.
-- Assumes nothing.
use Rattle.std.proofs.Common.{◌≡◌, ◌∙◌, List, ℕ, ◌≤◌, ◌<◌, arith}
use Rattle.nets.specs.Net.{Net, Found, None}
use Rattle.nets.specs.Tables.{Sound}
use Rattle.plan.specs.Plan.{mark, cell, plan_of, Usable}
use Rattle.plan.proofs.Optimum.{none_suits, pump_most}
use Rattle.plan.proofs.Potential.{cell_most}
use Rattle.cells.specs.Cells.{cell_at}
use Rattle.rows.specs.Steps.{Holds}
use Rattle.rows.proofs.Fillings.{pump_cell}

module _ {N : Net} (sound : Sound N) {a : ℕ} {high : ℕ → ℕ} {ws : List ℕ} {c : ℕ} (usable : Usable N a high) (hold : Holds N a high ws) (own : N.need 0 ≤ a) (is : c ≡ cell_at ws (high 0)) where
  -- it is the plan's
  pump : c ≡ cell (plan_of N high) 0 0 (high 0)
  pump = is ∙ pump_cell {N = N} hold (omega (arith, usable.own 0 (omega arith)))

  pub pump_none : c ≡ mark → None N a
  pump_none e = none_suits sound usable a (omega arith) (rw (pump_most usable) (omega (arith, pump)))

  pub pump_some : (c ≡ mark → ⊥) → cell (plan_of N high) 0 0 (high 0) < mark
  pump_some n = omega (arith, pump, cell_most (plan_of N high) 0 0 (high 0))

  pub pump_found : {z : List ℕ} → Found N a (cell (plan_of N high) 0 0 (high 0)) z → Found N a c z
  pump_found f = record { best = f.best; cost = pump ∙ f.cost }
