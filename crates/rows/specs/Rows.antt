-- What the contracts say of the rows of a net.
-- Assumes nothing.
use Rattle.std.specs.Prelude.{Bool, List, ℕ, ◌+◌, ◌*◌, get_or}
use Rattle.nets.specs.NetIn.{net_in}
use Rattle.plan.specs.Plan.{Plan, plan_of}
use Rattle.rows.specs.declared.filling.Rows.{Rows}
use Rattle.rows.specs.declared.raise.Row.{Row}
use Rattle.rows.specs.Steps.{row_of, Filling, Holds}

-- the cells of the workspace: a row of head + 1 for the pump and for each section
abbrev pub cells_of : Rows → ℕ
cells_of r = (r.tables.now.sections + 1) * (r.head + 1)

-- the row of section s
abbrev pub row_in : Rows → ℕ → Row
row_in r s = row_of r.tables.now.needs r.highs r.head s

-- what the cells hold in the end
abbrev pub plan_in : Rows → Plan ℕ
plan_in r = plan_of (net_in r.tables.now) (λ s. get_or r.highs s 0)

-- the sections of higher numbers than s have been added to their parents' rows
abbrev pub FilledTo : Rows → List ℕ → List Bool → ℕ → Type 0
FilledTo r ws begun s = Filling (net_in r.tables.now) r.head (λ s. get_or r.highs s 0) ws begun s

-- all have
abbrev pub Held : Rows → List ℕ → Type 0
Held r ws = Holds (net_in r.tables.now) r.head (λ s. get_or r.highs s 0) ws
