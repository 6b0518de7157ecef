-- The greatest heat flow: a hot line's mean hour is at most its day, so that four bytes hold the watts of either hour.
-- Assumes nothing.
use mathlib.Core.Path.{◌≡◌}
use Prim.Native.Nat.{ℕ, ◌-◌, ◌*◌, ◌≤◌, ◌<◌}
use native.Mathlib.Omega.{arith}
use native.Mathlib.Nat.{mul-le-mul}
use Rattle.basis.specs.Round.{up}
use Rattle.basis.proofs.Round.{up_le}
use Rattle.fields.specs.declared.Job.{Job}
use Rattle.fields.specs.Fields.{service_of, residents_of}
use Rattle.demand.specs.Demand.{day_of, mean_of, Valid}
use Rattle.demand.proofs.Tops.{mean_top}
use Rattle.demand.proofs.Totals.{hot_day_top}
use Rattle.demand.proofs.Validity.{valid_hours}
use Rattle.heating.specs.Heat.{watts_of}

-- what the heat flow of so many l/h, warmed by so many degrees, comes to on the way
product_top : (litres degrees : ℕ) → litres ≤ 66583560 → degrees ≤ 55 → 116 * litres * degrees ≤ 424803112800
product_top litres degrees h k = mul-le-mul {n₂ = 7723692960} {m₂ = 55} (omega arith) (omega arith)

pub heat_top : (litres degrees : ℕ) → litres ≤ 66583560 → degrees ≤ 55 → up (116 * litres * degrees) 100 ≤ 4248031128
heat_top litres degrees h k = up_le (116 * litres * degrees) 4248031128 (omega arith) (product_top litres degrees h k)

pub watts_top : (litres t loss : ℕ) → litres ≤ 66583560 → loss ≤ 1000000 → watts_of litres t loss ≤ 4249031128
unfolding watts_of
watts_top litres t loss h k = omega (arith, heat_top litres (55 - t) h (omega arith))

-- the mean hour of a hot line
pub hot_mean_top : {job : Job} → Valid job → service_of job ≡ 2 → ((kind : ℕ) → 0 < kind → kind ≤ 12 → residents_of job kind < 65536) →
    mean_of job ≤ 66583560
unfolding mean_of
hot_mean_top {job} valid hot few = omega (arith, mean_top (day_of job) (valid_hours valid).low, hot_day_top job few hot)
