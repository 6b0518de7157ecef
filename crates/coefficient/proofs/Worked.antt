-- The values of α that document 01 names.
-- Assumes nothing.
use mathlib.Core.Path.{◌≡◌, refl}
use Rattle.basis.specs.Round.{up, line}
use Rattle.coefficient.specs.Table.{table}
use Rattle.coefficient.specs.Alpha.{along, alpha_of}

pub worked : (alpha_of 14999 ≡ 200000) × (alpha_of 15000 ≡ 202000) × (alpha_of 400000000 ≡ 91900000) × (alpha_of 1840741 ≡ 1367927)
unfolding up line along alpha_of table
worked = (refl, refl, refl, refl)
