-- Figures in decimal are those that the standard library writes.
-- Assumes nothing.
use Rattle.std.proofs.Common.{◌≡◌, ℕ, suc, ◌^◌, ◌<◌, ℤ, pos, negsuc, List, ◌∷◌, ap, arith, rules}
use lib.Signed.{mag}
use Rattle.std.specs.Fmt.{decimal as std_decimal, signed_decimal as std_signed}
use Rattle.std.proofs.lemmas.Fmt.{AppendsLastDigit, decimal_from_appends, length-decimal-le}
use Rattle.std.proofs.lemmas.Int.{to_z-of_z}
use Rattle.text.specs.Figures.{digits, decimal, signed_decimal}

appends : AppendsLastDigit digits
unfolding digits
appends = search rules

-- any number of at most ten digits
pub decimal_is : (n : ℕ) → n < 10 ^ 10 → decimal n ≡ std_decimal n
unfolding decimal
decimal_is n h =
    decimal_from_appends digits appends 10 n (omega arith) (length-decimal-le 10 n (omega arith) h (omega arith))

pub signed_is : (z : ℤ) → mag z < 2 ^ 31 → signed_decimal z ≡ std_signed z
unfolding signed_decimal
signed_is (pos n) h = decimal_is n (omega arith)
signed_is (negsuc n) h = ap (λ (l : List ℕ). 45 ∷ l) (decimal_is (suc n) (omega arith))

pub ruleset figures = (decimal_is, signed_is, to_z-of_z)
