-- A figure in decimal, read back digit by digit, is the number; and none but 0 begins with the digit 0.
-- Assumes nothing.
use Rattle.std.proofs.Common.{◌≡◌, ℕ, ◌+◌, ◌-◌, ◌*◌, ◌<◌, true, List, [], ◌∷◌, get_or, arith, rules}
use Rattle.std.specs.Str.{all_ascii_digits}
use Rattle.std.proofs.lemmas.Fmt.{digits_value-decimal, first_decimal}
use Rattle.std.proofs.lemmas.Str.Parse.{IsNumeralModel, numerals_by_fold}
use Rattle.text.specs.Figures.{decimal}
use Rattle.text.proofs.Decimal.{decimal_is}

-- digits read from the left, after a number already read
pub read_on : ℕ → List ℕ → ℕ
read_on n [] = n
read_on n (digit ∷ rest) = read_on (n * 10 + (digit - 48)) rest

reads : IsNumeralModel (λ ds. all_ascii_digits ds ≡ true) (read_on 0)
unfolding read_on
reads = numerals_by_fold _ (search rules) read_on (search rules)

module _ (n : ℕ) (h : n < 10000000000) where
  pub decimal_read : read_on 0 (decimal n) ≡ n
  decimal_read = rw (decimal_is n h) (digits_value-decimal reads n (omega arith))

  pub decimal_first : 0 < n → 48 < get_or (decimal n) 0 0
  decimal_first a = rw (decimal_is n h) (first_decimal n a (omega arith))
