-- An elevation's range by two tests with less-than alone, and that an elevation in it is at most 6,000 cm, up or down.
-- Assumes nothing.
use mathlib.Core.Path.{◌≡◌, refl, sym}
use mathlib.Core.Bool.{true, not, ◌&&◌}
use mathlib.Core.Logic.{⊎_elim}
use Prim.Native.Nat.{ℕ, suc, ◌≤◌}
use native.Mathlib.Omega.{arith}
use lib.Dec.{leb, ltb, leb-suc-suc}
use lib.IntN.{ℤ, pos, negsuc}
use lib.Signed.{lt_z, le_z, mag}
use borrow.Author.Tests.{ltb-true, ltb-false, le-leb, lt-leb, leb-true}
use Rattle.std.proofs.lemmas.Bool.{cases_Bool}
use Rattle.basis.proofs.Bools.{left}
use Rattle.rules.specs.Rules.{elevation_ok}

le_not : (a b : ℕ) → leb a b ≡ not (ltb b a)
le_not a b =
    ⊎_elim (λ e. let h = ltb-true b a e in rw (e, lt-leb a b h)) (λ e. let h = ltb-false b a e in rw (e, le-leb a b h))
    (cases_Bool (ltb b a))

from_low : (z : ℤ) (n : ℕ) → le_z (negsuc n) z ≡ not (lt_z z (negsuc n))
from_low (pos a) n = refl
from_low (negsuc a) n = le_not a n

to_high : (z : ℤ) (n : ℕ) → le_z z (pos n) ≡ lt_z z (pos (suc n))
to_high (pos a) n = sym (leb-suc-suc a n)
to_high (negsuc a) n = refl

pub elevation_tests : (z : ℤ) → elevation_ok z ≡ (not (lt_z z (negsuc 999)) && lt_z z (pos 6001))
unfolding elevation_ok
elevation_tests z = rw (from_low z 999, to_high z 6000)

pub elevation_small : (z : ℤ) → elevation_ok z ≡ true → mag z ≤ 6000
unfolding elevation_ok
elevation_small (pos n) e = leb-true n 6000 e
elevation_small (negsuc n) e = let h = leb-true n 999 (left (leb n 999) _ e) in omega arith
