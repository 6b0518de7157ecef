-- A loss fits: 65,535 mm per metre over 5,000 decimetres with k 3 is the most. It is not 0 where slope and length are not, and a gentler slope loses no more.
-- Assumes nothing.
use Prim.Native.Nat.{ℕ, ◌+◌, ◌*◌, ◌≤◌, ◌<◌}
use native.Mathlib.Nat.{mul-le-mul, mul-le-mul_right, mul-pos}
use native.Mathlib.Omega.{arith}
use Rattle.basis.proofs.Round.{up_le, up_pos, up_mono}
use Rattle.sizing.specs.Losses.{loss_of}

module _ (slope decimetres tenths : ℕ) (s : slope ≤ 65535) (d : decimetres ≤ 5000) (t : tenths ≤ 3) where
  pub run_top : slope * decimetres ≤ 327675000
  run_top = mul-le-mul {n₂ = 65535} {m₂ = 5000} s d

  pub product_top : slope * decimetres * (10 + tenths) ≤ 4259775000
  product_top = mul-le-mul {n₂ = 327675000} {m₂ = 13} run_top (omega arith)

  pub loss_top : loss_of slope decimetres tenths ≤ 4259775
  unfolding loss_of
  loss_top = up_le (slope * decimetres * (10 + tenths)) 4259775 (omega arith) (omega (arith, product_top))

pub loss_pos : (slope decimetres tenths : ℕ) → 0 < slope → 0 < decimetres → 0 < loss_of slope decimetres tenths
unfolding loss_of
loss_pos slope decimetres tenths s d =
    up_pos (slope * decimetres * (10 + tenths)) 1000 (mul-pos (mul-pos s d) (omega arith)) (omega arith)

pub loss_mono : (slope other decimetres tenths : ℕ) → slope ≤ other → loss_of slope decimetres tenths ≤ loss_of other decimetres tenths
unfolding loss_of
loss_mono slope other decimetres tenths h =
    up_mono (slope * decimetres * (10 + tenths)) (other * decimetres * (10 + tenths)) 1000
    (mul-le-mul_right (10 + tenths) (mul-le-mul_right decimetres h))
