-- The numbers of the straight line fit: a product of two of 32 bits, and a sum that is at most the second value.
-- Assumes nothing.
use Prim.Native.Nat.{ℕ, ◌+◌, ◌-◌, ◌*◌, ◌≤◌}
use native.Mathlib.Nat.{mul-le-mul}
use native.Mathlib.Omega.{arith}
use Rattle.basis.specs.Round.{up, line}
use Rattle.basis.proofs.Round.{line_high}
use Rattle.round.specs.Piece.{Piece}

module _ {x₀ y₀ x₁ y₁ x : ℕ} (p : Piece x₀ y₀ x₁ y₁ x) where
  pub piece_product : y₁ ≤ 4294967295 → x ≤ 4294967295 → (y₁ - y₀) * (x - x₀) ≤ 4294967295 * 4294967295
  piece_product h k = mul-le-mul {n₂ = 4294967295} {m₂ = 4294967295} (omega arith) (omega arith)

  pub piece_sum : y₀ + up ((y₁ - y₀) * (x - x₀)) (x₁ - x₀) ≤ y₁
  unfolding line
  piece_sum = line_high x₀ y₀ x₁ y₁ x p.across p.high p.rising
