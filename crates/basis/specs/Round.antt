-- Division rounded up, and the straight line between two points, rounded up.
-- Assumes nothing.
use Rattle.std.specs.Prelude.{ℕ, ◌+◌, ◌-◌, ◌*◌, ◌/◌}

-- a / b, up to the next whole number if not whole
unfoldable pub up : ℕ → ℕ → ℕ
up a b = (a + (b - 1)) / b

-- the straight line from (x₀, y₀) to (x₁, y₁), where y₀ ≤ y₁, at x from x₀ on, up
unfoldable pub line : ℕ → ℕ → ℕ → ℕ → ℕ → ℕ
line x₀ y₀ x₁ y₁ x = y₀ + up ((y₁ - y₀) * (x - x₀)) (x₁ - x₀)
