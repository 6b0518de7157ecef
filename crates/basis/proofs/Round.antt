-- Division rounded up: its bounds, and that it keeps orders; the line lies between its ends.
-- Assumes nothing.
use mathlib.Core.Path.{◌≡◌}
use Prim.Native.Nat.{ℕ, zero, suc, ◌+◌, ◌-◌, ◌*◌, ◌/◌, ◌≤◌, ◌<◌}
use native.Mathlib.Omega.{arith}
use native.Mathlib.Nat.{zero-add, sub-zero, mul_comm, suc-mul, mul-le-mul_left, div-lt_iff_lt-mul, le-div_iff_mul-le, div-mul-le_self, div-eq_of_lt, div-zero, zero-div}
use Rattle.basis.specs.Round.{up, line}

pub up_le : {b : ℕ} (a c : ℕ) → 0 < b → a ≤ c * b → up a b ≤ c
unfolding up
up_le {b} a c h k =
    let w : (a + (b - 1)) / b < suc c = (div-lt_iff_lt-mul {k = b} {x = a + (b - 1)} {y = suc c} h).1 (omega (arith, suc-mul c b)) in
    omega arith

pub up_zero : (b : ℕ) → up 0 b ≡ 0
unfolding up
up_zero zero = zero-div zero
up_zero (suc b) = div-eq_of_lt (omega arith)

pub up_pos : (a b : ℕ) → 0 < a → 0 < b → 0 < up a b
unfolding up
up_pos a b h k =
    let w : 1 ≤ (a + (b - 1)) / b = (le-div_iff_mul-le {k = b} {x = 1} {y = a + (b - 1)} k).1 (omega arith) in
    omega arith

-- nothing is rounded where a quotient is whole
pub up_whole : (a b : ℕ) → 0 < b → up (a * b) b ≡ a
unfolding up
up_whole a b h =
    let low : a ≤ (a * b + (b - 1)) / b = (le-div_iff_mul-le {k = b} {x = a} {y = a * b + (b - 1)} h).1 (omega arith) in
    omega (arith, up_le (a * b) a h (omega arith))

div_mono : (x y b : ℕ) → x ≤ y → x / b ≤ y / b
div_mono x y zero h = rw (div-zero x) (omega arith)
div_mono x y (suc b) h =
    (le-div_iff_mul-le {k = suc b} {x = x / suc b} {y = y} (omega arith)).1 (omega (arith, div-mul-le_self x (suc b)))

pub up_mono : (a c b : ℕ) → a ≤ c → up a b ≤ up c b
unfolding up
up_mono a c b h = div_mono (a + (b - 1)) (c + (b - 1)) b (omega arith)

-- the line from zero
pub line_zero : (x₁ y₁ x : ℕ) → line 0 0 x₁ y₁ x ≡ up (x * y₁) x₁
unfolding line
line_zero x₁ y₁ x = rw (sub-zero y₁, sub-zero x, sub-zero x₁, mul_comm x y₁, zero-add (up (y₁ * x) x₁))

module _ (x₀ y₀ x₁ y₁ x : ℕ) where
  pub line_low : y₀ ≤ line x₀ y₀ x₁ y₁ x
  unfolding line
  line_low = omega arith

  pub line_high : x₀ < x₁ → x ≤ x₁ → y₀ ≤ y₁ → line x₀ y₀ x₁ y₁ x ≤ y₁
  unfolding line
  line_high h k l =
      let d : up ((y₁ - y₀) * (x - x₀)) (x₁ - x₀) ≤ y₁ - y₀ =
      up_le ((y₁ - y₀) * (x - x₀)) (y₁ - y₀) (omega arith) (mul-le-mul_left (y₁ - y₀) (omega arith)) in
      omega arith
