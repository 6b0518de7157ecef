-- `round::divide_up` meets its contract: std's quotient is the least that is enough.
-- Assumes nothing.
use mathlib.Core.Path.{◌≡◌, ◌∙◌}
use Prim.Native.Nat.{ℕ, ◌+◌, ◌-◌, ◌*◌, ◌/◌, ◌≤◌, ◌<◌}
use native.Mathlib.Nat.{le-div_iff_mul-le}
use native.Mathlib.Omega.{arith}
use Rattle.std.proofs.lemmas.Grind.{div_ceil_times}
use Rattle.basis.specs.Round.{up}
use Rattle.basis.proofs.Round.{up_le}
use Rattle.round.proofs.divide_up.Goals as goal

least_enough : (a b c : ℕ) → 0 < b → a ≤ c * b → c * b < a + b → c ≡ up a b
unfolding up
least_enough a b c h k l =
    let low : up a b ≤ c = up_le a c h k in
    let high : c ≤ (a + (b - 1)) / b = (le-div_iff_mul-le {k = b} {x = c} {y = a + (b - 1)} h).1 (omega arith) in
    omega arith

pub returns : goal.returns
returns c =
    let times = div_ceil_times c.args.a c.args.b c.requires.0 in
    c.div_ceil.ensures ∙ least_enough c.args.a c.args.b _ c.requires.0 times.0 times.1
