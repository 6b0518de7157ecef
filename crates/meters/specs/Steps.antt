-- The best of the meters so far, as the code keeps it: its place and its loss.
-- Assumes nothing.
use Rattle.std.specs.Prelude.{ℕ, Bool, true, ◌&&◌, cond, Option, Some, None, ltb}
use Rattle.meters.specs.declared.Meter.{Meter}
use Rattle.meters.specs.Meters.{meter_loss, qualifies}

-- a loss is less than that of the best so far
abbrev pub beats : ℕ → Option (ℕ × ℕ) → Bool
beats loss None = true
beats loss (Some best) = ltb loss best.1

-- the better of that and the meter m at place t; of two that lose as much the one before
unfoldable pub better : Option (ℕ × ℕ) → ℕ → Meter → ℕ → ℕ → Option (ℕ × ℕ)
better best t m q mean = cond (qualifies m q mean && beats (meter_loss m q) best) (Some (t, meter_loss m q)) best
