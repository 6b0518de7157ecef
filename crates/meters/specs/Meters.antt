-- Document 02, L1: the list of meters and its rules, a meter's loss, when a meter qualifies, and the one that wins.
-- A meter is known by its place in the list, from 1. q is the house's design flow in ml/s, and mean its mean hour in l/h.
-- Assumes nothing.
use Rattle.std.specs.Prelude.{ℕ, ◌+◌, ◌-◌, ◌*◌, ◌/◌, Bool, not, ◌&&◌, ◌||◌, cond, List, length, leb, eqb}
use Rattle.basis.specs.Range.{within, all_to, any_to, lowest_to}
use Rattle.basis.specs.Round.{up}
use Rattle.wire.specs.Wire.{byte_at, be_at}
use Rattle.meters.specs.declared.Meter.{Meter}

-- the number of meters: five bytes for each
abbrev pub meters_in : List ℕ → ℕ
meters_in list = length list / 5

-- the meter at place t: type (1), resistance (2), service flow (2)
unfoldable pub meter_at : List ℕ → ℕ → Meter
meter_at list t =
    record { form = byte_at list (5 * (t - 1)); resistance = be_at 2 list (5 * (t - 1) + 1); service = be_at 2 list (5 * (t - 1) + 3) }

-- type 1 (vane) or 2 (turbine), resistance and service flow at least 1
unfoldable pub meter_ok : Meter → Bool
meter_ok m = within 1 2 m.form && (leb 1 m.resistance && leb 1 m.service)

-- 17 finds nothing: 1 to 8 meters of five bytes, each by its rules
unfoldable pub meters_ok : List ℕ → Bool
meters_ok list =
    within 1 8 (meters_in list) && (eqb (length list) (5 * meters_in list) && all_to (meters_in list) (λ t. meter_ok (meter_at list t)))

-- loss in cm: resistance × q × q / 100,000,000, up
unfoldable pub meter_loss : Meter → ℕ → ℕ
meter_loss m q = up (m.resistance * q * q) 100000000

-- the most loss: 500 cm (vane), else 250 cm (turbine)
unfoldable pub most_loss : Meter → ℕ
most_loss m = cond (eqb m.form 1) 500 250

-- a meter qualifies if its loss is at most that, and the mean hour is at most its service flow
unfoldable pub qualifies : Meter → ℕ → ℕ → Bool
qualifies m q mean = leb (meter_loss m q) (most_loss m) && leb mean m.service

-- 18: no meter of the list qualifies
unfoldable pub none_qualifies : List ℕ → ℕ → ℕ → Bool
none_qualifies list q mean = not (any_to (meters_in list) (λ t. qualifies (meter_at list t) q mean))

-- the meter at place t qualifies, and none that qualifies has less loss
unfoldable pub least_at : List ℕ → ℕ → ℕ → ℕ → Bool
least_at list q mean t =
    qualifies (meter_at list t) q mean &&
    all_to (meters_in list) (λ u. not (qualifies (meter_at list u) q mean) || leb (meter_loss (meter_at list t) q) (meter_loss (meter_at list u) q))

-- the least loss wins, then the lower place; 0 where no meter qualifies
unfoldable pub winner_of : List ℕ → ℕ → ℕ → ℕ
winner_of list q mean = lowest_to (meters_in list) (least_at list q mean)
