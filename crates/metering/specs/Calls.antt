-- The meter call, document 02, L1: 1 to 9, 17, 14 and 18, and its result.
-- Assumes nothing.
use Rattle.std.specs.Prelude.{ℕ, ◌+◌, not, List, [], ◌∷◌, ◌++◌, length}
use Rattle.answer.specs.Checks.{first_no, too_short}
use Rattle.fields.specs.declared.Job.{Job}
use Rattle.record.specs.Record.{decode}
use Rattle.record.specs.Edited.{meter_place, edited}
use Rattle.demand.specs.Demand.{mean_of, house_flow}
use Rattle.acceptance.specs.Acceptance.{job_checks}
use Rattle.meters.specs.Meters.{meter_at, meters_ok, meter_loss, none_qualifies, winner_of}

-- the place of the meter that wins at the house's design flow and its mean hour
abbrev pub place_for : Job → List ℕ → ℕ
place_for job meters = winner_of meters (house_flow job) (mean_of job)

-- that meter's loss
abbrev pub loss_for : Job → List ℕ → ℕ
loss_for job meters = meter_loss (meter_at meters (place_for job meters)) (house_flow job)

-- the job record with that loss in its meter loss field and every other byte as it was
unfoldable pub metered_record : List ℕ → List ℕ → List ℕ
metered_record b meters = edited 2 b meter_place (loss_for (decode b) meters)

-- the result: the place (1), then that record
unfoldable pub meter_bytes : List ℕ → List ℕ → List ℕ
meter_bytes b meters = place_for (decode b) meters ∷ metered_record b meters

-- the length of a result for a record of so many bytes
abbrev pub meter_length : ℕ → ℕ
meter_length long = 1 + long

-- the meter call with a result buffer of so many bytes
unfoldable pub meter_no : List ℕ → List ℕ → ℕ → ℕ
meter_no b meters room =
    first_no
    (job_checks b ++
    ((not (meters_ok meters), 17) ∷
    (too_short room (meter_length (length b)), 14) ∷
    (none_qualifies meters (house_flow (decode b)) (mean_of (decode b)), 18) ∷ []))
