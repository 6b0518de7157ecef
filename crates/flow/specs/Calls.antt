-- The flow call, document 01, "Refused orders" 1 to 9 and 14, and the flow result; and the duty call, which document 01 does not name.
-- Assumes nothing.
use Rattle.std.specs.Prelude.{ℕ, ◌+◌, ◌*◌, List, [], ◌∷◌, ◌++◌}
use Rattle.basis.specs.Range.{concat_to}
use Rattle.answer.specs.Checks.{first_no, too_short}
use Rattle.wire.specs.Wire.{bytes_of}
use Rattle.fields.specs.declared.Job.{Job}
use Rattle.fields.specs.Fields.{count_of}
use Rattle.record.specs.Record.{decode}
use Rattle.demand.specs.Demand.{hour_of, day_of, mean_of, section_flow, house_flow}
use Rattle.acceptance.specs.Acceptance.{job_checks}

-- the length of a flow result for S sections
abbrev pub flow_length : ℕ → ℕ
flow_length count = 12 + 4 * count

-- hour, day and mean hour
unfoldable pub house_bytes : ℕ → ℕ → ℕ → List ℕ
house_bytes hour day mean = bytes_of 4 hour ++ (bytes_of 4 day ++ bytes_of 4 mean)

-- the flow result: hour, day, mean hour, S flows
unfoldable pub flow_bytes : Job → List ℕ
flow_bytes job = house_bytes (hour_of job) (day_of job) (mean_of job) ++ concat_to (count_of job) (λ i. bytes_of 4 (section_flow job i))

-- the flow call with a result buffer of so many bytes: 1 to 9, and 14
unfoldable pub flow_no : List ℕ → ℕ → ℕ
flow_no b room = first_no (job_checks b ++ ((too_short room (flow_length (count_of (decode b))), 14) ∷ []))

-- the duty call, for the pump set: the house's design flow in ml/s (4)
unfoldable pub duty_bytes : Job → List ℕ
duty_bytes job = bytes_of 4 (house_flow job)

-- with a result buffer of so many bytes: 1 to 9, and 14
unfoldable pub duty_no : List ℕ → ℕ → ℕ
duty_no b room = first_no (job_checks b ++ ((too_short room 4, 14) ∷ []))
