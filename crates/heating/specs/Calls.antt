-- The heat call, document 02, L4: 1 to 9, 20, 21 and 14, and its result.
-- Assumes nothing.
use Rattle.std.specs.Prelude.{ℕ, not, List, [], ◌∷◌, ◌++◌}
use Rattle.answer.specs.Checks.{first_no, too_short}
use Rattle.wire.specs.Wire.{bytes_of}
use Rattle.fields.specs.declared.Job.{Job}
use Rattle.record.specs.Record.{decode}
use Rattle.demand.specs.Demand.{hour_of, mean_of}
use Rattle.acceptance.specs.Acceptance.{job_checks}
use Rattle.heating.specs.Heat.{watts_of, hot_job, heat_ok}

-- the result: the mean hour's heat flow (4), then the greatest hour's (4)
unfoldable pub heat_bytes : Job → ℕ → ℕ → List ℕ
heat_bytes job t loss = bytes_of 4 (watts_of (mean_of job) t loss) ++ bytes_of 4 (watts_of (hour_of job) t loss)

-- the heat call with a result buffer of so many bytes
unfoldable pub heat_no : List ℕ → ℕ → ℕ → ℕ → ℕ
heat_no b t loss room =
    first_no (job_checks b ++ ((not (hot_job (decode b)), 20) ∷ (not (heat_ok t loss), 21) ∷ (too_short room 8, 14) ∷ []))
