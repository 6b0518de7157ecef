-- Document 01, "Refused orders": a job is accepted when 1 to 9 find nothing, a catalogue when 10 and 11 don't.
-- Assumes nothing.
use Rattle.std.specs.Prelude.{ℕ, Bool, List, ◌++◌}
use Rattle.answer.specs.Checks.{first_no}
use Rattle.record.specs.Record.{decode}
use Rattle.job.specs.Calls.{read_checks}
use Rattle.demand.specs.Demand.{demand_checks}
use Rattle.catalogue.specs.Rules.{cat_checks}

-- a job: 1 to 7, then 8 and 9 of the fields
unfoldable pub job_checks : List ℕ → List (Bool × ℕ)
job_checks b = read_checks b ++ demand_checks (decode b)

unfoldable pub job_no : List ℕ → ℕ
job_no b = first_no (job_checks b)

-- a job and a catalogue: 1 to 9, 10, 11
unfoldable pub input_checks : List ℕ → List ℕ → List (Bool × ℕ)
input_checks b cat = job_checks b ++ cat_checks cat

unfoldable pub input_no : List ℕ → List ℕ → ℕ
input_no b cat = first_no (input_checks b cat)
