-- What the heads rest on: a job that keeps 3 and 5, and losses of at most 4,259,775 cm, the most that a table can give:
-- 65,535 mm per metre over 5,000 decimetres with k 3.
-- Assumes nothing.
use Rattle.std.specs.Prelude.{◌≡◌, true, ℕ, ◌≤◌, ◌<◌, List, get_or}
use Rattle.fields.specs.declared.Job.{Job}
use Rattle.fields.specs.Fields.{count_of}
use Rattle.rules.specs.Rules.{header_ok, sections_ok}

pub record Given (job : Job) (losses : List ℕ) : Type 0 where
  pub header : header_ok job.header ≡ true
  pub sections : sections_ok job ≡ true
  pub top : (i : ℕ) → 0 < i → i ≤ count_of job → get_or losses i 0 ≤ 4259775
