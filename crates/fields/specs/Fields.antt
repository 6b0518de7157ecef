-- The fields of a job, read off the struct.
-- Assumes nothing.
use Rattle.std.specs.Prelude.{ℕ, ◌-◌, get_or, replicate, pos}
use Rattle.fields.specs.declared.Section.{Section}
use Rattle.fields.specs.declared.Job.{Job}

abbrev pub blank_section : Section
blank_section = record { parent = 0; kind = 0; fixtures = 0; decimetres = 0; elevation = pos 0; free = 0 }

-- the job after a refusal
unfoldable pub blank_job : Job
blank_job =
    record {
      header =
          record { version = 0; service = 0; tenths = 0; sections = 0; hours = 0; meter = 0; guaranteed = 0; delivered = 0; limit = 0 };
      residents = replicate 12 0;
      sections = replicate 64 blank_section;
    }

-- the version of a job's record
abbrev pub version_of : Job → ℕ
version_of job = job.header.version

-- the service: total (0), cold (1) or hot (2)
abbrev pub service_of : Job → ℕ
service_of job = job.header.service

-- S
abbrev pub count_of : Job → ℕ
count_of job = job.header.sections

-- section i
abbrev pub section_of : Job → ℕ → Section
section_of job i = get_or job.sections i blank_section

-- U of a kind, 1 to 12
abbrev pub residents_of : Job → ℕ → ℕ
residents_of job kind = get_or job.residents (kind - 1) 0
