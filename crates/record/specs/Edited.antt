-- A record in which one field's bytes are replaced, and the job with that field changed: the meter loss for L1 of document 02, the version for
-- L4, the others for L11.
-- Assumes nothing.
use Rattle.std.specs.Prelude.{ℕ, ◌+◌, ◌-◌, ◌*◌, ◌≤◌, ◌<◌, ◌≡◌, List, length, set}
use Rattle.basis.specs.Stored.{stored}
use Rattle.wire.specs.Wire.{byte_at, bytes_of}
use Rattle.fields.specs.declared.Section.{Section}
use Rattle.fields.specs.declared.Job.{Job}
use Rattle.record.specs.Record.{place_of}

-- where a field stands: meter loss, the residents of a kind, and by the record's version the fixtures and free head of section i
abbrev pub meter_place : ℕ
meter_place = 8

abbrev pub residents_place : ℕ → ℕ
residents_place kind = 16 + 2 * (kind - 1)

abbrev pub fixtures_place : ℕ → ℕ → ℕ
fixtures_place version i = place_of version i + 2

abbrev pub free_place : ℕ → ℕ → ℕ
free_place version i = place_of version i + 8

-- the record with n in the `width` bytes from a place on
abbrev pub edited : ℕ → List ℕ → ℕ → ℕ → List ℕ
edited width b at n = stored b at (bytes_of width n)

-- e has as many bytes as b, and each as it was but for the `width` from a place on
pub record SameBut (at width : ℕ) (b e : List ℕ) : Type 0 where
  pub long : length e ≡ length b
  pub bytes : (j : ℕ) → (at ≤ j → j < at + width → ⊥) → byte_at e j ≡ byte_at b j

-- the job in another version
unfoldable pub with_version : Job → ℕ → Job
with_version job version =
    record {
      header =
          record {
            version = version;
            service = job.header.service;
            tenths = job.header.tenths;
            sections = job.header.sections;
            hours = job.header.hours;
            meter = job.header.meter;
            guaranteed = job.header.guaranteed;
            delivered = job.header.delivered;
            limit = job.header.limit;
          };
      residents = job.residents;
      sections = job.sections;
    }

-- with another meter loss, other residents of a kind, another section i
unfoldable pub with_meter : Job → ℕ → Job
with_meter job n =
    record {
      header =
          record {
            version = job.header.version;
            service = job.header.service;
            tenths = job.header.tenths;
            sections = job.header.sections;
            hours = job.header.hours;
            meter = n;
            guaranteed = job.header.guaranteed;
            delivered = job.header.delivered;
            limit = job.header.limit;
          };
      residents = job.residents;
      sections = job.sections;
    }

unfoldable pub with_residents : Job → ℕ → ℕ → Job
with_residents job kind n = record { header = job.header; residents = set job.residents (kind - 1) n; sections = job.sections }

unfoldable pub with_section : Job → ℕ → Section → Job
with_section job i s = record { header = job.header; residents = job.residents; sections = set job.sections i s }

-- the section with other fixtures and another free head
unfoldable pub fitted : Section → ℕ → ℕ → Section
fitted s fixtures free =
    record { parent = s.parent; kind = s.kind; fixtures = fixtures; decimetres = s.decimetres; elevation = s.elevation; free = free }
