-- Document 01, "The job record", and document 02, L4, its version 2: the fields in the bytes, and the bytes of the fields.
-- Assumes nothing.
use Rattle.std.specs.Prelude.{ℕ, ◌+◌, ◌-◌, ◌*◌, ◌≤◌, ◌<◌, ◌≡◌, cond, List, [], ◌∷◌, ◌++◌, length, get_or, eqb}
use Rattle.std.specs.Int.Signed.{mag}
use Rattle.basis.specs.Range.{concat_to}
use Rattle.basis.specs.Slots.{tabulate, slots}
use Rattle.wire.specs.Wire.{byte_at, be_at, bytes_of, signed_of, bits_of}
use Rattle.fields.specs.declared.Section.{Section}
use Rattle.fields.specs.declared.Header.{Header}
use Rattle.fields.specs.declared.Job.{Job}
use Rattle.fields.specs.Fields.{blank_section, count_of, section_of, residents_of}

-- where the sections begin: version 2 has a service byte before them
unfoldable pub sections_from : ℕ → ℕ
sections_from version = cond (eqb version 2) 41 40

-- the length of a record of a version with S sections
abbrev pub length_of : ℕ → ℕ → ℕ
length_of version count = sections_from version + 10 * count

-- where section i begins, from 1
abbrev pub place_of : ℕ → ℕ → ℕ
place_of version i = sections_from version + 10 * (i - 1)

-- the version
abbrev pub version_at : List ℕ → ℕ
version_at b = byte_at b 4

-- the service: byte 40 in version 2, and 0 in a record that ends before it, which 4 refuses; version 1 means total
unfoldable pub service_at : List ℕ → ℕ
service_at b = cond (eqb (version_at b) 2) (byte_at b 40) 0

unfoldable pub header_at : List ℕ → Header
header_at b =
    record {
      version = version_at b;
      service = service_at b;
      tenths = byte_at b 5;
      sections = byte_at b 6;
      hours = byte_at b 7;
      meter = be_at 2 b 8;
      guaranteed = be_at 2 b 10;
      delivered = be_at 2 b 12;
      limit = be_at 2 b 14;
    }

-- the residents of kind c + 1
unfoldable pub residents_at : List ℕ → ℕ → ℕ
residents_at b c = be_at 2 b (16 + 2 * c)

-- the section whose ten bytes begin at a place
unfoldable pub section_from : List ℕ → ℕ → Section
section_from b at =
    record {
      parent = byte_at b at;
      kind = byte_at b (at + 1);
      fixtures = be_at 2 b (at + 2);
      decimetres = be_at 2 b (at + 4);
      elevation = signed_of 16 (be_at 2 b (at + 6));
      free = be_at 2 b (at + 8);
    }

abbrev pub section_at : List ℕ → ℕ → Section
section_at b i = section_from b (place_of (version_at b) i)

-- the fields in the bytes; the slots past S are blank
unfoldable pub decode : List ℕ → Job
decode b =
    record {
      header = header_at b;
      residents = tabulate 12 (residents_at b);
      sections = slots 64 1 (byte_at b 6 + 1) blank_section (section_at b);
    }

unfoldable pub header_bytes : Header → List ℕ
header_bytes h =
    bytes_of 4 (length_of h.version h.sections) ++
    ((h.version ∷ h.tenths ∷ h.sections ∷ h.hours ∷ []) ++
    (bytes_of 2 h.meter ++ (bytes_of 2 h.guaranteed ++ (bytes_of 2 h.delivered ++ bytes_of 2 h.limit))))

unfoldable pub section_bytes : Section → List ℕ
section_bytes s =
    (s.parent ∷ s.kind ∷ []) ++
    (bytes_of 2 s.fixtures ++ (bytes_of 2 s.decimetres ++ (bytes_of 2 (bits_of 16 s.elevation) ++ bytes_of 2 s.free)))

-- the residents of kinds 1 to 12
unfoldable pub residents_bytes : Job → List ℕ
residents_bytes job = concat_to 12 (λ kind. bytes_of 2 (residents_of job kind))

-- sections 1 to S
unfoldable pub sections_bytes : Job → List ℕ
sections_bytes job = concat_to (count_of job) (λ i. section_bytes (section_of job i))

-- the service byte, which version 2 alone has
unfoldable pub service_bytes : Header → List ℕ
service_bytes h = cond (eqb h.version 2) (h.service ∷ []) []

-- the bytes of the fields
unfoldable pub encode : Job → List ℕ
encode job = header_bytes job.header ++ (residents_bytes job ++ (service_bytes job.header ++ sections_bytes job))

-- the fields that a record keeps: the head, the residents and the first S sections
unfoldable pub kept : Job → Job
kept job =
    record { header = job.header; residents = job.residents; sections = slots 64 1 (count_of job + 1) blank_section (section_of job) }

-- fields that fit their bytes: a section's, the head's and a job's
pub record SectionFits (s : Section) : Type 0 where
  pub fixtures : s.fixtures < 65536
  pub decimetres : s.decimetres < 65536
  pub elevation : mag s.elevation < 32768
  pub free : s.free < 65536

pub record HeadFits (h : Header) : Type 0 where
  -- without version 2 there is no byte for the service, so it is total
  pub total : (h.version ≡ 2 → ⊥) → h.service ≡ 0
  pub meter : h.meter < 65536
  pub guaranteed : h.guaranteed < 65536
  pub delivered : h.delivered < 65536
  pub limit : h.limit < 65536

pub record JobFits (job : Job) : Type 0 where
  pub header : HeadFits job.header
  pub kinds : length job.residents ≡ 12
  pub residents : (c : ℕ) → c < 12 → get_or job.residents c 0 < 65536
  pub sections : (i : ℕ) → 0 < i → i ≤ count_of job → SectionFits (section_of job i)
