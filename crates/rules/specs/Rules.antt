-- Document 01, "Refused orders" 2, 3, 5, 6 and 7, and document 02, L4, as conditions on the fields.
-- Assumes nothing.
use Rattle.std.specs.Prelude.{ℕ, Bool, not, ◌&&◌, ◌||◌, cond, List, [], ◌∷◌, leb, ltb, eqb, ℤ, pos, negsuc}
use Rattle.std.specs.Int.Signed.{le_z}
use Rattle.basis.specs.Range.{within, all_to, any_to}
use Rattle.fields.specs.declared.Section.{Section}
use Rattle.fields.specs.declared.Header.{Header}
use Rattle.fields.specs.declared.Job.{Job}
use Rattle.fields.specs.Fields.{count_of, section_of, residents_of}
use Rattle.tree.specs.Tree.{house_of}

-- 2 finds nothing: the version is 1 or 2
unfoldable pub version_ok : Header → Bool
version_ok h = within 1 2 h.version

-- the service is 0, 1 or 2; with version 1 it is 0
unfoldable pub service_ok : Header → Bool
service_ok h = cond (eqb h.version 1) (eqb h.service 0) (leb h.service 2)

-- 3 finds nothing: service, k, S, T, meter loss, G, H and limit are in range
unfoldable pub header_ok : Header → Bool
header_ok h =
    service_ok h &&
    (within 2 3 h.tenths &&
    (within 1 63 h.sections &&
    (within 1 24 h.hours && (leb h.meter 1000 && (leb h.guaranteed 6000 && (leb h.delivered 6000 && within 1 3000 h.limit))))))

-- kind is 0 to 12; kind 0 goes with no fixtures and free head 0, other kinds with at least one fixture
unfoldable pub kind_ok : Section → Bool
kind_ok s = cond (eqb s.kind 0) (eqb s.fixtures 0 && eqb s.free 0) (leb s.kind 12 && leb 1 s.fixtures)

-- elevation is -1,000 to 6,000
unfoldable pub elevation_ok : ℤ → Bool
elevation_ok z = le_z (negsuc 999) z && le_z z (pos 6000)

-- the rules of section i's own fields
unfoldable pub section_ok : ℕ → Section → Bool
section_ok i s =
    ltb s.parent i && (kind_ok s && (within 1 5000 s.decimetres && (elevation_ok s.elevation && leb s.free 1000)))

-- 5 finds nothing: each section keeps its own fields' rules
unfoldable pub sections_ok : Job → Bool
sections_ok job = all_to (count_of job) (λ i. section_ok i (section_of job i))

-- nobody's parent
unfoldable pub childless : Job → ℕ → Bool
childless job i = not (any_to (count_of job) (λ j. eqb (section_of job j).parent i))

-- 6: a childless section has kind 0
unfoldable pub childless_zero : Job → Bool
childless_zero job = any_to (count_of job) (λ i. eqb (section_of job i).kind 0 && childless job i)

-- 7: residents without fixtures, or the reverse
unfoldable pub unmatched : Job → Bool
unmatched job =
    any_to 12 (λ kind. (ltb 0 (residents_of job kind) && eqb (house_of job kind) 0) || (eqb (residents_of job kind) 0 && ltb 0 (house_of job kind)))

-- 5, 6 and 7 in their order
unfoldable pub field_checks : Job → List (Bool × ℕ)
field_checks job = (not (sections_ok job), 5) ∷ (childless_zero job, 6) ∷ (unmatched job, 7) ∷ []
