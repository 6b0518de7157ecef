-- Document 01, "Rating and choosing" and refusals 12 and 13: a list of sizes, and what each section loses with it.
-- Assumes nothing.
use Rattle.std.specs.Prelude.{ℕ, ◌+◌, ◌*◌, Bool, not, ◌&&◌, ◌||◌, List, length, ltb, eqb}
use Rattle.basis.specs.Range.{within, all_to, any_to}
use Rattle.basis.specs.Sections.{size_of}
use Rattle.basis.specs.Round.{up}
use Rattle.fields.specs.declared.Job.{Job}
use Rattle.fields.specs.Fields.{count_of, section_of}
use Rattle.demand.specs.Demand.{section_flow}
use Rattle.catalogue.specs.Layout.{sizes_of, rows_of, part_of}
use Rattle.catalogue.specs.Reading.{SizeAtFlow, read_rows}

-- 12 finds nothing: the list is S long and names sizes
unfoldable pub list_ok : Job → List ℕ → List ℕ → Bool
list_ok job cat list = eqb (length list) (count_of job) && all_to (count_of job) (λ i. within 1 (sizes_of cat) (size_of list i))

-- size s read at the flow of section i
unfoldable pub reading_of : Job → List ℕ → ℕ → ℕ → SizeAtFlow
reading_of job cat s i = read_rows (part_of cat s) (rows_of cat) (section_flow job i)

-- a size read so is over its last row or the limit
unfoldable pub over_by : ℕ → SizeAtFlow → Bool
over_by limit r = not r.serves || ltb limit r.velocity

-- loss in cm: slope × length × (10 + k) / 1,000, up
unfoldable pub loss_of : ℕ → ℕ → ℕ → ℕ
loss_of slope decimetres tenths = up (slope * decimetres * (10 + tenths)) 1000

-- over any reading of the sizes: `read s i` is size s read at the flow of section i
module _ (job : Job) (read : ℕ → ℕ → SizeAtFlow) where
  -- section i with size s is over its last row or the limit
  unfoldable pub over_with : ℕ → ℕ → Bool
  over_with s i = over_by job.header.limit (read s i)

  -- a section of a list is over its last row or the limit
  unfoldable pub any_with : List ℕ → Bool
  any_with list = any_to (count_of job) (λ i. over_with (size_of list i) i)

  -- the loss of section i with size s
  unfoldable pub loss_with : ℕ → ℕ → ℕ
  loss_with s i = loss_of (read s i).slope (section_of job i).decimetres job.header.tenths

  -- the losses with a list of sizes
  abbrev pub losses_with : List ℕ → ℕ → ℕ
  losses_with list i = loss_with (size_of list i) i

-- by `reading_of`: section i with size s is over its last row or the limit
abbrev pub over_at : Job → List ℕ → ℕ → ℕ → Bool
over_at job cat s i = over_with job (reading_of job cat) s i

-- 13: a section of a list is over its last row or the limit
abbrev pub over_any : Job → List ℕ → List ℕ → Bool
over_any job cat list = any_with job (reading_of job cat) list

-- the loss of section i with size s
abbrev pub loss_at : Job → List ℕ → ℕ → ℕ → ℕ
loss_at job cat s i = loss_with job (reading_of job cat) s i

-- the losses with a list of sizes
abbrev pub losses_of : Job → List ℕ → List ℕ → ℕ → ℕ
losses_of job cat list i = loss_at job cat (size_of list i) i
