-- The tree of sections that the search looks at, drawn from a job and a catalogue.
-- Assumes nothing.
use Rattle.std.specs.Prelude.{◌≡◌, false, not, Option, Some, None, List, ℕ, ◌+◌, ◌-◌, ◌*◌, ◌≤◌, ◌<◌, pos, ◌+ℤ◌, length, get_or}
use Rattle.fields.specs.declared.Job.{Job}
use Rattle.fields.specs.Fields.{count_of, section_of}
use Rattle.demand.specs.Demand.{Accepted, section_flow}
use Rattle.catalogue.specs.Layout.{sizes_of, rows_of, part_of}
use Rattle.catalogue.specs.Reading.{read_rows}
use Rattle.catalogue.specs.Steps.{AcceptedCat}
use Rattle.sizing.specs.declared.Tried.{Tried}
use Rattle.sizing.specs.Losses.{over_at, loss_at}
use Rattle.nets.specs.Net.{Net}
use Rattle.nets.specs.Tables.{top}
use Rattle.sizing.specs.Steps.{tried_of}
use Rattle.choosing.specs.Suitable.{SuitableAt, price_at, cost_of}

-- heads of the search are 1,000 cm more than those of document 01, so that none is negative
abbrev pub shift : ℕ
shift = 1000

-- a delivered head less the meter loss, shifted
abbrev pub head_for : Job → ℕ → ℕ
head_for job delivered = delivered + shift - job.header.meter

-- N is the tree of a job: for each section and size of the catalogue its loss and its cost where it serves the flow within the limit
pub record TreeOf (job : Job) (cat : List ℕ) (N : Net) : Type 0 where
  pub sections : N.sections ≡ count_of job
  pub sizes : N.sizes ≡ sizes_of cat
  pub parent : (i : ℕ) → 0 < i → i ≤ count_of job → N.parent i ≡ (section_of job i).parent
  pub need : (i : ℕ) → 0 < i → i ≤ count_of job → pos (N.need i) ≡ (section_of job i).elevation +ℤ pos ((section_of job i).free + shift)
  pub allowed : (i s : ℕ) → 0 < i → i ≤ count_of job → 0 < s → s ≤ sizes_of cat → N.allowed i s ≡ not (over_at job cat s i)
  pub loss : (i s : ℕ) → 0 < i → i ≤ count_of job → 0 < s → s ≤ sizes_of cat → over_at job cat s i ≡ false → N.loss i s ≡ loss_at job cat s i
  pub cost : (i s : ℕ) → 0 < i → i ≤ count_of job → 0 < s → s ≤ sizes_of cat → N.cost i s ≡ price_at job cat s i

-- what the table of losses holds of a section with a size: its loss, or the mark where it is over its last row or the limit
abbrev pub entry_of : Option Tried → ℕ
entry_of None = top
entry_of (Some t) = t.loss

-- of a section of so many decimetres at flow q with size s
abbrev pub loss_by : ℕ → ℕ → ℕ → List ℕ → ℕ → ℕ → ℕ
loss_by limit decimetres tenths cat q s = entry_of (tried_of (read_rows (part_of cat s) (rows_of cat) q) limit decimetres tenths)

-- of section i with size s
unfoldable pub loss_entry : Job → List ℕ → ℕ → ℕ → ℕ
loss_entry job cat i s = loss_by job.header.limit (section_of job i).decimetres job.header.tenths cat (section_flow job i) s

-- section i of an accepted job and size s of an accepted catalogue
pub record Pair (job : Job) (cat : List ℕ) (i s : ℕ) : Type 0 where
  pub accepted : Accepted job
  pub listed : AcceptedCat cat
  pub first : 0 < i
  pub last : i ≤ count_of job
  pub low : 0 < s
  pub high : s ≤ sizes_of cat

-- row i of a table of 13 columns has f in columns 1 to n, and the other rows are as they were
pub record Entered (f : ℕ → ℕ) (i n : ℕ) (before after : List ℕ) : Type 0 where
  pub long : length after ≡ 832
  pub here : (s : ℕ) → 0 < s → s ≤ n → get_or after (i * 13 + s) 0 ≡ f s
  pub other : (j s : ℕ) → (j ≡ i → ⊥) → s < 13 → get_or after (j * 13 + s) 0 ≡ get_or before (j * 13 + s) 0

-- rows 1 to n of such a table have f in columns 1 to m
pub record Tabled (f : ℕ → ℕ → ℕ) (n m : ℕ) (l : List ℕ) : Type 0 where
  pub long : length l ≡ 832
  pub at : (i s : ℕ) → 0 < i → i ≤ n → 0 < s → s ≤ m → get_or l (i * 13 + s) 0 ≡ f i s

-- needs at the sections' places
pub record NeedsOf (job : Job) (needs : List ℕ) : Type 0 where
  pub need : (i : ℕ) → 0 < i → i ≤ count_of job → pos (get_or needs i 0) ≡ (section_of job i).elevation +ℤ pos ((section_of job i).free + shift)

-- a list that suits at a delivered head, at the cost c, and no list that suits there costs less
pub record Least (job : Job) (cat : List ℕ) (delivered c : ℕ) (list : List ℕ) : Type 0 where
  pub suits : SuitableAt job cat delivered list
  pub cost : c ≡ cost_of job cat list
  pub least : (y : List ℕ) → SuitableAt job cat delivered y → cost_of job cat list ≤ cost_of job cat y
