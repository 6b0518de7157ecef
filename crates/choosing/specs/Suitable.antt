-- Document 01, "Rating and choosing": when a list of sizes suits, and what it costs.
-- Assumes nothing.
use Rattle.std.specs.Prelude.{◌≡◌, true, false, List, ℕ, ◌*◌, pos}
use Rattle.std.specs.Int.Signed.{le_z}
use Rattle.basis.specs.Range.{sum_to}
use Rattle.basis.specs.Sections.{size_of}
use Rattle.fields.specs.declared.Job.{Job}
use Rattle.fields.specs.Fields.{count_of, section_of}
use Rattle.catalogue.specs.Layout.{price_of}
use Rattle.heads.specs.Heads.{required_of}
use Rattle.catalogue.specs.Reading.{SizeAtFlow}
use Rattle.sizing.specs.Losses.{list_ok, reading_of, any_with, losses_with}

-- when a list suits at a delivered head, where `read s i` is size s read at the flow of section i
pub record SuitableWith (job : Job) (cat : List ℕ) (read : ℕ → ℕ → SizeAtFlow) (delivered : ℕ) (list : List ℕ) : Type 0 where
  -- each section has one of the catalogue's sizes
  pub sizes : list_ok job cat list ≡ true
  -- every section's size serves its flow, and no velocity passes the limit
  pub serves : any_with job read list ≡ false
  -- the required head is at most the delivered head
  pub reaches : le_z (required_of job (losses_with job read list)) (pos delivered) ≡ true

-- by `reading_of`
abbrev pub SuitableAt : Job → List ℕ → ℕ → List ℕ → Type 0
SuitableAt job cat delivered list = SuitableWith job cat (reading_of job cat) delivered list

-- at the job's own H
abbrev pub Suitable : Job → List ℕ → List ℕ → Type 0
Suitable job cat list = SuitableAt job cat job.header.delivered list

-- the price of size s for the length of section i, in tenths of the price unit
unfoldable pub price_at : Job → List ℕ → ℕ → ℕ → ℕ
price_at job cat s i = price_of cat s * (section_of job i).decimetres

-- the cost of a list: the sum of price × length
unfoldable pub cost_of : Job → List ℕ → List ℕ → ℕ
cost_of job cat list = sum_to (count_of job) (λ i. price_at job cat (size_of list i) i)
