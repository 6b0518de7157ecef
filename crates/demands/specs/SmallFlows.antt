-- Document 02, L6: "A single basin on a wide main is charged the whole first row. A flow under the first row now takes the straight line from
-- zero: velocity is q × first velocity / first flow, up, and slope likewise. The promise of the reading changes, and rating and choosing follow
-- it. An installer's cheapest list is measured by the new reading."
-- What an installer is told of it: no list that suited before stops suiting, and the least cost never rises.
-- Assumes nothing.
use Rattle.std.specs.Prelude.{◌≡◌, true, false, cond, List, [], ◌∷◌, ℕ, ◌+◌, ◌-◌, ◌*◌, ◌≤◌, ◌<◌, ltb, pos}
use Rattle.basis.specs.Round.{up, line}
use Rattle.basis.specs.Sections.{size_of}
use Rattle.basis.specs.Stored.{stored}
use Rattle.fields.specs.declared.Job.{Job}
use Rattle.wire.specs.Wire.{be_at}
use Rattle.fields.specs.Fields.{count_of, section_of}
use Rattle.record.specs.Record.{decode}
use Rattle.demand.specs.Demand.{section_flow}
use Rattle.acceptance.specs.Acceptance.{job_no}
use Rattle.catalogue.specs.Layout.{sizes_of, rows_of, part_of, flow_at, velocity_at, slope_at}
use Rattle.catalogue.specs.Rules.{cat_no}
use Rattle.catalogue.specs.Reading.{SizeAtFlow, read_rows}
use Rattle.heads.specs.Heads.{required_of}
use Rattle.sizing.specs.Losses.{reading_of, over_with, over_at, loss_of, loss_with, loss_at, losses_with, losses_of}
use Rattle.rating.specs.Calls.{losses_bytes}
use Rattle.choosing.specs.Suitable.{SuitableWith, SuitableAt, cost_of}
use Rattle.choosing.specs.Calls.{Ample, Chosen}
use Rattle.order.specs.Promises.{LossesGiven}
use Rattle.demands.specs.Demand2.{Bytes}
use Rattle.demands.specs.Demand3.{reported}
use Rattle.demands.specs.OwnCase.{own_cat}

-- a size that serves, with this velocity and this slope
abbrev pub served : ℕ → ℕ → SizeAtFlow
served velocity slope = record { serves = true; velocity = velocity; slope = slope }

-- document 01's reading, which L6 changes: "A flow under the first row takes the first row."
unfoldable pub read_before : List ℕ → ℕ → ℕ → SizeAtFlow
read_before rows n q = cond (ltb q (flow_at rows 0)) (served (velocity_at rows 0) (slope_at rows 0)) (read_rows rows n q)

-- size s read so at the flow of section i
unfoldable pub before_of : Job → List ℕ → ℕ → ℕ → SizeAtFlow
before_of job cat s i = read_before (part_of cat s) (rows_of cat) (section_flow job i)

-- a list that suited before, at a delivered head
abbrev pub SuitableBefore : Job → List ℕ → ℕ → List ℕ → Type 0
SuitableBefore job cat delivered list = SuitableWith job cat (before_of job cat) delivered list

-- a reading that is no more than another: it serves exactly where the other does, with no more velocity and no more slope
pub record Lower (r other : SizeAtFlow) : Type 0 where
  pub serves : r.serves ≡ other.serves
  pub velocity : r.velocity ≤ other.velocity
  pub slope : r.slope ≤ other.slope

-- n rows of a size read at q, wherever q lies
pub record ReadAt (rows : List ℕ) (n q : ℕ) : Type 0 where
  -- up to the first row's flow velocity and slope are q × the first row's / the first row's flow, up
  pub low : q ≤ flow_at rows 0 → read_rows rows n q ≡ served (up (q * velocity_at rows 0) (flow_at rows 0)) (up (q * slope_at rows 0) (flow_at rows 0))
  -- at that flow they are the first row's, as they were before
  pub first : q ≡ flow_at rows 0 → read_rows rows n q ≡ served (velocity_at rows 0) (slope_at rows 0)
  -- over one row and up to the next they lie on the line between the two, as document 01 has it
  pub between : (k : ℕ) → k + 1 < n → flow_at rows k < q → q ≤ flow_at rows (k + 1) →
      read_rows rows n q ≡
      served (line (flow_at rows k) (velocity_at rows k) (flow_at rows (k + 1)) (velocity_at rows (k + 1)) q)
      (line (flow_at rows k) (slope_at rows k) (flow_at rows (k + 1)) (slope_at rows (k + 1)) q)
  -- over the last row the size can't serve
  pub over : flow_at rows (n - 1) < q → (read_rows rows n q).serves ≡ false
  -- a reading is never more than it was
  pub lower : Lower (read_rows rows n q) (read_before rows n q)
  -- and where a flow above 0 is served, neither velocity nor slope is 0
  pub some : 0 < q → (read_rows rows n q).serves ≡ true → (1 ≤ (read_rows rows n q).velocity) × (1 ≤ (read_rows rows n q).slope)

-- velocity and loss in a losses result of a section whose flow, which stands there too, is at most the first row's of its size
pub record OnLine (job : Job) (rows : List ℕ) (i q velocity loss : ℕ) : Type 0 where
  pub velocity_is : velocity ≡ up (q * velocity_at rows 0) (flow_at rows 0)
  pub loss_is : loss ≡ loss_of (up (q * slope_at rows 0) (flow_at rows 0)) (section_of job i).decimetres job.header.tenths

-- a basin of an office at the end of 80 m of pipe: document 01's own case with one fixture of kind 11 for one person, 800 dm away
abbrev pub basin_job : List ℕ
basin_job =
    0 ∷ 0 ∷ 0 ∷ 50 ∷ 1 ∷ 3 ∷ 1 ∷ 24 ∷ 0 ∷ 50 ∷ 1 ∷ 244 ∷ 4 ∷ 176 ∷ 5 ∷ 220 ∷
    0 ∷ 0 ∷ 0 ∷ 0 ∷ 0 ∷ 0 ∷ 0 ∷ 0 ∷ 0 ∷ 0 ∷ 0 ∷ 0 ∷ 0 ∷ 0 ∷ 0 ∷ 0 ∷ 0 ∷ 0 ∷ 0 ∷ 0 ∷ 0 ∷ 1 ∷ 0 ∷ 0 ∷
    0 ∷ 11 ∷ 0 ∷ 1 ∷ 3 ∷ 32 ∷ 2 ∷ 88 ∷ 0 ∷ 200 ∷ []

-- the basin under document 01's own catalogue, whose first rows are at 1,000 ml/s
pub record Basin : Type 0 where
  pub job : job_no basin_job ≡ 0
  pub flow : section_flow (decode basin_job) 1 ≡ 140
  -- with sizes 1 and 2 it lost 416 and 125 cm, and the required head was 1,266 and 975 cm
  pub losses_before : (loss_with (decode basin_job) (before_of (decode basin_job) own_cat) 1 1 ≡ 416) ×
      (loss_with (decode basin_job) (before_of (decode basin_job) own_cat) 2 1 ≡ 125)
  pub heads_before : (required_of (decode basin_job) (losses_with (decode basin_job) (before_of (decode basin_job) own_cat) (1 ∷ [])) ≡ pos 1266) ×
      (required_of (decode basin_job) (losses_with (decode basin_job) (before_of (decode basin_job) own_cat) (2 ∷ [])) ≡ pos 975)
  -- the losses call gives flow, velocity and loss: 140 ml/s, with size 1 112 mm/s and 63 cm, with size 2 70 mm/s and 21 cm
  pub losses : (losses_bytes (decode basin_job) own_cat (1 ∷ []) ≡ 0 ∷ 0 ∷ 0 ∷ 140 ∷ 0 ∷ 112 ∷ 0 ∷ 0 ∷ 0 ∷ 63 ∷ []) ×
      (losses_bytes (decode basin_job) own_cat (2 ∷ []) ≡ 0 ∷ 0 ∷ 0 ∷ 140 ∷ 0 ∷ 70 ∷ 0 ∷ 0 ∷ 0 ∷ 21 ∷ [])
  -- and the required head is 913 and 871 cm
  pub heads : (required_of (decode basin_job) (losses_of (decode basin_job) own_cat (1 ∷ [])) ≡ pos 913) ×
      (required_of (decode basin_job) (losses_of (decode basin_job) own_cat (2 ∷ [])) ≡ pos 871)
  -- at H 1,200 size 2 suited, at 1,040,000, and nobody could spend less
  pub suited : SuitableBefore (decode basin_job) own_cat 1200 (2 ∷ [])
  pub cost_before : cost_of (decode basin_job) own_cat (2 ∷ []) ≡ 1040000
  pub least_before : (y : List ℕ) → SuitableBefore (decode basin_job) own_cat 1200 y → 1040000 ≤ cost_of (decode basin_job) own_cat y
  -- the choosing call gives size 1, at 720,000
  pub chosen : (out₀ work₀ out work : List ℕ) (n : ℕ) → Ample basin_job out₀ work₀ → Chosen basin_job own_cat out₀ work₀ out work n →
      (n ≡ 0) × (out ≡ stored out₀ 0 (0 ∷ 10 ∷ 252 ∷ 128 ∷ 1 ∷ []))

pub record SmallFlows : Type 0 where
  -- each size of an accepted catalogue, read at any flow
  pub read : (cat : List ℕ) → cat_no cat ≡ 0 → (s q : ℕ) → 0 < s → s ≤ sizes_of cat → ReadAt (part_of cat s) (rows_of cat) q
  -- it gives velocity and slope of two bytes
  pub two_bytes : (cat : List ℕ) → cat_no cat ≡ 0 → Bytes cat → (s q : ℕ) → 0 < s → s ≤ sizes_of cat →
      ((read_rows (part_of cat s) (rows_of cat) q).velocity ≤ 65535) × ((read_rows (part_of cat s) (rows_of cat) q).slope ≤ 65535)
  -- every section of an accepted job has a flow, and with a size that serves it a loss of at least 1 cm
  pub flow : (job : List ℕ) (i : ℕ) → job_no job ≡ 0 → 0 < i → i ≤ count_of (decode job) → 1 ≤ section_flow (decode job) i
  pub loss : (job cat : List ℕ) (s i : ℕ) → job_no job ≡ 0 → cat_no cat ≡ 0 → 0 < s → s ≤ sizes_of cat → 0 < i → i ≤ count_of (decode job) →
      (reading_of (decode job) cat s i).serves ≡ true → 1 ≤ loss_at (decode job) cat s i
  -- what the losses call gives follows; what rating gives is the same by L3
  pub given : (job cat sizes out₀ out : List ℕ) → Bytes cat → LossesGiven job cat sizes out₀ out 0 → (i : ℕ) → 0 < i → i ≤ count_of (decode job) →
      be_at 4 out (10 * (i - 1)) ≤ flow_at (part_of cat (size_of sizes i)) 0 →
      OnLine (decode job) (part_of cat (size_of sizes i)) i (be_at 4 out (10 * (i - 1))) (be_at 2 out (10 * (i - 1) + 4)) (be_at 4 out (10 * (i - 1) + 6))
  -- a section with a size loses no more than it did, and is over its last row or the limit only where it was before
  pub no_more : (job cat : List ℕ) (s i : ℕ) → cat_no cat ≡ 0 → 0 < s → s ≤ sizes_of cat →
      loss_at (decode job) cat s i ≤ loss_with (decode job) (before_of (decode job) cat) s i
  pub not_over : (job cat : List ℕ) (s i : ℕ) → cat_no cat ≡ 0 → 0 < s → s ≤ sizes_of cat →
      over_with (decode job) (before_of (decode job) cat) s i ≡ false → over_at (decode job) cat s i ≡ false
  -- no list that suited before stops suiting, at the job's delivered head or any other
  pub suits : (job cat list : List ℕ) (delivered : ℕ) → job_no job ≡ 0 → cat_no cat ≡ 0 → SuitableBefore (decode job) cat delivered list →
      SuitableAt (decode job) cat delivered list
  -- and the least cost never rises: where a list suited before, choosing gives one that costs no more
  pub least : (job cat out₀ work₀ out work : List ℕ) (n : ℕ) → job_no job ≡ 0 → cat_no cat ≡ 0 → Ample job out₀ work₀ →
      Chosen job cat out₀ work₀ out work n → (y : List ℕ) → SuitableBefore (decode job) cat (decode job).header.delivered y →
      (n ≡ 0) × (reported out ≤ cost_of (decode job) cat y)
  -- it may fall
  pub basin : Basin
