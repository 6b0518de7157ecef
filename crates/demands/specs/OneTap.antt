-- Document 02, L2: "From now on the flow of a section, and of the house, is the larger of document 01's value and 10 × the largest Z among
-- the kinds it serves. This replaces the definition of design flow, so velocities, losses, the meter and the cheapest list are judged by
-- the new flow."
-- Assumes nothing.
use Rattle.std.specs.Prelude.{◌≡◌, ◌⊎◌, List, ℕ, ◌+◌, ◌-◌, ◌*◌, ◌≤◌, ◌<◌}
use Rattle.wire.specs.Wire.{be_at}
use Rattle.fields.specs.declared.Job.{Job}
use Rattle.fields.specs.Fields.{count_of, section_of}
use Rattle.record.specs.Record.{decode}
use Rattle.tree.specs.Tree.{served_of, house_of}
use Rattle.demand.specs.Demand.{norm_at, average_flow_of, house_flow, mean_of}
use Rattle.catalogue.specs.Layout.{rows_of, part_of}
use Rattle.catalogue.specs.Reading.{SizeAtFlow, read_rows}
use Rattle.sizing.specs.Losses.{reading_of, over_by, over_at, loss_of, loss_at}
use Rattle.meters.specs.Meters.{meter_at, meter_loss, qualifies}
use Rattle.order.specs.Promises.{FlowGiven, DutyGiven, LossesGiven}
use Rattle.demands.specs.Demand2.{Bytes}
use Rattle.demands.specs.Metering.{meter_loss_at}

-- a kind that the fixtures n serve
pub record Served (n : ℕ → ℕ) (kind : ℕ) : Type 0 where
  pub low : 0 < kind
  pub high : kind ≤ 12
  pub some : 0 < n kind

-- what one fixture of a kind draws, in ml/s
abbrev pub drawn : Job → ℕ → ℕ
drawn job kind = 10 * (norm_at job kind).fixture

-- q is what one fixture of a kind served draws
pub record OfOneTap (job : Job) (n : ℕ → ℕ) (q : ℕ) : Type 0 where
  pub kind : ℕ
  pub served : Served n kind
  pub by : q ≡ drawn job kind

-- q is the larger of document 01's value and 10 × the largest Z among the kinds served
pub record Larger (job : Job) (n : ℕ → ℕ) (q : ℕ) : Type 0 where
  -- it is no less than document 01's value
  pub average : average_flow_of job n ≤ q
  -- nor than what one fixture of any kind served draws
  pub taps : (kind : ℕ) → Served n kind → drawn job kind ≤ q
  -- and it is one of these
  pub reached : (q ≡ average_flow_of job n) ⊎ OfOneTap job n q
  -- it is document 01's value where no fixture of a kind served draws more
  pub kept : ((kind : ℕ) → Served n kind → drawn job kind ≤ average_flow_of job n) → q ≡ average_flow_of job n

-- the flow of section i in a result of the flow call
abbrev pub flow_in : List ℕ → ℕ → ℕ
flow_in out i = be_at 4 out (12 + 4 * (i - 1))

-- size s read at that flow
abbrev pub read_in : List ℕ → List ℕ → ℕ → ℕ → SizeAtFlow
read_in out cat s i = read_rows (part_of cat s) (rows_of cat) (flow_in out i)

-- section i with size s is judged by it: its velocity, whether it is over the last row or the limit, and its loss
pub record Judged (job : Job) (out cat : List ℕ) (s i : ℕ) : Type 0 where
  pub velocity : (reading_of job cat s i).velocity ≡ (read_in out cat s i).velocity
  pub over : over_at job cat s i ≡ over_by job.header.limit (read_in out cat s i)
  pub loss : loss_at job cat s i ≡ loss_of (read_in out cat s i).slope (section_of job i).decimetres job.header.tenths

-- the flow of the house in a result of the duty call
abbrev pub duty_in : List ℕ → ℕ
duty_in out = be_at 4 out 0

-- the flows that these calls give, and what is judged by them
pub record OneTap : Type 0 where
  -- of each section, with the fixtures at or below its end, in the flow call and in the losses call
  pub section : (job out₀ out : List ℕ) → Bytes job → FlowGiven job out₀ out 0 → (i : ℕ) → 0 < i → i ≤ count_of (decode job) →
      Larger (decode job) (served_of (decode job) i) (flow_in out i)
  pub losses : (job cat sizes out₀ out : List ℕ) → Bytes cat → LossesGiven job cat sizes out₀ out 0 → (i : ℕ) → 0 < i → i ≤ count_of (decode job) →
      Larger (decode job) (served_of (decode job) i) (be_at 4 out (10 * (i - 1)))
  -- of the house, with all its fixtures
  pub house : (job out₀ out : List ℕ) → DutyGiven job out₀ out 0 → Larger (decode job) (house_of (decode job)) (duty_in out)
  -- a section with a size, in a rating or in a list that may suit, is judged by the first
  pub judged : (job out₀ out : List ℕ) → Bytes job → FlowGiven job out₀ out 0 → (cat : List ℕ) (s i : ℕ) → 0 < i → i ≤ count_of (decode job) →
      Judged (decode job) out cat s i
  -- and a meter by the second: its loss, and whether it qualifies
  pub meter : (job out₀ out : List ℕ) → DutyGiven job out₀ out 0 → (meters : List ℕ) (t : ℕ) →
      meter_loss_at (decode job) meters t ≡ meter_loss (meter_at meters t) (duty_in out)
  pub qualified : (job out₀ out : List ℕ) → DutyGiven job out₀ out 0 → (meters : List ℕ) (t : ℕ) →
      qualifies (meter_at meters t) (house_flow (decode job)) (mean_of (decode job)) ≡ qualifies (meter_at meters t) (duty_in out) (mean_of (decode job))
