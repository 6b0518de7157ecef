-- Document 02, L1: "The least loss wins, then the lower place in the list. The result is the meter's place, from 1 (1 byte), then the job
-- record with that meter's loss in its meter loss field and every other byte as it was; that job is accepted, so the chooser's promise
-- covers it."
-- Assumes nothing.
use Rattle.std.specs.Prelude.{◌≡◌, true, ◌⊎◌, List, ℕ, ◌≤◌, ◌<◌, length}
use Rattle.basis.specs.Part.{part}
use Rattle.wire.specs.Wire.{byte_at, be_at}
use Rattle.fields.specs.declared.Job.{Job}
use Rattle.record.specs.Record.{decode}
use Rattle.record.specs.Edited.{meter_place, SameBut, with_meter}
use Rattle.demand.specs.Demand.{house_flow, mean_of}
use Rattle.acceptance.specs.Acceptance.{job_no}
use Rattle.catalogue.specs.Rules.{cat_no}
use Rattle.choosing.specs.Calls.{Ample, Chosen}
use Rattle.meters.specs.Meters.{meters_in, meter_at, meters_ok, meter_loss, qualifies}
use Rattle.metering.specs.Calls.{meter_length}
use Rattle.order.specs.Promises.{MeterGiven}
use Rattle.demands.specs.Demand3.{SixteenOrList}

-- the loss of the meter at place t in this house
abbrev pub meter_loss_at : Job → List ℕ → ℕ → ℕ
meter_loss_at job meters t = meter_loss (meter_at meters t) (house_flow job)

-- place t of the list has a meter that qualifies for this house
pub record Qualified (job : Job) (meters : List ℕ) (t : ℕ) : Type 0 where
  pub low : 0 < t
  pub high : t ≤ meters_in meters
  pub by : qualifies (meter_at meters t) (house_flow job) (mean_of job) ≡ true

-- it wins: every meter that qualifies has more loss, or as much and no lower place
pub record Wins (job : Job) (meters : List ℕ) (t : ℕ) : Type 0 where
  pub qualified : Qualified job meters t
  pub least : (u : ℕ) → Qualified job meters u →
      (meter_loss_at job meters t < meter_loss_at job meters u) ⊎ ((meter_loss_at job meters t ≡ meter_loss_at job meters u) × (t ≤ u))

-- the place in a result, and the record behind it
abbrev pub place_in : List ℕ → ℕ
place_in out = byte_at out 0

abbrev pub record_in : List ℕ → List ℕ → List ℕ
record_in job out = part out 1 (length job)

-- the job with the meter at the place that a result has
abbrev pub with_place : List ℕ → List ℕ → List ℕ → Job
with_place job meters out = with_meter (decode job) (meter_loss_at (decode job) meters (place_in out))

-- what a caller has in the result buffer
pub record Metered (job meters out : List ℕ) : Type 0 where
  -- the place of the meter that wins
  pub wins : Wins (decode job) meters (place_in out)
  -- the record with that meter's loss in its meter loss field
  pub loss : be_at 2 (record_in job out) meter_place ≡ meter_loss_at (decode job) meters (place_in out)
  -- and every other byte as it was
  pub bytes : SameBut meter_place 2 job (record_in job out)
  -- so it has the old fields but for that one
  pub fields : decode (record_in job out) ≡ with_place job meters out
  -- and is accepted
  pub accepted : job_no (record_in job out) ≡ 0

-- 18 exactly when no meter qualifies, and otherwise one is given
pub record EighteenOrMeter (job meters out : List ℕ) (n : ℕ) : Type 0 where
  pub none : n ≡ 18 → (t : ℕ) → Qualified (decode job) meters t → ⊥
  pub only : ((t : ℕ) → Qualified (decode job) meters t → ⊥) → n ≡ 18
  pub otherwise : (n ≡ 18 → ⊥) → (n ≡ 0) × Metered job meters out

-- what follows from the meter call's promise, whatever the result buffer held before
pub record Metering : Type 0 where
  -- where a meter is given, the job is accepted, the list keeps its rules, and the result is this
  pub metered : (job meters out₀ out : List ℕ) → MeterGiven job meters out₀ out 0 → (job_no job ≡ 0) × (meters_ok meters ≡ true) × Metered job meters out
  -- for every accepted job and every list that keeps its rules, given enough result space
  pub eighteen : (job meters out₀ out : List ℕ) (n : ℕ) → job_no job ≡ 0 → meters_ok meters ≡ true → meter_length (length job) ≤ length out₀ →
      MeterGiven job meters out₀ out n → EighteenOrMeter job meters out n
  -- the chooser's promise covers the record that is written: the two calls in turn
  pub chosen : (job meters out₀ out cat list₀ work₀ list work : List ℕ) (n : ℕ) → MeterGiven job meters out₀ out 0 → cat_no cat ≡ 0 →
      Ample job list₀ work₀ → Chosen (record_in job out) cat list₀ work₀ list work n → SixteenOrList (with_place job meters out) cat list n
  -- a job that differs from an accepted one in the meter loss alone is accepted, unless 3 finds that out of range
  pub in_range : (job other : List ℕ) → SameBut meter_place 2 job other → job_no job ≡ 0 → be_at 2 other meter_place ≤ 1000 → job_no other ≡ 0
  -- and the meter loss plays no part further on: accepted jobs that differ in it alone get the same number, place and record
  pub own_loss : (job other meters out₀ out out' : List ℕ) (n n' : ℕ) → SameBut meter_place 2 job other → job_no job ≡ 0 → job_no other ≡ 0 →
      MeterGiven job meters out₀ out n → MeterGiven other meters out₀ out' n' → (n' ≡ n) × (out' ≡ out)
