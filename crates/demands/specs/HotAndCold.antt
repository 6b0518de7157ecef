-- Document 02, L4: "Hotels order a set for each line. Job version 2 has a service byte at 40 (0 total, 1 cold, 2 hot) and its sections
-- from 41, so its length is 41 + 10 × S; version 1 still means total." "Cold is total less hot." "For hot jobs also give the heat flow of
-- formulas 10 (mean hour) and 11 (greatest hour) in watts, 4 bytes each". "A buyer of any line is owed the same guarantee on cost."
-- `Demand3` is that guarantee: it is of every accepted job, whatever its version and its service.
-- Assumes nothing.
use Rattle.std.specs.Prelude.{◌≡◌, List, ◌∷◌, ◌++◌, ℕ, ◌+◌, ◌≤◌, ◌<◌, length, drop}
use Rattle.basis.specs.Part.{part}
use Rattle.basis.specs.Stored.{stored}
use Rattle.wire.specs.Wire.{byte_at, be_at, bytes_of}
use Rattle.fields.specs.declared.Job.{Job}
use Rattle.fields.specs.Fields.{service_of, count_of}
use Rattle.record.specs.Record.{decode}
use Rattle.record.specs.Edited.{with_version}
use Rattle.norms.specs.Norms.{norm_of}
use Rattle.demand.specs.Demand.{hour_of, mean_of}
use Rattle.acceptance.specs.Acceptance.{job_no}
use Rattle.flow.specs.Calls.{flow_length}
use Rattle.heating.specs.Heat.{watts_of}
use Rattle.heating.specs.Calls.{heat_no}
use Rattle.rated_bytes.specs.RatedBytes.{rate_length, losses_length, heads_length}
use Rattle.choosing.specs.Calls.{Ample, Chosen}
use Rattle.order.specs.Promises.{FlowGiven, DutyGiven, HeatGiven, Rated, LossesGiven, HeadsGiven}
use Rattle.demands.specs.Demand2.{Bytes}
use Rattle.demands.specs.Demand3.{reported}

-- two records that state their own lengths, of version 1 and of version 2 with service 0, with the same fields: bytes 5 to 39 are the
-- same, and from 40 on each stands one byte further on, behind the service
pub record Counterparts (one two : List ℕ) : Type 0 where
  pub long : 40 ≤ length one
  pub longer : length two ≡ length one + 1
  pub stated_one : be_at 4 one 0 ≡ length one
  pub stated_two : be_at 4 two 0 ≡ length two
  pub version_one : byte_at one 4 ≡ 1
  pub version_two : byte_at two 4 ≡ 2
  pub service : byte_at two 40 ≡ 0
  pub head : (j : ℕ) → 5 ≤ j → j < 40 → byte_at two j ≡ byte_at one j
  pub sections : (j : ℕ) → 40 ≤ j → byte_at two (j + 1) ≡ byte_at one j

-- the record of version 2 and service 0 with the fields of one of version 1
unfoldable pub in_version_two : List ℕ → List ℕ
in_version_two b = bytes_of 4 (length b + 1) ++ ((2 ∷ part b 5 35) ++ (0 ∷ drop 40 b))

-- a call on each of two records, each with a result buffer of its own, gave the same number, and with a result both buffers have the same
-- bytes at their fronts and the rest as it was
pub record SameGiven (out₀ out out₀' out' : List ℕ) (n n' : ℕ) : Type 0 where
  pub number : n' ≡ n
  pub result : List ℕ
  pub first : n ≡ 0 → out ≡ stored out₀ 0 result
  pub second : n ≡ 0 → out' ≡ stored out₀' 0 result

-- both buffers have space for a result of so many bytes, where the job is accepted
abbrev pub Room : List ℕ → ℕ → List ℕ → List ℕ → Type 0
Room job bytes out₀ out₀' = job_no job ≡ 0 → (bytes ≤ length out₀) × (bytes ≤ length out₀')

-- with enough space the two records get the same of flow, duty, losses, heads and rating, and of choosing a list of the same cost
pub record VersionsAlike (one two : List ℕ) : Type 0 where
  -- they have the same fields but the version, and the same of 1 to 9
  pub fields : decode two ≡ with_version (decode one) 2
  pub number : job_no two ≡ job_no one
  pub flow : {out₀ out out₀' out' : List ℕ} {n n' : ℕ} → Room one (flow_length (count_of (decode one))) out₀ out₀' →
      FlowGiven one out₀ out n → FlowGiven two out₀' out' n' → SameGiven out₀ out out₀' out' n n'
  pub duty : {out₀ out out₀' out' : List ℕ} {n n' : ℕ} → Room one 4 out₀ out₀' →
      DutyGiven one out₀ out n → DutyGiven two out₀' out' n' → SameGiven out₀ out out₀' out' n n'
  pub losses : (cat sizes : List ℕ) {out₀ out out₀' out' : List ℕ} {n n' : ℕ} → Room one (losses_length (count_of (decode one))) out₀ out₀' →
      LossesGiven one cat sizes out₀ out n → LossesGiven two cat sizes out₀' out' n' → SameGiven out₀ out out₀' out' n n'
  pub heads : (losses : List ℕ) {out₀ out out₀' out' : List ℕ} {n n' : ℕ} → Room one heads_length out₀ out₀' →
      HeadsGiven one losses out₀ out n → HeadsGiven two losses out₀' out' n' → SameGiven out₀ out out₀' out' n n'
  pub rate : (cat sizes : List ℕ) {out₀ out out₀' out' : List ℕ} {n n' : ℕ} → Room one (rate_length (count_of (decode one))) out₀ out₀' →
      Rated one cat sizes out₀ out n → Rated two cat sizes out₀' out' n' → SameGiven out₀ out out₀' out' n n'
  -- choosing: the number, and where it is 0 the cost
  pub choose : (cat : List ℕ) {out₀ out out₀' out' work₀ work work₀' work' : List ℕ} {n n' : ℕ} → Ample one out₀ work₀ → Ample two out₀' work₀' →
      Chosen one cat out₀ work₀ out work n → Chosen two cat out₀' work₀' out' work' n' → (n' ≡ n) × (n ≡ 0 → reported out' ≡ reported out)

-- the heat flows of a result, in W: of the mean hour, rounded up, and then of the greatest hour
pub record HeatFigures (job : Job) (t loss : ℕ) (out : List ℕ) : Type 0 where
  pub mean : be_at 4 out 0 ≡ watts_of (mean_of job) t loss
  pub greatest : be_at 4 out 4 ≡ watts_of (hour_of job) t loss
  -- and neither is over 4,249,031,128, so that four bytes hold it
  pub most : (be_at 4 out 0 ≤ 4249031128) × (be_at 4 out 4 ≤ 4249031128)

pub record HotAndCold : Type 0 where
  -- cold and hot norms add up to the total, of the day and of the hour
  pub day_norms_lem : (kind : ℕ) → 0 < kind → kind ≤ 12 → (norm_of 1 kind).day + (norm_of 2 kind).day ≡ (norm_of 0 kind).day
  pub hour_norms_lem : (kind : ℕ) → 0 < kind → kind ≤ 12 → (norm_of 1 kind).hour + (norm_of 2 kind).hour ≡ (norm_of 0 kind).hour
  -- Z and O are one for either line
  pub either_line : (kind : ℕ) → 0 < kind → kind ≤ 12 →
      ((norm_of 1 kind).fixture ≡ (norm_of 2 kind).fixture) × ((norm_of 1 kind).hourly ≡ (norm_of 2 kind).hourly)
  -- version 1 means total
  pub total : (b : List ℕ) → byte_at b 4 ≡ 1 → service_of (decode b) ≡ 0
  -- for every record of version 1 that has all bytes of the head and states its own length there is its counterpart of version 2, if 32
  -- bits can state that one's length,
  pub counterpart : (b : List ℕ) → 40 ≤ length b → length b < 4294967295 → be_at 4 b 0 ≡ length b → byte_at b 4 ≡ 1 →
      Counterparts b (in_version_two b)
  -- and counterparts are alike
  pub alike : (one two : List ℕ) → Counterparts one two → VersionsAlike one two
  -- an accepted hot job gets its heat flows for a temperature and a loss in range, given room for them
  pub heat_given : (b : List ℕ) (t loss room : ℕ) → job_no b ≡ 0 → service_of (decode b) ≡ 2 → t ≤ 30 → loss ≤ 1000000 → 8 ≤ room →
      heat_no b t loss room ≡ 0
  -- where the number is 0 they are these; what is lent is bytes, as it always is
  pub heat : (job : List ℕ) (t loss : ℕ) (out₀ out : List ℕ) → Bytes job → HeatGiven job t loss out₀ out 0 → HeatFigures (decode job) t loss out
