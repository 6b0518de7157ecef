-- What the exported calls promise, for every input. The choosing call's promise is `Chosen` of choosing.
-- Assumes nothing.
use Rattle.std.specs.Prelude.{◌≡◌, List, ℕ, length}
use Rattle.answer.specs.Checks.{buffer_after}
use Rattle.record.specs.Record.{decode}
use Rattle.job.specs.Calls.{copy_no}
use Rattle.flow.specs.Calls.{flow_no, flow_bytes, duty_no, duty_bytes}
use Rattle.heating.specs.Calls.{heat_no, heat_bytes}
use Rattle.metering.specs.Calls.{meter_no, meter_bytes}
use Rattle.rating.specs.Calls.{rate_no, rate_bytes, losses_no, losses_bytes}
use Rattle.lent_losses.specs.Calls.{heads_no, lent_bytes}

-- the number, and the result buffer after it: the bytes at its front where the number is 0, else as it was
pub record Gives (no : ℕ) (bytes out₀ out : List ℕ) (n : ℕ) : Type 0 where
  pub number : n ≡ no
  pub buffer : out ≡ buffer_after n bytes out₀

-- copying: 1 to 7, 14, or the record's bytes
abbrev pub Copied : List ℕ → List ℕ → List ℕ → ℕ → Type 0
Copied job out₀ out n = Gives (copy_no job (length out₀)) job out₀ out n

-- flows: 1 to 9, 14, or the flow result
abbrev pub FlowGiven : List ℕ → List ℕ → List ℕ → ℕ → Type 0
FlowGiven job out₀ out n = Gives (flow_no job (length out₀)) (flow_bytes (decode job)) out₀ out n

-- duty: 1 to 9, 14, or the house's design flow
abbrev pub DutyGiven : List ℕ → List ℕ → List ℕ → ℕ → Type 0
DutyGiven job out₀ out n = Gives (duty_no job (length out₀)) (duty_bytes (decode job)) out₀ out n

-- heat: 1 to 9, 20, 21, 14, or the mean hour's and the greatest hour's heat flow
abbrev pub HeatGiven : List ℕ → ℕ → ℕ → List ℕ → List ℕ → ℕ → Type 0
HeatGiven job t loss out₀ out n = Gives (heat_no job t loss (length out₀)) (heat_bytes (decode job) t loss) out₀ out n

-- the meter: 1 to 9, 17, 14, 18, or the place of the meter that wins and the record with its loss
abbrev pub MeterGiven : List ℕ → List ℕ → List ℕ → List ℕ → ℕ → Type 0
MeterGiven job meters out₀ out n = Gives (meter_no job meters (length out₀)) (meter_bytes job meters) out₀ out n

-- rating: 1 to 14, or the rating result
abbrev pub Rated : List ℕ → List ℕ → List ℕ → List ℕ → List ℕ → ℕ → Type 0
Rated job cat sizes out₀ out n = Gives (rate_no job cat sizes (length out₀)) (rate_bytes (decode job) cat sizes) out₀ out n

-- losses: 1 to 14, or flow, velocity and loss of each section
abbrev pub LossesGiven : List ℕ → List ℕ → List ℕ → List ℕ → List ℕ → ℕ → Type 0
LossesGiven job cat sizes out₀ out n = Gives (losses_no job cat sizes (length out₀)) (losses_bytes (decode job) cat sizes) out₀ out n

-- heads: 1 to 9, 19, 14, or the heads with the losses that are given
abbrev pub HeadsGiven : List ℕ → List ℕ → List ℕ → List ℕ → ℕ → Type 0
HeadsGiven job losses out₀ out n = Gives (heads_no job losses (length out₀)) (lent_bytes (decode job) losses) out₀ out n
