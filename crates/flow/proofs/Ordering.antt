-- The numbers of the flow call and of the duty call, each check after those before it.
-- Assumes nothing.
use mathlib.Core.Path.{◌≡◌, ◌∙◌}
use mathlib.Core.List.{List, []}
use Prim.Native.Nat.{ℕ, ◌≤◌, ◌<◌}
use Rattle.answer.proofs.Some.{number_at_exit}
use Rattle.answer.proofs.First.{first_none, short_found, short_next}
use Rattle.fields.specs.Fields.{count_of}
use Rattle.record.specs.Record.{decode}
use Rattle.acceptance.specs.Acceptance.{job_no}
use Rattle.acceptance.proofs.Accepting.{job_stops, job_refused, job_passes}
use Rattle.flow.specs.Calls.{flow_length, flow_no, duty_no}

module _ (b : List ℕ) (room : ℕ) where
  pub flow_refused : (job_no b ≡ 0 → ⊥) → flow_no b room ≡ job_no b
  unfolding flow_no
  flow_refused n = job_stops b _ n

  module _ (accepted : job_no b ≡ 0) where
    pub flow_short : room < flow_length (count_of (decode b)) → flow_no b room ≡ 14
    unfolding flow_no
    flow_short h = job_passes b _ accepted ∙ short_found room (flow_length (count_of (decode b))) [] h

    pub flow_done : flow_length (count_of (decode b)) ≤ room → flow_no b room ≡ 0
    unfolding flow_no
    flow_done h = job_passes b _ accepted ∙ short_next room (flow_length (count_of (decode b))) [] h ∙ first_none

  pub duty_refused : (job_no b ≡ 0 → ⊥) → duty_no b room ≡ job_no b
  unfolding duty_no
  duty_refused n = job_stops b _ n

  module _ (accepted : job_no b ≡ 0) where
    pub duty_short : room < 4 → duty_no b room ≡ 14
    unfolding duty_no
    duty_short h = job_passes b _ accepted ∙ short_found room 4 [] h

    pub duty_done : 4 ≤ room → duty_no b room ≡ 0
    unfolding duty_no
    duty_done h = job_passes b _ accepted ∙ short_next room 4 [] h ∙ first_none

-- the outcomes in turn
pub ruleset flow_outcomes = (number_at_exit, job_refused, flow_short, flow_done)

pub ruleset duty_outcomes = (number_at_exit, job_refused, duty_short, duty_done)
