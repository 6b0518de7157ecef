-- The figures of a flow result and of a duty result, read back from their bytes.
-- Assumes nothing.
use mathlib.Core.Path.{◌≡◌, refl, sym, ◌∙◌}
use mathlib.Core.Bool.{Bool}
use mathlib.Core.List.{List, ◌++◌, append_assoc}
use Prim.Native.Nat.{ℕ, ◌+◌, ◌-◌, ◌*◌, ◌≤◌, ◌<◌}
use native.Mathlib.Omega.{arith}
use lib.ListN.{length, drop}
use Rattle.basis.specs.Range.{concat_to}
use Rattle.basis.proofs.Concat.{concat_within}
use Rattle.basis.proofs.Slots.{tabulate_at}
use Rattle.basis.proofs.Stored.{stored_front}
use Rattle.basis.proofs.Sum.{sum_le}
use Rattle.answer.specs.Checks.{first_no}
use Rattle.answer.proofs.First.{first_split}
use Rattle.wire.specs.Wire.{be_at, bytes_of}
use Rattle.wire.proofs.Fields.{be_lt, be_bytes, be_written, bytes_length}
use Rattle.fields.specs.Fields.{count_of, residents_of}
use Rattle.record.specs.Record.{residents_at, decode}
use Rattle.demand.specs.Demand.{norm_at, hour_of, day_of, mean_of, section_flow, house_flow, Accepted}
use Rattle.demand.proofs.Equations.{norm_at_lem}
use Rattle.demand.proofs.DesignFlows.{flow_top, house_hour_top}
use Rattle.demand.proofs.Tops.{day_top, mean_top}
use Rattle.demand.proofs.Totals.{house_m_pos, m_pos}
use Rattle.demand.proofs.Validity.{valid_hours}
use Rattle.acceptance.specs.Acceptance.{job_checks, job_no}
use Rattle.acceptance.proofs.Accepting.{job_numbered, accept_accepted}
use Rattle.flow.specs.Calls.{house_bytes, flow_bytes, flow_no, duty_bytes, duty_no}
use Rattle.order.specs.Promises.{FlowGiven, DutyGiven}
use Rattle.demands.specs.Demand2.{Bytes, FlowFigures}

-- a call that checks the job first and gives a result was given an accepted job
passed : (b : List ℕ) (rest : List (Bool × ℕ)) → first_no (job_checks b ++ rest) ≡ 0 → Accepted (decode b)
unfolding job_no
passed b rest e = accept_accepted b (first_split (job_checks b) rest (job_numbered b) e).0

-- residents are of 16 bits, so a day and a mean hour are of 32
module _ (b : List ℕ) (bytes : Bytes b) where
  pub residents_top : (kind : ℕ) → 0 < kind → kind ≤ 12 → residents_of (decode b) kind < 65536
  unfolding decode residents_at
  residents_top kind h k = rw (tabulate_at 12 (residents_at b) (kind - 1) 0 (omega arith)) (be_lt 2 b (16 + 2 * (kind - 1)) bytes)

  days_top : day_of (decode b) ≤ 314568000
  unfolding day_of
  days_top =
      sum_le 12 26214000 (λ kind. (norm_at (decode b) kind).day * residents_of (decode b) kind)
      (λ kind h k. day_top (norm_at_lem (decode b) kind h k) (residents_top kind h k))

-- the result: the house's figures, then the flows
module _ (b out₀ out : List ℕ) (g : FlowGiven b out₀ out 0) where
  house : List ℕ
  house = house_bytes (hour_of (decode b)) (day_of (decode b)) (mean_of (decode b))

  flows : ℕ → List ℕ
  flows i = bytes_of 4 (section_flow (decode b) i)

  rest : List ℕ
  rest = drop (length (flow_bytes (decode b))) out₀

  result : out ≡ house ++ (concat_to (count_of (decode b)) flows ++ rest)
  unfolding flow_bytes house flows rest
  result = g.buffer ∙ stored_front out₀ (flow_bytes (decode b)) ∙ append_assoc house _ _

  flow_accepted : Accepted (decode b)
  unfolding flow_no
  flow_accepted = passed b _ (sym g.number)

  pub flow_figures : Bytes b → FlowFigures (decode b) out
  unfolding house house_bytes bytes_of mean_of flows
  flow_figures bytes =
      let a : Accepted (decode b) = flow_accepted in
      let hour : hour_of (decode b) ≤ 137850 = house_hour_top a.valid in
      let day : day_of (decode b) ≤ 314568000 = days_top b bytes in
      let mean : mean_of (decode b) ≤ day_of (decode b) = mean_top (day_of (decode b)) (valid_hours a.valid).low in
      record {
        hour = be_written 4 out 0 (hour_of (decode b)) (omega arith) (rw result);
        day = be_written 4 out 4 (day_of (decode b)) (omega arith) (rw result);
        mean = be_written 4 out 8 (mean_of (decode b)) (omega arith) (rw result);
        flow = λ i h k.
            let top : section_flow (decode b) i ≤ 137850 = flow_top (decode b) _ (m_pos a.valid i h k) in
            be_written 4 out (12 + 4 * (i - 1)) (section_flow (decode b) i) (omega arith)
            (rw result (concat_within 4 flows (λ j. bytes_length 4 (section_flow (decode b) j)) (count_of (decode b)) i house rest 12 refl h k));
      }

pub duty_figure : (b out₀ out : List ℕ) → DutyGiven b out₀ out 0 → be_at 4 out 0 ≡ house_flow (decode b)
unfolding duty_no duty_bytes
duty_figure b out₀ out g =
    let a : Accepted (decode b) = passed b _ (sym g.number) in
    let top : house_flow (decode b) ≤ 137850 = flow_top (decode b) _ (house_m_pos a.valid) in
    rw (g.buffer ∙ stored_front out₀ (bytes_of 4 (house_flow (decode b)))) (be_bytes 4 (house_flow (decode b)) _ (omega arith))
