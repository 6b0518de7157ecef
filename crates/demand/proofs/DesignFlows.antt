-- The flows, and the products that they divide, are bounded by α's greatest value.
-- Assumes nothing.
use mathlib.Core.Path.{◌≡◌, sym, ◌∙◌}
use Prim.Native.Nat.{ℕ, ◌*◌, ◌≤◌, ◌<◌, max}
use native.Mathlib.Omega.{arith}
use native.Mathlib.Nat.{mul-le-mul}
use Rattle.basis.specs.Round.{up}
use Rattle.basis.proofs.Round.{up_le}
use Rattle.fields.specs.declared.Job.{Job}
use Rattle.fields.specs.Fields.{count_of}
use Rattle.tree.specs.Tree.{served_of, house_of}
use Rattle.norms.proofs.Bounds.{NormIn}
use Rattle.coefficient.specs.Alpha.{alpha_of}
use Rattle.coefficient.proofs.Coefficient.{alpha_ceiling}
use Rattle.demand.specs.Demand.{m_of, fixture_sum_of, one_tap_of, average_flow_of, flow_of, norm_at, section_flow, house_flow, hour_sum_of, hourly_sum_of, hour_of, Valid}
use Rattle.demand.proofs.Equations.{norm_at_lem, average_is, flow_is, hour_is}
use Rattle.demand.proofs.Totals.{fixture_sum_le, hourly_sum_le, house_m_pos, hour_sum_pos}
use Rattle.demand.proofs.Serving.{Serves, serves}
use Rattle.demand.proofs.Taps.{one_tap_top, one_tap_bound}

-- a sum of at most b times α
pub alpha_product : (t b m : ℕ) → t ≤ b → t * alpha_of m ≤ b * 91900000
alpha_product t b m h = mul-le-mul {n₂ = b} {m₂ = 91900000} h (alpha_ceiling m)

-- and divided by d: 137,850 bounds the flow in ml/s, and in l/h
pub alpha_quotient : (t b d m : ℕ) → 0 < d → t ≤ b → b * 91900000 ≤ 137850 * d → up (t * alpha_of m) d ≤ 137850
alpha_quotient t b d m h k l = up_le (t * alpha_of m) 137850 h (omega (arith, alpha_product t b m k))

module _ (job : Job) (n : ℕ → ℕ) where
  average_top : 0 < m_of job n → average_flow_of job n ≤ 137850
  average_top h =
      rw (average_is job n)
      (alpha_quotient (fixture_sum_of job n) (30 * m_of job n) (20000 * m_of job n) (m_of job n) (omega arith) (fixture_sum_le job n) (omega arith))

  pub flow_top : 0 < m_of job n → flow_of job n ≤ 137850
  flow_top h = omega (arith, flow_is job n, average_top h, one_tap_top job n)

-- what a flow is worked out from, and what it is, by the sums of its vector
module _ (job : Job) (n : ℕ → ℕ) {m weighted tap : ℕ} (sums : (m ≡ m_of job n) × (weighted ≡ fixture_sum_of job n) × (tap ≡ one_tap_of job n)) where
  pub flow_asks : 0 < m_of job n → m_of job n ≤ 400000000 → (0 < m) × (m ≤ 400000000) × (weighted ≤ 30 * m) × (tap ≤ 300)
  flow_asks low high = rw (sums.0, sums.1, sums.2) (low, high, fixture_sum_le job n, one_tap_top job n)

  pub flow_by : {flow : ℕ} → flow ≡ max (up (weighted * alpha_of m) (20000 * m)) tap → flow ≡ flow_of job n
  flow_by e = e ∙ rw (sums.0, sums.1, sums.2, ← average_is job n) (sym (flow_is job n))

-- no section is without flow: one fixture of a kind that it serves draws at least 100 ml/s
pub flow_pos : {job : Job} → Valid job → (i : ℕ) → 0 < i → i ≤ count_of job → 0 < section_flow job i
flow_pos {job} valid i a b =
    let s : Serves (served_of job i) = serves valid i a b in
    let norm : NormIn (norm_at job s.kind) = norm_at_lem job s.kind s.low s.high in
    omega (arith, flow_is job (served_of job i), one_tap_bound job (served_of job i) s.kind s.low s.high s.some, norm.fixture.low)

pub house_flow_top : {job : Job} → Valid job → house_flow job ≤ 137850
house_flow_top {job} valid = flow_top job (house_of job) (house_m_pos valid)

module _ (job : Job) where
  pub hour_top : 0 < hour_sum_of job → hour_of job ≤ 137850
  hour_top h =
      rw (hour_is job)
      (alpha_quotient (hourly_sum_of job) (300 * hour_sum_of job) (200000 * hour_sum_of job) (hour_sum_of job) (omega arith) (hourly_sum_le job) (omega arith))

  pub hour_product : (m : ℕ) → hour_sum_of job ≤ 400000000 → hourly_sum_of job * alpha_of m ≤ 11028000000000000000
  hour_product m h = alpha_product (hourly_sum_of job) 120000000000 m (omega (arith, hourly_sum_le job))

pub house_hour_top : {job : Job} → Valid job → hour_of job ≤ 137850
house_hour_top {job} valid = hour_top job (hour_sum_pos valid)
