-- Bounds of m, of the hour's sum of shares, of the sums of share × Z and share × O, and of the day.
-- Assumes nothing.
use mathlib.Core.Path.{◌≡◌}
use mathlib.Core.Bool.{false}
use mathlib.Core.List.{[], ◌∷◌}
use Prim.Native.Nat.{ℕ, ◌*◌, ◌≤◌, ◌<◌}
use native.Mathlib.Omega.{arith}
use native.Mathlib.Nat.{mul_comm, mul-le-mul_left}
use lib.Dec.{ltb}
use borrow.Author.Tests.{ltb-false}
use Rattle.std.proofs.lemmas.Bool.{or_parts}
use Rattle.basis.specs.Range.{sum_to}
use Rattle.basis.proofs.Sum.{sum_mono, sum_scale, sum_at}
use Rattle.answer.proofs.First.{first_clear}
use Rattle.fields.specs.declared.Job.{Job}
use Rattle.fields.specs.Fields.{service_of, count_of, residents_of}
use Rattle.tree.specs.Tree.{served_of, house_of}
use Rattle.tree.proofs.Served.{served_le}
use Rattle.norms.proofs.Services.{hot_days}
use Rattle.demand.specs.Demand.{norm_at, share_of, m_of, fixture_sum_of, hour_share_of, hour_sum_of, hourly_sum_of, day_of}
use Rattle.demand.specs.Demand.{over_sum, over_probability, demand_checks, Valid, Accepted}
use Rattle.demand.proofs.Validity.{valid_rooted, residents_match}
use Rattle.demand.proofs.Serving.{Serves, serves, house_serves}
use Rattle.demand.proofs.Equations.{norm_at_lem, m_is, fixture_is, hour_sum_is, hourly_is}
use Rattle.demand.proofs.Shares.{share_mono, share_pos, hour_share_pos}

-- the sum of share × norm, by the norm's bound
weighed : (top : ℕ) (share norm : ℕ → ℕ) → ((kind : ℕ) → 0 < kind → kind ≤ 12 → norm kind ≤ top) →
    sum_to 12 (λ kind. share kind * norm kind) ≤ top * sum_to 12 share
weighed top share norm h =
    sum_scale 12 top _ share (λ kind p q. rw (mul_comm top (share kind)) (mul-le-mul_left (share kind) (h kind p q)))

module _ (job : Job) where
  pub m_mono : (n n' : ℕ → ℕ) → ((kind : ℕ) → 0 < kind → kind ≤ 12 → n kind ≤ n' kind) → m_of job n ≤ m_of job n'
  m_mono n n' h = rw (m_is job n, m_is job n') (sum_mono 12 _ _ (λ kind p q. share_mono job kind n n' (h kind p q)))

  pub fixture_sum_le : (n : ℕ → ℕ) → fixture_sum_of job n ≤ 30 * m_of job n
  fixture_sum_le n =
      rw (fixture_is job n, m_is job n)
      (weighed 30 (share_of job n) (λ kind. (norm_at job kind).fixture) (λ kind p q. (norm_at_lem job kind p q).fixture.high))

  pub hourly_sum_le : hourly_sum_of job ≤ 300 * hour_sum_of job
  hourly_sum_le =
      rw (hourly_is job, hour_sum_is job)
      (weighed 300 (hour_share_of job) (λ kind. (norm_at job kind).hourly) (λ kind p q. (norm_at_lem job kind p q).hourly.high))

-- residents are of 16 bits
module _ (job : Job) (r : (kind : ℕ) → 0 < kind → kind ≤ 12 → residents_of job kind < 65536) where
  pub day_le : day_of job ≤ 65535 * sum_to 12 (λ kind. (norm_at job kind).day)
  unfolding day_of
  day_le = weighed 65535 (λ kind. (norm_at job kind).day) (residents_of job) (λ kind p q. omega (arith, r kind p q))

  pub hot_day_top : service_of job ≡ 2 → day_of job ≤ 66583560
  hot_day_top hot =
      let days : sum_to 12 (λ kind. (norm_at job kind).day) ≡ 1016 = rw hot hot_days in
      omega (arith, day_le)

module _ {job : Job} (r : Valid job) where
  pub section_m_le : (i : ℕ) → m_of job (served_of job i) ≤ m_of job (house_of job)
  section_m_le i = m_mono job (served_of job i) (house_of job) (λ kind p q. served_le (valid_rooted r) i kind)

  -- a vector of some of the house's fixtures
  some_m_pos : (n : ℕ → ℕ) → ((kind : ℕ) → n kind ≤ house_of job kind) → Serves n → 0 < m_of job n
  some_m_pos n h s =
      let k : ℕ = s.kind in
      let b : 0 < house_of job k = omega (arith, s.some, h k) in
      let p : 0 < share_of job n k = share_pos job k s.low s.high (residents_match r k s.low s.high b) n s.some b in
      rw (m_is job n) (omega (arith, sum_at 12 k (share_of job n) s.low s.high))

  pub house_m_pos : 0 < m_of job (house_of job)
  house_m_pos = some_m_pos (house_of job) (λ kind. omega arith) (house_serves r)

  pub m_pos : (i : ℕ) → 0 < i → i ≤ count_of job → 0 < m_of job (served_of job i)
  m_pos i a b = some_m_pos (served_of job i) (served_le (valid_rooted r) i) (serves r i a b)

  pub hour_sum_pos : 0 < hour_sum_of job
  hour_sum_pos =
      let s : Serves (house_of job) = house_serves r in
      let k : ℕ = s.kind in
      let p : 0 < hour_share_of job k = hour_share_pos job k s.low s.high (residents_match r k s.low s.high s.some) in
      rw (hour_sum_is job) (omega (arith, sum_at 12 k (hour_share_of job) s.low s.high))

module _ {job : Job} (a : Accepted job) where
  sums_fit : over_sum job ≡ false
  unfolding demand_checks
  sums_fit = (first_clear (over_sum job) 8 ((over_probability job, 9) ∷ []) (omega arith) a.demand).0

  tops : (ltb 400000000 (m_of job (house_of job)) ≡ false) × (ltb 400000000 (hour_sum_of job) ≡ false)
  unfolding over_sum
  tops = or_parts _ _ sums_fit

  pub house_m_top : m_of job (house_of job) ≤ 400000000
  house_m_top = ltb-false 400000000 (m_of job (house_of job)) tops.0

  pub hour_sum_top : hour_sum_of job ≤ 400000000
  hour_sum_top = ltb-false 400000000 (hour_sum_of job) tops.1

  pub section_m_top : (i : ℕ) → m_of job (served_of job i) ≤ 400000000
  section_m_top i = omega (arith, house_m_top, section_m_le a.valid i)
