-- The definitions of the shares, their sums and the flows as equations: the other laws cite these.
-- Assumes nothing.
use mathlib.Core.Path.{◌≡◌, refl}
use mathlib.Core.Bool.{cond}
use Prim.Native.Nat.{ℕ, ◌*◌, ◌≤◌, ◌<◌, max}
use lib.Dec.{eqb, ltb}
use Rattle.basis.specs.Range.{sum_to, most_to}
use Rattle.basis.specs.Round.{up}
use Rattle.fields.specs.declared.Job.{Job}
use Rattle.fields.specs.Fields.{service_of, residents_of}
use Rattle.tree.specs.Tree.{house_of}
use Rattle.coefficient.specs.Alpha.{alpha_of}
use Rattle.norms.specs.declared.Norm.{Norm}
use Rattle.norms.proofs.Bounds.{NormIn, norm_in}
use Rattle.demand.specs.Demand.{norm_at, share_of, m_of, fixture_sum_of, average_flow_of, tap_of, one_tap_of, flow_of, hour_share_of, hour_sum_of, hourly_sum_of, hour_of}

-- the share by a kind's norms, its residents, and its fixtures, n of the house's: rate × n / (base × house)
abbrev pub rate_by : Norm → ℕ → ℕ
rate_by norm residents = 25000 * norm.hour * residents

abbrev pub base_by : Norm → ℕ
base_by norm = 9 * norm.fixture

unfoldable pub share_by : Norm → ℕ → ℕ → ℕ → ℕ
share_by norm residents n house = cond (eqb house 0) 0 (up (rate_by norm residents * n) (base_by norm * house))

-- and for the hour
unfoldable pub hour_share_by : Norm → ℕ → ℕ
hour_share_by norm residents = up (100000 * norm.hour * residents) norm.hourly

module _ (job : Job) (kind : ℕ) where
  pub norm_at_lem : 0 < kind → kind ≤ 12 → NormIn (norm_at job kind)
  norm_at_lem low high = norm_in (service_of job) kind low high

  pub share_is : (n : ℕ → ℕ) → share_of job n kind ≡ share_by (norm_at job kind) (residents_of job kind) (n kind) (house_of job kind)
  unfolding share_of share_by
  share_is n = refl

  pub hour_share_is : hour_share_of job kind ≡ hour_share_by (norm_at job kind) (residents_of job kind)
  unfolding hour_share_of hour_share_by
  hour_share_is = refl

module _ (job : Job) (n : ℕ → ℕ) where
  pub m_is : m_of job n ≡ sum_to 12 (share_of job n)
  unfolding m_of
  m_is = refl

  pub fixture_is : fixture_sum_of job n ≡ sum_to 12 (λ kind. share_of job n kind * (norm_at job kind).fixture)
  unfolding fixture_sum_of
  fixture_is = refl

  pub average_is : average_flow_of job n ≡ up (fixture_sum_of job n * alpha_of (m_of job n)) (20000 * m_of job n)
  unfolding average_flow_of
  average_is = refl

  pub tap_is : (kind : ℕ) → tap_of job n kind ≡ cond (ltb 0 (n kind)) (norm_at job kind).fixture 0
  unfolding tap_of
  tap_is kind = refl

  pub one_tap_is : one_tap_of job n ≡ 10 * most_to 12 (tap_of job n)
  unfolding one_tap_of
  one_tap_is = refl

  pub flow_is : flow_of job n ≡ max (average_flow_of job n) (one_tap_of job n)
  unfolding flow_of
  flow_is = refl

module _ (job : Job) where
  pub hour_sum_is : hour_sum_of job ≡ sum_to 12 (hour_share_of job)
  unfolding hour_sum_of
  hour_sum_is = refl

  pub hourly_is : hourly_sum_of job ≡ sum_to 12 (λ kind. hour_share_of job kind * (norm_at job kind).hourly)
  unfolding hourly_sum_of
  hourly_is = refl

  pub hour_is : hour_of job ≡ up (hourly_sum_of job * alpha_of (hour_sum_of job)) (200000 * hour_sum_of job)
  unfolding hour_of
  hour_is = refl
