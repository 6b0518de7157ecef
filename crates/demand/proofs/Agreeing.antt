-- Vectors that agree, and jobs that agree on the kinds a vector has, give the same m, sum of share × Z, flow and fixtures.
-- Assumes nothing.
use mathlib.Core.Path.{◌≡◌, refl, sym, ap, ◌∙◌}
use mathlib.Core.Logic.{⊎_elim}
use Prim.Native.Nat.{ℕ, ◌*◌, ◌≤◌, ◌<◌}
use native.Mathlib.Omega.{arith}
use Rattle.std.proofs.lemmas.Bool.{cases_lt}
use Rattle.basis.proofs.Sum.{sum_ext}
use Rattle.fields.specs.declared.Job.{Job}
use Rattle.fields.specs.Fields.{service_of, residents_of}
use Rattle.tree.specs.Tree.{house_of}
use Rattle.norms.specs.Norms.{norm_of}
use Rattle.demand.specs.Demand.{norm_at, share_of, m_of, fixture_sum_of, average_flow_of, flow_of, fixtures_of}
use Rattle.demand.proofs.Equations.{share_is, m_is, fixture_is, average_is, flow_is}
use Rattle.demand.proofs.Shares.{share_zero}
use Rattle.demand.proofs.Taps.{one_tap_agree}

-- two jobs, each with a vector, whose shares agree
module _ (a b : Job) (n n' : ℕ → ℕ) (services : service_of a ≡ service_of b)
    (shares : (kind : ℕ) → 0 < kind → kind ≤ 12 → share_of a n kind ≡ share_of b n' kind) where
  pub m_agree : m_of a n ≡ m_of b n'
  m_agree = m_is a n ∙ sum_ext 12 _ _ shares ∙ sym (m_is b n')

  fixture_agree : (kind : ℕ) → (norm_at a kind).fixture ≡ (norm_at b kind).fixture
  fixture_agree kind = ap (λ s. (norm_of s kind).fixture) services

  weighted_agree : fixture_sum_of a n ≡ fixture_sum_of b n'
  weighted_agree =
      fixture_is a n ∙
      sum_ext 12 _ _ (λ kind p q. ap (λ x. x * (norm_at a kind).fixture) (shares kind p q) ∙ ap (λ x. share_of b n' kind * x) (fixture_agree kind)) ∙
      sym (fixture_is b n')

  average_agree : average_flow_of a n ≡ average_flow_of b n'
  average_agree = average_is a n ∙ rw (weighted_agree, m_agree) (sym (average_is b n'))

  pub flow_agree : ((kind : ℕ) → 0 < kind → kind ≤ 12 → n kind ≡ n' kind) → flow_of a n ≡ flow_of b n'
  flow_agree same = flow_is a n ∙ rw (average_agree, one_tap_agree a b n n' services same) (sym (flow_is b n'))

module _ (n n' : ℕ → ℕ) (same : (kind : ℕ) → 0 < kind → kind ≤ 12 → n kind ≡ n' kind) where
  pub fixtures_same : fixtures_of n ≡ fixtures_of n'
  unfolding fixtures_of
  fixtures_same = sum_ext 12 n n' same

module _ (job : Job) (n n' : ℕ → ℕ) (same : (kind : ℕ) → 0 < kind → kind ≤ 12 → n kind ≡ n' kind) where
  share_same : (kind : ℕ) → 0 < kind → kind ≤ 12 → share_of job n kind ≡ share_of job n' kind
  share_same kind p q = share_is job kind n ∙ rw (same kind p q) (sym (share_is job kind n'))

  pub m_same : m_of job n ≡ m_of job n'
  m_same = m_agree job job n n' refl share_same

  pub weighted_same : fixture_sum_of job n ≡ fixture_sum_of job n'
  weighted_same = weighted_agree job job n n' refl share_same

  pub flow_same : flow_of job n ≡ flow_of job n'
  flow_same = flow_agree job job n n' refl share_same same

-- residents and house's fixtures count only for the kinds that the vector has
module _ (a b : Job) (n : ℕ → ℕ) (services : service_of a ≡ service_of b)
    (residents : (kind : ℕ) → 0 < kind → kind ≤ 12 → 0 < n kind → residents_of a kind ≡ residents_of b kind)
    (houses : (kind : ℕ) → 0 < kind → kind ≤ 12 → 0 < n kind → house_of a kind ≡ house_of b kind) where
  share_depends : (kind : ℕ) → 0 < kind → kind ≤ 12 → share_of a n kind ≡ share_of b n kind
  share_depends kind p q =
      ⊎_elim
      (λ h. cc (share_is a kind n, share_is b kind n, ap (λ s. norm_of s kind) services, residents kind p q h, houses kind p q h))
      (λ z. let e : n kind ≡ 0 = omega arith in share_zero a kind n e ∙ sym (share_zero b kind n e))
      (cases_lt 0 (n kind))

  pub flow_depends : flow_of a n ≡ flow_of b n
  flow_depends = flow_agree a b n n services share_depends (λ kind p q. refl)
