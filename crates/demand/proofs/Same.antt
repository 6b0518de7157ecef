-- Two jobs with the same service, S, residents and sections have the same flows, hour, day, 8 and 9, and with the same T the same mean hour.
-- Assumes nothing.
use mathlib.Core.Path.{◌≡◌, ap, sym, ◌∙◌}
use Prim.Native.Nat.{ℕ, ◌*◌, ◌≤◌, ◌<◌}
use Rattle.basis.proofs.Sum.{sum_ext}
use Rattle.basis.proofs.Each.{any_ext}
use Rattle.fields.specs.declared.Job.{Job}
use Rattle.fields.specs.Fields.{service_of, count_of, residents_of}
use Rattle.tree.specs.Tree.{served_of, house_of}
use Rattle.tree.proofs.Served.{house_same, served_same}
use Rattle.norms.specs.Norms.{norm_of}
use Rattle.demand.specs.Demand.{norm_at, share_of, m_of, section_flow, house_flow, hour_share_of, hour_sum_of, hourly_sum_of, hour_of, day_of, mean_of, fixtures_of, over_sum, over_probability, needs_table_one, demand_checks}
use Rattle.demand.proofs.Equations.{share_is, hour_share_is, hour_sum_is, hourly_is, hour_is}
use Rattle.demand.proofs.Agreeing.{m_agree, flow_agree, fixtures_same}

module _ (a b : Job) (services : service_of a ≡ service_of b) (counts : count_of a ≡ count_of b) (residents : a.residents ≡ b.residents)
    (sections : a.sections ≡ b.sections) where
  houses : (kind : ℕ) → house_of a kind ≡ house_of b kind
  houses kind = house_same a b counts (λ j p q. rw sections) kind

  norms : (kind : ℕ) → norm_at a kind ≡ norm_at b kind
  norms kind = ap (λ s. norm_of s kind) services

  people : (kind : ℕ) → residents_of a kind ≡ residents_of b kind
  people kind = rw residents

  -- with vectors that agree
  shares : (n n' : ℕ → ℕ) → ((kind : ℕ) → n kind ≡ n' kind) → (kind : ℕ) → 0 < kind → kind ≤ 12 → share_of a n kind ≡ share_of b n' kind
  shares n n' e kind p q = cc (share_is a kind n, share_is b kind n', norms kind, people kind, e kind, houses kind)

  house_m_same : m_of a (house_of a) ≡ m_of b (house_of b)
  house_m_same = m_agree a b (house_of a) (house_of b) services (shares (house_of a) (house_of b) houses)

  section_m_same : (i : ℕ) → m_of a (served_of a i) ≡ m_of b (served_of b i)
  section_m_same i =
      m_agree a b (served_of a i) (served_of b i) services (shares (served_of a i) (served_of b i) (served_same a b counts sections i))

  pub house_flow_same : house_flow a ≡ house_flow b
  house_flow_same = flow_agree a b (house_of a) (house_of b) services (shares (house_of a) (house_of b) houses) (λ kind p q. houses kind)

  pub section_flow_same : (i : ℕ) → section_flow a i ≡ section_flow b i
  section_flow_same i =
      flow_agree a b (served_of a i) (served_of b i) services
      (shares (served_of a i) (served_of b i) (served_same a b counts sections i)) (λ kind p q. served_same a b counts sections i kind)

  hour_share_same : (kind : ℕ) → hour_share_of a kind ≡ hour_share_of b kind
  hour_share_same kind = cc (hour_share_is a kind, hour_share_is b kind, norms kind, people kind)

  hour_same : hour_sum_of a ≡ hour_sum_of b
  hour_same = hour_sum_is a ∙ sum_ext 12 (hour_share_of a) (hour_share_of b) (λ kind p q. hour_share_same kind) ∙ sym (hour_sum_is b)

  hourly_same : hourly_sum_of a ≡ hourly_sum_of b
  hourly_same = hourly_is a ∙ sum_ext 12 _ _ (λ kind p q. rw (hour_share_same kind, norms kind)) ∙ sym (hourly_is b)

  pub hour_of_same : hour_of a ≡ hour_of b
  hour_of_same = hour_is a ∙ rw (hourly_same, hour_same) (sym (hour_is b))

  section_same : (i : ℕ) →
      needs_table_one (m_of a (served_of a i)) (fixtures_of (served_of a i)) ≡ needs_table_one (m_of b (served_of b i)) (fixtures_of (served_of b i))
  section_same i = rw (section_m_same i, fixtures_same (served_of a i) (served_of b i) (λ kind p q. served_same a b counts sections i kind))

  pub demand_checks_same : demand_checks a ≡ demand_checks b
  unfolding demand_checks over_sum over_probability
  demand_checks_same =
      rw (
        house_m_same,
        hour_same,
        fixtures_same (house_of a) (house_of b) (λ kind p q. houses kind),
        any_ext (count_of a) _ (λ i. needs_table_one (m_of b (served_of b i)) (fixtures_of (served_of b i))) (λ i p q. section_same i),
        counts,
      )

  pub day_same : day_of a ≡ day_of b
  unfolding day_of
  day_same = sum_ext 12 _ (λ kind. (norm_at b kind).day * residents_of b kind) (λ kind p q. rw (norms kind, people kind))

  pub mean_same : a.header.hours ≡ b.header.hours → mean_of a ≡ mean_of b
  unfolding mean_of
  mean_same hours = rw (day_same, hours)
