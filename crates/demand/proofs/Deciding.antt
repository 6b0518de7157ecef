-- Checks 8 and 9: the number that they give, each test after those before it.
-- Assumes nothing.
use mathlib.Core.Path.{◌≡◌, sym, ◌∙◌}
use mathlib.Core.Bool.{Bool, true, false}
use Prim.Native.Nat.{ℕ, ◌≤◌, ◌<◌}
use borrow.Author.Tests.{lt-ltb, le-ltb}
use Rattle.basis.specs.Range.{any_to}
use Rattle.basis.proofs.Each.{any_ext}
use Rattle.answer.specs.Checks.{first_no}
use Rattle.fields.specs.declared.Job.{Job}
use Rattle.fields.specs.Fields.{count_of}
use Rattle.tree.specs.Tree.{served_of, house_of, fixtures_below, Rooted}
use Rattle.tree.proofs.Served.{served_house}
use Rattle.demand.specs.Demand.{m_of, flow_of, fixtures_of, hour_sum_of, needs_table_one, over_sum, over_probability, demand_checks, Valid}
use Rattle.demand.proofs.Validity.{valid_rooted, valid_fixtures}
use Rattle.demand.proofs.Agreeing.{m_same, flow_same, fixtures_same}

-- row 0 of the counts is the house
module _ {job : Job} (r : Rooted job) where
  pub house_m : m_of job (served_of job 0) ≡ m_of job (house_of job)
  house_m = m_same job (served_of job 0) (house_of job) (λ kind a b. served_house r kind)

  pub house_flow_lem : flow_of job (served_of job 0) ≡ flow_of job (house_of job)
  house_flow_lem = flow_same job (served_of job 0) (house_of job) (λ kind a b. served_house r kind)

  pub house_fixtures : fixtures_of (served_of job 0) ≡ fixtures_of (house_of job)
  house_fixtures = fixtures_same (served_of job 0) (house_of job) (λ kind a b. served_house r kind)

-- each test in turn, of any job
module _ (job : Job) where
  pub over_house : 400000000 < m_of job (house_of job) → first_no (demand_checks job) ≡ 8
  unfolding demand_checks first_no over_sum
  over_house h = rw (lt-ltb 400000000 (m_of job (house_of job)) h)

  module _ (m : m_of job (house_of job) ≤ 400000000) where
    pub over_hour : 400000000 < hour_sum_of job → first_no (demand_checks job) ≡ 8
    unfolding demand_checks first_no over_sum
    over_hour h = rw (le-ltb 400000000 (m_of job (house_of job)) m, lt-ltb 400000000 (hour_sum_of job) h)

    module _ (hour : hour_sum_of job ≤ 400000000) where
      not_over : over_sum job ≡ false
      unfolding over_sum
      not_over = rw (le-ltb 400000000 (m_of job (house_of job)) m, le-ltb 400000000 (hour_sum_of job) hour)

      pub table_one_house : needs_table_one (m_of job (house_of job)) (fixtures_of (house_of job)) ≡ true → first_no (demand_checks job) ≡ 9
      unfolding demand_checks first_no over_probability
      table_one_house e = rw (not_over, e)

      module _ (house : needs_table_one (m_of job (house_of job)) (fixtures_of (house_of job)) ≡ false) where
        pub table_one_any : any_to (count_of job) (λ i. needs_table_one (m_of job (served_of job i)) (fixtures_of (served_of job i))) ≡ true →
            first_no (demand_checks job) ≡ 9
        unfolding demand_checks first_no over_probability
        table_one_any e = rw (not_over, house, e)

        module _ (any : any_to (count_of job) (λ i. needs_table_one (m_of job (served_of job i)) (fixtures_of (served_of job i))) ≡ false) where
          pub table_one_hour : needs_table_one (hour_sum_of job) (fixtures_of (house_of job)) ≡ true → first_no (demand_checks job) ≡ 9
          unfolding demand_checks first_no over_probability
          table_one_hour e = rw (not_over, house, any, e)

          pub table_one_not : needs_table_one (hour_sum_of job) (fixtures_of (house_of job)) ≡ false → first_no (demand_checks job) ≡ 0
          unfolding demand_checks first_no over_probability
          table_one_not e = rw (not_over, house, any, e)

-- the test of section i, by what its sums and its set give
abbrev pub section_test : Job → ℕ → Bool
section_test job i = needs_table_one (m_of job (served_of job i)) (fixtures_below job i)

abbrev any_section : Job → Bool
any_section job = any_to (count_of job) (section_test job)

-- what is found: the house's m, its fixtures and the hour's sum of shares, and that a section's set has the fixtures of the kinds that it serves
pub record Found (job : Job) (m fixtures hour : ℕ) : Type 0 where
  pub m_is : m ≡ m_of job (house_of job)
  pub fixtures_is : fixtures ≡ fixtures_of (house_of job)
  pub hour_is : hour ≡ hour_sum_of job
  pub sections_are : any_section job ≡ any_to (count_of job) (λ i. needs_table_one (m_of job (served_of job i)) (fixtures_of (served_of job i)))

pub found : {job : Job} → Valid job → {m fixtures hour : ℕ} →
    m ≡ m_of job (served_of job 0) → fixtures ≡ fixtures_below job 0 → hour ≡ hour_sum_of job → Found job m fixtures hour
found {job} valid m f h =
    let r = valid_rooted valid in
    record {
      m_is = m ∙ house_m r;
      fixtures_is = f ∙ valid_fixtures valid 0 ∙ house_fixtures r;
      hour_is = h;
      sections_are = any_ext (count_of job) (section_test job) _ (λ i p q. rw (valid_fixtures valid i));
    }

-- and by what is found
module _ {job : Job} {m fixtures hour : ℕ} (k : Found job m fixtures hour) where
  pub found_over_house : 400000000 < m → 8 ≡ first_no (demand_checks job)
  found_over_house h = sym (over_house job (rw k.m_is at h))

  module _ (low : m ≤ 400000000) where
    house_low : m_of job (house_of job) ≤ 400000000
    house_low = rw k.m_is at low

    pub found_over_hour : 400000000 < hour → 8 ≡ first_no (demand_checks job)
    found_over_hour h = sym (over_hour job house_low (rw k.hour_is at h))

    module _ (few : hour ≤ 400000000) where
      hour_low : hour_sum_of job ≤ 400000000
      hour_low = rw k.hour_is at few

      pub found_table_one_house : true ≡ needs_table_one m fixtures → 9 ≡ first_no (demand_checks job)
      found_table_one_house e = sym (table_one_house job house_low hour_low (sym (rw (k.m_is, k.fixtures_is) at e)))

      module _ (house : false ≡ needs_table_one m fixtures) where
        house_not : needs_table_one (m_of job (house_of job)) (fixtures_of (house_of job)) ≡ false
        house_not = sym (rw (k.m_is, k.fixtures_is) at house)

        pub found_table_one_any : true ≡ any_section job → 9 ≡ first_no (demand_checks job)
        found_table_one_any e = sym (table_one_any job house_low hour_low house_not (sym (e ∙ k.sections_are)))

        module _ (any : false ≡ any_section job) where
          any_not : any_to (count_of job) (λ i. needs_table_one (m_of job (served_of job i)) (fixtures_of (served_of job i))) ≡ false
          any_not = sym (any ∙ k.sections_are)

          pub found_table_one_hour : true ≡ needs_table_one hour fixtures → 9 ≡ first_no (demand_checks job)
          found_table_one_hour e = sym (table_one_hour job house_low hour_low house_not any_not (sym (rw (k.hour_is, k.fixtures_is) at e)))

          pub found_table_one_not : false ≡ needs_table_one hour fixtures → 0 ≡ first_no (demand_checks job)
          found_table_one_not e = sym (table_one_not job house_low hour_low house_not any_not (sym (rw (k.hour_is, k.fixtures_is) at e)))
