-- Document 01, "Norms and design flows": shares, m, design flow, hour, day and mean hour; refusals 8 and 9. Document 02, L2: design flow; L4: the norms
-- of the job's service.
-- A vector n gives the fixtures of each kind: `house_of job` for the house, `served_of job i` for section i.
-- Assumes nothing.
use Rattle.std.specs.Prelude.{◌≡◌, ℕ, ◌*◌, max, Bool, true, ◌&&◌, ◌||◌, cond, List, [], ◌∷◌, leb, ltb, eqb}
use Rattle.basis.specs.Range.{sum_to, most_to, any_to}
use Rattle.basis.specs.Round.{up}
use Rattle.answer.specs.Checks.{first_no}
use Rattle.fields.specs.declared.Job.{Job}
use Rattle.fields.specs.Fields.{service_of, count_of, residents_of}
use Rattle.tree.specs.Tree.{served_of, house_of}
use Rattle.rules.specs.Rules.{header_ok, field_checks}
use Rattle.coefficient.specs.Alpha.{alpha_of}
use Rattle.norms.specs.declared.Norm.{Norm}
use Rattle.norms.specs.Norms.{norm_of}

-- the norms of a kind for the job's service
abbrev pub norm_at : Job → ℕ → Norm
norm_at job kind = norm_of (service_of job) kind

-- a kind's share: 25,000 × Q × U × n / (9 × Z × N), up; 0 for a kind without fixtures in the house
unfoldable pub share_of : Job → (ℕ → ℕ) → ℕ → ℕ
share_of job n kind =
    cond (eqb (house_of job kind) 0) 0
    (up (25000 * (norm_at job kind).hour * residents_of job kind * n kind) (9 * (norm_at job kind).fixture * house_of job kind))

-- m, the sum of the shares
unfoldable pub m_of : Job → (ℕ → ℕ) → ℕ
m_of job n = sum_to 12 (λ kind. share_of job n kind)

-- sum of share × Z
unfoldable pub fixture_sum_of : Job → (ℕ → ℕ) → ℕ
fixture_sum_of job n = sum_to 12 (λ kind. share_of job n kind * (norm_at job kind).fixture)

-- document 01's value in ml/s, by the average Z of the kinds served: (sum of share × Z) × α / (20,000 × m), up
unfoldable pub average_flow_of : Job → (ℕ → ℕ) → ℕ
average_flow_of job n = up (fixture_sum_of job n * alpha_of (m_of job n)) (20000 * m_of job n)

-- Z of a kind served, which is one with fixtures above 0, in hundredths of l/s; 0 for any other
unfoldable pub tap_of : Job → (ℕ → ℕ) → ℕ → ℕ
tap_of job n kind = cond (ltb 0 (n kind)) (norm_at job kind).fixture 0

-- what one tap draws, in ml/s: 10 × the largest Z among the kinds served
unfoldable pub one_tap_of : Job → (ℕ → ℕ) → ℕ
one_tap_of job n = 10 * most_to 12 (λ kind. tap_of job n kind)

-- design flow in ml/s: the larger of document 01's value and one tap
unfoldable pub flow_of : Job → (ℕ → ℕ) → ℕ
flow_of job n = max (average_flow_of job n) (one_tap_of job n)

-- the flow of section i
abbrev pub section_flow : Job → ℕ → ℕ
section_flow job i = flow_of job (served_of job i)

-- the house's design flow
abbrev pub house_flow : Job → ℕ
house_flow job = flow_of job (house_of job)

-- for the hour a kind's share is 100,000 × Q × U / O, up
unfoldable pub hour_share_of : Job → ℕ → ℕ
hour_share_of job kind = up (100000 * (norm_at job kind).hour * residents_of job kind) (norm_at job kind).hourly

-- the sum of the hour's shares
unfoldable pub hour_sum_of : Job → ℕ
hour_sum_of job = sum_to 12 (λ kind. hour_share_of job kind)

-- sum of share × O
unfoldable pub hourly_sum_of : Job → ℕ
hourly_sum_of job = sum_to 12 (λ kind. hour_share_of job kind * (norm_at job kind).hourly)

-- the hour's flow in l/h: (sum of share × O) × α / (200,000 × sum of shares), up, with α at that sum of shares
unfoldable pub hour_of : Job → ℕ
hour_of job = up (hourly_sum_of job * alpha_of (hour_sum_of job)) (200000 * hour_sum_of job)

-- the day: sum of D × U
unfoldable pub day_of : Job → ℕ
day_of job = sum_to 12 (λ kind. (norm_at job kind).day * residents_of job kind)

-- the mean hour: day / T, up
unfoldable pub mean_of : Job → ℕ
mean_of job = up (day_of job) job.header.hours

-- all fixtures of a vector
unfoldable pub fixtures_of : (ℕ → ℕ) → ℕ
fixtures_of n = sum_to 12 n

-- 8: house m or house hour sum over 400,000,000
unfoldable pub over_sum : Job → Bool
over_sum job = ltb 400000000 (m_of job (house_of job)) || ltb 400000000 (hour_sum_of job)

-- m over 100,000 × fixtures with at most 200 fixtures: then Table 1 of appendix 4 would apply, which is left out
unfoldable pub needs_table_one : ℕ → ℕ → Bool
needs_table_one m fixtures = leb fixtures 200 && ltb (100000 * fixtures) m

-- 9: so for the house, any section, or the house's hour
unfoldable pub over_probability : Job → Bool
over_probability job =
    needs_table_one (m_of job (house_of job)) (fixtures_of (house_of job)) ||
    (any_to (count_of job) (λ i. needs_table_one (m_of job (served_of job i)) (fixtures_of (served_of job i))) ||
    needs_table_one (hour_sum_of job) (fixtures_of (house_of job)))

-- 8 and 9 in their order
unfoldable pub demand_checks : Job → List (Bool × ℕ)
demand_checks job = (over_sum job, 8) ∷ (over_probability job, 9) ∷ []

-- a job in which 3 and 5 to 7 find nothing; 2, the version, plays no part in any figure
pub record Valid (job : Job) : Type 0 where
  pub header : header_ok job.header ≡ true
  pub fields : first_no (field_checks job) ≡ 0

-- and 8 and 9 nothing either
pub record Accepted (job : Job) : Type 0 where
  pub valid : Valid job
  pub demand : first_no (demand_checks job) ≡ 0
