-- One tap: it bounds 10 × Z of each kind served, is that of one of them, and is at most 300 ml/s.
-- Assumes nothing.
use mathlib.Core.Path.{◌≡◌, ap, sym, ◌∙◌}
use mathlib.Core.Logic.{⊎_elim}
use Prim.Native.Nat.{ℕ, ◌*◌, ◌≤◌, ◌<◌}
use native.Mathlib.Omega.{arith}
use borrow.Author.Tests.{lt-ltb}
use Rattle.std.proofs.lemmas.Bool.{cases_lt}
use Rattle.basis.specs.Range.{most_to}
use Rattle.basis.proofs.Most.{Reached, most_bound, most_le, most_ext, most_reached}
use Rattle.fields.specs.declared.Job.{Job}
use Rattle.fields.specs.Fields.{service_of}
use Rattle.norms.specs.Norms.{norm_of}
use Rattle.demand.specs.Demand.{norm_at, tap_of, one_tap_of}
use Rattle.demand.proofs.Equations.{norm_at_lem, tap_is, one_tap_is}

module _ (job : Job) (n : ℕ → ℕ) (kind : ℕ) where
  pub tap_served : 0 < n kind → tap_of job n kind ≡ (norm_at job kind).fixture
  tap_served h = tap_is job n kind ∙ rw (lt-ltb 0 (n kind) h)

  pub tap_none : n kind ≡ 0 → tap_of job n kind ≡ 0
  tap_none z = tap_is job n kind ∙ rw z

  tap_top : 0 < kind → kind ≤ 12 → tap_of job n kind ≤ 30
  tap_top p q =
      ⊎_elim
      (λ (h : 0 < n kind). rw (tap_served h) (norm_at_lem job kind p q).fixture.high)
      (λ (h : n kind ≤ 0). omega (arith, tap_none (omega arith)))
      (cases_lt 0 (n kind))

-- a kind served whose Z is the largest
pub record Largest (job : Job) (n : ℕ → ℕ) : Type 0 where
  pub kind : ℕ
  pub low : 0 < kind
  pub high : kind ≤ 12
  pub some : 0 < n kind
  pub by : one_tap_of job n ≡ 10 * (norm_at job kind).fixture

module _ (job : Job) (n : ℕ → ℕ) where
  pub most_tap_top : most_to 12 (tap_of job n) ≤ 30
  most_tap_top = most_le 12 30 (tap_of job n) (λ kind p q. tap_top job n kind p q)

  pub one_tap_top : one_tap_of job n ≤ 300
  one_tap_top = omega (arith, one_tap_is job n, most_tap_top)

  pub one_tap_bound : (kind : ℕ) → 0 < kind → kind ≤ 12 → 0 < n kind → 10 * (norm_at job kind).fixture ≤ one_tap_of job n
  one_tap_bound kind p q h = omega (arith, one_tap_is job n, tap_served job n kind h, most_bound 12 (tap_of job n) kind p q)

  pub one_tap_reached : 0 < one_tap_of job n → Largest job n
  one_tap_reached h =
      let r : Reached 12 (tap_of job n) = most_reached 12 (tap_of job n) (omega (arith, one_tap_is job n)) in
      let some : 0 < n r.place =
      ⊎_elim
      (λ (p : 0 < n r.place). p)
      (λ (z : n r.place ≤ 0). absurd (omega (arith, one_tap_is job n, r.by, tap_none job n r.place (omega arith))))
      (cases_lt 0 (n r.place)) in
      record {
        kind = r.place;
        low = r.low;
        high = r.high;
        some = some;
        by = omega (arith, one_tap_is job n, r.by, tap_served job n r.place some);
      }

-- two jobs of one service, with vectors that serve the same kinds
pub one_tap_agree : (a b : Job) (n n' : ℕ → ℕ) → service_of a ≡ service_of b →
    ((kind : ℕ) → 0 < kind → kind ≤ 12 → n kind ≡ n' kind) → one_tap_of a n ≡ one_tap_of b n'
one_tap_agree a b n n' services same =
    one_tap_is a n ∙
    ap (λ x. 10 * x)
    (most_ext 12 (tap_of a n) (tap_of b n')
    (λ kind p q. cc (tap_is a n kind, tap_is b n' kind, same kind p q, ap (λ s. norm_of s kind) services))) ∙
    sym (one_tap_is b n')
