-- A kind's share rises with its fixtures and is 0 without them; where there are residents it is over 0, and so is the hour's.
-- Assumes nothing.
use mathlib.Core.Path.{◌≡◌, refl, ◌∙◌}
use Prim.Native.Nat.{ℕ, zero, suc, ◌*◌, ◌≤◌, ◌<◌}
use native.Mathlib.Omega.{arith}
use native.Mathlib.Nat.{mul-pos, mul-zero, mul-le-mul_left}
use borrow.Author.Tests.{ne_eqb}
use Rattle.basis.specs.Round.{up}
use Rattle.basis.proofs.Round.{up_zero, up_pos, up_mono}
use Rattle.fields.specs.declared.Job.{Job}
use Rattle.fields.specs.Fields.{residents_of}
use Rattle.tree.specs.Tree.{house_of}
use Rattle.norms.specs.declared.Norm.{Norm}
use Rattle.norms.proofs.Bounds.{NormIn}
use Rattle.demand.specs.Demand.{norm_at, share_of, hour_share_of}
use Rattle.demand.proofs.Equations.{rate_by, base_by, share_by, hour_share_by, share_is, hour_share_is, norm_at_lem}

module _ (norm : Norm) (u : ℕ) where
  by_none : (n : ℕ) → share_by norm u n 0 ≡ 0
  unfolding share_by
  by_none n = refl

  by_some : (n house : ℕ) → 0 < house → share_by norm u n house ≡ up (rate_by norm u * n) (base_by norm * house)
  unfolding share_by
  by_some n house h = rw (ne_eqb house 0 (λ e. omega arith))

  pub by_zero : (house : ℕ) → share_by norm u 0 house ≡ 0
  by_zero zero = by_none 0
  by_zero (suc house) =
      rw (by_some 0 (suc house) (omega arith), mul-zero (rate_by norm u)) (up_zero (base_by norm * suc house))

  by_mono : (n n' house : ℕ) → n ≤ n' → share_by norm u n house ≤ share_by norm u n' house
  by_mono n n' zero l = rw (by_none n) (omega arith)
  by_mono n n' (suc house) l =
      rw (by_some n (suc house) (omega arith), by_some n' (suc house) (omega arith))
      (up_mono _ _ (base_by norm * suc house) (mul-le-mul_left (rate_by norm u) l))

  module _ (in_range : NormIn norm) where
    by_pos : (n house : ℕ) → 0 < u → 0 < n → 0 < house → 0 < share_by norm u n house
    by_pos n house a b c =
        rw (by_some n house c)
        (up_pos _ _ (mul-pos (mul-pos (omega (arith, in_range.hour.low)) a) b) (mul-pos (omega (arith, in_range.fixture.low)) c))

    hour_by_pos : 0 < u → 0 < hour_share_by norm u
    unfolding hour_share_by
    hour_by_pos a = up_pos _ _ (mul-pos (omega (arith, in_range.hour.low)) a) (omega (arith, in_range.hourly.low))

module _ (job : Job) (kind : ℕ) (n : ℕ → ℕ) where
  pub share_zero : n kind ≡ 0 → share_of job n kind ≡ 0
  share_zero z = share_is job kind n ∙ rw z (by_zero (norm_at job kind) (residents_of job kind) (house_of job kind))

  pub share_mono : (n' : ℕ → ℕ) → n kind ≤ n' kind → share_of job n kind ≤ share_of job n' kind
  share_mono n' l =
      rw (share_is job kind n, share_is job kind n') (by_mono (norm_at job kind) (residents_of job kind) (n kind) (n' kind) (house_of job kind) l)

module _ (job : Job) (kind : ℕ) (low : 0 < kind) (high : kind ≤ 12) (residents : 0 < residents_of job kind) where
  pub share_pos : (n : ℕ → ℕ) → 0 < n kind → 0 < house_of job kind → 0 < share_of job n kind
  share_pos n a b =
      rw (share_is job kind n)
      (by_pos (norm_at job kind) (residents_of job kind) (norm_at_lem job kind low high) (n kind) (house_of job kind) residents a b)

  pub hour_share_pos : 0 < hour_share_of job kind
  hour_share_pos = rw (hour_share_is job kind) (hour_by_pos (norm_at job kind) (residents_of job kind) (norm_at_lem job kind low high) residents)
