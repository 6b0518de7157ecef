-- The best costs of a section at each head, with one size more.
-- Assumes nothing.
use mathlib.Core.Path.{◌≡◌, ◌∙◌}
use mathlib.Core.List.{List}
use Prim.Native.Nat.{ℕ, zero, suc, ◌+◌, ◌-◌, ◌*◌, ◌≤◌, ◌<◌, min, max}
use native.Mathlib.Omega.{arith}
use Rattle.std.proofs.lemmas.Bool.Decides.{nat_tests}
use Rattle.plan.specs.Plan.{mark, least_to}
use Rattle.plan.proofs.Least.{least_more, least_most}
use Rattle.cells.specs.Cells.{cell_at}
use Rattle.cells.specs.Steps.{Offered}
use Rattle.rows.specs.declared.raise.Row.{Row}
use Rattle.rows.specs.Steps.{row_at, «from», options_of, Offerable, Lowest, Flat}

-- the option of size t of a section, where it leaves the need and where it does not
module _ (s : Row) (losses costs ws : List ℕ) (h t : ℕ) where
  option_met : «from» losses s.at t + s.need ≤ h →
      options_of s losses costs ws h t ≡ «from» costs s.at t + row_at ws s.first s.stride s.high t (h - «from» losses s.at t)
  option_met b = grind (arith, nat_tests)

  option_short : h < «from» losses s.at t + s.need → options_of s losses costs ws h t ≡ mark
  option_short b = grind (arith, nat_tests)

-- one number more
least_at : (t : ℕ) (f : ℕ → ℕ) → 0 < t → least_to t f ≡ min (least_to (t - 1) f) (f t)
least_at zero f p = absurd (omega arith)
least_at (suc n) f p = let e : suc n - 1 ≡ n = omega arith in rw e (least_more n f)

-- Size t of a section is offered: l is its loss, k its cost, v the last cell of its row.
module _ {s : Row} {start end : ℕ} {costs ws : List ℕ} (t : ℕ) (losses : List ℕ) (z : 0 < t) (o : Offerable s t start end costs ws) where
  abbrev l : ℕ
  l = «from» losses s.at t

  abbrev k : ℕ
  k = «from» costs s.at t

  -- what all below costs at the head x
  abbrev below : ℕ → ℕ
  below x = row_at ws s.first s.stride s.high t x

  abbrev f : ℕ → ℕ → ℕ
  f = options_of s losses costs ws

  -- it loses too much
  pub next_skip : {best : List ℕ} → Lowest best start end (t - 1) f → end ≤ l + s.need → Lowest best start end t f
  next_skip p b =
      record { long = p.long; is = λ h x y. omega (arith, least_at t (f h) z, least_most (t - 1) (f h), p.is h x y, option_short s losses costs ws h t (omega arith)) }

  -- it is offered from m to stop, and costs no less than the best from there on
  module _ (fits : l + s.need < end) {v : ℕ} (ev : v ≡ cell_at ws (s.first + t * s.stride + s.high))
      {best best' : List ℕ} {flat low m stop : ℕ} (level : Flat best start end flat low) (off : Offered best best' m stop (λ h. k + below (h - l)))
      (em : m ≡ max start (l + s.need)) (cut : (stop ≤ end) × (stop < end → (flat ≤ stop) × (low ≤ v + k))) where
    last_is : v ≡ below s.high
    last_is = let e : min s.high s.high ≡ s.high = omega arith in rw e ev

    pub next_lowest : Lowest best start end (t - 1) f → Lowest best' start end t f
    next_lowest p =
        record {
          long = off.long ∙ p.long;
          is = λ h a b.
              grind (
                arith,
                cut.1,
                least_at t (f h) z,
                least_most (t - 1) (f h),
                p.is h a b,
                off.below h,
                off.within h,
                off.above h,
                level.is h,
                o.moderate.falls t (h - l),
                last_is,
                option_met s losses costs ws h t,
                option_short s losses costs ws h t,
              );
        }
