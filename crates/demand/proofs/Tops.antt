-- The greatest values of a share, an hour's share, a kind's day and the mean hour, and of the products that are worked out on the way.
-- Assumes nothing.
use mathlib.Core.Path.{◌≡◌}
use Prim.Native.Nat.{ℕ, ◌*◌, ◌≤◌, ◌<◌}
use native.Mathlib.Omega.{arith}
use native.Mathlib.Nat.{mul-le-mul, mul-le-mul_left}
use Rattle.basis.specs.Round.{up}
use Rattle.basis.proofs.Round.{up_le}
use Rattle.basis.proofs.Within.{Within}
use Rattle.norms.specs.declared.Norm.{Norm}
use Rattle.norms.specs.Norms.{norm_of}
use Rattle.norms.proofs.Bounds.{NormIn, norm_in}

-- the products of a share of n of the house's fixtures
pub record ShareFits (norm : Norm) (residents n house : ℕ) : Type 0 where
  pub norms : NormIn norm
  pub people : 25000 * norm.hour * residents ≤ 491512500000
  pub over : 25000 * norm.hour * residents * n ≤ 2029310116312500000
  pub under : Within 90 1114750350 (9 * norm.fixture * house)

-- the products of a share, whatever number of the house's fixtures x is
pub record SharesFit (norm : Norm) (residents : ℕ) : Type 0 where
  pub norms : NormIn norm
  pub people : 25000 * norm.hour * residents ≤ 491512500000
  pub over : (x : ℕ) → x ≤ 4128705 → 25000 * norm.hour * residents * x ≤ 2029310116312500000
  pub under : (x : ℕ) → x ≤ 4128705 → 9 * norm.fixture * x ≤ 1114750350
  pub some : (x : ℕ) → 0 < x → 90 ≤ 9 * norm.fixture * x

-- the product of an hour's share
pub record HourFits (norm : Norm) (residents : ℕ) : Type 0 where
  pub norms : NormIn norm
  pub people : 100000 * norm.hour * residents ≤ 1966050000000

-- a figure of a norm for one resident, times residents
pub people_top : {residents : ℕ} → residents < 65536 → (x : ℕ) → x ≤ 400 → x * residents ≤ 26214000
people_top r x h = mul-le-mul {n₂ = 400} {m₂ = 65535} h (omega arith)

pub day_top : {norm : Norm} → NormIn norm → {residents : ℕ} → residents < 65536 → norm.day * residents ≤ 26214000
day_top {norm} i r = people_top r norm.day i.day.high

-- of a norm within its bounds
module _ {norm : Norm} (i : NormIn norm) where
  pub hourly_top : {share : ℕ} → share ≤ 32767500000 → share * norm.hourly ≤ 9830250000000
  hourly_top s = mul-le-mul {n₂ = 32767500000} {m₂ = 300} s i.hourly.high

  module _ {residents : ℕ} (r : residents < 65536) where
    shares_top : SharesFit norm residents
    shares_top =
        let p : 25000 * norm.hour * residents ≤ 491512500000 = mul-le-mul {n₂ = 7500000} {m₂ = 65535} (omega arith) (omega arith) in
        record {
          norms = i;
          people = p;
          over = λ x h. mul-le-mul {n₂ = 491512500000} {m₂ = 4128705} p h;
          under = λ x h. mul-le-mul {n₂ = 270} {m₂ = 4128705} (omega arith) h;
          some = λ x h. mul-le-mul {n₁ = 90} {m₁ = 1} (omega arith) h;
        }

    pub share_fits : {n house : ℕ} → n ≤ 4128705 → 0 < house → house ≤ 4128705 → ShareFits norm residents n house
    share_fits {n} {house} a b d =
        let f = shares_top in
        record { norms = i; people = f.people; over = f.over n a; under = record { low = f.some house b; high = f.under house d } }

    pub hour_fits : HourFits norm residents
    hour_fits =
        record { norms = i; people = mul-le-mul {n₂ = 30000000} {m₂ = 65535} (omega arith) (omega arith) }

-- of what `norm_of` gives for a kind
module _ {norm : Norm} (service : ℕ) {kind : ℕ} (e : norm ≡ norm_of service kind) (low : 1 ≤ kind) (high : kind ≤ 12) where
  pub known : NormIn norm
  known = rw e (norm_in service kind low high)

  module _ {residents : ℕ} (small : residents < 65536) where
    pub kind_shares_fit : SharesFit norm residents
    kind_shares_fit = shares_top known small

    pub kind_hour_fits : HourFits norm residents
    kind_hour_fits = hour_fits known small

-- a share, and a share times its norm
pub share_top : {share a b : ℕ} → share ≡ up a b → a ≤ 2029310116312500000 → 90 ≤ b → share ≤ 22547890181250000
share_top {share} {a} {b} e h l = rw e (up_le a 22547890181250000 (omega arith) (omega (arith, mul-le-mul_left 22547890181250000 l)))

pub fixture_top : {share fixture : ℕ} → share ≤ 22547890181250000 → fixture ≤ 30 → share * fixture ≤ 676436705437500000
fixture_top h l = mul-le-mul {n₂ = 22547890181250000} {m₂ = 30} h l

module _ {norm : Norm} {residents share : ℕ} (f : HourFits norm residents) (e : share ≡ up (100000 * norm.hour * residents) norm.hourly) where
  pub hour_share_top : share ≤ 32767500000
  hour_share_top =
      rw e (up_le (100000 * norm.hour * residents) 32767500000 (omega arith) (omega (arith, mul-le-mul_left 32767500000 f.norms.hourly.low)))

  pub hour_weighted_top : share * norm.hourly ≤ 9830250000000
  hour_weighted_top = hourly_top f.norms hour_share_top

-- the mean hour is at most the day
pub mean_top : (day : ℕ) {hours : ℕ} → 0 < hours → up day hours ≤ day
mean_top day {hours} h = up_le day day h (omega (arith, mul-le-mul_left day h))
