-- The bounds of the norms for any service, by one computed test over the three services and the twelve kinds.
-- Assumes nothing.
use mathlib.Core.Path.{◌≡◌, refl}
use mathlib.Core.Bool.{Bool, true, ◌&&◌}
use Prim.Native.Nat.{ℕ, suc, ◌-◌, ◌≤◌, ◌<◌, min}
use native.Mathlib.Omega.{arith}
use Rattle.basis.specs.Range.{within, all_to}
use Rattle.basis.specs.Slots.{tabulate}
use Rattle.basis.proofs.Bools.{left, right}
use Rattle.basis.proofs.Within.{Within, within_in}
use Rattle.basis.proofs.Each.{all_at}
use Rattle.norms.specs.declared.Norm.{Norm}
use Rattle.norms.specs.Norms.{norm_of, total_cold_hot, day_norms, hour_norms, fixture_norms, hourly_norms}

pub record NormIn (norm : Norm) : Type 0 where
  pub day : Within 6 400 norm.day
  pub hour : Within 12 300 norm.hour
  pub fixture : Within 10 30 norm.fixture
  pub hourly : Within 60 300 norm.hourly

abbrev inside : Norm → Bool
inside n = within 6 400 n.day && (within 12 300 n.hour && (within 10 30 n.fixture && within 60 300 n.hourly))

all_inside : all_to 3 (λ t. all_to 12 (λ kind. inside (norm_of (t - 1) kind))) ≡ true
unfolding all_to tabulate norm_of total_cold_hot day_norms hour_norms fixture_norms hourly_norms
all_inside = refl

norm_of_inside : (n : Norm) → inside n ≡ true → NormIn n
norm_of_inside n e =
    let e₁ = right (within 6 400 n.day) _ e in
    let e₂ = right (within 12 300 n.hour) _ e₁ in
    record {
      day = within_in 6 400 n.day (left _ _ e);
      hour = within_in 12 300 n.hour (left _ _ e₁);
      fixture = within_in 10 30 n.fixture (left _ _ e₂);
      hourly = within_in 60 300 n.hourly (right (within 10 30 n.fixture) _ e₂);
    }

-- a service counts as 2 from 2 on
pub service_to_2 : (service kind : ℕ) → norm_of service kind ≡ norm_of (min service 2) kind
unfolding norm_of
service_to_2 service kind =
    let e : min (min service 2) 2 ≡ min service 2 = omega arith in
    let f : min (min service 2) 1 ≡ min service 1 = omega arith in
    rw (e, f)

pub norm_in : (service kind : ℕ) → 0 < kind → kind ≤ 12 → NormIn (norm_of service kind)
norm_in service kind a b =
    let s = min service 2 in
    let back : suc s - 1 ≡ s = omega arith in
    let each = all_at 3 (λ t. all_to 12 (λ k. inside (norm_of (t - 1) k))) all_inside (suc s) (omega arith) (omega arith) in
    rw (service_to_2 service kind)
    (norm_of_inside (norm_of s kind) (all_at 12 (λ k. inside (norm_of s k)) (rw back at each) kind a b))
