-- Document 02, L4: how the norms of the cold and the hot line stand to each other and to the total, by computed tests over the twelve kinds.
-- Assumes nothing.
use mathlib.Core.Path.{◌≡◌, refl}
use mathlib.Core.Bool.{Bool, true, ◌&&◌}
use Prim.Native.Nat.{ℕ, ◌+◌, ◌≤◌, ◌<◌}
use lib.Dec.{eqb}
use borrow.Author.Tests.{eqb-true}
use Rattle.basis.specs.Range.{all_to, sum_to}
use Rattle.basis.specs.Slots.{tabulate}
use Rattle.basis.proofs.Bools.{left, right}
use Rattle.basis.proofs.Each.{all_at}
use Rattle.norms.specs.declared.Norm.{Norm}
use Rattle.norms.specs.Norms.{norm_of, total_cold_hot, day_norms, hour_norms, fixture_norms, hourly_norms}

-- what residents use is shared out between the lines, and a fixture's norm is the same for either
pub record Services (total cold hot : Norm) : Type 0 where
  pub day : cold.day + hot.day ≡ total.day
  pub hour : cold.hour + hot.hour ≡ total.hour
  pub fixture : cold.fixture ≡ hot.fixture
  pub hourly : cold.hourly ≡ hot.hourly

abbrev shared : Norm → Norm → Norm → Bool
shared total cold hot =
    eqb (cold.day + hot.day) total.day &&
    (eqb (cold.hour + hot.hour) total.hour && (eqb cold.fixture hot.fixture && eqb cold.hourly hot.hourly))

services_of_shared : (total cold hot : Norm) → shared total cold hot ≡ true → Services total cold hot
services_of_shared total cold hot e =
    let e₁ = right (eqb (cold.day + hot.day) total.day) _ e in
    let e₂ = right (eqb (cold.hour + hot.hour) total.hour) _ e₁ in
    record {
      day = eqb-true _ _ (left _ _ e);
      hour = eqb-true _ _ (left _ _ e₁);
      fixture = eqb-true _ _ (left _ _ e₂);
      hourly = eqb-true _ _ (right (eqb cold.fixture hot.fixture) _ e₂);
    }

all_shared : all_to 12 (λ kind. shared (norm_of 0 kind) (norm_of 1 kind) (norm_of 2 kind)) ≡ true
unfolding all_to tabulate norm_of total_cold_hot day_norms hour_norms fixture_norms hourly_norms
all_shared = refl

pub services : (kind : ℕ) → 0 < kind → kind ≤ 12 → Services (norm_of 0 kind) (norm_of 1 kind) (norm_of 2 kind)
services kind a b =
    services_of_shared (norm_of 0 kind) (norm_of 1 kind) (norm_of 2 kind)
    (all_at 12 (λ k. shared (norm_of 0 k) (norm_of 1 k) (norm_of 2 k)) all_shared kind a b)

-- hot litres on the greatest day for one resident of each kind
pub hot_days : sum_to 12 (λ kind. (norm_of 2 kind).day) ≡ 1016
unfolding sum_to tabulate norm_of total_cold_hot day_norms
hot_days = refl
