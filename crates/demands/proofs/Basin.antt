-- A basin on a wide main: its cheapest list by document 01's reading and by L6's.
-- Assumes nothing.
use mathlib.Core.Path.{◌≡◌, refl}
use mathlib.Core.Logic.{⊎_elim}
use mathlib.Core.Bool.{false}
use mathlib.Core.List.{List, [], ◌∷◌}
use Prim.Native.Nat.{ℕ, ◌≤◌}
use native.Mathlib.Omega.{arith}
use lib.IntN.{pos}
use lib.Signed.{le_z}
use Rattle.basis.proofs.Bools.{apart}
use Rattle.record.specs.Record.{header_at, decode}
use Rattle.acceptance.specs.Acceptance.{job_no}
use Rattle.heads.specs.Heads.{required_of}
use Rattle.sizing.specs.Losses.{losses_with}
use Rattle.basis.specs.Range.{concat_to}
use Rattle.wire.specs.Wire.{bits_of}
use Rattle.rated_bytes.specs.RatedBytes.{figures_bytes}
use Rattle.rating.specs.Calls.{losses_bytes}
use Rattle.choosing.specs.Suitable.{Suitable, cost_of}
use Rattle.demands.specs.OwnCase.{own_cat}
use Rattle.demands.specs.SmallFlows.{read_before, before_of, SuitableBefore, basin_job, Basin}
use Rattle.demands.proofs.OneSection.{one_size, gives_list}
use Rattle.demands.proofs.Worked.{computed}

-- what is computed of the bytes
record Figures : Type 0 where
  accepted : job_no basin_job ≡ 0
  suits : Suitable (decode basin_job) own_cat (1 ∷ [])
  one : cost_of (decode basin_job) own_cat (1 ∷ []) ≡ 720000
  two : cost_of (decode basin_job) own_cat (2 ∷ []) ≡ 1040000
  -- by document 01's reading size 1 asks for more than H
  short : le_z (required_of (decode basin_job) (losses_with (decode basin_job) (before_of (decode basin_job) own_cat) (1 ∷ []))) (pos 1200) ≡ false

figures : Figures
unfolding computed read_before before_of
figures = record { accepted = refl; suits = record { sizes = refl; serves = refl; reaches = refl }; one = refl; two = refl; short = refl }

least_before : (y : List ℕ) → SuitableBefore (decode basin_job) own_cat 1200 y → 1040000 ≤ cost_of (decode basin_job) own_cat y
unfolding decode header_at
least_before y s =
    ⊎_elim
    (λ e. absurd (apart (rw e at s.reaches) figures.short))
    (λ e. rw e (omega (arith, figures.two)))
    (one_size (decode basin_job) refl y s.sizes)

only_one : (y : List ℕ) → Suitable (decode basin_job) own_cat y → cost_of (decode basin_job) own_cat y ≤ cost_of (decode basin_job) own_cat (1 ∷ []) → y ≡ 1 ∷ []
unfolding decode header_at
only_one y s h =
    ⊎_elim
    (λ e. e)
    (λ (e : y ≡ 2 ∷ []). absurd (omega (arith, figures.one, figures.two, rw e at h)))
    (one_size (decode basin_job) refl y s.sizes)

pub basin : Basin
unfolding computed read_before before_of bits_of concat_to figures_bytes losses_bytes
basin =
    record {
      job = figures.accepted;
      flow = refl;
      losses_before = (refl, refl);
      heads_before = (refl, refl);
      losses = (refl, refl);
      heads = (refl, refl);
      suited = record { sizes = refl; serves = refl; reaches = refl };
      cost_before = figures.two;
      least_before = least_before;
      chosen = λ out₀ work₀ out work n a c. gives_list computed.listed basin_job figures.accepted a c (1 ∷ []) figures.suits only_one;
    }
