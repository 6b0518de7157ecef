-- L2: a flow is the larger of document 01's value and one tap, and velocities, losses and meters are judged by it.
-- Assumes nothing.
use mathlib.Core.Path.{◌≡◌, ap, sym}
use mathlib.Core.Logic.{inl, inr, ⊎_elim}
use mathlib.Core.List.{List}
use Prim.Native.Nat.{ℕ, ◌≤◌, ◌<◌}
use native.Mathlib.Omega.{arith}
use Rattle.std.proofs.lemmas.Bool.{cases_lt}
use Rattle.fields.specs.declared.Job.{Job}
use Rattle.record.specs.Record.{decode}
use Rattle.tree.specs.Tree.{served_of, house_of}
use Rattle.demand.specs.Demand.{average_flow_of, one_tap_of, flow_of, section_flow, mean_of}
use Rattle.demand.proofs.Equations.{flow_is}
use Rattle.demand.proofs.Taps.{Largest, one_tap_bound, one_tap_reached}
use Rattle.sizing.specs.Losses.{reading_of, over_with, loss_with}
use Rattle.meters.specs.Meters.{meter_at, meter_loss, qualifies}
use Rattle.demands.specs.OneTap.{OfOneTap, Larger, flow_in, Judged, OneTap}
use Rattle.demands.proofs.Demand2.{demand_2}

module _ (job : Job) (n : ℕ → ℕ) where
  -- where document 01's value is less, a kind served sets the flow
  tap_sets : average_flow_of job n < one_tap_of job n → OfOneTap job n (flow_of job n)
  tap_sets h =
      let l : Largest job n = one_tap_reached job n (omega arith) in
      record {
        kind = l.kind;
        served = record { low = l.low; high = l.high; some = l.some };
        by = omega (arith, flow_is job n, l.by);
      }

  average_sets : one_tap_of job n ≤ average_flow_of job n → flow_of job n ≡ average_flow_of job n
  average_sets h = omega (arith, flow_is job n)

  larger : Larger job n (flow_of job n)
  larger =
      record {
        average = omega (arith, flow_is job n);
        taps = λ kind s. omega (arith, flow_is job n, one_tap_bound job n kind s.low s.high s.some);
        reached = ⊎_elim (λ h. inr (tap_sets h)) (λ h. inl (average_sets h)) (cases_lt (average_flow_of job n) (one_tap_of job n));
        kept = λ taps.
            ⊎_elim
            (λ h. let d = tap_sets h in absurd (omega (arith, flow_is job n, d.by, taps d.kind d.served)))
            (λ h. average_sets h)
            (cases_lt (average_flow_of job n) (one_tap_of job n));
      }

judged : (job : Job) (out cat : List ℕ) (s i : ℕ) → flow_in out i ≡ section_flow job i → Judged job out cat s i
unfolding reading_of over_with loss_with
judged job out cat s i e = record { velocity = rw e; over = rw e; loss = rw e }

pub one_tap : OneTap
one_tap =
    record {
      section = λ job out₀ out bytes g i h k. rw ((demand_2.flow job out₀ out bytes g).flow i h k) (larger (decode job) (served_of (decode job) i));
      losses = λ job cat sizes out₀ out bytes g i h k. rw ((demand_2.losses job cat sizes out₀ out bytes g).flow i h k) (larger (decode job) (served_of (decode job) i));
      house = λ job out₀ out g. rw (demand_2.duty job out₀ out g) (larger (decode job) (house_of (decode job)));
      judged = λ job out₀ out bytes g cat s i h k. judged (decode job) out cat s i ((demand_2.flow job out₀ out bytes g).flow i h k);
      qualified = λ job out₀ out g meters t.
          ap (λ q. qualifies (meter_at meters t) q (mean_of (decode job))) (sym (demand_2.duty job out₀ out g));
      meter = λ job out₀ out g meters t. ap (meter_loss (meter_at meters t)) (sym (demand_2.duty job out₀ out g));
    }
