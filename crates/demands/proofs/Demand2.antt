-- Demand 2: the figures that stand in a result's bytes, and records read and written.
-- Assumes nothing.
use mathlib.Core.Path.{◌≡◌, refl, sym, ◌∙◌}
use mathlib.Core.List.{List}
use Prim.Native.Nat.{ℕ}
use lib.ListN.{length}
use Rattle.basis.specs.Part.{part}
use Rattle.basis.proofs.Part.{part_front}
use Rattle.basis.proofs.Stored.{stored_front}
use Rattle.job.proofs.RoundTrip.{written_read_same, same_bytes, copied as copied-number, not_refused}
use Rattle.acceptance.proofs.Accepting.{input_passed}
use Rattle.flow.proofs.Ordering.{flow_done, duty_done}
use Rattle.rating.proofs.Ordering.{sized_over, sized_done}
use Rattle.lent_losses.proofs.Ordering.{heads_listed, heads_done}
use Rattle.order.specs.Promises.{Copied}
use Rattle.demands.specs.Demand2.{Demand2}
use Rattle.demands.proofs.Flows.{flow_figures, duty_figure}
use Rattle.demands.proofs.Heads.{heads_figures}
use Rattle.demands.proofs.Ratings.{rate_figures, losses_figures}

copied : (job out₀ out : List ℕ) → Copied job out₀ out 0 → part out 0 (length job) ≡ job
copied job out₀ out g = rw (g.buffer ∙ stored_front out₀ job) (part_front job _ (length job) refl)

pub demand_2 : Demand2
demand_2 =
    record {
      flow_given = λ b room e h. flow_done b room e h;
      duty_given = λ b room e h. duty_done b room e h;
      rate_given = λ b cat sizes room e f named none h. sized_done b cat sizes room _ (sym (input_passed b cat (sym e) (sym f))) named h none;
      rate_over = λ b cat sizes room e f named over h. sized_over b cat sizes room _ (sym (input_passed b cat (sym e) (sym f))) named h over;
      losses_given = λ b cat sizes room e f named none h. sized_done b cat sizes room _ (sym (input_passed b cat (sym e) (sym f))) named h none;
      losses_over = λ b cat sizes room e f named over h. sized_over b cat sizes room _ (sym (input_passed b cat (sym e) (sym f))) named h over;
      heads_given = λ b losses room e ok h. heads_done b losses room e ok h;
      heads_refused = λ b losses room e not-ok. heads_listed b losses room e not-ok;
      flow = λ job out₀ out bytes g. flow_figures job out₀ out g bytes;
      duty = duty_figure;
      rate = λ job cat sizes out₀ out bytes g. rate_figures job cat sizes out₀ out bytes g;
      losses = λ job cat sizes out₀ out bytes g. losses_figures job cat sizes out₀ out bytes g;
      heads = λ job losses out₀ out g. heads_figures job losses out₀ out g;
      same_fields = λ job again out₀ out w. written_read_same w refl;
      same_bytes = λ b bytes e. same_bytes b e bytes;
      copied = copied;
      write_given = λ b room e h. not_refused b e room h;
      copy_given = λ b room e h. copied-number b e room ∙ not_refused b e room h;
    }
