-- The heads read back from a result's bytes, whoever gave the losses.
-- Assumes nothing.
use mathlib.Core.Path.{◌≡◌, refl, sym, ap, ◌∙◌}
use mathlib.Core.List.{List, ◌++◌}
use Prim.Native.Nat.{ℕ, ◌+◌, ◌≤◌, ◌<◌}
use native.Mathlib.Omega.{arith}
use lib.IntN.{ℤ, pos, negsuc, ◌-ℤ◌}
use lib.ListN.{length, drop, get_or}
use lib.Signed.{mag}
use Rattle.basis.specs.Part.{part}
use Rattle.basis.specs.Slots.{slots}
use Rattle.basis.proofs.Part.{part_front}
use Rattle.basis.proofs.Stored.{stored_front}
use Rattle.wire.specs.Wire.{bytes_of, bits_of}
use Rattle.wire.proofs.Fields.{be_written}
use Rattle.wire.proofs.Signed.{signed_bits, bits_lt}
use Rattle.fields.specs.declared.Job.{Job}
use Rattle.fields.specs.Fields.{count_of}
use Rattle.record.specs.Record.{decode}
use Rattle.rules.proofs.HeaderBounds.{header_in}
use Rattle.demand.specs.Demand.{Accepted}
use Rattle.demand.proofs.Validity.{valid_count, valid_rooted}
use Rattle.acceptance.proofs.Accepting.{accept_accepted}
use Rattle.heads.specs.Signed.{clamped}
use Rattle.heads.specs.Heads.{required_of, pump_at, pump_of}
use Rattle.heads.proofs.Bounds.{required_small}
use Rattle.heads.proofs.Same.{required_same}
use Rattle.heads.proofs.Signed.{less_mag}
use Rattle.rated_bytes.specs.RatedBytes.{heads_length, heads_bytes}
use Rattle.rated_bytes.proofs.Written.{heads_length_lem}
use Rattle.lent_losses.specs.LentLosses.{loss_in}
use Rattle.lent_losses.proofs.Listed.{losses_top}
use Rattle.lent_losses.proofs.Ordering.{heads_clear}
use Rattle.lent_losses.proofs.Placed.{placed_at, given_of}
use Rattle.order.specs.Promises.{HeadsGiven}
use Rattle.demands.specs.Demand2.{HeadFigures}

clamped_lt : (z : ℤ) (n : ℕ) → mag z < n → clamped z < n
unfolding clamped
clamped_lt (pos a) n h = h
clamped_lt (negsuc a) n h = omega arith

-- losses that a table can give: the heads fit their bytes
module _ {job : Job} (accepted : Accepted job) (loss : ℕ → ℕ) (top : (i : ℕ) → 0 < i → i ≤ count_of job → loss i ≤ 4259775) where
  -- the losses at the sections' places
  held : List ℕ
  held = slots 64 1 (count_of job + 1) 0 loss

  required_top : mag (required_of job loss) < 268373829
  unfolding held
  required_top =
      rw (← required_same job (valid_rooted accepted.valid) (valid_count accepted.valid).low (λ i. get_or held i 0) loss (placed_at job accepted loss refl))
      (required_small {losses = held} (given_of job accepted loss refl top))

  pump_top : pump_of job loss < 268379830
  unfolding pump_at
  pump_top = clamped_lt (required_of job loss -ℤ pos job.header.guaranteed) 268379830
      (less_mag (required_of job loss) job.header.guaranteed 268379830
      (omega (arith, required_top, (header_in job.header accepted.valid.header).guaranteed)))

  pub head_figures : {out : List ℕ} (rest : List ℕ) → out ≡ heads_bytes job loss ++ rest → HeadFigures job loss out
  unfolding heads_bytes bytes_of
  head_figures {out} rest result =
      let z : ℤ = required_of job loss in
      let small : mag z < 268373829 = required_top in
      let pump : pump_of job loss < 268379830 = pump_top in
      record {
        required = rw (be_written 4 out 0 (bits_of 32 z) (bits_lt 31 z (omega arith)) (rw result)) (signed_bits 31 z (omega arith));
        pump = be_written 4 out 4 (pump_of job loss) (omega arith) (rw result);
        dictating = rw result;
      }

-- the heads call: the nine bytes at the front of its buffer, and their figures
pub heads_front : (job losses out₀ out : List ℕ) → HeadsGiven job losses out₀ out 0 → part out 0 heads_length ≡ heads_bytes (decode job) (loss_in losses)
heads_front job losses out₀ out g =
    let heads : List ℕ = heads_bytes (decode job) (loss_in losses) in
    ap (λ (l : List ℕ). part l 0 heads_length) (g.buffer ∙ stored_front out₀ heads) ∙ part_front heads _ heads_length (heads_length_lem (decode job) (loss_in losses))

pub heads_figures : (job losses out₀ out : List ℕ) → HeadsGiven job losses out₀ out 0 → HeadFigures (decode job) (loss_in losses) out
heads_figures job losses out₀ out g =
    let clear = heads_clear job losses (length out₀) (sym g.number) in
    head_figures (accept_accepted job clear.accepted) (loss_in losses) (losses_top _ losses clear.listed)
    (drop (length (heads_bytes (decode job) (loss_in losses))) out₀) (g.buffer ∙ stored_front out₀ (heads_bytes (decode job) (loss_in losses)))
