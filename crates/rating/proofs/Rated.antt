-- The results of the rating call and of the losses call from the figures at the sections' places.
-- Assumes nothing.
use mathlib.Core.Path.{◌≡◌, ap, ◌∙◌}
use mathlib.Core.List.{List, ◌++◌}
use Prim.Native.Nat.{ℕ, ◌+◌, ◌-◌, ◌*◌, ◌≤◌, ◌<◌}
use native.Mathlib.Omega.{arith}
use lib.ListN.{length, drop, get_or}
use Rattle.std.specs.List.{slice_range}
use Rattle.std.proofs.lemmas.List.Edits.{length-between, get_or-between}
use Rattle.std.proofs.Math.ListN.{get_or-map}
use Rattle.basis.specs.Range.{concat_to}
use Rattle.basis.specs.Stored.{stored}
use Rattle.basis.proofs.Concat.{concat_ext}
use Rattle.basis.proofs.Slots.{slots_in}
use Rattle.basis.proofs.Within.{Within}
use Rattle.wire.specs.Wire.{bytes_of}
use Rattle.fields.specs.declared.Job.{Job}
use Rattle.fields.specs.Fields.{count_of}
use Rattle.record.specs.Record.{decode}
use Rattle.demand.proofs.Validity.{valid_count, valid_sections, valid_rooted}
use Rattle.heads.specs.Steps.{Given}
use Rattle.sizing.specs.Losses.{losses_of}
use Rattle.rated_bytes.specs.declared.Figure.{Figure}
use Rattle.rated_bytes.specs.Figures.{blank_figure, figure_of, figure_bytes}
use Rattle.rated_bytes.specs.RatedBytes.{heads_bytes, result_bytes, figures_bytes}
use Rattle.rated_bytes.proofs.Same.{heads_same}
use Rattle.rated_bytes.proofs.Written.{rest_flowless, result_stored}
use Rattle.rating.specs.Calls.{rate_bytes, losses_bytes}
use Rattle.rating.specs.Steps.{rated_figure, RatedJob, Alone, OwnFlows, losses_in}

-- a part of the figures at the sections' places
pub alone : (count : ℕ) (figures : List Figure) {sections : List Figure} → sections ≡ slice_range figures 1 (count + 1) → count + 1 ≤ length figures →
    Alone count figures sections
alone count figures s fits =
    let long : length (slice_range figures 1 (count + 1)) ≡ count + 1 - 1 = length-between figures 1 (count + 1) fits in
    rw s
    (record {
      long = omega arith;
      each = λ i low high.
          let e : 1 + (i - 1) ≡ i = omega arith in
          rw e at (get_or-between figures 1 (count + 1) (i - 1) blank_figure (omega arith));
    })

-- what a job that is rated gives those that write it
module _ {b cat list : List ℕ} {room long : ℕ} {job : Job} {figures : List Figure} (r : RatedJob b cat list room long job figures) where
  pub rated_count : Within 1 63 (count_of job)
  rated_count = valid_count r.accepted.valid

  -- and room for the result, by the job's own count
  pub rated_room : (front each : ℕ) → long ≡ front + each * count_of (decode b) → front + each * count_of job ≤ room
  rated_room front each e = rw (r.fields, ← e) r.fits

  pub figure_at : (i : ℕ) → 0 < i → i ≤ count_of job → get_or figures i blank_figure ≡ rated_figure job cat list i
  figure_at i low high =
      let few = rated_count.high in
      rw r.at.placed (slots_in 64 1 (count_of job + 1) blank_figure (rated_figure job cat list) i blank_figure (omega arith) (omega arith) (omega arith))

  pub loss_at : (i : ℕ) → 0 < i → i ≤ count_of job → get_or (losses_in figures) i 0 ≡ losses_of job cat list i
  loss_at i low high = get_or-map (λ (f : Figure). f.loss) figures i blank_figure ∙ ap (λ (f : Figure). f.loss) (figure_at i low high)

  pub rated_flows : OwnFlows job figures
  rated_flows i low high = ap (λ (f : Figure). f.flow) (figure_at i low high)

  pub rated_given : Given job (losses_in figures)
  rated_given =
      record {
        header = r.accepted.valid.header;
        sections = valid_sections r.accepted.valid;
        top = λ i low high. rw (loss_at i low high) (r.at.small i low (omega arith)).loss;
      }

  pub rated_result : result_bytes job (λ i. (get_or figures i blank_figure).velocity) (λ i. get_or (losses_in figures) i 0) ≡ rate_bytes job cat list
  unfolding rate_bytes result_bytes
  rated_result =
      rw (
        heads_same job (valid_rooted r.accepted.valid) rated_count.low (λ i. get_or (losses_in figures) i 0) (losses_of job cat list) loss_at,
        concat_ext (count_of job) (λ i. bytes_of 2 (get_or figures i blank_figure).velocity ++ bytes_of 4 (get_or (losses_in figures) i 0))
            (λ i. bytes_of 2 (rated_figure job cat list i).velocity ++ bytes_of 4 (rated_figure job cat list i).loss)
            (λ i low high. rw (figure_at i low high, loss_at i low high)),
      )

  -- by the sections' figures alone
  module _ {sections : List Figure} (s : Alone (count_of job) figures sections) where
    section_figure : (i : ℕ) → 0 < i → i ≤ count_of job → figure_of sections i ≡ rated_figure job cat list i
    section_figure i low high = s.each i low high ∙ figure_at i low high

    pub rated_stored : (l : List ℕ) → 9 ≤ length l →
        stored (stored l 0 (heads_bytes job (λ i. get_or (losses_in figures) i 0))) 9
        (concat_to (length sections) (λ i. drop 4 (figure_bytes (figure_of sections i)))) ≡ stored l 0 (rate_bytes job cat list)
    unfolding rate_bytes result_bytes
    rated_stored l h =
        rw (
          s.long,
          heads_same job (valid_rooted r.accepted.valid) rated_count.low (λ i. get_or (losses_in figures) i 0) (losses_of job cat list) loss_at,
          concat_ext (count_of job) (λ i. drop 4 (figure_bytes (figure_of sections i)))
              (λ i. bytes_of 2 (rated_figure job cat list i).velocity ++ bytes_of 4 (rated_figure job cat list i).loss)
              (λ i low high. rw (section_figure i low high) (rest_flowless _ _ _)),
        )
        (result_stored l job _ _ h)

    pub rated_sections : concat_to (length sections) (λ i. drop 0 (figure_bytes (figure_of sections i))) ≡ losses_bytes job cat list
    unfolding losses_bytes figures_bytes
    rated_sections =
        rw s.long
        (concat_ext (count_of job) (λ i. drop 0 (figure_bytes (figure_of sections i)))
        (λ i. figure_bytes (rated_figure job cat list i)) (λ i low high. rw (section_figure i low high)))
