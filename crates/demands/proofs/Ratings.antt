-- The figures of a rating result and of a losses result, read back from their bytes.
-- Assumes nothing.
use mathlib.Core.Path.{◌≡◌, refl, sym, ap, ◌∙◌}
use mathlib.Core.Bool.{not}
use mathlib.Core.List.{List, [], ◌∷◌, ◌++◌, append_assoc}
use Prim.Native.Nat.{ℕ, ◌+◌, ◌-◌, ◌*◌, ◌^◌, ◌≤◌, ◌<◌}
use native.Mathlib.Omega.{arith}
use lib.ListN.{length, drop, length-append}
use lib.Seq.{drop_at}
use borrow.Author.Tests.{not-false}
use Rattle.basis.specs.Part.{part}
use Rattle.basis.specs.Range.{concat_to}
use Rattle.basis.specs.Sections.{size_of}
use Rattle.basis.proofs.Concat.{concat_length, concat_part, concat_within}
use Rattle.basis.proofs.Part.{part_length, part_next, part_front}
use Rattle.basis.proofs.Stored.{stored_front}
use Rattle.answer.specs.Checks.{first_no, too_short}
use Rattle.answer.proofs.First.{first_split, first_clear}
use Rattle.wire.specs.Wire.{be_at, bytes_of}
use Rattle.wire.proofs.Fields.{be_part, be_written}
use Rattle.fields.specs.declared.Job.{Job}
use Rattle.fields.specs.Fields.{count_of, section_of}
use Rattle.record.specs.Record.{decode}
use Rattle.rules.proofs.HeaderBounds.{header_in}
use Rattle.rules.proofs.SectionBounds.{SectionIn}
use Rattle.rules.proofs.Kept.{sections_in}
use Rattle.demand.specs.Demand.{section_flow, Accepted}
use Rattle.demand.proofs.DesignFlows.{flow_top}
use Rattle.demand.proofs.Totals.{m_pos}
use Rattle.demand.proofs.Validity.{valid_sections}
use Rattle.acceptance.specs.Acceptance.{job_no, input_checks, input_no}
use Rattle.acceptance.proofs.Accepting.{input_numbered, input_both, input_accepted, input_listed}
use Rattle.catalogue.specs.Steps.{AcceptedCat}
use Rattle.catalogue.specs.Layout.{sizes_of}
use Rattle.sizing.specs.Losses.{list_ok, over_any, reading_of, loss_with, loss_at, losses_of}
use Rattle.sizing.proofs.LossBounds.{loss_top}
use Rattle.sizing.proofs.Named.{list_names}
use Rattle.sizing.proofs.Trying.{read_top}
use Rattle.rated_bytes.specs.RatedBytes.{heads_length, heads_bytes, result_bytes, figures_bytes}
use Rattle.rating.specs.Calls.{sized_checks, sized_no, rate_bytes, losses_bytes}
use Rattle.rating.specs.Steps.{Rateable}
use Rattle.rated_bytes.proofs.Written.{heads_length_lem, section_length}
use Rattle.order.specs.Promises.{Rated, LossesGiven}
use Rattle.demands.specs.Demand2.{Bytes, RateFigures, LossFigures}
use Rattle.demands.proofs.Heads.{head_figures}

-- a call that gives a result was given an accepted job, an accepted catalogue and a list that names sizes
module _ (b cat sizes : List ℕ) (room long : ℕ) (e : sized_no b cat sizes room long ≡ 0) where
  parts : (input_no b cat ≡ 0) × (first_no ((not (list_ok (decode b) cat sizes), 12) ∷ (too_short room long, 14) ∷ (over_any (decode b) cat sizes, 13) ∷ []) ≡ 0)
  unfolding sized_no sized_checks input_no
  parts = first_split (input_checks b cat) _ (input_numbered b cat) e

  pub passed_job : job_no b ≡ 0
  passed_job = (input_both b cat parts.0).0

  pub passed : Rateable (decode b) cat sizes
  passed =
      record {
        job = input_accepted b cat parts.0;
        cat = input_listed b cat parts.0;
        list = not-false (list_ok (decode b) cat sizes) (first_clear (not (list_ok (decode b) cat sizes)) 12 _ (omega arith) parts.1).0;
      }

-- a loss that a table gives
pub table_top : {job : Job} {cat : List ℕ} → Accepted job → AcceptedCat cat → Bytes cat → (s i : ℕ) → 0 < s → s ≤ sizes_of cat → 0 < i →
    i ≤ count_of job → loss_at job cat s i ≤ 4259775
unfolding loss_with reading_of
table_top {job} {cat} accepted listed bytes s i low high h k =
    let section : SectionIn i (section_of job i) = sections_in job (valid_sections accepted.valid) i h k in
    loss_top _ (section_of job i).decimetres job.header.tenths
    (read_top listed s low high bytes _).1 section.decimetres.high
    (header_in job.header accepted.valid.header).tenths.high

-- the sections' figures fit their bytes
module _ {job : Job} {cat sizes : List ℕ} (p : Rateable job cat sizes) (bytes : Bytes cat) where
  velocity_small : (i : ℕ) → 0 < i → i ≤ count_of job → (reading_of job cat (size_of sizes i) i).velocity ≤ 65535
  unfolding reading_of
  velocity_small i h k = let w = list_names job cat sizes p.list i h k in (read_top p.cat (size_of sizes i) w.low w.high bytes _).0

  pub losses_small : (i : ℕ) → 0 < i → i ≤ count_of job → losses_of job cat sizes i ≤ 4259775
  losses_small i h k =
      let w = list_names job cat sizes p.list i h k in table_top p.job p.cat bytes (size_of sizes i) i w.low w.high h k

-- the field of `w` bytes at place k of a part whose bytes are known
field_of : (w : ℕ) (l x : List ℕ) (at n k j v : ℕ) → part l at n ≡ x → k + w ≤ n → at + k ≡ j → v < 256 ^ w → part x k w ≡ bytes_of w v →
    be_at w l j ≡ v
field_of w l x at n k j v e h f top g = rw (← f) (sym (be_part w l at n k h) ∙ rw e (be_written w x k v top g))

-- the result: the heads, then velocity and loss of each section
module _ (b cat sizes out₀ out : List ℕ) (bytes : Bytes cat) (g : Rated b cat sizes out₀ out 0) where
  rateable : Rateable (decode b) cat sizes
  rateable = passed b cat sizes (length out₀) _ (sym g.number)

  heads : List ℕ
  heads = heads_bytes (decode b) (losses_of (decode b) cat sizes)

  section : ℕ → List ℕ
  section i = bytes_of 2 (reading_of (decode b) cat (size_of sizes i) i).velocity ++ bytes_of 4 (losses_of (decode b) cat sizes i)

  rest : List ℕ
  rest = drop (length (rate_bytes (decode b) cat sizes)) out₀

  result : out ≡ heads ++ (concat_to (count_of (decode b)) section ++ rest)
  unfolding rate_bytes result_bytes heads section rest
  result = g.buffer ∙ stored_front out₀ (rate_bytes (decode b) cat sizes) ∙ append_assoc heads _ _

  pub rate_front : part out 0 heads_length ≡ heads_bytes (decode b) (losses_of (decode b) cat sizes)
  unfolding heads
  rate_front =
      ap (λ (l : List ℕ). part l 0 heads_length) result ∙ part_front heads _ heads_length (heads_length_lem (decode b) (losses_of (decode b) cat sizes))

  -- the six bytes of section i
  section_at_lem : (i : ℕ) → 0 < i → i ≤ count_of (decode b) → part out (9 + 6 * (i - 1)) 6 ≡ section i
  unfolding heads section bytes_of
  section_at_lem i h k =
      rw result
      (concat_within 6 section (λ j. refl) (count_of (decode b)) i heads rest 9
      (heads_length_lem (decode b) (losses_of (decode b) cat sizes)) h k)

  pub rate_figures : RateFigures (decode b) cat sizes out
  unfolding heads section bytes_of
  rate_figures =
      let p : Rateable (decode b) cat sizes = rateable in
      record {
        heads = head_figures p.job (losses_of (decode b) cat sizes) (losses_small p bytes) _ result;
        velocity = λ i h k.
            let top = velocity_small p bytes i h k in
            field_of 2 out (section i) (9 + 6 * (i - 1)) 6 0 (9 + 6 * (i - 1)) _ (section_at_lem i h k)
            (omega arith) (omega arith) (omega arith) refl;
        loss = λ i h k.
            let top = losses_small p bytes i h k in
            field_of 4 out (section i) (9 + 6 * (i - 1)) 6 2 (11 + 6 * (i - 1)) _ (section_at_lem i h k)
            (omega arith) (omega arith) (omega arith) refl;
      }

-- the losses result: flow, velocity and loss of each section
module _ (b cat sizes out₀ out : List ℕ) (bytes : Bytes cat) (g : LossesGiven b cat sizes out₀ out 0) where
  pub losses_rateable : Rateable (decode b) cat sizes
  losses_rateable = passed b cat sizes (length out₀) _ (sym g.number)

  ten : ℕ → List ℕ
  ten i = bytes_of 4 (section_flow (decode b) i) ++ (bytes_of 2 (reading_of (decode b) cat (size_of sizes i) i).velocity ++ bytes_of 4 (losses_of (decode b) cat sizes i))

  result_ten : out ≡ concat_to (count_of (decode b)) ten ++ drop (length (losses_bytes (decode b) cat sizes)) out₀
  unfolding ten losses_bytes figures_bytes
  result_ten = g.buffer ∙ stored_front out₀ (losses_bytes (decode b) cat sizes)

  ten_length : (i : ℕ) → length (ten i) ≡ 10
  unfolding ten
  ten_length i = section_length _ _ _

  -- the ten bytes of section i
  ten_at : (i : ℕ) → 0 < i → i ≤ count_of (decode b) → part out (10 * (i - 1)) 10 ≡ ten i
  ten_at i h k =
      ap (λ (l : List ℕ). part l (10 * (i - 1)) 10) result_ten ∙
      concat_part 10 ten ten_length (count_of (decode b)) i (drop (length (losses_bytes (decode b) cat sizes)) out₀) h k

  long : 10 * count_of (decode b) ≤ length out
  long =
      let rest : List ℕ = drop (length (losses_bytes (decode b) cat sizes)) out₀ in
      rw (result_ten, length-append (concat_to (count_of (decode b)) ten) rest, concat_length 10 ten ten_length (count_of (decode b))) (omega arith)

  -- its loss in the last four of them
  pub losses_bytes_lem : (i : ℕ) → 0 < i → i ≤ count_of (decode b) → part out (10 * (i - 1) + 6) 4 ≡ bytes_of 4 (losses_of (decode b) cat sizes i)
  unfolding ten bytes_of
  losses_bytes_lem i h k =
      let at : ℕ = 10 * (i - 1) in
      let fits : at + 6 ≤ length out = omega (arith, long) in
      sym (drop_at (part out at 6) (part out (at + 6) 4) 6 (part_length out at 6 fits)) ∙
      ap (drop 6) (part_next out at 6 4 ∙ ten_at i h k)

  pub losses_figures : LossFigures (decode b) cat sizes out
  unfolding ten bytes_of
  losses_figures =
      let p : Rateable (decode b) cat sizes = losses_rateable in
      record {
        flow = λ i h k.
            let top : section_flow (decode b) i ≤ 137850 = flow_top (decode b) _ (m_pos p.job.valid i h k) in
            field_of 4 out (ten i) (10 * (i - 1)) 10 0 (10 * (i - 1)) _ (ten_at i h k) (omega arith) (omega arith) (omega arith) refl;
        velocity = λ i h k.
            let top = velocity_small p bytes i h k in
            field_of 2 out (ten i) (10 * (i - 1)) 10 4 (10 * (i - 1) + 4) _ (ten_at i h k) (omega arith) (omega arith) (omega arith) refl;
        loss = λ i h k.
            let top = losses_small p bytes i h k in
            field_of 4 out (ten i) (10 * (i - 1)) 10 6 (10 * (i - 1) + 6) _ (ten_at i h k) (omega arith) (omega arith) (omega arith) refl;
      }
