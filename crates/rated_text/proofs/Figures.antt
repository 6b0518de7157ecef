-- The text for a job, a catalogue and a size list: that of a refusal, and that of a rating from the figures of its sections.
-- Assumes nothing.
use Rattle.std.proofs.Common.{◌≡◌, ℕ, zero, suc, refl, ◌+◌, ◌-◌, ◌*◌, ◌≤◌, ◌<◌, List, ◌∷◌, ◌++◌, length, drop, get_or, sym, ap, ◌∙◌, arith, append_assoc, length-drop, drop-cons}
use Rattle.std.proofs.lemmas.List.{append-nil}
use Rattle.std.proofs.Math.ListN.{get_or-map}
use borrow.Author.Tests.{eq-eqb, ne_eqb}
use Rattle.basis.specs.Range.{concat_to}
use Rattle.basis.specs.Sections.{size_of}
use Rattle.basis.proofs.Concat.{concat_none, concat_more, concat_ext}
use Rattle.fields.specs.declared.Job.{Job}
use Rattle.fields.specs.Fields.{count_of}
use Rattle.demand.specs.Demand.{section_flow}
use Rattle.demand.proofs.Validity.{valid_rooted}
use Rattle.heads.proofs.Same.{required_same, pump_same, dictating_same}
use Rattle.sizing.specs.Losses.{reading_of, losses_of}
use Rattle.rated_bytes.specs.declared.Figure.{Figure}
use Rattle.rated_bytes.specs.Figures.{blank_figure, figure_of}
use Rattle.rating.specs.Calls.{rate_no}
use Rattle.rating.specs.Steps.{RatedJob, Alone, OwnFlows, losses_in}
use Rattle.rating.proofs.Rated.{rated_count, figure_at, loss_at}
use Rattle.lines.specs.Lines.{section_line, refused_line}
use Rattle.rated_text.specs.RatedText.{lines_of, rated_text, text_of}

-- the line of section i
abbrev pub line : List Figure → ℕ → List ℕ
line figures i = section_line i (figure_of figures i).flow (figure_of figures i).velocity (figure_of figures i).loss

-- before a section with this number: the lines of those before it stand after what the text began with, and `rest` are the other figures
pub record Lined (figures : List Figure) (before : List ℕ) (number : ℕ) (rest : List Figure) (now : List ℕ) : Type 0 where
  pub first : 0 < number
  pub within : number ≤ length figures + 1
  pub left : rest ≡ drop (number - 1) figures
  pub bytes : now ≡ before ++ concat_to (number - 1) (line figures)
  pub room : length now ≤ length before + 52 * (number - 1)

-- a text to which f 1, f 2, .. are added one after another
module _ (f : ℕ → List ℕ) (old : List ℕ) where
  lines_none : old ≡ old ++ concat_to 0 f
  lines_none = rw (concat_none f) (sym (append-nil old))

  lines_more : {text new : List ℕ} (i : ℕ) → 0 < i → text ≡ old ++ concat_to (i - 1) f → new ≡ text ++ f i → new ≡ old ++ concat_to i f
  lines_more zero h p q = absurd (omega arith)
  lines_more (suc n) h p q =
      let e : suc n - 1 ≡ n = omega arith in
      rw (concat_more n f) (q ∙ rw (rw e at p) (append_assoc old (concat_to n f) (f (suc n))))

module _ (figures : List Figure) (before : List ℕ) where
  pub lined_none : Lined figures before 1 figures before
  lined_none = record { first = omega arith; within = omega arith; left = refl; bytes = lines_none (line figures) before; room = omega arith }

  module _ {number : ℕ} {rest : List Figure} {now : List ℕ} where
    -- there is room for one more line
    pub lined_room : {figure : Figure} {room : ℕ} → Lined figures before number (figure ∷ rest) now → length before + 52 * length figures ≤ room →
        length now + 52 ≤ room
    lined_room l fits =
        let long : suc (length rest) ≡ length figures - (number - 1) = ap length l.left ∙ length-drop (number - 1) figures in
        omega (arith, l.room)

    pub lined_more : {figure : Figure} {next : List ℕ} → Lined figures before number (figure ∷ rest) now →
        next ≡ now ++ section_line number figure.flow figure.velocity figure.loss → length next ≤ length now + 52 →
        Lined figures before (number + 1) rest next
    lined_more {figure} {next} l put room =
        let long : suc (length rest) ≡ length figures - (number - 1) = ap length l.left ∙ length-drop (number - 1) figures in
        let first = l.first in
        let cut : ◌≡◌ {A = List Figure} (figure ∷ rest) (get_or figures (number - 1) blank_figure ∷ drop (suc (number - 1)) figures) =
        l.left ∙ drop-cons figures (number - 1) blank_figure (omega arith) in
        let here : figure ≡ get_or figures (number - 1) blank_figure = cc in
        let left : rest ≡ drop (suc (number - 1)) figures = cc in
        let after_it : number + 1 - 1 ≡ number = omega arith in
        let same : suc (number - 1) ≡ number = omega arith in
        record {
          first = omega arith;
          within = omega arith;
          left = rw after_it (rw same at left);
          bytes = rw after_it (lines_more (line figures) before number first l.bytes (rw (← here) put));
          room = omega (arith, l.room);
        }

    -- and at the end all of them
    pub lined_end : Lined figures before number rest now → length rest ≡ 0 →
        (now ≡ before ++ concat_to (length figures) (line figures)) × (length now ≤ length before + 52 * length figures)
    lined_end l none =
        let long : length rest ≡ length figures - (number - 1) = ap length l.left ∙ length-drop (number - 1) figures in
        let within = l.within in
        let all : number - 1 ≡ length figures = omega arith in
        (rw all at l.bytes, rw all at l.room)

-- 387 bytes are room for the longest result
pub text_refused : (b cat list : List ℕ) → (rate_no b cat list 387 ≡ 0 → ⊥) → refused_line (rate_no b cat list 387) ≡ text_of b cat list
unfolding text_of
text_refused b cat list n = rw (ne_eqb (rate_no b cat list 387) 0 n)

-- the sections' lines with the job's flows
pub flows_own : (job : Job) (figures : List Figure) {sections : List Figure} → Alone (count_of job) figures sections → OwnFlows job figures →
    concat_to (length sections) (line sections) ≡
    concat_to (count_of job) (λ i. section_line i (section_flow job i) (get_or figures i blank_figure).velocity (get_or (losses_in figures) i 0))
flows_own job figures a own =
    rw a.long
    (concat_ext (count_of job) _ _
    (λ i low high. rw (a.each i low high, own i low high, get_or-map (λ (f : Figure). f.loss) figures i blank_figure)))

module _ {b cat list : List ℕ} {room long : ℕ} {job : Job} {figures : List Figure} (r : RatedJob b cat list room long job figures) where
  lines_are : lines_of job (λ i. (get_or figures i blank_figure).velocity) (λ i. get_or (losses_in figures) i 0) ≡ rated_text job cat list
  unfolding lines_of rated_text
  lines_are =
      let rooted = valid_rooted r.accepted.valid in
      let some = (rated_count r).low in
      let loss : ℕ → ℕ = λ i. get_or (losses_in figures) i 0 in
      rw (
        concat_ext (count_of job) (λ i. section_line i (section_flow job i) (get_or figures i blank_figure).velocity (loss i))
            (λ i. section_line i (section_flow job i) (reading_of job cat (size_of list i) i).velocity (losses_of job cat list i))
            (λ i a h. rw (figure_at r i a h, loss_at r i a h)),
        required_same job rooted some loss (losses_of job cat list) (loss_at r),
        pump_same job rooted some loss (losses_of job cat list) (loss_at r),
        dictating_same job rooted some loss (losses_of job cat list) (loss_at r),
      )

  pub text_rated : rate_no b cat list 387 ≡ 0 →
      lines_of job (λ i. (get_or figures i blank_figure).velocity) (λ i. get_or (losses_in figures) i 0) ≡ text_of b cat list
  unfolding text_of
  text_rated e = lines_are ∙ rw (eq-eqb (rate_no b cat list 387) 0 e, r.fields)
