-- Document 01, "The sheet program": the text for a job, a catalogue and a size list.
-- Assumes nothing.
use Rattle.std.specs.Prelude.{ℕ, cond, List, ◌++◌, eqb}
use Rattle.basis.specs.Range.{concat_to}
use Rattle.basis.specs.Sections.{size_of}
use Rattle.fields.specs.declared.Job.{Job}
use Rattle.fields.specs.Fields.{count_of}
use Rattle.record.specs.Record.{decode}
use Rattle.demand.specs.Demand.{hour_of, day_of, mean_of, section_flow}
use Rattle.heads.specs.Heads.{required_of, pump_of, dictating_of}
use Rattle.sizing.specs.Losses.{reading_of, losses_of}
use Rattle.rated_bytes.specs.RatedBytes.{rate_length}
use Rattle.rating.specs.Calls.{rate_no}
use Rattle.lines.specs.Lines.{house_line, section_line, head_line, refused_line}

-- the lines for a job with these velocities and losses: each section has its line, by rising number
unfoldable pub lines_of : Job → (ℕ → ℕ) → (ℕ → ℕ) → List ℕ
lines_of job velocity loss =
    house_line (hour_of job) (day_of job) (mean_of job) ++
    (concat_to (count_of job) (λ i. section_line i (section_flow job i) (velocity i) (loss i)) ++
    head_line (required_of job loss) (pump_of job loss) (dictating_of job loss))

-- the lines of a rating
unfoldable pub rated_text : Job → List ℕ → List ℕ → List ℕ
rated_text job cat list = lines_of job (λ i. (reading_of job cat (size_of list i) i).velocity) (losses_of job cat list)

-- rated with room for the longest result, so that 14 is no refusal of the sheet's; a refusal prints one line only
unfoldable pub text_of : List ℕ → List ℕ → List ℕ → List ℕ
text_of b cat list =
    cond (eqb (rate_no b cat list (rate_length 63)) 0) (rated_text (decode b) cat list) (refused_line (rate_no b cat list (rate_length 63)))
