-- `rated_text::text_of` meets its contract.
-- Assumes nothing.
use Rattle.std.proofs.Common.{◌≡◌, sym, ap, ◌∙◌, arith}
use Rattle.answer.specs.Answer.{refusal_number}
use Rattle.answer.proofs.Some.{refusal_some}
use Rattle.lines.specs.Lines.{refused_line}
use Rattle.rated_text.proofs.Figures.{text_refused, text_rated}
use Rattle.rated_text.proofs.text_of.Goals as goal

pub returns-in-Ok : goal.returns-in-Ok
returns-in-Ok c = c.rated.ensures ∙ text_rated c.in-Ok.ensures.rated (sym c.in-Ok.ensures.number)

pub returns-in-Err : goal.returns-in-Err
returns-in-Err c =
    let n = c.from.ensures ∙ c.in-Err.ensures.number in
    c.refused.ensures ∙ ap refused_line n ∙ text_refused _ _ _
    (λ e. let none : refusal_number c.in-Err.refusal ≡ 0 = c.in-Err.ensures.number ∙ e in omega (arith, refusal_some c.in-Err.refusal))
