-- `acceptance::accept_both` meets its contract.
-- Assumes nothing.
use mathlib.Core.Path.{◌∙◌}
use Rattle.answer.proofs.Some.{number_at_exit}
use Rattle.acceptance.proofs.Accepting.{input_refused, input_passed}
use Rattle.acceptance.proofs.accept_both.Goals as goal

pub returns-in_err-accepted-clause-number : goal.returns-in_err-accepted-clause-number
returns-in_err-accepted-clause-number c =
    number_at_exit _ _ c.from_residual.ensures.1 ∙ input_refused _ _ _ c.in_err-accepted.ensures.number

pub returns-in_err-catalogue-clause-number : goal.returns-in_err-catalogue-clause-number
returns-in_err-catalogue-clause-number c =
    number_at_exit _ _ c.from_residual-in_err-catalogue.ensures.1 ∙
    input_passed _ _ c.in_ok-accepted.ensures.number c.in_err-catalogue.ensures.number

pub returns-clause-number : goal.returns-clause-number
returns-clause-number c = input_passed _ _ c.in_ok-accepted.ensures.number c.in_ok-catalogue.ensures.number
