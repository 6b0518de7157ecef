-- `acceptance::accept` meets its contract.
-- Assumes nothing.
use mathlib.Core.Path.{sym, ◌∙◌}
use Rattle.answer.proofs.Some.{number_at_exit}
use Rattle.acceptance.proofs.Accepting.{accept_refused, accept_passed, read_valid}
use Rattle.acceptance.proofs.accept.Goals as goal

pub returns-in_err-job-clause-number : goal.returns-in_err-job-clause-number
returns-in_err-job-clause-number c =
    number_at_exit _ _ c.from_residual.ensures.1 ∙ accept_refused _ _ c.in_err-job.ensures.number

pub demand_refusal-requires : goal.demand_refusal-requires
demand_refusal-requires c = rw c.in_ok-job.ensures.job (read_valid _ (sym c.in_ok-job.ensures.number))

pub returns-in_err-demand_refusal-clause-number : goal.returns-in_err-demand_refusal-clause-number
returns-in_err-demand_refusal-clause-number c =
    number_at_exit _ _ c.from_residual-in_err-demand_refusal.ensures.1 ∙
    accept_passed _ c.in_ok-job.ensures.number (rw c.in_ok-job.ensures.job at c.in_err-demand_refusal.ensures)

pub returns-clause-number : goal.returns-clause-number
returns-clause-number c =
    accept_passed _ c.in_ok-job.ensures.number (rw c.in_ok-job.ensures.job at c.in_ok-demand_refusal.ensures)

pub invariant_of-result : goal.invariant_of-result
invariant_of-result c =
    record {
      accepted = record {
        valid = rw c.in_ok-job.ensures.job (read_valid _ (sym c.in_ok-job.ensures.number));
        demand = sym c.in_ok-demand_refusal.ensures;
      };
    }
