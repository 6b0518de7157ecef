-- `job::read` meets its contract: the fields that it gives, all zero after a refusal.
-- Assumes nothing.
use mathlib.Core.Path.{sym, ◌∙◌}
use Rattle.job.proofs.Decided.{read_refused, read_passed, read_accepted}
use Rattle.job.proofs.Written.{fields_at_exit}
use Rattle.job.proofs.read.Goals as goal

pub returns-in_err-shape_refusal-clause-fields : goal.returns-in_err-shape_refusal-clause-fields
returns-in_err-shape_refusal-clause-fields c =
    fields_at_exit _ _ _ c.from_residual.ensures.1 (read_refused _ _ c.in_err-shape_refusal.ensures)

pub returns-in_err-broken_rule-clause-fields : goal.returns-in_err-broken_rule-clause-fields
returns-in_err-broken_rule-clause-fields c =
    fields_at_exit _ _ _ c.from_residual-in_err-broken_rule.ensures.1
    (read_passed _ c.in_ok-shape_refusal.ensures (rw c.job_of-job.ensures at c.in_err-broken_rule.ensures))

pub returns-clause-fields : goal.returns-clause-fields
returns-clause-fields c =
    c.job_of-job.ensures ∙
    sym (read_accepted _ (sym (read_passed _ c.in_ok-shape_refusal.ensures (rw c.job_of-job.ensures at c.in_ok-broken_rule.ensures))))
