-- `job::copy` meets its contract: what is written is what was read.
-- Assumes nothing.
use Rattle.std.proofs.Common.{◌≡◌, arith, sym, ◌∙◌}
use Rattle.record.specs.Record.{encode}
use Rattle.job.specs.Calls.{read_no, read_job}
use Rattle.job.proofs.Decided.{read_accepted}
use Rattle.job.proofs.RoundTrip.{same_bytes}
use Rattle.job.proofs.copy.Goals as goal

pub returns-clause-buffer : goal.returns-clause-buffer
returns-clause-buffer c =
    let accepted : read_no c.args.b.now ≡ 0 = sym c.in_ok-job.ensures.number in
    let job : c.in_ok-job.job ≡ read_job c.args.b.now = c.in_ok-job.ensures.job ∙ sym (read_accepted _ accepted) in
    let same : encode (read_job c.args.b.now) ≡ c.args.b.now = same_bytes _ accepted (λ k. omega (arith, c.type_inv.b k)) in
    rw (job, same) at c.write.ensures.buffer
