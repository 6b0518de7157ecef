-- After 1 to 11, 12, 14 and 13, each closed by its lemma, the job with its figures.
-- Assumes nothing.
use Rattle.std.proofs.Common.{◌≡◌, ◌+◌, ◌*◌, ap, ◌∙◌}
use Rattle.fields.specs.declared.Job.{Job}
use Rattle.fields.specs.Fields.{count_of}
use Rattle.record.specs.Record.{decode}
use Rattle.rating.specs.Steps.{RatedJob}
use Rattle.rating.proofs.Rated.{rated_flows, rated_given}
use Rattle.rating.proofs.call.outcome.Goals as goal
use Rattle.rating.proofs.call.outcome.Goals.{In_ok-figures}

rated : (c : In_ok-figures) →
    RatedJob c.args.b.now c.args.cat.now c.args.list.now c.args.room (c.args.layout.front + c.args.layout.each * count_of (decode c.args.b.now))
    c.in_ok-accepted.accepted.job c.in_ok-figures.figures
rated c =
    let at = rw (c.in_ok-figures.ensures.ok_part, c.in_ok-accepted.ensures.input.1) at c.rate_sections.ensures in
    let count : c.count-count.result ≡ count_of (decode c.args.b.now) =
    c.count-count.ensures.is ∙ ap (λ (job : Job). count_of job) c.in_ok-accepted.ensures.input.0 in
    record {
      fields = c.in_ok-accepted.ensures.input.0;
      accepted = c.in_ok-accepted.accepted.accepted;
      fits = rw (← count) c.if-room-layout.false;
      at = at.1;
    }

pub invariant_of-result : goal.invariant_of-result
invariant_of-result c =
    let r = rated (goal.at.invariant_of-result c).In_ok-figures in
    record { flows = rated_flows r; given = rated_given r }

pub returns-clause-rated : goal.returns-clause-rated
returns-clause-rated c = rated (goal.at.returns-clause-rated c).In_ok-figures
