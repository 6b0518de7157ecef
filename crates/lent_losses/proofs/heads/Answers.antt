-- After 1 to 9, 19 and 14, each closed by its lemma, the heads with the losses that are given.
-- Assumes nothing.
use Rattle.std.proofs.Common.{◌≡◌, ◌+◌, true, ap, ◌∙◌}
use Rattle.basis.specs.Slots.{slots}
use Rattle.basis.specs.Stored.{stored}
use Rattle.fields.specs.Fields.{count_of}
use Rattle.record.specs.Record.{decode}
use Rattle.demand.specs.Demand.{Accepted}
use Rattle.lent_losses.specs.LentLosses.{loss_in, losses_ok}
use Rattle.lent_losses.proofs.Listed.{losses_top}
use Rattle.lent_losses.proofs.Placed.{given_of, given_bytes}
use Rattle.lent_losses.proofs.heads.Goals as goal
use Rattle.lent_losses.proofs.heads.Goals.{In_ok-losses}

-- the losses that are given, at their places
listed : (c : In_ok-losses) →
    (losses_ok (count_of (decode c.args.b.now)) c.args.given.now ≡ true) ×
    (c.in_ok-losses.losses ≡ slots 64 1 (count_of (decode c.args.b.now) + 1) 0 (loss_in c.args.given.now))
listed c = rw (c.in_ok-losses.ensures.ok_part, c.count-count.ensures.is, c.in_ok-accepted.ensures.job) at c.read_losses.ensures

accepted : (c : In_ok-losses) → Accepted (decode c.args.b.now)
accepted c = rw c.in_ok-accepted.ensures.job at c.in_ok-accepted.accepted.accepted

pub invariant_of-job : goal.invariant_of-job
invariant_of-job c =
    let at = (goal.at.invariant_of-job c).In_ok-losses in
    let l = listed at in
    record { given = rw c.in_ok-accepted.ensures.job (given_of _ (accepted at) _ l.1 (losses_top _ _ l.0)) }

pub returns-clause-buffer : goal.returns-clause-buffer
returns-clause-buffer c =
    let at = (goal.at.returns-clause-buffer c).In_ok-losses in
    let l = listed at in
    c.put_heads.ensures ∙ rw c.in_ok-accepted.ensures.job (ap (stored c.args.out.now 0) (given_bytes _ (accepted at) _ l.1))
