-- `choosing::call::choose` meets its contract.
-- Assumes nothing.
use Rattle.std.proofs.Common.{◌≡◌, refl, sym, ap, ◌∙◌, length, arith}
use Rattle.answer.specs.Answer.{refusal_number}
use Rattle.answer.proofs.Some.{refusal_some, number_at_exit}
use Rattle.fields.specs.declared.Job.{Job}
use Rattle.fields.specs.Fields.{count_of}
use Rattle.record.specs.Record.{decode}
use Rattle.choosing.specs.Calls.{choose_no}
use Rattle.choosing.proofs.Ordering.{choose_refused, choose_short, choose_narrow, choose_ready}
use Rattle.choosing.proofs.Promised.{none_refused, chosen_refused, chosen_none, chosen_least}
use Rattle.choosing.proofs.call.choose.Goals as goal
use Rattle.choosing.proofs.call.choose.Goals.{After-count-count, After-from-delivered, Else-work-count}

pub returns-in_err-accepted : goal.returns-in_err-accepted
returns-in_err-accepted c =
    let e = number_at_exit _ _ c.from_residual.ensures.1 in
    chosen_refused (e ∙ choose_refused _ _ _ _ _ c.in_err-accepted.ensures.number) (λ z. omega (arith, refusal_some c.in_err-accepted.field-0.0, e, z))

counted : (c : After-count-count) → c.count-count.result ≡ count_of (decode c.args.b.now)
counted c = c.count-count.ensures.is ∙ ap (λ (job : Job). count_of job) c.in_ok-accepted.ensures.input.0

head_of : (c : After-from-delivered) → c.from-delivered.result ≡ (decode c.args.b.now).header.delivered
head_of c = c.from-delivered.ensures ∙ ap (λ (job : Job). job.header.delivered) c.in_ok-accepted.ensures.input.0

pub returns-then-out-count : goal.returns-then-out-count
returns-then-out-count c =
    let at = goal.at.returns-then-out-count c in
    chosen_refused (sym (choose_short _ _ _ _ (sym c.in_ok-accepted.ensures.number) (rw (← counted at.After-count-count) (omega arith)))) (λ z. omega arith)

pub returns-then-work-count : goal.returns-then-work-count
returns-then-work-count c =
    let at = goal.at.returns-then-work-count c in
    chosen_refused
    (sym (choose_narrow _ _ _ _ (sym c.in_ok-accepted.ensures.number) (rw (← counted at.After-count-count) (omega arith))
    (rw (counted at.After-count-count, head_of at.After-from-delivered) at c.if-work-count.true)))
    (λ z. omega arith)

-- past 15, where the search begins
ready : (c : Else-work-count) → choose_no c.args.b.now c.args.cat.now (length c.args.out.now) (length c.args.work.now) ≡ 0
ready c =
    let at = goal.at.Else-work-count c in
    choose_ready _ _ _ _ (sym c.in_ok-accepted.ensures.number) (rw (← counted at.After-count-count) (omega arith))
    (rw (counted at.After-count-count, head_of at.After-from-delivered) at c.if-work-count.false)

pub returns-in_err-choice : goal.returns-in_err-choice
returns-in_err-choice c =
    let at = goal.at.returns-in_err-choice c in
    let none =
    rw (c.in_err-choice.ensures.ok_part, head_of at.After-from-delivered, c.in_ok-accepted.ensures.input.0, c.in_ok-accepted.ensures.input.1) at c.cheapest.ensures in
    let refusal = none_refused _ _ _ c.in_err-choice.ensures.value in
    rw (number_at_exit _ _ c.from_residual-in_err-choice.ensures.1 ∙ ap refusal_number refusal) (chosen_none (ready at.Else-work-count) none)

pub returns : goal.returns
returns c =
    let at = goal.at.returns c in
    let least =
    rw (c.in_ok-choice.ensures.ok_part, head_of at.After-from-delivered, c.in_ok-accepted.ensures.input.0, c.in_ok-accepted.ensures.input.1) at c.cheapest.ensures in
    chosen_least (ready at.Else-work-count) refl least (rw (counted at.After-count-count) at c.put_result.ensures)
