-- `metering::meter` meets its contract where no meter qualifies and where one wins.
-- Assumes nothing.
use mathlib.Core.Path.{◌≡◌, sym, ap, ◌∙◌}
use mathlib.Core.Bool.{false}
use native.Mathlib.Omega.{arith}
use Rattle.answer.specs.declared.Refusal.TheVariants.{NoMeter}
use Rattle.answer.specs.Answer.{refusal_number}
use Rattle.answer.proofs.Some.{number_at_exit}
use Rattle.record.specs.Record.{decode}
use Rattle.demand.specs.Demand.{house_flow, mean_of}
use Rattle.acceptance.proofs.Accepting.{accept_long}
use Rattle.meters.specs.Meters.{none_qualifies}
use Rattle.meters.proofs.Bounds.{list_in}
use Rattle.meters.proofs.Qualifying.{loss_top}
use Rattle.meters.proofs.Least.{winner_zero, winner_some, winner_first}
use Rattle.metering.specs.Calls.{place_for, loss_for, metered_record, meter_bytes}
use Rattle.metering.proofs.Ordering.{meter_none, meter_done}
use Rattle.metering.proofs.meter.Goals as goal
use Rattle.metering.proofs.meter.Goals.{In_ok-place}

pub returns-in_err-place-clause-number : goal.returns-in_err-place-clause-number
returns-in_err-place-clause-number c =
    let value = rw c.in_err-place.ensures.ok_part at c.in_err-place.ensures.value in
    let refusal : c.in_err-place.field-0.0 ≡ NoMeter = cc in
    let none : 0 ≡ place_for (decode c.args.b.now) c.args.meters.now =
    rw (c.in_err-place.ensures.ok_part, c.house_flow.ensures, c.mean.ensures, c.in_ok-accepted.ensures.job) at c.winner.ensures.place in
    number_at_exit _ _ c.from_residual-in_err-place.ensures.1 ∙ ap refusal_number refusal ∙
    sym (meter_none _ _ _ (sym c.in_ok-accepted.ensures.number) (sym c.meters_ok.ensures ∙ c.if-not-meters_ok.false) (omega arith)
    (winner_zero _ _ _ (sym none)))

-- the place of the meter that wins, and its loss, are those of the accepted job
placed : (c : In_ok-place) → c.in_ok-place.place ≡ place_for (decode c.args.b.now) c.args.meters.now
placed c =
    rw (c.in_ok-place.ensures.ok_part, c.house_flow.ensures, c.mean.ensures, c.in_ok-accepted.ensures.job) at c.winner.ensures.place

lost : (c : In_ok-place) → c.in_ok-place.loss ≡ loss_for (decode c.args.b.now) c.args.meters.now
lost c =
    let named = rw c.in_ok-place.ensures.ok_part at c.winner.ensures.named in
    named.1 ∙ rw (placed c, c.house_flow.ensures, c.in_ok-accepted.ensures.job)

some : (c : In_ok-place) → none_qualifies c.args.meters.now (house_flow (decode c.args.b.now)) (mean_of (decode c.args.b.now)) ≡ false
some c =
    let named = rw c.in_ok-place.ensures.ok_part at c.winner.ensures.named in
    let place = placed c in
    winner_some _ _ _ (λ z. omega (arith, named.0))

pub put_result-requires : goal.put_result-requires
put_result-requires c =
    let at = goal.at.put_result-requires c in
    let list = list_in _ (sym c.meters_ok.ensures ∙ c.if-not-meters_ok.false) in
    let first = winner_first _ _ _ (some at.In_ok-place) in (
      rw (placed at.In_ok-place) (omega (arith, first.high, list.few.high)),
      rw (lost at.In_ok-place) (loss_top _ _ _ first.fit),
      omega (arith, accept_long _ (sym c.in_ok-accepted.ensures.number)),
      omega arith,
    )

pub returns-clause-number : goal.returns-clause-number
returns-clause-number c =
    sym (meter_done _ _ _ (sym c.in_ok-accepted.ensures.number) (sym c.meters_ok.ensures ∙ c.if-not-meters_ok.false) (omega arith)
    (some (goal.at.returns-clause-number c).In_ok-place))

pub returns-clause-buffer : goal.returns-clause-buffer
unfolding meter_bytes metered_record
returns-clause-buffer c =
    let at = goal.at.returns-clause-buffer c in
    c.put_result.ensures ∙ rw (placed at.In_ok-place, lost at.In_ok-place)
