-- `rows::raise::offer_next` meets its contract.
-- Assumes nothing.
use Rattle.rows.proofs.Bests.{next_skip, next_lowest}
use Rattle.rows.proofs.raise.offer_next.Goals as goal

pub returns-then-end-loss-clause-lowest : goal.returns-then-end-loss-clause-lowest
returns-then-end-loss-clause-lowest c =
    let a = c.args in
    let o = c.requires.offerable in
    next_skip a.t a.tables.now.losses o.0 o.1 c.requires.before.0 c.if-end-loss.true

pub returns-clause-lowest : goal.returns-clause-lowest
returns-clause-lowest c =
    let a = c.args in
    let o = c.requires.offerable in
    next_lowest a.t a.tables.now.losses o.0 o.1 c.if-end-loss.false c.get.ensures.0 c.requires.before.1 c.offer.ensures c.max-start.ensures c.stop.ensures
    c.requires.before.0
