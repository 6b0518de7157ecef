-- `sizing::try_size` meets its contract, by what is read of the size.
-- Assumes nothing.
use Rattle.std.proofs.Common.{sym, ◌∙◌, arith}
use Rattle.catalogue.proofs.Readings.{served_some}
use Rattle.sizing.proofs.Trying.{read_top, tried_none, tried_limit, tried_under}
use Rattle.sizing.proofs.try_size.Goals as goal

pub returns-in_err-reading-clause-is : goal.returns-in_err-reading-clause-is
returns-in_err-reading-clause-is c = c.from_residual.ensures ∙ sym (tried_none _ _ _ _ (sym c.in_err-reading.ensures))

pub returns-then-from-reading-clause-is : goal.returns-then-from-reading-clause-is
returns-then-from-reading-clause-is c =
    sym (tried_limit _ _ _ _ c.in_ok-reading.reading (sym c.in_ok-reading.ensures) (omega arith))

pub loss-requires : goal.loss-requires
loss-requires c =
    let s = served_some _ _ (sym c.in_ok-reading.ensures) in
    let t = read_top c.args.catalogue.now.accepted c.args.s c.requires.0 c.requires.1 c.args.catalogue.now.fit c.args.q in
    omega arith

pub returns-clause-is : goal.returns-clause-is
returns-clause-is c =
    rw c.loss.ensures.0 (sym (tried_under _ _ _ _ c.in_ok-reading.reading (sym c.in_ok-reading.ensures) (omega arith)))
