-- `sizing::loss` meets its contract, by the most that a loss is.
-- Assumes nothing.
use Rattle.std.proofs.Common.{◌≡◌, arith}
use Rattle.sizing.specs.Losses.{loss_of}
use Rattle.sizing.proofs.LossBounds.{loss_top}
use Rattle.sizing.proofs.loss.Goals as goal

pub overflow_cast-result : goal.overflow_cast-result
unfolding loss_of
overflow_cast-result c =
    let top = loss_top c.args.slope c.args.pipe.decimetres c.args.pipe.tenths c.requires c.args.pipe.short c.args.pipe.few in
    let whole : c.divide_up.result ≡ loss_of c.args.slope c.args.pipe.decimetres c.args.pipe.tenths = cc in
    omega arith

pub returns : goal.returns
unfolding loss_of
returns c =
    let top = loss_top c.args.slope c.args.pipe.decimetres c.args.pipe.tenths c.requires c.args.pipe.short c.args.pipe.few in
    let whole : c.divide_up.result ≡ loss_of c.args.slope c.args.pipe.decimetres c.args.pipe.tenths = cc in
    (whole, omega arith)
