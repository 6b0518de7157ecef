-- `rows::filling::Rows::fill` meets its contract: before the first turn no row has begun.
-- Assumes nothing.
use Rattle.std.proofs.Common.{arith, refl}
use Rattle.rows.proofs.Fillings.{filling_none}
use Rattle.rows.proofs.filling.Rows.fill.Goals as goal

pub loop-s-init : goal.loop-s-init
loop-s-init c = (omega arith, refl, filling_none c.args.self.now c.args.ws.now)
