-- Each section's bytes stand after those of the sections before it.
-- Assumes nothing.
use Rattle.std.proofs.Common.{arith}
use Rattle.basis.proofs.Runs.{running_start}
use Rattle.rated_bytes.proofs.Figures.{row_more}
use Rattle.rated_bytes.proofs.put_sections.Goals as goal

pub loop-i-init : goal.loop-i-init
loop-i-init c = running_start _ _ _

pub loop-i-preserved : goal.loop-i-preserved
loop-i-preserved c =
    row_more c.args.figures.now c.args.layout.each c.loop-i.invariant (omega arith) c.requires.0 c.requires.1 c.bytes-bytes.ensures c.put.ensures
