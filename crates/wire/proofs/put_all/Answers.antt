-- One number more is written at its place.
-- Assumes nothing.
use Rattle.std.proofs.Common.{◌∙◌, sym}
use Rattle.basis.proofs.Stored.{stored_none}
use Rattle.wire.proofs.Fields.{bytes_length}
use Rattle.wire.proofs.Rows.{row_more}
use Rattle.wire.proofs.put_all.Goals as goal

pub loop-i-init : goal.loop-i-init
loop-i-init g c = sym (stored_none _ _)

pub loop-i-preserved : goal.loop-i-preserved
loop-i-preserved g c =
    (rw c.WIDTH.ensures at c.put_at.ensures) ∙
    row_more _ _ c.index-numbers-i.result _ (λ number. bytes_length g.T.Field.WIDTH (g.T.Field.bits number)) _ _ _ c.loop-i.i c.loop-i.invariant c.index-numbers-i.is c.loop-i-test.true c.requires
