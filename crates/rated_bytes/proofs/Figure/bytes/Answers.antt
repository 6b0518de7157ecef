-- The ten bytes of a section, from its three numbers written one after another.
-- Assumes nothing.
use Rattle.basis.specs.Stored.{stored}
use Rattle.wire.specs.Wire.{bytes_of}
use Rattle.rated_bytes.proofs.Figure.bytes.Goals as goal

pub returns : goal.returns
unfolding stored bytes_of
returns c = rw (c.put_at-3.ensures, c.put_at-2.ensures, c.put_at.ensures)
