-- `sheet::main` is safe and ends: the text lies within its buffer.
-- Assumes nothing.
use Rattle.std.proofs.Common.{sym}
use lib.Seq.{length-take-le}
use Rattle.sheet_text.proofs.Cut.{front_within}
use Rattle.sheet.proofs.main.Goals as goal

pub slice_bounds-text-end : goal.slice_bounds-text-end
slice_bounds-text-end c = front_within _ _ (c.sheet-length.ensures.length, c.sheet-length.ensures.buffer)

pub slice_bounds-write_all-end : goal.slice_bounds-write_all-end
slice_bounds-write_all-end c = sym (length-take-le _ _ (front_within _ _ (c.sheet-length.ensures.length, c.sheet-length.ensures.buffer)))
