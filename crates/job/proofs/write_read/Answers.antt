-- `job::write_read` meets its contract.
-- Assumes nothing.
use mathlib.Core.Path.{refl, sym}
use Prim.Native.Nat.{◌≤◌}
use lib.ListN.{length}
use lib.Seq.{length-take-le}
use Rattle.job.proofs.Held.{held}
use Rattle.job.proofs.Written.{job_read, long, read_again}
use Rattle.job.proofs.write_read.Goals as goal

pub slice_bounds-read-end : goal.slice_bounds-read-end
slice_bounds-read-end c =
    let w = c.in_ok-write.ensures in
    rw c.length_of-end.ensures.0 (long _ _ w.number w.buffer refl)

pub slice_bounds-read-end-2 : goal.slice_bounds-read-end-2
slice_bounds-read-end-2 c =
    let w = c.in_ok-write.ensures in
    let fits : c.length_of-end.result ≤ length c.write.new.out = rw c.length_of-end.ensures.0 (long _ _ w.number w.buffer refl) in
    sym (length-take-le _ _ fits)

pub returns : goal.returns
returns c =
    let w = c.in_ok-write.ensures in
    let r = c.read.ensures in
    let e = c.length_of-end.ensures.0 in
    read_again _ _ w.number w.buffer refl (held c.well_formed.0) (rw e at r.number) (rw e at (job_read _ _ r.number r.job))
