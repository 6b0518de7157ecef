-- `vectors::jobs::job_of` is safe and ends: byte 6 holds the number of slots that the record has room for, whatever its version.
-- Assumes nothing.
use Rattle.std.proofs.Common.{arith, ◌<◌, length, slice_set}
use lib.ListN.{length-set}
use lib.Seq.{get_or-set_same}
use Rattle.record.specs.Record.{version_at}
use Rattle.record.proofs.Lengths.{from_in}
use Rattle.vectors.proofs.jobs.job_of.Goals as goal

pub job_of-all-requires : goal.job_of-all-requires
job_of-all-requires c =
    let at = c.put.new.s in
    let h : 6 < length at = omega arith in
    let from = from_in (version_at (slice_set at 6 63)) in
    simp (get_or-set_same at 6 63 0 h, length-set) (omega arith, omega arith)
