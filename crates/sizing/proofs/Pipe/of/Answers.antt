-- The bounds of a pipe, by what the checks say of section i and of the head.
-- Assumes nothing.
use Rattle.std.proofs.Common.{arith}
use Rattle.rules.proofs.Kept.{sections_in}
use Rattle.demand.proofs.Validity.{valid_head, valid_sections}
use Rattle.sizing.proofs.Pipe.of.Goals as goal

pub invariant_of-result : goal.invariant_of-result
invariant_of-result c =
    let valid = c.args.accepted.now.accepted.valid in
    record {
      short = (sections_in c.args.accepted.now.job (valid_sections valid) c.args.i (omega arith) (omega arith)).decimetres.high;
      few = (valid_head valid).tenths.high;
    }
