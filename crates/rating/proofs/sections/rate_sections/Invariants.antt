-- Before section i none below it is over, and their figures stand at their places.
-- Assumes nothing.
use Rattle.std.proofs.Common.{◌≡◌, ◌+◌, ◌≤◌, length}
use Rattle.fields.specs.Fields.{count_of}
use Rattle.rating.proofs.Upto.{Upto}
use Rattle.rating.proofs.sections.rate_sections.Given as goal

abbrev pub invariant-loop-i : goal.invariant-loop-i
invariant-loop-i l =
    record {
      few : count_of l.accepted.job ≤ 63;
      long : length l.list ≡ count_of l.accepted.job;
      below : l.i ≤ count_of l.accepted.job + 1;
      upto : Upto l.accepted.job l.catalogue.bytes.now l.list l.i l.figures;
    }
