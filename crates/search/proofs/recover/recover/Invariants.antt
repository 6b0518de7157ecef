-- The sizes of the sections so far are read back.
-- Assumes nothing.
use Rattle.std.proofs.Common.{◌+◌, ◌-◌, ◌≤◌, get_or}
use Rattle.nets.specs.NetIn.{net_in}
use Rattle.search.proofs.Reading.{ReadBack}
use Rattle.search.proofs.recover.recover.Given as goal

abbrev pub invariant-loop-s : goal.invariant-loop-s
invariant-loop-s l = record {
  within : l.s ≤ l.tables.sections + 1;
  read : ReadBack (net_in l.tables) (λ j. get_or l.rows.highs j 0) l.list l.heads (l.s - 1);
}
