-- `coefficient::table::table2` meets its contract: the constant holds the numbers of the table.
-- Assumes nothing.
use Rattle.std.proofs.Common.{refl}
use Rattle.coefficient.specs.Table.{table, pairs_of, pairs}
use Rattle.coefficient.proofs.table.table2.Goals as goal

pub returns : goal.returns
unfolding table pairs_of pairs
returns c = refl
