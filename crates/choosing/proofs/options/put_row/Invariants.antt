-- The columns of the sizes so far hold their entries.
-- Assumes nothing.
use Rattle.std.proofs.Common.{◌+◌, ◌-◌, ◌*◌, ◌≤◌}
use Rattle.catalogue.specs.Layout.{sizes_of, price_of}
use Rattle.choosing.specs.Steps.{loss_by, Entered}
use Rattle.choosing.proofs.options.put_row.Given as goal

abbrev pub invariant-loop-s : goal.invariant-loop-s
invariant-loop-s l = record {
  within : l.s ≤ sizes_of l.catalogue.bytes.now + 1;
  losses : Entered (loss_by l.pipe.limit l.pipe.decimetres l.pipe.tenths l.catalogue.bytes.now l.flow) l.i (l.s - 1) l.fn.losses l.losses;
  costs : Entered (λ t. price_of l.catalogue.bytes.now t * l.pipe.decimetres) l.i (l.s - 1) l.fn.costs l.costs;
}
