-- The rows of the sections so far hold their entries.
-- Assumes nothing.
use Rattle.std.proofs.Common.{◌+◌, ◌-◌, ◌≤◌}
use Rattle.fields.specs.Fields.{count_of}
use Rattle.catalogue.specs.Layout.{sizes_of}
use Rattle.choosing.specs.Suitable.{price_at}
use Rattle.choosing.specs.Steps.{loss_entry, Tabled}
use Rattle.choosing.proofs.options.put_options.Given as goal

abbrev pub invariant-loop-i : goal.invariant-loop-i
invariant-loop-i l = record {
  within : l.i ≤ count_of l.accepted.job + 1;
  losses : Tabled (loss_entry l.accepted.job l.catalogue.bytes.now) (l.i - 1) (sizes_of l.catalogue.bytes.now) l.losses;
  costs : Tabled (λ j s. price_at l.accepted.job l.catalogue.bytes.now s j) (l.i - 1) (sizes_of l.catalogue.bytes.now) l.costs;
}
