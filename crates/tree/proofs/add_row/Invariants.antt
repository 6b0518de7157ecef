-- The loop of `tree::add_row`: the counts before column `k` are added, and all others are as they were.
-- Assumes nothing.
use Rattle.std.proofs.Common.{◌≡◌, ℕ, ◌+◌, ◌<◌, ◌≤◌, [], get_or}
use Rattle.tree.specs.Rows.{cell, Sized}
use Rattle.tree.proofs.add_row.Given as goal

abbrev pub invariant-loop-k : goal.invariant-loop-k
invariant-loop-k l = record {
  sized : Sized l.n;
  added : (c : ℕ) → c < l.k → cell l.n l.to c ≡ cell l.fn.n l.to c + cell l.fn.n l.from c;
  after : (c : ℕ) → l.k ≤ c → cell l.n l.to c ≡ cell l.fn.n l.to c;
  lower : (i : ℕ) → i < l.to → get_or l.n i [] ≡ get_or l.fn.n i [];
  higher : (i : ℕ) → l.to < i → get_or l.n i [] ≡ get_or l.fn.n i [];
}
