-- A range's test as two bounds, and back, so that `omega` can go by them.
-- Assumes nothing.
use mathlib.Core.Path.{◌≡◌}
use mathlib.Core.Bool.{true}
use Prim.Native.Nat.{ℕ, ◌≤◌}
use lib.Dec.{leb}
use borrow.Author.Tests.{leb-true, le-leb}
use Rattle.basis.specs.Range.{within}
use Rattle.basis.proofs.Bools.{left, right}

pub record Within (lo hi x : ℕ) : Type 0 where
  pub low : lo ≤ x
  pub high : x ≤ hi

module _ (lo hi x : ℕ) where
  pub within_in : within lo hi x ≡ true → Within lo hi x
  within_in e =
      record { low = leb-true lo x (left (leb lo x) (leb x hi) e); high = leb-true x hi (right (leb lo x) (leb x hi) e) }

  pub in_within : Within lo hi x → within lo hi x ≡ true
  in_within w = rw (le-leb lo x w.low, le-leb x hi w.high)
