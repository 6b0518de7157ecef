-- `wire::put` meets its contract.
-- Assumes nothing.
use mathlib.Core.Path.{◌≡◌}
use mathlib.Core.List.{List, ◌++◌}
use Prim.Native.Nat.{ℕ, ◌+◌, ◌-◌}
use native.Mathlib.Omega.{arith}
use lib.ListN.{length, take, drop}
use Rattle.std.proofs.lemmas.List.{drop-drop}
use Rattle.basis.specs.Stored.{stored}
use Rattle.wire.proofs.put.Goals as goal

-- a list in which a part is replaced by as many elements has them stored there
part_stored : (s x y : List ℕ) (i : ℕ) → y ≡ x → take i s ++ (y ++ drop (i + length x - i) (drop i s)) ≡ stored s i x
unfolding stored
part_stored s x y i e =
    let k : i + (i + length x - i) ≡ i + length x = omega arith in
    rw (e, drop-drop, k)

pub returns : goal.returns
returns c = part_stored c.args.s.now c.args.x.now c.copy_from_slice.new.self c.args.i c.copy_from_slice.ensures.after
