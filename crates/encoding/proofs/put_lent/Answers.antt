-- One byte more is written at its place.
-- Assumes nothing.
use Rattle.std.proofs.Common.{◌≡◌, List, ℕ, ◌+◌, ◌≤◌, ◌<◌, take, length, get_or, set, sym, ◌∙◌, arith}
use native.Mathlib.Numerals.{add-one}
use lib.ListN.{length-take}
use lib.Seq.{take-suc, take-length}
use Rattle.basis.specs.Stored.{stored}
use Rattle.basis.proofs.Stored.{stored_none, stored_set}
use Rattle.encoding.proofs.put_lent.Goals as goal

-- one byte more
more : (s x : List ℕ) (i k : ℕ) → k < length x → i + length x ≤ length s →
    set (stored s i (take k x)) (i + k) (get_or x k 0) ≡ stored s i (take (k + 1) x)
more s x i k h w =
    let e : length (take k x) ≡ k = rw (length-take k x) (omega arith) in
    let p : i + k ≡ i + length (take k x) = rw e in
    stored_set s i (take k x) (i + k) (get_or x k 0) p (omega arith) ∙ rw (add-one k, take-suc x k 0 h)

pub loop-k-init : goal.loop-k-init
loop-k-init c = sym (stored_none _ _)

pub loop-k-preserved : goal.loop-k-preserved
loop-k-preserved c = rw c.loop-k.invariant (more c.args.out.now c.args.b.now c.args.at c.loop-k.k (omega arith) (omega arith))

pub returns : goal.returns
returns c =
    let all : c.loop-k.k ≡ length c.args.b.now = omega arith in
    c.loop-k.invariant ∙ rw (all, take-length c.args.b.now)
