-- The walk along the table may begin at any key that is at most m.
-- Assumes nothing.
use mathlib.Core.Path.{◌≡◌, refl, ◌∙◌}
use mathlib.Core.Bool.{cond}
use mathlib.Core.List.{List}
use Prim.Native.Nat.{ℕ, zero, suc, ◌+◌, ◌*◌, ◌≤◌, ◌<◌}
use native.Mathlib.Numerals.{add-one}
use native.Mathlib.Omega.{arith}
use lib.Dec.{ltb}
use lib.ListN.{length, get_or, drop}
use lib.Seq.{drop-cons}
use borrow.Author.Tests.{le-ltb}
use Rattle.basis.specs.Round.{line}
use Rattle.coefficient.specs.Table.{table, key_at, value_at}
use Rattle.coefficient.specs.Alpha.{along}
use Rattle.coefficient.proofs.Rising.{table_length, rising}

-- one step of the walk, for any list
step : (l : List ℕ) (m i : ℕ) → suc (suc (suc i)) < length l →
    along (drop i l) m ≡
    cond (ltb m (get_or l (suc (suc i)) 0))
    (line (get_or l i 0) (get_or l (suc i) 0) (get_or l (suc (suc i)) 0) (get_or l (suc (suc (suc i))) 0) m)
    (along (drop (suc (suc i)) l) m)
unfolding along
step l m i h =
    let h₀ : i < length l = omega arith in
    let h₁ : suc i < length l = omega arith in
    let h₂ : suc (suc i) < length l = omega arith in
    rw (drop-cons l i 0 h₀, drop-cons l (suc i) 0 h₁, drop-cons l (suc (suc i)) 0 h₂, drop-cons l (suc (suc (suc i))) 0 h)

-- one step along Table 2
pub along_at : (m i : ℕ) → i < 485 →
    along (drop (2 * i) table) m ≡
    cond (ltb m (key_at (i + 1))) (line (key_at i) (value_at i) (key_at (i + 1)) (value_at (i + 1)) m) (along (drop (2 * (i + 1)) table) m)
along_at m i h =
    let k : 2 * (i + 1) ≡ suc (suc (2 * i)) = omega arith in
    let v : 2 * i + 1 ≡ suc (2 * i) = omega arith in
    let v₁ : suc (suc (2 * i)) + 1 ≡ suc (suc (suc (2 * i))) = omega arith in
    rw (k, v, v₁) (step table m (2 * i) (rw table_length (omega arith)))

pub along_from : (m i : ℕ) → i < 486 → key_at i ≤ m → along table m ≡ along (drop (2 * i) table) m
along_from m zero h low = refl
along_from m (suc i) h low =
    let r : key_at i < key_at (suc i) = (rising i (suc i) (omega arith) h).0 in
    along_from m i (omega arith) (omega arith) ∙ along_at m i (omega arith) ∙ rw (add-one i, le-ltb m (key_at (suc i)) low)
