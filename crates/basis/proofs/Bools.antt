-- A test that cannot hold, and tests joined by "and": each part by itself, where std's `and_parts` has both.
-- Assumes nothing.
use mathlib.Core.Path.{◌≡◌, refl}
use mathlib.Core.Bool.{Bool, true, false, ◌&&◌}
use Prim.Native.Nat.{ℕ}
use native.Mathlib.Omega.{arith}
use Rattle.std.proofs.lemmas.Bool.{false_from_ne_true}

pub apart : {t : Bool} → t ≡ true → t ≡ false → ⊥
apart e n = let z : ◌≡◌ {A = ℕ} 0 1 = cc in omega arith

pub left : (a b : Bool) → (a && b) ≡ true → a ≡ true
left true b e = refl
left false b e = e

pub right : (a b : Bool) → (a && b) ≡ true → b ≡ true
right true b e = e
right false b e = absurd (apart e refl)

pub not_both : (a b : Bool) → (a && b) ≡ false → a ≡ true → b ≡ true → ⊥
not_both true b e p q = apart q e
not_both false b e p q = apart p refl

-- two tests each of which follows from the other are one
pub same : (a b : Bool) → (a ≡ true → b ≡ true) → (b ≡ true → a ≡ true) → a ≡ b
same true b f g = let e : b ≡ true = f refl in rw e
same false b f g = let e : b ≡ false = false_from_ne_true b (λ e. apart (g e) refl) in rw e
