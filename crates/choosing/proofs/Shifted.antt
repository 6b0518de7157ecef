-- The head at an end, signed as document 01 has it and shifted by 1,000 as the search has it.
-- Assumes nothing.
use mathlib.Core.Path.{◌≡◌, refl, ap, ◌∙◌}
use mathlib.Core.Logic.{⊎_elim}
use mathlib.Core.Bool.{true}
use Prim.{tt}
use Prim.Native.Nat.{ℕ, suc, ◌+◌, ◌-◌, ◌≤◌, ◌<◌}
use native.Mathlib.Omega.{arith}
use lib.Dec.{T, leb}
use lib.IntN.{ℤ, pos, negsuc, nat_abs, sub_ℕ, ◌+ℤ◌}
use lib.Signed.{le_z, non_neg}
use borrow.Author.Tests.{lt-ltb, le-ltb, le-leb, leb-true}
use Rattle.std.proofs.lemmas.Bool.{cases_lt}
use Rattle.basis.proofs.Bools.{apart, left}
use Rattle.rules.specs.Rules.{elevation_ok}

-- a difference from which a number is left
sub_over : (a b : ℕ) → b ≤ a → sub_ℕ a b ≡ pos (a - b)
sub_over a b h = rw (le-ltb a b h)

sub_under : (a b : ℕ) → a < b → sub_ℕ a b ≡ negsuc (b - suc a)
sub_under a b h = rw (lt-ltb a b h)

sub_le : (a b h : ℕ) → a ≤ h + b → le_z (sub_ℕ a b) (pos h) ≡ true
sub_le a b h k =
    ⊎_elim (λ l. rw (sub_under a b l)) (λ g. rw (sub_over a b g) (le-leb (a - b) h (omega arith))) (cases_lt a b)

le_sub : (a b h : ℕ) → le_z (sub_ℕ a b) (pos h) ≡ true → a ≤ h + b
le_sub a b h e =
    ⊎_elim (λ l. omega arith) (λ g. omega (arith, leb-true (a - b) h (rw (sub_over a b g) at e))) (cases_lt a b)

-- the meter loss is taken from a difference too
add_sub : (m a b : ℕ) → pos m +ℤ sub_ℕ a b ≡ sub_ℕ (m + a) b
add_sub m a b =
    ⊎_elim
    (λ l. rw (sub_under a b l)
    (⊎_elim
    (λ k. rw (sub_under m (suc (b - suc a)) k, sub_under (m + a) b (omega arith)) (ap negsuc (omega arith)))
    (λ k. rw (sub_over m (suc (b - suc a)) k, sub_over (m + a) b (omega arith)) (ap pos (omega arith)))
    (cases_lt m (suc (b - suc a)))))
    (λ g. rw (sub_over a b g, sub_over (m + a) b (omega arith)) (ap pos (omega arith)))
    (cases_lt a b)

left_over : (a b n : ℕ) → pos n ≡ sub_ℕ a b → n + b ≡ a
left_over a b n e =
    ⊎_elim
    (λ l. let z : pos n ≡ negsuc (b - suc a) = e ∙ sub_under a b l in absurd (differ n _ z))
    (λ g. omega (arith, ap nat_abs (e ∙ sub_over a b g)))
    (cases_lt a b)
  where
    differ : (n k : ℕ) → pos n ≡ negsuc k → ⊥
    differ n k z = apart {t = non_neg (pos n)} refl (ap non_neg z)

-- elevation, free head f, path loss p and meter loss m against the delivered head h
pub met_reach : (elevation : ℤ) (f p m h need : ℕ) → m ≤ 1000 → pos need ≡ elevation +ℤ pos (f + 1000) →
    p + need ≤ h + 1000 - m → le_z (pos m +ℤ (elevation +ℤ pos (f + p))) (pos h) ≡ true
met_reach (pos a) f p m h need s e k = le-leb (m + (a + (f + p))) h (omega (arith, ap nat_abs e))
met_reach (negsuc a) f p m h need s e k =
    rw (add_sub m (f + p) (suc a)) (sub_le (m + (f + p)) (suc a) h (omega (arith, left_over (f + 1000) (suc a) need e)))

pub reach_met : (elevation : ℤ) (f p m h need : ℕ) → m ≤ 1000 → pos need ≡ elevation +ℤ pos (f + 1000) →
    le_z (pos m +ℤ (elevation +ℤ pos (f + p))) (pos h) ≡ true → p + need ≤ h + 1000 - m
reach_met (pos a) f p m h need s e k = omega (arith, leb-true (m + (a + (f + p))) h k, ap nat_abs e)
reach_met (negsuc a) f p m h need s e k =
    omega (arith, le_sub (m + (f + p)) (suc a) h (rw (add_sub m (f + p) (suc a)) at k), left_over (f + 1000) (suc a) need e)

-- less taken from more leaves no less
sub_mono : (m n a b : ℕ) → m ≤ n → b ≤ a → le_z (sub_ℕ m (suc a)) (sub_ℕ n (suc b)) ≡ true
sub_mono m n a b g h =
    ⊎_elim
    (λ l. rw (sub_under m (suc a) l)
    (⊎_elim
    (λ k. rw (sub_under n (suc b) k) (le-leb (suc b - suc n) (suc a - suc m) (omega arith)))
    (λ k. rw (sub_over n (suc b) k))
    (cases_lt n (suc b))))
    (λ k. rw (sub_over m (suc a) k, sub_over n (suc b) (omega arith)) (le-leb (m - suc a) (n - suc b) (omega arith)))
    (cases_lt m (suc a))

-- a greater reach needs no less
pub add_mono : (m : ℕ) (x y : ℤ) → le_z x y ≡ true → le_z (pos m +ℤ x) (pos m +ℤ y) ≡ true
add_mono m (pos a) (pos b) e = le-leb (m + a) (m + b) (omega (arith, leb-true a b e))
add_mono m (pos a) (negsuc b) e = absurd (apart e refl)
add_mono m (negsuc a) (pos b) e = sub_le m (suc a) (m + b) (omega arith)
add_mono m (negsuc a) (negsuc b) e = sub_mono m m a b (omega arith) (leb-true b a e)

-- more path loss, no less reach
pub add_mono_right : (z : ℤ) (a b : ℕ) → a ≤ b → le_z (z +ℤ pos a) (z +ℤ pos b) ≡ true
add_mono_right (pos n) a b h = le-leb (n + a) (n + b) (omega arith)
add_mono_right (negsuc n) a b h = sub_mono a b n n h (omega arith)

-- 1,000 more than an elevation in its range is not negative
not_negative : (elevation : ℤ) (n : ℕ) → elevation_ok elevation ≡ true → 1000 ≤ n → T (non_neg (elevation +ℤ pos n))
unfolding elevation_ok
not_negative (pos a) n e h = tt
not_negative (negsuc a) n e h =
    let low : a ≤ 999 = leb-true a 999 (left (leb a 999) (le_z (negsuc a) (pos 6000)) e) in
    rw (sub_over n (suc a) (omega arith)) tt

size_of : (z : ℤ) → T (non_neg z) → pos (nat_abs z) ≡ z
size_of (pos n) t = refl
size_of (negsuc n) t = absurd t

pub shifted : (elevation : ℤ) (f : ℕ) {z : ℤ} {n : ℕ} → elevation_ok elevation ≡ true → z ≡ elevation +ℤ pos (f + 1000) → n ≡ nat_abs z →
    pos n ≡ elevation +ℤ pos (f + 1000)
shifted elevation f ok e abs = rw (abs, e) (size_of _ (not_negative elevation (f + 1000) ok (omega arith)))
