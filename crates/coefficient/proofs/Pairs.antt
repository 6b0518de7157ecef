-- Table 2 in pairs: how many there are, what stands at a place, that the keys rise, and where the last key that is at most m lies.
-- Assumes nothing.
use Rattle.std.proofs.Common.{◌≡◌, ℕ, zero, suc, ◌+◌, ◌-◌, ◌*◌, ◌<◌, ◌≤◌, true, false, leb, List, [], ◌∷◌, length, get_or, refl, arith, leb-true, leb-false, ⊎_elim}
use Rattle.std.proofs.lemmas.List.Sorted.{IsPartitionedBy-leb}
use Rattle.std.specs.List.Sorted.{IsPartitionPoint, IsPartitionedBy}
use Rattle.std.proofs.lemmas.Bool.{cases_lt}
use Rattle.coefficient.specs.Table.{table, pairs_of, pairs, key_at, value_at}
use Rattle.coefficient.specs.Reached.{Reached}
use Rattle.coefficient.proofs.Rising.{table_length, rising_le}

at : (l : List ℕ) (i : ℕ) (d : ℕ × ℕ) → 2 * i + 1 < length l → get_or (pairs_of l) i d ≡ (get_or l (2 * i) 0, get_or l (2 * i + 1) 0)
unfolding pairs_of
at [] i d h = absurd (omega arith)
at (k ∷ []) i d h = absurd (omega arith)
at (k ∷ v ∷ l) zero d h = refl
at (k ∷ v ∷ l) (suc i) d h =
    let e : 2 * suc i ≡ suc (suc (2 * i)) = omega arith in
    let f : suc (suc (2 * i)) + 1 ≡ suc (suc (2 * i + 1)) = omega arith in
    rw (e, f) (at l i d (omega arith))

pub pairs_length : length pairs ≡ 486
unfolding table pairs_of pairs
pairs_length = refl

pub pair_at : (i : ℕ) (d : ℕ × ℕ) → i < 486 → get_or pairs i d ≡ (key_at i, value_at i)
unfolding pairs
pair_at i d h = at table i d (rw table_length (omega arith))

-- no pair whose key is at most m comes after one whose key is not
pub parted : (m : ℕ) → IsPartitionedBy {X = ℕ × ℕ} (λ p. leb p.0 m) pairs
parted m =
    IsPartitionedBy-leb {X = ℕ × ℕ} (λ p. p.0) pairs m
    (λ i j d l h. let k : j < 486 = rw pairs_length at h in rw (pair_at i d (omega arith), pair_at j d k) ((rising_le i j l k).0))

-- the pairs before n have keys that are at most m, and those from n on keys over m
module _ (m n : ℕ) (from : 15000 ≤ m) (inside : n ≤ 486)
    (point : IsPartitionPoint {X = ℕ × ℕ} (λ p. leb p.0 m ≡ true) (λ p. leb p.0 m ≡ false) pairs n) where
  low : (i : ℕ) → i < n → key_at i ≤ m
  low i h = leb-true _ _ (rw (pair_at i (0, 0) (omega arith)) at (point.0 i (0, 0) (omega arith) h))

  high : (i : ℕ) → n ≤ i → i < 486 → m < key_at i
  high i h k = leb-false _ _ (rw (pair_at i (0, 0) k) at (point.1 i (0, 0) h (rw pairs_length k)))

  pub some : 1 ≤ n
  unfolding table
  some = ⊎_elim (λ z. absurd (omega (arith, high 0 (omega arith) (omega arith)))) (λ s. s) (cases_lt n 1)

  pub reached : Reached m (n - 1)
  reached =
      let e : n - 1 + 1 ≡ n = omega (arith, some) in
      let l : n - 1 < n = omega (arith, some) in
      record { inside = omega arith; low = low (n - 1) l; high = λ h. rw e (high n (omega arith) (omega arith)) }
