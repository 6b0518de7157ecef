-- A list by chunks of one width: each is the numbers from its place on.
-- Assumes nothing.
use Rattle.std.proofs.Common.{◌≡◌, ◌∙◌, sym, refl, ap, ℕ, zero, suc, ◌+◌, ◌*◌, ◌<◌, List, [], get_or, take, drop, arith}
use Rattle.std.specs.Simd.{first_chunks}
use Rattle.std.proofs.Math.Nat.{mul-suc}
use Rattle.std.proofs.lemmas.List.{drop-drop}

pub chunk_at : (w : ℕ) (l : List ℕ) (n k : ℕ) → k < n → get_or (first_chunks w n l) k [] ≡ take w (drop (w * k) l)
chunk_at w l zero k h = absurd (omega arith)
chunk_at w l (suc n) zero h =
    let e : w * 0 ≡ 0 = omega arith in
    rw e refl
chunk_at w l (suc n) (suc k) h =
    let e : w * suc k ≡ w + w * k = omega (arith, mul-suc w k) in
    chunk_at w (drop w l) n k (omega arith) ∙ ap (take w) (rw e (drop-drop (w * k) w l))
