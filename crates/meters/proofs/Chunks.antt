-- A list of meters by chunks of five bytes: each chunk is a meter.
-- Assumes nothing.
use Rattle.std.proofs.Common.{◌≡◌, ◌∙◌, ℕ, ◌+◌, ◌-◌, ◌*◌, ◌≤◌, ◌<◌, List, [], get_or, take, drop, arith, get_or-take, get_or-drop}
use Rattle.std.specs.Simd.{first_chunks}
use Rattle.basis.proofs.Chunks.{chunk_at}
use Rattle.wire.specs.Wire.{byte_at, be_at}
use Rattle.wire.proofs.Fields.{be_same}
use Rattle.meters.specs.Meters.{meter_at}

byte_chunk : (list : List ℕ) (n k j : ℕ) → k < n → j < 5 → byte_at (get_or (first_chunks 5 n list) k []) j ≡ byte_at list (5 * k + j)
byte_chunk list n k j h l = rw (chunk_at 5 list n k h) (get_or-take 5 (drop (5 * k) list) j 0 l ∙ get_or-drop (5 * k) list j 0)

-- as a meter it is the one at its place
module _ (list : List ℕ) (n k t : ℕ) (chunks : List (List ℕ)) (e : chunks ≡ first_chunks 5 n list) (h : k < n) (place : t ≡ k + 1) where
  field : (w o : ℕ) → o + w ≤ 5 → be_at w (get_or chunks k []) o ≡ be_at w list (5 * k + o)
  field w o fits =
      be_same w (get_or chunks k []) list o (5 * k + o)
      (λ j m. let at : 5 * k + o + j ≡ 5 * k + (o + j) = omega arith in rw (e, at) (byte_chunk list n k (o + j) h (omega arith)))

  pub chunk_meter : meter_at (get_or chunks k []) 1 ≡ meter_at list t
  unfolding meter_at
  chunk_meter =
      let from : 5 * (t - 1) ≡ 5 * k = omega arith in
      let start : 5 * k + 0 ≡ 5 * k = omega arith in
      let form : byte_at (get_or chunks k []) 0 ≡ byte_at list (5 * k) = rw e (rw start at (byte_chunk list n k 0 h (omega arith))) in
      rw (from, form, field 2 1 (omega arith), field 2 3 (omega arith))
