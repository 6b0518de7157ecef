-- α read at the place that the search finds.
-- Assumes nothing.
use Rattle.std.proofs.Common.{◌≡◌, ℕ, ◌+◌, ◌≤◌, ◌<◌, sym, arith}
use Rattle.basis.specs.Round.{line}
use Rattle.round.specs.Piece.{Piece}
use Rattle.coefficient.specs.Table.{table, key_at, value_at}
use Rattle.coefficient.specs.Alpha.{alpha_of}
use Rattle.coefficient.specs.Reached.{Reached}
use Rattle.coefficient.proofs.Rising.{rising}
use Rattle.coefficient.proofs.Coefficient.{alpha_line, alpha_last}

module _ {m i : ℕ} (r : Reached m i) where
  pub reached_last : i ≡ 485 → value_at i ≡ alpha_of m
  unfolding table
  reached_last e = rw e (sym (alpha_last m (rw e at r.low)))

  module _ (h : i < 485) where
    pub reached_piece : Piece (key_at i) (value_at i) (key_at (i + 1)) (value_at (i + 1)) m
    reached_piece =
        let a : (key_at i < key_at (i + 1)) × (value_at i < value_at (i + 1)) = rising i (i + 1) (omega arith) (omega arith) in
        let b : m < key_at (i + 1) = r.high h in
        record { across = a.0; rising = omega arith; low = r.low; high = omega arith }

    pub reached_line : 15000 ≤ m → line (key_at i) (value_at i) (key_at (i + 1)) (value_at (i + 1)) m ≡ alpha_of m
    reached_line from = sym (alpha_line m i from h r.low (r.high h))
