-- The losses as chunks of four bytes: the loss of section k + 1 is the number of the chunk at place k.
-- Assumes nothing.
use Rattle.std.proofs.Common.{◌≡◌, ℕ, ◌+◌, ◌-◌, ◌*◌, ◌<◌, List, [], get_or, arith}
use Rattle.std.specs.Simd.{first_chunks}
use Rattle.basis.proofs.Chunks.{chunk_at}
use Rattle.wire.specs.Wire.{be_at}
use Rattle.wire.proofs.Fields.{be_part}
use Rattle.lent_losses.specs.LentLosses.{loss_in}

pub chunk_loss : (losses : List ℕ) (n k : ℕ) (chunks : List (List ℕ)) → chunks ≡ first_chunks 4 n losses → k < n →
    be_at 4 (get_or chunks k []) 0 ≡ loss_in losses (k + 1)
unfolding loss_in
chunk_loss losses n k chunks e h =
    let place : 4 * (k + 1 - 1) ≡ 4 * k + 0 = omega arith in
    rw (e, chunk_at 4 losses n k h, place) (be_part 4 losses (4 * k) 4 0 (omega arith))
