-- Four bytes of a workspace as a cell that is read or written.
-- Assumes nothing.
use Rattle.std.proofs.Common.{◌≡◌, ◌∙◌, ap, ℕ, ◌+◌, ◌*◌, ◌≤◌, ◌<◌, List, [], length, get_or, take, drop, arith, rules, get_or-take, get_or-drop}
use borrow.Rule.Slice.PartMut.{put_mid}
use Rattle.std.specs.Int.{w32, from_le_bytes, to_le_bytes}
use Rattle.std.specs.Simd.{first_chunks}
use Rattle.std.proofs.lemmas.Slice.{overwrites}
use Rattle.std.proofs.lemmas.List.{places}
use Rattle.basis.proofs.Chunks.{chunk_at}
use Rattle.cells.specs.Cells.{cell_at, Written}

-- a chunk read as a number is a cell
pub cell_read : (ws : List ℕ) (n k : ℕ) (chunks : List (List ℕ)) → k < n → chunks ≡ first_chunks 4 n ws → from_le_bytes w32 (get_or chunks k []) ≡ cell_at ws k
unfolding cell_at
cell_read ws n k chunks h e =
    ap (from_le_bytes w32) (ap (λ c. get_or c k []) e ∙ chunk_at 4 ws n k h) ∙
    grind (arith, get_or-take 4 (drop (4 * k) ws), get_or-drop (4 * k) ws)

-- bytes that are written to cell k leave the others as they were
other : (ws bs : List ℕ) (k n i : ℕ) → 4 * k + 4 ≤ length ws → n ≡ 4 → length bs ≡ 4 → (4 * k ≤ i → i < 4 * k + 4 → ⊥) →
    get_or (put_mid (4 * k) n ws bs) i 0 ≡ get_or ws i 0
other ws bs k n i fits e long ne = grind (arith, places)

-- a number written as its bytes is a cell
pub cell_written : (ws bs : List ℕ) (k v n : ℕ) → 4 * k + 4 ≤ length ws → n ≡ 4 → v < 4294967296 → bs ≡ to_le_bytes w32 v →
    Written ws (put_mid (4 * k) n ws bs) k v
unfolding cell_at
cell_written ws bs k v n fits e most is =
    let long : length bs ≡ 4 = rw is in
    record {
      long = search (rules, overwrites);
      is = rw is (search (rules, places));
      rest = λ j ne. rw (
        other ws bs k n (4 * j) fits e long (λ a b. ne (omega arith)),
        other ws bs k n (4 * j + 1) fits e long (λ a b. ne (omega arith)),
        other ws bs k n (4 * j + 2) fits e long (λ a b. ne (omega arith)),
        other ws bs k n (4 * j + 3) fits e long (λ a b. ne (omega arith)),
      );
    }
