-- The workspace as cells of four bytes each, the low byte first.
-- Assumes nothing.
use Rattle.std.specs.Prelude.{◌≡◌, List, ℕ, ◌+◌, ◌*◌, length, get_or}

-- cell k
unfoldable pub cell_at : List ℕ → ℕ → ℕ
cell_at ws k = get_or ws (4 * k) 0 + get_or ws (4 * k + 1) 0 * 256 + get_or ws (4 * k + 2) 0 * 65536 + get_or ws (4 * k + 3) 0 * 16777216

-- v is written to cell k, and no other cell changes
pub record Written (before after : List ℕ) (k v : ℕ) : Type 0 where
  pub long : length after ≡ length before
  pub is : cell_at after k ≡ v
  pub rest : (j : ℕ) → (j ≡ k → ⊥) → cell_at after j ≡ cell_at before j
