-- What the contracts of the cells say.
-- Assumes nothing.
use Rattle.std.specs.Prelude.{◌≡◌, Bool, cond, List, ℕ, ◌+◌, ◌≤◌, ◌<◌, min, length, get_or}
use Rattle.cells.specs.Cells.{cell_at}

-- f is offered to the places from `start` to `end`: each keeps the least, and no other changes
pub record Offered (before after : List ℕ) (start end : ℕ) (f : ℕ → ℕ) : Type 0 where
  pub long : length after ≡ length before
  pub within : (h : ℕ) → start ≤ h → h < end → get_or after h 0 ≡ min (get_or before h 0) (f h)
  pub below : (h : ℕ) → h < start → get_or after h 0 ≡ get_or before h 0
  pub above : (h : ℕ) → end ≤ h → get_or after h 0 ≡ get_or before h 0

-- f is written to the cells from up + start to up + end, and no other cell changes
pub record Filled (before after : List ℕ) (up start end : ℕ) (f : ℕ → ℕ) : Type 0 where
  pub long : length after ≡ length before
  pub within : (h : ℕ) → start ≤ h → h < end → cell_at after (up + h) ≡ f h
  pub below : (j : ℕ) → j < up + start → cell_at after j ≡ cell_at before j
  pub above : (j : ℕ) → up + end ≤ j → cell_at after j ≡ cell_at before j

-- what stands in the cells from up on, 0 where nothing does yet
abbrev pub standing : Bool → List ℕ → ℕ → ℕ → ℕ
standing begun ws up h = cond begun (cell_at ws (up + h)) 0
