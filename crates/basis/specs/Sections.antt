-- Sections number from 1, and parent 0 is the pump.
-- Assumes nothing.
use Rattle.std.specs.Prelude.{ℕ, zero, suc, ◌+◌, ◌-◌, cond, List, eqb, get_or}

-- the size of section i in a list of sizes
abbrev pub size_of : List ℕ → ℕ → ℕ
size_of list i = get_or list (i - 1) 0

-- a section's own loss plus its parent's path loss, which is 0 at the pump; at most n sections are met
unfoldable pub path_from : ℕ → (ℕ → ℕ) → (ℕ → ℕ) → ℕ → ℕ
path_from zero parent loss i = 0
path_from (suc n) parent loss i = cond (eqb i 0) 0 (loss i + path_from n parent loss (parent i))

-- the path loss of section i: a parent's number is less, so that at most i sections are met
unfoldable pub path_of : (ℕ → ℕ) → (ℕ → ℕ) → ℕ → ℕ
path_of parent loss i = path_from i parent loss i
