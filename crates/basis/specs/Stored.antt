-- A run of elements written over a list.
-- Assumes nothing.
use Rattle.std.specs.Prelude.{ℕ, ◌+◌, List, ◌++◌, length, take, drop}

-- l with x from place i on, and the rest as it was
unfoldable pub stored : List ℕ → ℕ → List ℕ → List ℕ
stored l i x = take i l ++ (x ++ drop (i + length x) l)
