-- A part of a list.
-- Assumes nothing.
use Rattle.std.specs.Prelude.{ℕ, List, take, drop}

-- the n elements from place i on
abbrev pub part : List ℕ → ℕ → ℕ → List ℕ
part l i n = take n (drop i l)
