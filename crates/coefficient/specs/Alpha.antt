-- Coefficient α, in millionths, of m, a sum of shares in millionths.
-- Assumes nothing.
use Rattle.std.specs.Prelude.{ℕ, cond, List, [], ◌∷◌, ltb}
use Rattle.basis.specs.Round.{line}
use Rattle.coefficient.specs.Table.{table}

-- between two keys of a table of keys and values the straight line, rounded up; from the last key on its value
unfoldable pub along : List ℕ → ℕ → ℕ
along (k₀ ∷ v₀ ∷ k₁ ∷ v₁ ∷ rest) m = cond (ltb m k₁) (line k₀ v₀ k₁ v₁ m) (along (k₁ ∷ v₁ ∷ rest) m)
along (k₀ ∷ v₀ ∷ k₁ ∷ []) m = 0
along (k₀ ∷ v₀ ∷ []) m = v₀
along (k₀ ∷ []) m = 0
along [] m = 0

-- 200,000 when m is under 15,000; otherwise from Table 2
unfoldable pub alpha_of : ℕ → ℕ
alpha_of m = cond (ltb m 15000) 200000 (along table m)
