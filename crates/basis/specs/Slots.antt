-- A list of fixed length whose places hold a function's values over a range, and a blank elsewhere.
-- Assumes nothing.
use Rattle.std.specs.Prelude.{ℕ, zero, suc, ◌&&◌, cond, List, [], ◌∷◌, ◌++◌, leb, ltb}

module _ {A : Type 0} where
  -- f 0, .. , f (size - 1)
  unfoldable pub tabulate : ℕ → (ℕ → A) → List A
  tabulate zero f = []
  tabulate (suc n) f = tabulate n f ++ (f n ∷ [])

  -- size places: f i at each i from lo on and below hi, blank elsewhere
  unfoldable pub slots : ℕ → ℕ → ℕ → A → (ℕ → A) → List A
  slots size lo hi blank f = tabulate size (λ i. cond (leb lo i && ltb i hi) (f i) blank)
