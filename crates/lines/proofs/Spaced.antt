-- The figures of a line one after another, and a line's pieces as one.
-- Assumes nothing.
use Rattle.std.proofs.Common.{◌≡◌, ℕ, refl, List, [], ◌∷◌, ◌++◌, map, flat_map, append_assoc}
use lib.Seq.{take_all}
use Rattle.text.specs.Figures.{decimal}
use Rattle.lines.specs.Lines.{spaced}

pub spaced_figures : (figures : List ℕ) → spaced (map decimal figures) ≡ flat_map (λ n. 32 ∷ decimal n) figures ++ (10 ∷ [])
unfolding spaced
spaced_figures [] = refl
spaced_figures (n ∷ rest) = rw (spaced_figures rest) (simp append_assoc)

pub ruleset pieces = (append_assoc, spaced_figures, take_all)
