-- `lines::put_figures`: the figures so far stand in the text, each after a space.
-- Assumes nothing.
use Rattle.std.proofs.Common.{◌≡◌, ◌+◌, ◌*◌, ◌≤◌, ◌∷◌, ◌++◌, length, take, flat_map}
use Rattle.text.specs.Figures.{decimal}
use Rattle.lines.proofs.put_figures.Given as goal

abbrev pub invariant-loop-n : goal.invariant-loop-n
invariant-loop-n g l =
    (l.text ≡ l.initial.text ++ flat_map (λ n. 32 ∷ decimal n) (take l.n-index l.figures)) ×
    (length l.text ≤ length l.initial.text + 11 * l.n-index)
