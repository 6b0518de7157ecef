-- The figures of the sections, and their bytes.
-- Assumes nothing.
use Rattle.std.specs.Prelude.{ℕ, ◌-◌, List, ◌++◌, get_or}
use Rattle.wire.specs.Wire.{bytes_of}
use Rattle.rated_bytes.specs.declared.Figure.{Figure}

abbrev pub blank_figure : Figure
blank_figure = record { flow = 0; velocity = 0; loss = 0 }

-- the figures of section i, in a list of those of the sections alone
abbrev pub figure_of : List Figure → ℕ → Figure
figure_of figures i = get_or figures (i - 1) blank_figure

-- flow (4), velocity (2) and loss (4)
abbrev pub figure_bytes : Figure → List ℕ
figure_bytes figure = bytes_of 4 figure.flow ++ (bytes_of 2 figure.velocity ++ bytes_of 4 figure.loss)
