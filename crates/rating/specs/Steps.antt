-- What the contracts inside rating say.
-- Assumes nothing.
use Rattle.std.specs.Prelude.{◌≡◌, true, ℕ, ◌+◌, ◌≤◌, ◌<◌, List, length, get_or, map}
use Rattle.basis.specs.Slots.{slots}
use Rattle.basis.specs.Sections.{size_of}
use Rattle.fields.specs.declared.Job.{Job}
use Rattle.fields.specs.Fields.{count_of}
use Rattle.record.specs.Record.{decode}
use Rattle.demand.specs.Demand.{section_flow, Accepted}
use Rattle.catalogue.specs.Steps.{AcceptedCat}
use Rattle.rated_bytes.specs.declared.Figure.{Figure}
use Rattle.rated_bytes.specs.Figures.{blank_figure, figure_of}
use Rattle.sizing.specs.Losses.{list_ok, reading_of, losses_of}

-- an accepted job, an accepted catalogue and a list that 12 lets pass: what laws about a rating's result are over
pub record Rateable (j : Job) (c l : List ℕ) : Type 0 where
  pub job : Accepted j
  pub cat : AcceptedCat c
  pub list : list_ok j c l ≡ true

-- a velocity that fits its two bytes, and a loss that 19 lets pass
pub record Fitting (job : Job) (cat list : List ℕ) (i : ℕ) : Type 0 where
  pub velocity : (reading_of job cat (size_of list i) i).velocity ≤ 65535
  pub loss : losses_of job cat list i ≤ 4259775

-- the figures of section i with its size
abbrev pub rated_figure : Job → List ℕ → List ℕ → ℕ → Figure
rated_figure job cat list i =
    record {
      flow = section_flow job i;
      velocity = (reading_of job cat (size_of list i) i).velocity;
      loss = losses_of job cat list i;
    }

-- the figures at the sections' places, where no section is over
pub record RatedAt (job : Job) (cat list : List ℕ) (figures : List Figure) : Type 0 where
  pub placed : figures ≡ slots 64 1 (count_of job + 1) blank_figure (rated_figure job cat list)
  pub small : (i : ℕ) → 0 < i → i < count_of job + 1 → Fitting job cat list i

-- a job that is rated: the record's fields, accepted, with room for a result of so many bytes, and its figures
pub record RatedJob (b cat list : List ℕ) (room long : ℕ) (job : Job) (figures : List Figure) : Type 0 where
  pub fields : job ≡ decode b
  pub accepted : Accepted job
  pub fits : long ≤ room
  pub at : RatedAt job cat list figures

-- figures at their places with the job's own flows
abbrev pub OwnFlows : Job → List Figure → Type 0
OwnFlows job figures = (i : ℕ) → 0 < i → i ≤ count_of job → (get_or figures i blank_figure).flow ≡ section_flow job i

-- the losses at the sections' places
abbrev pub losses_in : List Figure → List ℕ
losses_in figures = map (λ figure. figure.loss) figures

-- the figures of sections 1 to count alone, out of those at the sections' places
pub record Alone (count : ℕ) (figures sections : List Figure) : Type 0 where
  pub long : length sections ≡ count
  pub each : (i : ℕ) → 0 < i → i ≤ count → figure_of sections i ≡ get_or figures i blank_figure
