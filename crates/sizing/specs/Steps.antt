-- What a section has with a size, as the code gives it.
-- Assumes nothing.
use Rattle.std.specs.Prelude.{ℕ, cond, List, Option, Some, None}
use Rattle.fields.specs.declared.Job.{Job}
use Rattle.fields.specs.Fields.{section_of}
use Rattle.catalogue.specs.Reading.{SizeAtFlow}
use Rattle.sizing.specs.declared.Tried.{Tried}
use Rattle.sizing.specs.Losses.{reading_of, over_by, loss_of}

-- what a section of so many decimetres has with a size read so: velocity and loss, and nothing where it is over
unfoldable pub tried_of : SizeAtFlow → ℕ → ℕ → ℕ → Option Tried
tried_of r limit decimetres tenths =
    cond (over_by limit r) None (Some (record { velocity = r.velocity; loss = loss_of r.slope decimetres tenths }))

-- section i with size s
abbrev pub tried_at : Job → List ℕ → ℕ → ℕ → Option Tried
tried_at job cat s i = tried_of (reading_of job cat s i) job.header.limit (section_of job i).decimetres job.header.tenths
