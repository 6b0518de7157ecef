-- Document 01, "Rating and choosing": required head, pump head and dictating section, over losses as a function.
-- Assumes nothing.
use Rattle.std.specs.Prelude.{ℕ, zero, suc, ◌+◌, ℤ, pos, ◌+ℤ◌, ◌-ℤ◌}
use Rattle.std.specs.Int.Signed.{le_z}
use Rattle.basis.specs.Range.{lowest_to}
use Rattle.basis.specs.Sections.{path_of}
use Rattle.fields.specs.declared.Job.{Job}
use Rattle.fields.specs.Fields.{count_of, section_of}
use Rattle.tree.specs.Tree.{parent_of}
use Rattle.heads.specs.Signed.{greater, clamped}

-- elevation + free head + path loss at the end of section i
unfoldable pub reach_of : Job → (ℕ → ℕ) → ℕ → ℤ
reach_of job loss i = (section_of job i).elevation +ℤ pos ((section_of job i).free + path_of (parent_of job) loss i)

-- the greatest of f 1 to f n; 3 sees to it that n is at least 1
unfoldable pub greatest_to : ℕ → (ℕ → ℤ) → ℤ
greatest_to zero f = f 1
greatest_to (suc n) f = greater (greatest_to n f) (f (suc n))

-- required head: meter loss + the greatest over the ends of all sections; it may be negative
unfoldable pub required_of : Job → (ℕ → ℕ) → ℤ
required_of job loss = pos job.header.meter +ℤ greatest_to (count_of job) (reach_of job loss)

-- pump head at a guaranteed head G: required head - G, or 0 if less
unfoldable pub pump_at : Job → (ℕ → ℕ) → ℕ → ℕ
pump_at job loss guaranteed = clamped (required_of job loss -ℤ pos guaranteed)

-- at the job's own G
abbrev pub pump_of : Job → (ℕ → ℕ) → ℕ
pump_of job loss = pump_at job loss job.header.guaranteed

-- the dictating section: the lowest number that reaches the greatest
unfoldable pub dictating_of : Job → (ℕ → ℕ) → ℕ
dictating_of job loss = lowest_to (count_of job) (λ i. le_z (greatest_to (count_of job) (reach_of job loss)) (reach_of job loss i))
