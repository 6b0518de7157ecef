-- Document 01: "at its end or at any end below it", and the fixtures that a section and the house serve.
-- Assumes nothing.
use Rattle.std.specs.Prelude.{ℕ, zero, suc, ◌^◌, ◌≤◌, ◌<◌, Bool, ◌||◌, cond, eqb}
use Rattle.basis.specs.Range.{sum_to}
use Rattle.fields.specs.declared.Job.{Job}
use Rattle.fields.specs.Fields.{count_of, section_of}

-- the parent of section j; the pump, 0, stays itself
unfoldable pub parent_of : Job → ℕ → ℕ
parent_of job j = cond (eqb j 0) 0 (section_of job j).parent

-- i is reached from j by at most n steps to the parent
unfoldable pub reaches : ℕ → Job → ℕ → ℕ → Bool
reaches zero job i j = eqb j i
reaches (suc n) job i j = eqb j i || reaches n job i (parent_of job j)

-- section j is section i, or lies below it: steps to the parent lead from j to i, and 63 sections take at most 63
unfoldable pub below : Job → ℕ → ℕ → Bool
below job i j = reaches 63 job i j

-- the fixtures of a kind at the end of section j
unfoldable pub own_of : Job → ℕ → ℕ → ℕ
own_of job kind j = cond (eqb (section_of job j).kind kind) (section_of job j).fixtures 0

-- n: the fixtures of a kind at the end of section i or at any end below it
unfoldable pub served_of : Job → ℕ → ℕ → ℕ
served_of job i kind = sum_to (count_of job) (λ j. cond (below job i j) (own_of job kind j) 0)

-- N: the house's fixtures of a kind
unfoldable pub house_of : Job → ℕ → ℕ
house_of job kind = sum_to (count_of job) (λ j. own_of job kind j)

-- the set of the sections at or below section i: bit j stands for section j
unfoldable pub set_of : Job → ℕ → ℕ
set_of job i = sum_to (count_of job) (λ j. cond (below job i j) (2 ^ j) 0)

-- all fixtures, of every kind, at the end of section i or at any end below it
unfoldable pub fixtures_below : Job → ℕ → ℕ
fixtures_below job i = sum_to (count_of job) (λ j. cond (below job i j) (section_of job j).fixtures 0)

-- at most 63 sections, and each parent less than the section's own number
pub record Rooted (job : Job) : Type 0 where
  pub few : count_of job ≤ 63
  pub lower : (j : ℕ) → 0 < j → j ≤ count_of job → (section_of job j).parent < j
