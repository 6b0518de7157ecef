-- What the contracts of the pruning say.
-- Assumes nothing.
use Rattle.std.specs.Prelude.{◌≡◌, ◌⊎◌, Option, MatchOption, List, ℕ, ◌+◌, ◌≤◌, ◌<◌, max, get_or}
use Rattle.nets.specs.Net.{Net, Suits, head_in}
use Rattle.nets.specs.Tables.{top}
use Rattle.nets.specs.NetIn.{net_in}
use Rattle.nets.specs.declared.Tables.{Tables}
use Rattle.pruning.specs.Keeps.{Keeps}

-- size k of section s loses and costs no more than size t
pub record AsGood (N : Net) (s k t : ℕ) : Type 0 where
  pub loss : N.loss s k ≤ N.loss s t
  pub cost : N.cost s k ≤ N.cost s t

-- size t of section s loses too much, or the last one kept is as good
abbrev pub Needless : Net → ℕ → ℕ → Option ℕ → ℕ → Type 0
Needless N a s last t = (a < N.loss s t + N.need s) ⊎ MatchOption last ⊥ (λ k. AsGood N s k t)

-- each size of section s that may be taken leaves the end what it needs
pub record Trimmed (N : Net) (a s : ℕ) : Type 0 where
  pub fits : (t : ℕ) → 0 < t → t ≤ N.sizes → N.loss s t < top → N.loss s t + N.need s ≤ a

-- no size of section s may be taken
pub record Emptied (N : Net) (s : ℕ) : Type 0 where
  pub each : (t : ℕ) → 0 < t → t ≤ N.sizes → top ≤ N.loss s t

-- `least` is the least loss of the sizes of section s, and may be taken
pub record LeastLoss (N : Net) (s least : ℕ) : Type 0 where
  pub each : (t : ℕ) → 0 < t → t ≤ N.sizes → least ≤ N.loss s t
  pub some : (t : ℕ) × (0 < t) × (t ≤ N.sizes) × (N.loss s t ≡ least)
  pub real : least < top

-- tables that differ in needs and losses at most
pub record Alike (before after : Tables) : Type 0 where
  pub sections : after.sections ≡ before.sections
  pub sizes : after.sizes ≡ before.sizes
  pub parents : after.parents ≡ before.parents
  pub costs : after.costs ≡ before.costs

-- the parent's end of section s needs at least what the end of s needs and `least` more
pub record Raised (before after : Tables) (s least : ℕ) : Type 0 where
  pub alike : Alike before after
  pub losses : after.losses ≡ before.losses
  pub here : (p : ℕ) → p ≡ get_or before.parents s 0 → get_or after.needs p 0 ≡ max (get_or before.needs p 0) (get_or before.needs s 0 + least)
  pub others : (j : ℕ) → (j ≡ get_or before.parents s 0 → ⊥) → get_or after.needs j 0 ≡ get_or before.needs j 0

-- the tables with other needs and losses keep what counts at the head a; the pump's end needs no more than that, and no list needs less
pub record Pruned (before : Tables) (a : ℕ) (after : Tables) : Type 0 where
  pub alike : Alike before after
  pub keeps : Keeps a (net_in before) (net_in after)
  pub pump : get_or after.needs 0 0 ≤ a
  pub asked : (y : List ℕ) → Suits (net_in after) a y → get_or after.needs 0 0 ≤ head_in (net_in after) y
