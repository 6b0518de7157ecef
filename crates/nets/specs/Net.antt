-- A size for each section of a tree, at the least cost that leaves each end what it needs. Where losses and costs come from is not said here.
-- Assumes nothing.
use Rattle.std.specs.Prelude.{◌≡◌, Bool, true, List, ℕ, ◌+◌, ◌≤◌, ◌<◌, length}
use Rattle.basis.specs.Range.{sum_to, most_to}
use Rattle.basis.specs.Sections.{size_of, path_of}

-- sections and sizes number from 1; parent 0 is the pump
pub record Net : Type 0 where
  pub sections : ℕ
  pub sizes : ℕ
  pub parent : ℕ → ℕ
  -- what a section's end needs
  pub need : ℕ → ℕ
  -- of a section with a size: whether it may have it, what it then loses, and what it costs
  pub allowed : ℕ → ℕ → Bool
  pub loss : ℕ → ℕ → ℕ
  pub cost : ℕ → ℕ → ℕ

-- what section s loses with sizes z, and its path loss
abbrev pub loss_in : Net → (ℕ → ℕ) → ℕ → ℕ
loss_in N z s = N.loss s (z s)

abbrev pub path_in : Net → (ℕ → ℕ) → ℕ → ℕ
path_in N z s = path_of N.parent (loss_in N z) s

-- with the head a at the pump a list gives each section an allowed size and each end what it needs
pub record Suits (N : Net) (a : ℕ) (z : List ℕ) : Type 0 where
  pub long : length z ≡ N.sections
  pub sized : (s : ℕ) → 0 < s → s ≤ N.sections → (0 < size_of z s) × (size_of z s ≤ N.sizes)
  pub allowed : (s : ℕ) → 0 < s → s ≤ N.sections → N.allowed s (size_of z s) ≡ true
  pub met : (s : ℕ) → 0 < s → s ≤ N.sections → path_in N (size_of z) s + N.need s ≤ a

-- the cost of a list in a net
unfoldable pub cost_in : Net → List ℕ → ℕ
cost_in N z = sum_to N.sections (λ s. N.cost s (size_of z s))

-- the most of path loss + need: the least head at the pump with which a list gives each end what it needs
unfoldable pub head_in : Net → List ℕ → ℕ
head_in N z = most_to N.sections (λ s. path_in N (size_of z) s + N.need s)

-- a list that suits, and no list that suits costs less
pub record Best (N : Net) (a : ℕ) (z : List ℕ) : Type 0 where
  pub suits : Suits N a z
  pub least : (y : List ℕ) → Suits N a y → cost_in N z ≤ cost_in N y

-- a list that suits at the head a, at the least cost c of those that do
pub record Found (N : Net) (a c : ℕ) (z : List ℕ) : Type 0 where
  pub best : Best N a z
  pub cost : c ≡ cost_in N z

-- no list suits at the head a
pub record None (N : Net) (a : ℕ) : Type 0 where
  pub none : (z : List ℕ) → Suits N a z → ⊥
