-- When a net with other sizes and needs may stand in for a net.
-- Assumes nothing.
use Rattle.std.specs.Prelude.{◌≡◌, List, ℕ, ◌≤◌}
use Rattle.nets.specs.Net.{Net, Suits, cost_in, head_in}

-- At the head a the net M keeps what counts of N: its lists suit N too, alike in cost and required head, and for each list that suits N it has one that is as good. (Required heads are for L12 and L13.)
pub record Keeps (a : ℕ) (N M : Net) : Type 0 where
  pub back : (z : List ℕ) → Suits M a z → Suits N a z × (cost_in M z ≡ cost_in N z) × (head_in M z ≡ head_in N z)
  pub forth : (z : List ℕ) → Suits N a z → (y : List ℕ) × Suits M a y × (cost_in M y ≤ cost_in N z) × (head_in M y ≤ head_in N z)
