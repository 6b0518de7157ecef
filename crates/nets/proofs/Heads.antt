-- The head that a list needs: it is the least that bounds what each end asks of the pump.
-- Assumes nothing.
use mathlib.Core.List.{List}
use Prim.Native.Nat.{ℕ, ◌+◌, ◌≤◌, ◌<◌}
use Rattle.basis.specs.Sections.{size_of}
use Rattle.nets.specs.Net.{Net, path_in, Suits, head_in}
use Rattle.basis.proofs.Most.{most_bound, most_le}

module _ (N : Net) (z : List ℕ) where
  pub head_bound : (s : ℕ) → 0 < s → s ≤ N.sections → path_in N (size_of z) s + N.need s ≤ head_in N z
  unfolding head_in
  head_bound s p l = most_bound N.sections (λ s. path_in N (size_of z) s + N.need s) s p l

  pub head_least : (b : ℕ) → ((s : ℕ) → 0 < s → s ≤ N.sections → path_in N (size_of z) s + N.need s ≤ b) → head_in N z ≤ b
  unfolding head_in
  head_least b h = most_le N.sections b (λ s. path_in N (size_of z) s + N.need s) h

  pub suits_head : (a : ℕ) → Suits N a z → head_in N z ≤ a
  suits_head a u = head_least a u.met
