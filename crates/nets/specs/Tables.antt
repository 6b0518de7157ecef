-- A net as tables of numbers, as the code has it.
-- Assumes nothing.
use Rattle.std.specs.Prelude.{◌≡◌, List, ℕ, ◌+◌, ◌*◌, ◌≤◌, ◌<◌, ltb, get_or}
use Rattle.nets.specs.Net.{Net}

-- the greatest number that four bytes hold: the loss of a size that may not be taken
abbrev pub top : ℕ
top = 4294967295

-- section s at place s, its size t at place 13 s + t
abbrev pub net_of : ℕ → ℕ → List ℕ → List ℕ → List ℕ → List ℕ → Net
net_of sections sizes parents needs losses costs =
    record {
      sections = sections;
      sizes = sizes;
      parent = λ s. get_or parents s 0;
      need = λ s. get_or needs s 0;
      allowed = λ s t. ltb (get_or losses (s * 13 + t) 0) top;
      loss = λ s t. get_or losses (s * 13 + t) 0;
      cost = λ s t. get_or costs (s * 13 + t) 0;
    }

-- at most 63 sections and 12 sizes, parents first, costs of at most 10,000 × 5,000, and `top` as the loss of the sizes that are not allowed
pub record Sound (N : Net) : Type 0 where
  pub few : N.sections ≤ 63
  pub sizes : N.sizes ≤ 12
  pub lower : (s : ℕ) → 0 < s → s ≤ N.sections → N.parent s < s
  pub cheap : (s t : ℕ) → 0 < s → s ≤ N.sections → 0 < t → t ≤ N.sizes → N.cost s t ≤ 50000000
  pub marked : (s t : ℕ) → N.allowed s t ≡ ltb (N.loss s t) top
