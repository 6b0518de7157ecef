-- The dynamic programme over any state that a section hands on to the sections below it: what the cells of the workspace hold.
-- Assumes nothing.
use Rattle.std.specs.Prelude.{◌≡◌, Bool, true, cond, ◌&&◌, ℕ, zero, suc, ◌+◌, ◌-◌, ◌≤◌, ◌<◌, min, eqb, leb}
use Rattle.nets.specs.Net.{Net}

-- stands for a cost where nothing fits; no real cost reaches it, and with one more section's cost it still fits four bytes
abbrev pub mark : ℕ
mark = 4244967295

-- X is the state at a section's end. With the state x at its parent's end section s may take size t where `ok s t x`, and then hands on `next s t x`
pub record Plan (X : Type 0) : Type 0 where
  pub sections : ℕ
  pub sizes : ℕ
  pub parent : ℕ → ℕ
  pub cost : ℕ → ℕ → ℕ
  pub ok : ℕ → ℕ → X → Bool
  pub next : ℕ → ℕ → X → X

-- the least of f 1 .. f n, at most the mark
unfoldable pub least_to : ℕ → (ℕ → ℕ) → ℕ
least_to zero f = mark
least_to (suc n) f = min (least_to n f) (f (suc n))

module _ {X : Type 0} (P : Plan X) where
  -- the cost of section s with size t and of all below it, where v is the cost of all below its end
  abbrev pub option : ℕ → (X → ℕ) → X → ℕ → ℕ
  option s v x t = cond (P.ok s t x) (P.cost s t + v (P.next s t x)) mark

  abbrev pub cheapest : ℕ → (X → ℕ) → X → ℕ
  cheapest s v x = least_to P.sizes (option s v x)

  -- section s is added to its parent's row
  abbrev pub added : ℕ → (ℕ → X → ℕ) → ℕ → X → ℕ
  added s v p x = cond (eqb p (P.parent s)) (min mark (v p x + cheapest s (v s) x)) (v p x)

  -- the rows after the last k sections
  abbrev pub rows : ℕ → ℕ → X → ℕ
  rows zero p x = 0
  rows (suc k) p x = added (P.sections - k) (rows k) p x

  -- row p after all sections of higher numbers than s
  unfoldable pub cell : ℕ → ℕ → X → ℕ
  cell s = rows (P.sections - s)

-- the state is the head at the section's end, of which no more than `high s` is handed on
abbrev pub plan_of : Net → (ℕ → ℕ) → Plan ℕ
plan_of N high =
    record {
      sections = N.sections;
      sizes = N.sizes;
      parent = N.parent;
      cost = N.cost;
      ok = λ s t h. N.allowed s t && leb (N.loss s t + N.need s) h;
      next = λ s t h. min (h - N.loss s t) (high s);
    }

-- No end has a use for more head than `high`, as far as the pump's head a goes: what it needs is no more, and neither is what the ends below can use plus what is lost on the way there.
pub record Usable (N : Net) (a : ℕ) (high : ℕ → ℕ) : Type 0 where
  pub most : (s : ℕ) → s ≤ N.sections → high s ≤ a
  pub own : (s : ℕ) → s ≤ N.sections → min a (N.need s) ≤ high s
  pub below : (s t : ℕ) → 0 < s → s ≤ N.sections → 0 < t → t ≤ N.sizes → N.allowed s t ≡ true → min a (high s + N.loss s t) ≤ high (N.parent s)
