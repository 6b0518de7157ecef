-- The parts of the contracts on the sets and the counts: 64 places, and a row of twelve counts for each of them.
-- Assumes nothing.
use Rattle.std.specs.Prelude.{◌≡◌, cond, List, [], ℕ, ◌+◌, ◌^◌, ◌<◌, ◌≤◌, eqb, length, get_or}
use Rattle.basis.specs.Range.{within}
use Rattle.fields.specs.declared.Job.{Job}
use Rattle.fields.specs.Fields.{section_of}
use Rattle.tree.specs.Tree.{own_of, served_of}

-- places 1 to n of 64 hold the values of f, and the others nothing
pub record Filled (n : ℕ) (f v : ℕ → ℕ) : Type 0 where
  pub at : (i : ℕ) → i < 64 → v i ≡ cond (within 1 n i) (f i) 0

-- the own bit of each section up to n
pub record Singles (n : ℕ) (sets : List ℕ) : Type 0 where
  pub long : length sets ≡ 64
  pub own : Filled n (λ j. 2 ^ j) (λ i. get_or sets i 0)

-- the count of row i and column c
abbrev pub cell : List (List ℕ) → ℕ → ℕ → ℕ
cell n i c = get_or (get_or n i []) c 0

-- 64 rows of twelve
pub record Sized (n : List (List ℕ)) : Type 0 where
  pub long : length n ≡ 64
  pub wide : (i : ℕ) → i < 64 → length (get_or n i []) ≡ 12

pub record RowsFit (n : List (List ℕ)) (from to : ℕ) : Type 0 where
  pub sized : Sized n
  pub down : to < from
  pub within : from < 64
  pub fits : (c : ℕ) → c < 12 → cell n to c + cell n from c < 2 ^ 32

pub record RowAdded (n₀ n : List (List ℕ)) (from to : ℕ) : Type 0 where
  pub sized : Sized n
  pub at : (i c : ℕ) → c < 12 → cell n i c ≡ cell n₀ i c + cond (eqb i to) (cell n₀ from c) 0

pub record Zeros (n : List (List ℕ)) : Type 0 where
  pub sized : Sized n
  pub zero : (i c : ℕ) → i < 64 → c < 12 → cell n i c ≡ 0

-- the own fixtures of each section up to m, none of them over what 16 bits hold
pub record Owned (job : Job) (m : ℕ) (n : List (List ℕ)) : Type 0 where
  pub sized : Sized n
  pub own : (c : ℕ) → c < 12 → Filled m (own_of job (c + 1)) (λ i. cell n i c)
  pub small : (j : ℕ) → 0 < j → j ≤ m → (section_of job j).fixtures < 65536

-- row i has what section i serves, row 0 what the house has; 63 ends of 65,535 fixtures are the most there can be
pub record Counted (job : Job) (n : List (List ℕ)) : Type 0 where
  pub at : (i c : ℕ) → i < 64 → c < 12 → cell n i c ≡ served_of job i (c + 1)
  pub top : (i c : ℕ) → i < 64 → c < 12 → cell n i c ≤ 4128705
