-- Path losses: a bound, the end of a walk, the parents of a job, and path losses by a table of them.
-- Assumes nothing.
use mathlib.Core.Path.{◌≡◌, refl}
use mathlib.Core.List.{List}
use Prim.Native.Nat.{ℕ, ◌+◌, ◌*◌, ◌≤◌, ◌<◌}
use lib.ListN.{get_or}
use native.Mathlib.Omega.{arith}
use Rattle.basis.specs.Sections.{path_of}
use Rattle.basis.specs.Slots.{slots}
use Rattle.basis.proofs.Paths.{path_pump, path_step, path_ext, by_parent}
use Rattle.fields.specs.declared.Job.{Job}
use Rattle.fields.specs.Fields.{count_of}
use Rattle.tree.specs.Tree.{parent_of, Rooted}
use Rattle.tree.proofs.Below.{parent_at}
use Rattle.tree.proofs.Parents.{parents_held}

pub path_within : {n : ℕ} {parent : ℕ → ℕ} → ((i : ℕ) → 0 < i → i ≤ n → parent i < i) → (loss : ℕ → ℕ) →
    ((i : ℕ) → 0 < i → i ≤ n → loss i ≤ 4259775) → (i : ℕ) → i ≤ n → path_of parent loss i ≤ i * 4259775
path_within {parent = parent} lower loss top =
    by_parent lower (λ i. path_of parent loss i ≤ i * 4259775) (omega (arith, path_pump parent loss))
    (λ i h k up. omega (arith, top i h k, lower i h k, path_step lower loss i h k))

-- at the pump nothing is left
pub walk_over : (parent loss : ℕ → ℕ) (at : ℕ) → at ≡ 0 → path_of parent loss at ≡ 0
walk_over parent loss at e = rw (e, path_pump parent loss)

pub parent_lower : (job : Job) → Rooted job → (i : ℕ) → 0 < i → i ≤ count_of job → parent_of job i < i
parent_lower job r i h k = rw (parent_at job i h) (r.lower i h k)

-- by a table of the job's parents, as choosing has one, path losses are those by its sections
pub held_path : (job : Job) → Rooted job → (parents : List ℕ) → parents ≡ slots 64 1 (count_of job + 1) 0 (parent_of job) →
    (loss : ℕ → ℕ) (i : ℕ) → i ≤ count_of job → path_of (λ i. get_or parents i 0) loss i ≡ path_of (parent_of job) loss i
held_path job r parents e loss =
    path_ext (parent_lower job r) (λ i. get_or parents i 0) (parents_held job parents e r.few) loss loss (λ i h k. refl)
