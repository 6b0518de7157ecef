-- The table of the sections' parents, filled and read.
-- Assumes nothing.
use mathlib.Core.Path.{◌≡◌}
use Prim.Native.Nat.{ℕ, ◌+◌, ◌≤◌, ◌<◌}
use native.Mathlib.Omega.{arith}
use mathlib.Core.List.{List}
use lib.ListN.{get_or, set, replicate}
use Rattle.basis.specs.Slots.{slots}
use Rattle.basis.proofs.Slots.{slots_in, slots_none, slots_more}
use Rattle.fields.specs.declared.Job.{Job}
use Rattle.fields.specs.Fields.{count_of, section_of}
use Rattle.tree.specs.Tree.{parent_of}
use Rattle.tree.proofs.Below.{parent_at}

pub parents_start : (job : Job) → replicate 64 0 ≡ slots 64 1 1 0 (parent_of job)
parents_start job = slots_none 64 1 0 (parent_of job)

-- one section more
pub parents_more : (job : Job) (parents : List ℕ) (i k x : ℕ) → parents ≡ slots 64 1 i 0 (parent_of job) → x ≡ (section_of job i).parent →
    0 < i → i < 64 → k ≡ i + 1 → set parents i x ≡ slots 64 1 k 0 (parent_of job)
parents_more job parents i k x e v p h z =
    rw (z, v, e, ← parent_at job i p) (slots_more 64 1 i 0 (parent_of job) p h)

pub parents_held : (job : Job) (parents : List ℕ) → parents ≡ slots 64 1 (count_of job + 1) 0 (parent_of job) → count_of job ≤ 63 →
    (i : ℕ) → 0 < i → i ≤ count_of job → get_or parents i 0 ≡ parent_of job i
parents_held job parents e few i h k = rw e (slots_in 64 1 (count_of job + 1) 0 (parent_of job) i 0 (omega arith) (omega arith) (omega arith))
