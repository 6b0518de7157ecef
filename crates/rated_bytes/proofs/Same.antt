-- Losses that agree on the sections give the same bytes of the heads.
-- Assumes nothing.
use mathlib.Core.Path.{◌≡◌}
use Prim.Native.Nat.{ℕ, ◌≤◌, ◌<◌}
use Rattle.fields.specs.declared.Job.{Job}
use Rattle.fields.specs.Fields.{count_of}
use Rattle.tree.specs.Tree.{Rooted}
use Rattle.heads.proofs.Same.{required_same, pump_same, dictating_same}
use Rattle.rated_bytes.specs.RatedBytes.{heads_bytes}

pub heads_same : (job : Job) → Rooted job → 0 < count_of job → (loss loss' : ℕ → ℕ) →
    ((i : ℕ) → 0 < i → i ≤ count_of job → loss i ≡ loss' i) → heads_bytes job loss ≡ heads_bytes job loss'
unfolding heads_bytes
heads_same job rooted some loss loss' e =
    rw (required_same job rooted some loss loss' e, pump_same job rooted some loss loss' e, dictating_same job rooted some loss loss' e)
