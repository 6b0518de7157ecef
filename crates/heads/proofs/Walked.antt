-- One turn of the walk to the pump: the parent's number is less, and the section's own loss goes before the path loss of its parent.
-- Assumes nothing.
use mathlib.Core.Path.{◌≡◌, refl, ◌∙◌}
use Prim.Native.Nat.{ℕ, ◌+◌, ◌≤◌, ◌<◌}
use mathlib.Core.List.{List}
use lib.ListN.{get_or}
use Rattle.basis.specs.Sections.{path_of}
use Rattle.basis.proofs.Paths.{path_step}
use Rattle.fields.specs.declared.Job.{Job}
use Rattle.fields.specs.Fields.{count_of, section_of}
use Rattle.tree.specs.Tree.{parent_of}
use Rattle.tree.proofs.Below.{parent_at}
use Rattle.heads.specs.Steps.{Given}
use Rattle.heads.proofs.Loss.{parent_lower}
use Rattle.heads.proofs.Bounds.{given_rooted}

module _ {job : Job} {losses : List ℕ} (g : Given job losses) (at : ℕ) (h : 0 < at) (k : at ≤ count_of job) where
  pub walk_lower : (section_of job at).parent < at
  walk_lower = (given_rooted g).lower at h k

  pub walk_step : path_of (parent_of job) (λ i. get_or losses i 0) at ≡
      get_or losses at 0 + path_of (parent_of job) (λ i. get_or losses i 0) (section_of job at).parent
  walk_step = path_step (parent_lower job (given_rooted g)) _ at h k ∙ rw (parent_at job at h) refl
