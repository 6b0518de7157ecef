-- Losses that agree on the sections give the same heads.
-- Assumes nothing.
use mathlib.Core.Path.{◌≡◌, refl}
use Prim.Native.Nat.{ℕ, ◌≤◌, ◌<◌}
use Rattle.basis.proofs.Paths.{path_ext}
use Rattle.fields.specs.declared.Job.{Job}
use Rattle.fields.specs.Fields.{count_of}
use Rattle.tree.specs.Tree.{parent_of, Rooted}
use Rattle.heads.specs.Heads.{reach_of, greatest_to, required_of, pump_at, pump_of, dictating_of}
use Rattle.heads.proofs.Loss.{parent_lower}
use Rattle.heads.proofs.Maximum.{greatest_ext}
use Rattle.basis.proofs.Lowest.{lowest_ext}

module _ (job : Job) (r : Rooted job) (some : 0 < count_of job) (loss loss' : ℕ → ℕ)
    (e : (i : ℕ) → 0 < i → i ≤ count_of job → loss i ≡ loss' i) where
  reach_same : (i : ℕ) → i ≤ count_of job → reach_of job loss i ≡ reach_of job loss' i
  unfolding reach_of
  reach_same i k = rw (path_ext (parent_lower job r) (parent_of job) (λ j h l. refl) loss' loss e i k)

  greatest_same : greatest_to (count_of job) (reach_of job loss) ≡ greatest_to (count_of job) (reach_of job loss')
  greatest_same = greatest_ext (reach_of job loss) (reach_of job loss') (count_of job) some (λ i h k. reach_same i k)

  pub required_same : required_of job loss ≡ required_of job loss'
  unfolding required_of
  required_same = rw greatest_same

  pub pump_same : pump_of job loss ≡ pump_of job loss'
  unfolding pump_at
  pump_same = rw required_same

  pub dictating_same : dictating_of job loss ≡ dictating_of job loss'
  unfolding dictating_of
  dictating_same = lowest_ext (count_of job) _ _ (λ i h k. rw (greatest_same, reach_same i k))
