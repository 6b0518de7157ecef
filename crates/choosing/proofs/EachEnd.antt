-- The required head is at most a delivered head exactly when meter loss, elevation, free head and path loss of each end are.
-- Assumes nothing.
use mathlib.Core.Path.{◌≡◌}
use mathlib.Core.Bool.{true}
use Prim.Native.Nat.{ℕ, ◌≤◌, ◌<◌}
use lib.IntN.{pos, ◌+ℤ◌}
use lib.Signed.{le_z}
use Rattle.fields.specs.declared.Job.{Job}
use Rattle.fields.specs.Fields.{count_of}
use Rattle.heads.specs.Heads.{reach_of, greatest_to, required_of}
use Rattle.heads.proofs.Signed.{le_trans}
use Rattle.heads.proofs.Maximum.{Reached, greatest_bound, greatest_reached}
use Rattle.choosing.proofs.Shifted.{add_mono}

module _ (job : Job) (loss : ℕ → ℕ) (delivered : ℕ) where
  pub required_ends : le_z (required_of job loss) (pos delivered) ≡ true → (i : ℕ) → 0 < i → i ≤ count_of job →
      le_z (pos job.header.meter +ℤ reach_of job loss i) (pos delivered) ≡ true
  unfolding required_of
  required_ends e i h k =
      le_trans (pos job.header.meter +ℤ reach_of job loss i) (required_of job loss) (pos delivered)
      (add_mono job.header.meter (reach_of job loss i) (greatest_to (count_of job) (reach_of job loss))
      (greatest_bound (reach_of job loss) (count_of job) i h k))
      e

  pub ends_required : 0 < count_of job →
      ((i : ℕ) → 0 < i → i ≤ count_of job → le_z (pos job.header.meter +ℤ reach_of job loss i) (pos delivered) ≡ true) →
      le_z (required_of job loss) (pos delivered) ≡ true
  unfolding required_of
  ends_required some met =
      let r : Reached (count_of job) (reach_of job loss) = greatest_reached (reach_of job loss) (count_of job) some in
      rw r.reached (met r.place r.low r.high)
