-- What the rules say of the job: which of 5 to 7 it keeps, bounds on each section, and parents before their sections.
-- Assumes nothing.
use mathlib.Core.Path.{◌≡◌}
use mathlib.Core.Bool.{true, false, not}
use Prim.Native.Nat.{ℕ, ◌≤◌, ◌<◌}
use native.Mathlib.Omega.{arith}
use borrow.Author.Tests.{not-false}
use Rattle.basis.proofs.Each.{all_at}
use Rattle.answer.specs.Checks.{first_no}
use Rattle.answer.proofs.First.{first_clear}
use Rattle.fields.specs.declared.Job.{Job}
use Rattle.fields.specs.Fields.{count_of, section_of}
use Rattle.tree.specs.Tree.{Rooted}
use Rattle.rules.specs.Rules.{section_ok, sections_ok, childless_zero, unmatched, field_checks}
use Rattle.rules.proofs.SectionBounds.{SectionIn, section_in}

-- a job that keeps 5, 6 and 7
pub record Kept (job : Job) : Type 0 where
  pub sections : sections_ok job ≡ true
  pub ends : childless_zero job ≡ false
  pub residents : unmatched job ≡ false

module _ (job : Job) where
  pub kept_of : first_no (field_checks job) ≡ 0 → Kept job
  unfolding field_checks
  kept_of e =
      let five = first_clear (not (sections_ok job)) 5 _ (omega arith) e in
      let six = first_clear (childless_zero job) 6 _ (omega arith) five.1 in
      let seven = first_clear (unmatched job) 7 _ (omega arith) six.1 in
      record { sections = not-false (sections_ok job) five.0; ends = six.0; residents = seven.0 }

  pub sections_in : sections_ok job ≡ true → (i : ℕ) → 0 < i → i ≤ count_of job → SectionIn i (section_of job i)
  unfolding sections_ok
  sections_in ok i h k = section_in i (section_of job i) (all_at (count_of job) (λ j. section_ok j (section_of job j)) ok i h k)

  pub rooted_of : count_of job ≤ 63 → sections_ok job ≡ true → Rooted job
  rooted_of few ok = record { few = few; lower = λ j h k. (sections_in ok j h k).parent }
