-- Two jobs with the same S, residents and sections 1 to S keep and break the same rules.
-- Assumes nothing.
use mathlib.Core.Path.{◌≡◌, ◌∙◌}
use Prim.Native.Nat.{ℕ, ◌≤◌, ◌<◌}
use lib.Dec.{eqb}
use Rattle.basis.proofs.Each.{all_ext, any_ext}
use Rattle.fields.specs.declared.Job.{Job}
use Rattle.fields.specs.Fields.{count_of, section_of}
use Rattle.tree.proofs.Served.{house_same}
use Rattle.rules.proofs.Ends.{childless_zero_at}
use Rattle.rules.proofs.House.{odd_at}
use Rattle.rules.specs.Rules.{section_ok, sections_ok, childless, childless_zero, unmatched, field_checks}

module _ (job job' : Job) (counts : count_of job ≡ count_of job') (residents : job.residents ≡ job'.residents)
    (sections : (i : ℕ) → 0 < i → i ≤ count_of job → section_of job i ≡ section_of job' i) where
  sections_same : sections_ok job ≡ sections_ok job'
  unfolding sections_ok
  sections_same = all_ext (count_of job) _ (λ i. section_ok i (section_of job' i)) (λ i h k. rw (sections i h k)) ∙ rw counts

  childless_same : (i : ℕ) → childless job i ≡ childless job' i
  unfolding childless
  childless_same i =
      rw (
        any_ext (count_of job) (λ j. eqb (section_of job j).parent i) (λ j. eqb (section_of job' j).parent i) (λ j h k. rw (sections j h k)),
        counts,
      )

  ends_same : childless_zero job ≡ childless_zero job'
  unfolding childless_zero
  ends_same =
      any_ext (count_of job) (childless_zero_at job) (childless_zero_at job') (λ i h k. rw (sections i h k, childless_same i)) ∙
      rw counts

  unmatched_same : unmatched job ≡ unmatched job'
  unfolding unmatched
  unmatched_same =
      any_ext 12 (odd_at job) (odd_at job') (λ kind h k. rw (house_same job job' counts sections kind, residents))

  pub checks_same : field_checks job ≡ field_checks job'
  unfolding field_checks
  checks_same = rw (sections_same, ends_same, unmatched_same)
