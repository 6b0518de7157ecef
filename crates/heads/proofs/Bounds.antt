-- What a job that keeps 3 and 5 and losses within the bound say of the sizes: path losses, reaches, the greatest of them and the required head.
-- Assumes nothing.
use mathlib.Core.List.{List}
use Prim.Native.Nat.{ℕ, ◌+◌, ◌≤◌, ◌<◌}
use native.Mathlib.Nat.{le_trans}
use native.Mathlib.Omega.{arith}
use lib.IntN.{pos}
use lib.ListN.{get_or}
use lib.Signed.{mag}
use Rattle.basis.specs.Sections.{path_of}
use Rattle.fields.specs.declared.Job.{Job}
use Rattle.fields.specs.Fields.{count_of, section_of}
use Rattle.tree.specs.Tree.{parent_of, Rooted}
use Rattle.rules.proofs.HeaderBounds.{HeaderIn, header_in}
use Rattle.rules.proofs.SectionBounds.{SectionIn}
use Rattle.rules.proofs.Kept.{rooted_of, sections_in}
use Rattle.rules.proofs.Elevation.{elevation_small}
use Rattle.heads.specs.Heads.{reach_of, greatest_to, required_of, dictating_of}
use Rattle.heads.specs.Steps.{Given}
use Rattle.heads.proofs.Signed.{add_mag}
use Rattle.heads.proofs.Loss.{parent_lower, path_within}
use Rattle.basis.proofs.Lowest.{lowest_within}
use Rattle.heads.proofs.Maximum.{Reached, greatest_reached}

module _ {job : Job} {losses : List ℕ} (g : Given job losses) where
  pub given_head : HeaderIn job.header
  given_head = header_in job.header g.header

  pub given_rooted : Rooted job
  given_rooted = rooted_of job (omega (arith, given_head.sections.high)) g.sections

  pub given_few : count_of job ≤ 63
  given_few = given_rooted.few

  pub path_small : (i : ℕ) → i ≤ count_of job → path_of (parent_of job) (λ i. get_or losses i 0) i ≤ 268365825
  path_small i k = omega (arith, path_within (parent_lower job given_rooted) (λ i. get_or losses i 0) g.top i k, given_rooted.few)

  reach_small : (i : ℕ) → 0 < i → i ≤ count_of job → mag (reach_of job (λ i. get_or losses i 0) i) < 268372827
  unfolding reach_of
  reach_small i h k =
      let s : SectionIn i (section_of job i) = sections_in job g.sections i h k in
      add_mag (section_of job i).elevation (pos ((section_of job i).free + path_of (parent_of job) (λ i. get_or losses i 0) i)) 268372827
      (omega (arith, elevation_small (section_of job i).elevation s.elevation, s.free, path_small i k))

  pub greatest_small : mag (greatest_to (count_of job) (reach_of job (λ i. get_or losses i 0))) < 268372827
  greatest_small =
      let r : Reached (count_of job) (reach_of job (λ i. get_or losses i 0)) = greatest_reached _ (count_of job) given_head.sections.low in
      rw r.reached (reach_small r.place r.low r.high)

  pub required_small : mag (required_of job (λ i. get_or losses i 0)) < 268373829
  unfolding required_of
  required_small =
      add_mag (pos job.header.meter) (greatest_to (count_of job) (reach_of job (λ i. get_or losses i 0))) 268373829 (omega (arith, given_head.meter, greatest_small))

  pub dictating_small : (loss : ℕ → ℕ) → dictating_of job loss ≤ 63
  unfolding dictating_of
  dictating_small loss = le_trans (lowest_within (count_of job) _) given_few
