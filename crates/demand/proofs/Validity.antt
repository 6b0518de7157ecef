-- What 3 and 5 to 7 say of a job that they let pass.
-- Assumes nothing.
use mathlib.Core.Path.{◌≡◌, sym}
use mathlib.Core.Bool.{true, false, ◌&&◌}
use Prim.Native.Nat.{ℕ, ◌≤◌, ◌<◌}
use native.Mathlib.Nat.{pos_of_ne-zero}
use lib.Dec.{eqb, ltb}
use borrow.Author.Tests.{eq-eqb, lt-ltb}
use Rattle.std.proofs.lemmas.Bool.{or_parts}
use Rattle.basis.proofs.Bools.{not_both}
use Rattle.basis.proofs.Each.{any_at}
use Rattle.basis.proofs.Within.{Within}
use Rattle.fields.specs.declared.Job.{Job}
use Rattle.fields.specs.Fields.{count_of, section_of, residents_of}
use Rattle.tree.specs.Tree.{Rooted, served_of, house_of, fixtures_below}
use Rattle.tree.proofs.Served.{served_all}
use Rattle.rules.specs.Rules.{sections_ok, childless_zero, unmatched}
use Rattle.rules.proofs.HeaderBounds.{HeaderIn, header_in}
use Rattle.rules.proofs.House.{odd_at}
use Rattle.rules.proofs.SectionBounds.{KindIn}
use Rattle.rules.proofs.Kept.{Kept, kept_of, sections_in, rooted_of}
use Rattle.demand.specs.Demand.{fixtures_of, Valid}

module _ {job : Job} (r : Valid job) where
  pub valid_head : HeaderIn job.header
  valid_head = header_in job.header r.header

  pub valid_hours : Within 1 24 job.header.hours
  valid_hours = valid_head.hours

  pub valid_count : Within 1 63 (count_of job)
  valid_count = valid_head.sections

  valid_kept : Kept job
  valid_kept = kept_of job r.fields

  pub valid_sections : sections_ok job ≡ true
  valid_sections = valid_kept.sections

  pub valid_ends : childless_zero job ≡ false
  valid_ends = valid_kept.ends

  pub valid_residents : unmatched job ≡ false
  valid_residents = valid_kept.residents

  pub valid_rooted : Rooted job
  valid_rooted = rooted_of job valid_count.high valid_sections

  pub valid_kind : (j : ℕ) → 0 < j → j ≤ count_of job → KindIn (section_of job j)
  valid_kind j p q = (sections_in job valid_sections j p q).kinds

  -- all fixtures at or below a section, and the sum of its counts of the kinds
  pub valid_fixtures : (i : ℕ) → fixtures_below job i ≡ fixtures_of (served_of job i)
  unfolding fixtures_of
  valid_fixtures i = sym (served_all job (λ j p q. (valid_kind j p q).twelve) (λ j p q z. ((valid_kind j p q).bare z).0) i)

  module _ (kind : ℕ) (low : 0 < kind) (high : kind ≤ 12) where
    -- neither is zero without the other
    even : (ltb 0 (residents_of job kind) && eqb (house_of job kind) 0 ≡ false) × (eqb (residents_of job kind) 0 && ltb 0 (house_of job kind) ≡ false)
    unfolding unmatched
    even = or_parts _ _ (any_at 12 (odd_at job) valid_residents kind low high)

    pub residents_match : 0 < house_of job kind → 0 < residents_of job kind
    residents_match h = pos_of_ne-zero (λ z. not_both _ _ even.1 (eq-eqb (residents_of job kind) 0 z) (lt-ltb 0 (house_of job kind) h))

    pub house_match : 0 < residents_of job kind → 0 < house_of job kind
    house_match h = pos_of_ne-zero (λ z. not_both _ _ even.0 (lt-ltb 0 (residents_of job kind) h) (eq-eqb (house_of job kind) 0 z))
