-- A section that nobody has for a parent is one whose set is its own bit alone: refusal 6's test by the code's test of kind and set.
-- Assumes nothing.
use mathlib.Core.Path.{◌≡◌, ap}
use mathlib.Core.Bool.{Bool, true, not, ◌&&◌}
use Prim.Native.Nat.{ℕ, ◌^◌, ◌≤◌, ◌<◌}
use lib.Dec.{eqb}
use borrow.Author.Tests.{eqb-true, eqb-false, eq-eqb, ne_eqb, not-true}
use Rattle.basis.specs.Range.{any_to}
use Rattle.basis.proofs.Bools.{same}
use Rattle.basis.proofs.Each.{any_at, any_each}
use Rattle.fields.specs.declared.Job.{Job}
use Rattle.fields.specs.Fields.{count_of, section_of}
use Rattle.tree.specs.Tree.{Rooted, set_of}
use Rattle.tree.proofs.Served.{set_alone, set_more}
use Rattle.rules.specs.Rules.{childless}

-- refusal 6 at section i
abbrev pub childless_zero_at : Job → ℕ → Bool
childless_zero_at job i = eqb (section_of job i).kind 0 && childless job i

module _ {job : Job} (r : Rooted job) (i : ℕ) (h : 0 < i) (k : i ≤ count_of job) where
  abbrev child : ℕ → Bool
  child j = eqb (section_of job j).parent i

  alone : childless job i ≡ true → set_of job i ≡ 2 ^ i
  unfolding childless
  alone e =
      set_alone r i h k
      (λ j p q. eqb-false (section_of job j).parent i (any_at (count_of job) child (not-true (any_to (count_of job) child) e) j p q))

  no_child : set_of job i ≡ 2 ^ i → childless job i ≡ true
  unfolding childless
  no_child s =
      ap not
      (any_each (count_of job) child
      (λ j p q. ne_eqb (section_of job j).parent i (λ e. set_more r i j h k p q e s)))

  childless_set : childless job i ≡ eqb (set_of job i) (2 ^ i)
  childless_set =
      same (childless job i) (eqb (set_of job i) (2 ^ i)) (λ e. eq-eqb (set_of job i) (2 ^ i) (alone e))
      (λ e. no_child (eqb-true (set_of job i) (2 ^ i) e))

  pub zero_set : (x : ℕ) → x ≡ set_of job i → childless_zero_at job i ≡ (eqb (section_of job i).kind 0 && eqb x (2 ^ i))
  zero_set x e = rw (childless_set, e)
