-- The bounds that the type of a job holds: twelve residents, and residents and fixtures of 16 bits.
-- Assumes nothing.
use mathlib.Core.List.{List, [], ◌∷◌}
use Prim.Native.Nat.{ℕ, zero, suc, ◌<◌}
use native.Mathlib.Omega.{arith}
use lib.ListN.{get_or}
use mir.Val.{Val}
use denote.Array.{each}
use denote.Laws.{Is}
use denote.Shadow.{shadow}
use denote.Struct.Declared.{row}
use denote.RattleType.{RattleType}
use denote.Builtin.{u16}
use Rattle.fields.specs.declared.Job.{Job}
use Rattle.fields.specs.Fields.{blank_section}
use Rattle.fields.specs.contracts.Job.{the_type}
use Rattle.fields.specs.contracts.Section.{the_row}
use Rattle.job.proofs.RoundTrip.{SixteenBits}

-- what the elements' type tells of each of them holds at every place of an array, if it holds of what stands past its end
module _ (R : RattleType) (P : R.Denot → Type 0) (told : (x : R.Denot) (vs : List Val) → Is R x vs → P x) where
  at_each : (l : List R.Denot) (us : List Val) → shadow (each R.Denot R.own_val l us) →
      (blank : R.Denot) → P blank → (i : ℕ) → P (get_or l i blank)
  at_each [] us h blank p i = p
  at_each (x ∷ l) [] h blank p i = absurd h
  at_each (x ∷ l) (u ∷ us) h blank p zero = told x (u ∷ []) h.0
  at_each (x ∷ l) (u ∷ us) h blank p (suc i) = at_each l us h.1 blank p i

pub held : {job : Job} {vs : List Val} → Is (row the_type) job vs → SixteenBits job
held {job} h =
    let residents = h.1.1.1.0.1 in
    let sections = h.1.1.1.1.0.1 in
    record {
      kinds = residents.0.1;
      residents = λ c b. at_each u16 (λ v. v < 65536) (λ v us k. k.1) job.residents _ residents.1 0 (omega arith) c;
      fixtures = λ i a b.
          at_each the_row (λ s. s.fixtures < 65536) (λ s us k. k.1.1.1.1.0.1) job.sections _ sections.1 blank_section (omega arith) i;
    }
