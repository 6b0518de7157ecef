-- Every section of a job that 3 and 5 to 7 let pass serves some fixture, and so does the house.
-- Assumes nothing.
use mathlib.Core.Path.{◌≡◌, refl}
use mathlib.Core.Bool.{true, false}
use mathlib.Core.Logic.{⊎_elim}
use Prim.Native.Nat.{ℕ, zero, suc, ◌+◌, ◌≤◌, ◌<◌}
use native.Mathlib.Nat.{pos_of_ne-zero}
use native.Mathlib.Omega.{arith}
use lib.Dec.{eqb}
use borrow.Author.Tests.{eqb-true, eq-eqb, not-false}
use Rattle.std.proofs.lemmas.Bool.{cases_Bool}
use Rattle.basis.specs.Range.{any_to}
use Rattle.basis.proofs.Bools.{not_both}
use Rattle.basis.proofs.Each.{Found, any_at, any_found}
use Rattle.fields.specs.declared.Job.{Job}
use Rattle.fields.specs.Fields.{count_of, section_of}
use Rattle.tree.specs.Tree.{own_of, served_of, house_of, Rooted}
use Rattle.tree.proofs.Served.{own_served, served_child, served_le}
use Rattle.rules.specs.Rules.{childless, childless_zero}
use Rattle.rules.proofs.Ends.{childless_zero_at}
use Rattle.demand.specs.Demand.{Valid}
use Rattle.demand.proofs.Validity.{valid_rooted, valid_kind, valid_ends, valid_count}

-- a kind of which a vector has fixtures
pub record Serves (n : ℕ → ℕ) : Type 0 where
  pub kind : ℕ
  pub low : 0 < kind
  pub high : kind ≤ 12
  pub some : 0 < n kind

pub serves_more : {n n' : ℕ → ℕ} → ((kind : ℕ) → n kind ≤ n' kind) → Serves n → Serves n'
serves_more h s = record { kind = s.kind; low = s.low; high = s.high; some = omega (arith, s.some, h s.kind) }

own_kind : (job : Job) (i : ℕ) → own_of job (section_of job i).kind i ≡ (section_of job i).fixtures
unfolding own_of
own_kind job i = rw (eq-eqb (section_of job i).kind (section_of job i).kind refl)

module _ {job : Job} (r : Valid job) where
  abbrev rooted : Rooted job
  rooted = valid_rooted r

  module _ (i : ℕ) (a : 0 < i) (b : i ≤ count_of job) where
    -- the kind at the end of a section that is nobody's parent
    end_kind : childless job i ≡ true → 0 < (section_of job i).kind
    unfolding childless_zero
    end_kind c =
        pos_of_ne-zero
        (λ z. not_both _ _ (any_at (count_of job) (childless_zero_at job) (valid_ends r) i a b) (eq-eqb (section_of job i).kind 0 z) c)

    end_serves : childless job i ≡ true → Serves (served_of job i)
    end_serves c =
        let p : 0 < (section_of job i).kind = end_kind c in
        let f : 1 ≤ (section_of job i).fixtures = (valid_kind r i a b).fitted p in
        record {
          kind = (section_of job i).kind;
          low = p;
          high = (valid_kind r i a b).twelve;
          some = omega (arith, own_kind job i, own_served rooted i (section_of job i).kind a b);
        }

  child_of : (i : ℕ) → childless job i ≡ false → Found (count_of job) (λ j. eqb (section_of job j).parent i)
  unfolding childless
  child_of i e = any_found (count_of job) _ (not-false (any_to (count_of job) (λ j. eqb (section_of job j).parent i)) e)

  -- from the last section down
  serves_from : (n i : ℕ) → count_of job < n + i → 0 < i → i ≤ count_of job → Serves (served_of job i)
  serves_from zero i h a b = absurd (omega arith)
  serves_from (suc n) i h a b =
      ⊎_elim
      (λ c. end_serves i a b c)
      (λ c.
      let f : Found (count_of job) (λ j. eqb (section_of job j).parent i) = child_of i c in
      let e : (section_of job f.place).parent ≡ i = eqb-true (section_of job f.place).parent i f.holds in
      let l : (section_of job f.place).parent < f.place = rooted.lower f.place f.low f.high in
      serves_more (λ kind. served_child rooted i f.place kind f.low f.high e) (serves_from n f.place (omega arith) f.low f.high))
      (cases_Bool (childless job i))

  pub serves : (i : ℕ) → 0 < i → i ≤ count_of job → Serves (served_of job i)
  serves i a b = serves_from (suc (count_of job)) i (omega arith) a b

  pub house_serves : Serves (house_of job)
  house_serves = serves_more (served_le rooted 1) (serves 1 (omega arith) (valid_count r).low)
