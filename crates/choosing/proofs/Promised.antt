-- What the search finds is what document 01 promises: no list that suits, or one of least cost.
-- Assumes nothing.
use mathlib.Core.Path.{◌≡◌, refl, ◌∙◌}
use mathlib.Core.Logic.{inl, inr}
use mathlib.Core.List.{List, ◌++◌}
use Rattle.std.proofs.Common.{Option, Some, MatchOption, subst, take}
use Rattle.std.proofs.Common.{None as Nothing}
use Rattle.std.specs.Prelude.{Err}
use Rattle.std.specs.Option.{ok_or}
use Rattle.answer.specs.declared.Refusal.{Refusal}
use Rattle.fields.specs.Fields.{count_of}
use Rattle.search.specs.declared.Choice.{Choice}
use Prim.Native.Nat.{ℕ}
use native.Mathlib.Omega.{arith}
use lib.ListN.{length}
use Rattle.basis.specs.Stored.{stored}
use Rattle.wire.specs.Wire.{bytes_of}
use Rattle.record.specs.Record.{decode}
use Rattle.fields.specs.declared.Job.{Job}
use Rattle.demand.specs.Demand.{Valid}
use Rattle.nets.specs.Net.{Net, Found, None}
use Rattle.choosing.specs.Suitable.{SuitableAt, Suitable}
use Rattle.choosing.specs.Calls.{choose_no, choose_bytes, Chosen}
use Rattle.choosing.specs.Steps.{head_for, TreeOf, Least}
use Rattle.choosing.proofs.Bridge.{suits_net, net_suits, cost_net}

module _ {job : Job} {cat : List ℕ} {N : Net} (d : TreeOf job cat N) (valid : Valid job) (delivered : ℕ) where
  pub none_suitable : None N (head_for job delivered) → (y : List ℕ) → SuitableAt job cat delivered y → ⊥
  none_suitable n y s = n.none y (suits_net job cat N d valid delivered y s)

  pub least_suitable : {c : ℕ} {list : List ℕ} → Found N (head_for job delivered) c list → Least job cat delivered c list
  least_suitable {c} {list} f =
      let mine = net_suits job cat N d valid delivered list f.best.suits in
      let cost = cost_net job cat N d valid delivered list mine.sizes in
      record {
        suits = mine;
        cost = f.cost ∙ cost;
        least = λ y s. omega (arith, cost, cost_net job cat N d valid delivered y s.sizes, f.best.least y (suits_net job cat N d valid delivered y s));
      }

  -- what the search gives
  pub chosen_suitable : (r : Option Choice) → MatchOption r (None N (head_for job delivered)) (λ c. Found N (head_for job delivered) c.cost (take N.sections c.sizes)) →
      MatchOption r ((y : List ℕ) → SuitableAt job cat delivered y → ⊥) (λ c. Least job cat delivered c.cost (take (count_of job) c.sizes))
  chosen_suitable Nothing n = none_suitable n
  chosen_suitable (Some c) f = subst (λ n. Least job cat delivered c.cost (take n c.sizes)) d.sections (least_suitable f)

-- what a call gives where there is none
pub none_refused : (r : Option Choice) (given e : Refusal) → Err e ≡ ok_or r given → e ≡ given
none_refused Nothing given e same = cc
none_refused (Some c) given e same = absurd cc

-- the ends of the call: a number from 1 to 15, 16, and a result
module _ {b cat out₀ work₀ : List ℕ} where
  pub chosen_refused : {n : ℕ} → n ≡ choose_no b cat (length out₀) (length work₀) → (n ≡ 0 → ⊥) → Chosen b cat out₀ work₀ out₀ work₀ n
  chosen_refused e some =
      record { refused = λ h. record { number = e; kept = refl; untouched = refl }; chosen = λ z. absurd (some (e ∙ z)) }

  module _ (ready : choose_no b cat (length out₀) (length work₀) ≡ 0) {work : List ℕ} where
    pub chosen_none : ((y : List ℕ) → Suitable (decode b) cat y → ⊥) → Chosen b cat out₀ work₀ out₀ work 16
    chosen_none none =
        record { refused = λ h. absurd (h ready); chosen = λ z. inl (record { number = refl; none = none; kept = refl }) }

    pub chosen_least : {c n : ℕ} {list out : List ℕ} → n ≡ 0 → Least (decode b) cat (decode b).header.delivered c list → out ≡ stored out₀ 0 (bytes_of 4 c ++ list) →
        Chosen b cat out₀ work₀ out work n
    unfolding choose_bytes
    chosen_least {list = list} zero l e =
        record {
          refused = λ h. absurd (h ready);
          chosen = λ z. inr (record { number = zero; list = list; suits = l.suits; least = l.least; written = rw l.cost at e });
        }
