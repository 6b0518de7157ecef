-- A house of one section under document 01's catalogue: its list is size 1 or size 2, and choosing gives the one that suits where the other suits not or costs more.
-- Assumes nothing.
use mathlib.Core.Path.{◌≡◌, sym, ap, ◌∙◌}
use mathlib.Core.Logic.{◌⊎◌, inl, inr, ⊎_elim}
use mathlib.Core.Bool.{true}
use mathlib.Core.List.{List, [], ◌∷◌}
use Prim.Native.Nat.{ℕ, ◌≤◌}
use native.Mathlib.Omega.{arith}
use lib.ListN.{length}
use Rattle.std.proofs.lemmas.Bool.{cases_eq}
use Rattle.basis.specs.Stored.{stored}
use Rattle.fields.specs.declared.Job.{Job}
use Rattle.fields.specs.Fields.{count_of}
use Rattle.record.specs.Record.{decode}
use Rattle.acceptance.specs.Acceptance.{job_no}
use Rattle.acceptance.proofs.Accepting.{input_passed}
use Rattle.catalogue.specs.Rules.{cat_no}
use Rattle.sizing.specs.Losses.{list_ok}
use Rattle.sizing.proofs.Named.{list_long, list_names}
use Rattle.choosing.specs.Suitable.{Suitable, cost_of}
use Rattle.choosing.specs.Calls.{Ample, choose_no, choose_bytes, Unsuitable, Cheapest, Chosen}
use Rattle.choosing.proofs.Ordering.{choose_ready}
use Rattle.demands.specs.OwnCase.{own_cat}

pub one_size : (job : Job) → count_of job ≡ 1 → (y : List ℕ) → list_ok job own_cat y ≡ true → (y ≡ 1 ∷ []) ⊎ (y ≡ 2 ∷ [])
one_size job one [] e = absurd (omega (arith, one, list_long job own_cat [] e))
one_size job one (x ∷ []) e =
    let w = list_names job own_cat (x ∷ []) e 1 (omega arith) (omega (arith, one)) in
    ⊎_elim (λ two. inr (ap (λ n. n ∷ []) two)) (λ other. inl (ap (λ n. n ∷ []) (omega arith))) (cases_eq x 2)
one_size job one (x ∷ z ∷ l) e = absurd (omega (arith, one, list_long job own_cat (x ∷ z ∷ l) e))

-- the call on an accepted job, with enough of both buffers
module _ (listed : cat_no own_cat ≡ 0) (b : List ℕ) (accepted : job_no b ≡ 0) {out₀ work₀ : List ℕ} (space : Ample b out₀ work₀) where
  ready : choose_no b own_cat (length out₀) (length work₀) ≡ 0
  ready = choose_ready b own_cat (length out₀) (length work₀) (sym (input_passed b own_cat (sym accepted) (sym listed))) space.result space.space

  module _ {out work : List ℕ} {n : ℕ} (c : Chosen b own_cat out₀ work₀ out work n) where
    given : Unsuitable (decode b) own_cat out₀ out n ⊎ Cheapest (decode b) own_cat out₀ out n
    given = c.chosen ready

    pub gives_16 : ((y : List ℕ) → Suitable (decode b) own_cat y → ⊥) → n ≡ 16
    gives_16 none = ⊎_elim (λ u. u.number) (λ f. absurd (none f.list f.suits)) given

    -- a list that suits, where every other list that suits costs more
    pub gives_list : (x : List ℕ) → Suitable (decode b) own_cat x →
        ((y : List ℕ) → Suitable (decode b) own_cat y → cost_of (decode b) own_cat y ≤ cost_of (decode b) own_cat x → y ≡ x) →
        (n ≡ 0) × (out ≡ stored out₀ 0 (choose_bytes (decode b) own_cat x))
    gives_list x s only =
        ⊎_elim
        (λ u. absurd (u.none x s))
        (λ f. (f.number, f.written ∙ ap (λ y. stored out₀ 0 (choose_bytes (decode b) own_cat y)) (only f.list f.suits (f.least x s))))
        given
