-- A kind's residents against the house's fixtures of it: refusal 7's test is that one is zero and the other is not.
-- Assumes nothing.
use mathlib.Core.Path.{◌≡◌, refl}
use mathlib.Core.Bool.{Bool, true, false, not, ◌&&◌, ◌||◌, beq}
use mathlib.Core.Logic.{⊎_elim}
use Prim.Native.Nat.{ℕ, ◌+◌}
use native.Mathlib.Nat.{add-sub_cancel}
use native.Mathlib.Omega.{arith}
use lib.Dec.{eqb, ltb}
use lib.ListN.{get_or}
use borrow.Author.Tests.{eqb-true, eqb-false, le-ltb, lt-ltb}
use Rattle.std.proofs.lemmas.Bool.{cases_Bool}
use Rattle.fields.specs.declared.Job.{Job}
use Rattle.fields.specs.Fields.{residents_of}
use Rattle.tree.specs.Tree.{Rooted, served_of, house_of}
use Rattle.tree.proofs.Served.{served_house}

-- u is zero and n is not, or the reverse
abbrev odd : ℕ → ℕ → Bool
odd u n = (ltb 0 u && eqb n 0) || (eqb u 0 && ltb 0 n)

some : (n : ℕ) → ltb 0 n ≡ not (eqb n 0)
some n =
    ⊎_elim (λ e. let z = eqb-true n 0 e in rw (e, le-ltb 0 n (omega arith)))
    (λ e. let z = eqb-false n 0 e in rw (e, lt-ltb 0 n (omega arith))) (cases_Bool (eqb n 0))

differ : (a b : Bool) → ((not a && b) || (a && not b)) ≡ not (beq a b)
differ true true = refl
differ true false = refl
differ false true = refl
differ false false = refl

odd_test : (u n : ℕ) → odd u n ≡ not (beq (eqb u 0) (eqb n 0))
odd_test u n = rw (some u, some n) (differ (eqb u 0) (eqb n 0))

-- refusal 7 at a kind
abbrev pub odd_at : Job → ℕ → Bool
odd_at job kind = odd (residents_of job kind) (house_of job kind)

-- kind c + 1 from place c of the residents and a count of what the pump serves
pub odd_served : {job : Job} → Rooted job → (c n : ℕ) → n ≡ served_of job 0 (c + 1) →
    odd_at job (c + 1) ≡ not (beq (eqb (get_or job.residents c 0) 0) (eqb n 0))
odd_served {job} r c n e = rw (← served_house r (c + 1), ← e, add-sub_cancel c 1) (odd_test (get_or job.residents c 0) n)
