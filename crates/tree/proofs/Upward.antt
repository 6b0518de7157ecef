-- The sets and the counts of a job while each section's are added to its parent's, from the last section up.
-- Assumes nothing.
use mathlib.Core.Path.{◌≡◌, ◌∙◌}
use mathlib.Core.Bool.{cond}
use mathlib.Core.List.{List}
use Prim.Native.Nat.{ℕ, suc, ◌+◌, ◌-◌, ◌*◌, ◌^◌, ◌≤◌, ◌<◌}
use native.Mathlib.Omega.{arith}
use lib.Dec.{eqb}
use lib.Pow.{pow_mono}
use lib.ListN.{length, get_or, set, length-set}
use Rattle.std.proofs.lemmas.Bool.Decides.{nat_tests}
use Rattle.std.proofs.lemmas.Grind.{common_steps}
use Rattle.basis.specs.Range.{sum_to}
use Rattle.basis.proofs.Sum.{sum_le, sum_pow}
use Rattle.fields.specs.declared.Job.{Job}
use Rattle.fields.specs.Fields.{count_of, section_of}
use Rattle.tree.specs.Tree.{own_of, served_of, set_of, Rooted}
use Rattle.tree.specs.Rows.{cell, Sized, Singles, RowsFit, RowAdded, Owned, Counted}
use Rattle.tree.proofs.Served.{up_of, part_below, served_top}
use Rattle.tree.proofs.Taken.{Taken, taken_start, taken_fits, taken_more, taken_end}

-- the sets once the sections above t are taken
pub record Joined (job : Job) (t : ℕ) (sets : List ℕ) : Type 0 where
  pub long : length sets ≡ 64
  pub taken : Taken (count_of job) (up_of job) (λ j. 2 ^ j) t (λ i. get_or sets i 0)

-- the counts once the sections above t are taken
pub record Summed (job : Job) (t : ℕ) (n : List (List ℕ)) : Type 0 where
  pub sized : Sized n
  pub taken : (c : ℕ) → c < 12 → Taken (count_of job) (up_of job) (own_of job (c + 1)) t (λ i. cell n i c)
  pub small : (j : ℕ) → 0 < j → j ≤ count_of job → (section_of job j).fixtures < 65536

-- an element added to one before it
added : (l : List ℕ) (p x i : ℕ) → p < length l → get_or (set l p (get_or l p 0 + x)) i 0 ≡ get_or l i 0 + cond (eqb i p) x 0
added l p x i h = grind (arith, nat_tests, common_steps)

own_le : (job : Job) (kind j b : ℕ) → (section_of job j).fixtures ≤ b → own_of job kind j ≤ b
unfolding own_of
own_le job kind j b h = grind (arith, nat_tests)

module _ {job : Job} (r : Rooted job) where
  pub joined_start : {sets : List ℕ} {t : ℕ} → Singles t sets → t ≡ count_of job → Joined job t sets
  joined_start s e = record { long = s.long; taken = rw e (taken_start (count_of job) (up_of job) (rw e at s.own)) }

  pub joined_end : {sets : List ℕ} {t : ℕ} → Joined job t sets → t ≡ 0 → (i : ℕ) → i < 64 → get_or sets i 0 ≡ set_of job i
  unfolding set_of
  joined_end w e i h = taken_end w.taken e i h ∙ part_below r (λ j. 2 ^ j) i

  pub summed_start : {n : List (List ℕ)} {t : ℕ} → Owned job (count_of job) n → t ≡ count_of job → Summed job t n
  summed_start o e =
      record { sized = o.sized; taken = λ c k. rw e (taken_start (count_of job) (up_of job) (o.own c k)); small = o.small }

  pub summed_end : {n : List (List ℕ)} {t : ℕ} → Summed job t n → t ≡ 0 → Counted job n
  unfolding served_of
  summed_end {n} w e =
      let at : (i c : ℕ) → i < 64 → c < 12 → cell n i c ≡ served_of job i (c + 1) =
      λ i c h k. taken_end (w.taken c k) e i h ∙ part_below r (own_of job (c + 1)) i in
      record { at = at; top = λ i c h k. rw (at i c h k) (served_top r w.small i (c + 1)) }

  -- section t, whose parent is u, is taken
  module _ {t u : ℕ} (p : 0 < t) (q : t ≤ count_of job) (e : u ≡ up_of job t) where
    pub joined_fits : {sets : List ℕ} → Joined job t sets → get_or sets u 0 + get_or sets t 0 < 2 ^ 64
    joined_fits w =
        rw e
        (omega (
          arith,
          taken_fits (count_of job) (up_of job) (λ j. 2 ^ j) r.lower t p q r.few w.taken,
          sum_pow (count_of job),
          pow_mono {i = suc (count_of job)} {j = 64} (omega (arith, r.few)),
        ))

    pub joined_more : {sets : List ℕ} → Joined job t sets → Joined job (t - 1) (set sets u (get_or sets u 0 + get_or sets t 0))
    joined_more {sets} w =
        rw e
        (record {
          long = length-set sets _ _ ∙ w.long;
          taken = taken_more (count_of job) (up_of job) (λ j. 2 ^ j) r.lower t p q r.few w.taken
              (λ i h. added sets (up_of job t) (get_or sets t 0) i (omega (arith, r.lower t p q, r.few, w.long)));
        })

    pub summed_fits : {n : List (List ℕ)} → Summed job t n → RowsFit n t u
    summed_fits {n} w =
        rw e
        (record {
          sized = w.sized;
          down = r.lower t p q;
          within = omega (arith, r.few);
          fits = λ c k.
              let total : sum_to (count_of job) (own_of job (c + 1)) ≤ count_of job * 65535 =
              sum_le (count_of job) 65535 (own_of job (c + 1)) (λ j a b. own_le job (c + 1) j 65535 (omega (arith, w.small j a b))) in
              omega (arith, total, r.few, taken_fits (count_of job) (up_of job) (own_of job (c + 1)) r.lower t p q r.few (w.taken c k));
        })

    pub summed_more : {n n' : List (List ℕ)} → Summed job t n → RowAdded n n' t u → Summed job (t - 1) n'
    summed_more w a =
        record {
          sized = a.sized;
          taken = λ c k. taken_more (count_of job) (up_of job) (own_of job (c + 1)) r.lower t p q r.few (w.taken c k)
              (λ i h. rw e at (a.at i c k));
          small = w.small;
        }
