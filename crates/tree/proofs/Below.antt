-- Steps to the parent: which sections lie at or below a section.
-- Assumes nothing.
use mathlib.Core.Path.{◌≡◌, refl, sym, ◌∙◌}
use mathlib.Core.Logic.{⊎_elim}
use mathlib.Core.Bool.{true, false, ◌||◌}
use Prim.Native.Nat.{ℕ, zero, suc, ◌≤◌, ◌<◌}
use native.Mathlib.Omega.{arith}
use lib.Dec.{eqb}
use borrow.Author.Tests.{eq-eqb, ne_eqb}
use Rattle.std.proofs.Math.Bool.{or-true, or_self}
use Rattle.std.proofs.lemmas.Bool.{cases_lt, cases_eq}
use Rattle.basis.proofs.Bools.{apart}
use Rattle.fields.specs.declared.Job.{Job}
use Rattle.fields.specs.Fields.{count_of, section_of}
use Rattle.tree.specs.Tree.{parent_of, reaches, below, Rooted}

pub parent_at : (job : Job) (j : ℕ) → 0 < j → parent_of job j ≡ (section_of job j).parent
unfolding parent_of
parent_at job j h = rw (ne_eqb j 0 (λ e. omega arith))

parent_pump : (job : Job) → parent_of job 0 ≡ 0
unfolding parent_of
parent_pump job = refl

-- the definition's clauses
reach_none : (job : Job) (i j : ℕ) → reaches zero job i j ≡ eqb j i
unfolding reaches
reach_none job i j = refl

reach_one : (n : ℕ) (job : Job) (i j : ℕ) → reaches (suc n) job i j ≡ eqb j i || reaches n job i (parent_of job j)
unfolding reaches
reach_one n job i j = refl

-- two jobs with the same sections
parent_same : (a b : Job) → a.sections ≡ b.sections → (j : ℕ) → parent_of a j ≡ parent_of b j
unfolding parent_of
parent_same a b e j = rw e

pub reach_same : (a b : Job) → a.sections ≡ b.sections → (n i j : ℕ) → reaches n a i j ≡ reaches n b i j
reach_same a b e zero i j = reach_none a i j ∙ sym (reach_none b i j)
reach_same a b e (suc n) i j =
    reach_one n a i j ∙ rw (parent_same a b e j, reach_same a b e n i (parent_of b j)) (sym (reach_one n b i j))

reach_self : (n : ℕ) (job : Job) (i : ℕ) → reaches n job i i ≡ true
reach_self zero job i = reach_none job i i ∙ eq-eqb i i refl
reach_self (suc n) job i = rw (reach_one n job i i, eq-eqb i i refl)

reach_go : (n : ℕ) (job : Job) (i j : ℕ) → (j ≡ i → ⊥) → reaches (suc n) job i j ≡ reaches n job i (parent_of job j)
reach_go n job i j ne = rw (reach_one n job i j, ne_eqb j i ne)

pub below_self : (job : Job) (i : ℕ) → below job i i ≡ true
unfolding below
below_self job i = reach_self 63 job i

module _ {job : Job} (r : Rooted job) where
  -- a parent is a section or the pump, and no further from it
  parent_le : (n j : ℕ) → j ≤ suc n → j ≤ count_of job → parent_of job j ≤ n
  parent_le n j h k =
      ⊎_elim
      (λ p. rw (parent_at job j p) (omega (arith, r.lower j p k)))
      (λ (z : j ≤ 0). let e : j ≡ 0 = omega arith in rw e (rw (parent_pump job) (omega arith)))
      (cases_lt 0 j)

  parent_in : (j : ℕ) → j ≤ count_of job → parent_of job j ≤ count_of job
  parent_in j k = parent_le (count_of job) j (omega arith) k

  -- a further step changes nothing
  reach_more : (n i j : ℕ) → j ≤ n → j ≤ count_of job → reaches (suc n) job i j ≡ reaches n job i j
  reach_more zero i j h k =
      let e : j ≡ 0 = omega arith in
      rw e (rw (reach_one 0 job i 0, reach_none job i (parent_of job 0), reach_none job i 0, parent_pump job) (or_self (eqb 0 i)))
  reach_more (suc n) i j h k =
      rw (reach_one (suc n) job i j, reach_one n job i j, reach_more n i (parent_of job j) (parent_le n j h k) (parent_in j k))

  pub below_step : (i j : ℕ) → (j ≡ i → ⊥) → j ≤ count_of job → below job i j ≡ below job i (parent_of job j)
  unfolding below
  below_step i j ne k =
      reach_go 62 job i j ne ∙ sym (reach_more 62 i (parent_of job j) (parent_le 62 j (omega (arith, r.few)) k) (parent_in j k))

  pub below_up : (i j : ℕ) → (j ≡ i → ⊥) → 0 < j → j ≤ count_of job → below job i j ≡ below job i (section_of job j).parent
  below_up i j ne p k = below_step i j ne k ∙ rw (parent_at job j p)

  reach_under : (n i j : ℕ) → j < i → j ≤ count_of job → reaches n job i j ≡ false
  reach_under zero i j h k = reach_none job i j ∙ ne_eqb j i (λ e. omega arith)
  reach_under (suc n) i j h k =
      reach_go n job i j (λ e. omega arith) ∙
      reach_under n i (parent_of job j) (omega (arith, parent_le j j (omega arith) k)) (parent_in j k)

  pub below_under : (i j : ℕ) → j < i → j ≤ count_of job → below job i j ≡ false
  unfolding below
  below_under i j h k = reach_under 63 i j h k

  reach_pump : (n j : ℕ) → j ≤ n → j ≤ count_of job → reaches n job 0 j ≡ true
  reach_pump zero j h k = reach_none job 0 j ∙ eq-eqb j 0 (omega arith)
  reach_pump (suc n) j h k =
      rw (reach_one n job 0 j, reach_pump n (parent_of job j) (parent_le n j h k) (parent_in j k)) (or-true (eqb j 0))

  -- every section is below the pump
  pub below_pump : (j : ℕ) → j ≤ count_of job → below job 0 j ≡ true
  unfolding below
  below_pump j k = reach_pump 63 j (omega (arith, r.few)) k

  below_le : (i j : ℕ) → j ≤ count_of job → below job i j ≡ true → i ≤ j
  below_le i j k t = ⊎_elim (λ lt. absurd (apart t (below_under i j lt k))) (λ le. le) (cases_lt j i)

  -- a section lies below its parent, and so does what lies below the section
  module _ (i j : ℕ) (p : 0 < j) (q : j ≤ count_of job) (e : (section_of job j).parent ≡ i) where
    pub child_below : below job i j ≡ true
    child_below = below_up i j (λ z. omega (arith, r.lower j p q)) p q ∙ rw e (below_self job i)

    below_more : (m k : ℕ) → k ≤ m → k ≤ count_of job → below job j k ≡ true → below job i k ≡ true
    below_more zero k h b t = absurd (omega (arith, below_le j k b t))
    below_more (suc m) k h b t =
        let le : j ≤ k = below_le j k b t in
        let first : (section_of job j).parent < j = r.lower j p q in
        let next : (section_of job k).parent < k = r.lower k (omega arith) b in
        ⊎_elim
        (λ z. rw z child_below)
        (λ ne.
        below_up i k (λ z. omega arith) (omega arith) b ∙
        below_more m (section_of job k).parent (omega arith) (omega arith) (sym (below_up j k ne (omega arith) b) ∙ t))
        (cases_eq k j)

    pub below_child : (k : ℕ) → k ≤ count_of job → below job j k ≡ true → below job i k ≡ true
    below_child k b t = below_more k k (omega arith) b t
