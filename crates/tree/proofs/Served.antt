-- What a section serves: the sums over the sections at or below it, and the set of them.
-- Assumes nothing.
use mathlib.Core.Path.{◌≡◌, sym, ◌∙◌}
use mathlib.Core.Logic.{⊎_elim}
use mathlib.Core.Bool.{true, false, cond}
use Prim.Native.Nat.{ℕ, zero, suc, ◌+◌, ◌*◌, ◌^◌, ◌≤◌, ◌<◌}
use native.Mathlib.Omega.{arith}
use native.Mathlib.Nat.{mul-le-mul_right}
use lib.Dec.{eqb}
use lib.Pow.{pow_pos}
use borrow.Author.Tests.{eq-eqb, ne_eqb}
use Rattle.std.proofs.lemmas.Bool.Decides.{nat_tests}
use Rattle.std.proofs.lemmas.Bool.{cases_lt, cases_eq}
use Rattle.basis.specs.Range.{sum_to}
use Rattle.basis.proofs.Sum.{sum_none, sum_more, sum_ext, sum_add, sum_le, sum_if, sum_out, sum_one, sum_two, sum_some, sum_nothing, sum_at, sum_wider}
use Rattle.fields.specs.declared.Job.{Job}
use Rattle.fields.specs.Fields.{count_of, section_of}
use Rattle.tree.specs.Tree.{below, own_of, served_of, house_of, set_of, fixtures_below, Rooted}
use Rattle.tree.proofs.Below.{reach_same, below_self, below_up, below_under, below_pump, child_below, below_child}
use Rattle.tree.proofs.Climb.{climb, climb_stop, climb_step}
use Rattle.tree.proofs.Taken.{part}

-- the parent of a section; of the pump nothing is asked
abbrev pub up_of : Job → ℕ → ℕ
up_of job = λ j. (section_of job j).parent

module _ {job : Job} (r : Rooted job) where
  climb_at : (i j : ℕ) → j ≤ i → j ≤ count_of job → eqb (climb (up_of job) (count_of job) i j) i ≡ below job i j
  climb_at i j h k =
      rw (climb_stop (up_of job) (count_of job) i j h)
      (⊎_elim
      (λ e. rw (eq-eqb j i e, e) (sym (below_self job i)))
      (λ ne. rw (ne_eqb j i ne) (sym (below_under r i j (under ne) k)))
      (cases_eq j i))
    where
      under : (j ≡ i → ⊥) → j < i
      under ne = omega arith

  climb_over : (i j : ℕ) → i < j → j ≤ count_of job → eqb (climb (up_of job) (count_of job) i (up_of job j)) i ≡ below job i (up_of job j) →
      eqb (climb (up_of job) (count_of job) i j) i ≡ below job i j
  climb_over i j h k e =
      rw (climb_step (count_of job) (up_of job) r.lower i j h k) (e ∙ sym (below_up r i j (λ z. omega arith) (omega arith) k))

  climb_below : (m i j : ℕ) → j ≤ m → j ≤ count_of job → eqb (climb (up_of job) (count_of job) i j) i ≡ below job i j
  climb_below zero i j h k = climb_at i j (omega arith) k
  climb_below (suc m) i j h k =
      ⊎_elim
      (λ lt. let l : up_of job j < j = r.lower j (omega arith) k in
      climb_over i j lt k (climb_below m i (up_of job j) (omega arith) (omega arith)))
      (λ ge. climb_at i j ge k)
      (cases_lt i j)

  -- at the end of the way up a place holds the values of the sections at or below its own
  pub part_below : (f : ℕ → ℕ) (i : ℕ) → part (count_of job) (up_of job) f i i ≡ sum_to (count_of job) (λ j. cond (below job i j) (f j) 0)
  unfolding part
  part_below f i = sum_ext (count_of job) _ _ (λ j p q. rw (climb_below (count_of job) i j q q))

  pub served_house : (kind : ℕ) → served_of job 0 kind ≡ house_of job kind
  unfolding served_of house_of
  served_house kind = sum_ext (count_of job) _ _ (λ j p q. rw (below_pump r j q))

  -- no section serves more than the house, and neither more than 63 ends of 65,535 fixtures
  pub served_le : (i kind : ℕ) → served_of job i kind ≤ house_of job kind
  unfolding served_of house_of
  served_le i kind = sum_some (count_of job) (λ j. below job i j) (own_of job kind)

  -- its own fixtures, and what a section below it serves
  pub own_served : (i kind : ℕ) → 0 < i → i ≤ count_of job → own_of job kind i ≤ served_of job i kind
  unfolding served_of
  own_served i kind a b =
      let t : cond (below job i i) (own_of job kind i) 0 ≤ served_of job i kind =
      sum_at (count_of job) i (λ j. cond (below job i j) (own_of job kind j) 0) a b in
      rw (below_self job i) at t

  pub served_child : (i j kind : ℕ) → 0 < j → j ≤ count_of job → (section_of job j).parent ≡ i → served_of job j kind ≤ served_of job i kind
  unfolding served_of
  served_child i j kind a b e =
      sum_wider (count_of job) (λ k. below job j k) (λ k. below job i k) (own_of job kind) (λ k p q t. below_child r i j a b e k q t)

  module _ (small : (j : ℕ) → 0 < j → j ≤ count_of job → (section_of job j).fixtures < 65536) where
    own_top : (kind j : ℕ) → 0 < j → j ≤ count_of job → own_of job kind j ≤ 65535
    unfolding own_of
    own_top kind j a b = let s = small j a b in grind (arith, nat_tests)

    house_top : (kind : ℕ) → house_of job kind ≤ count_of job * 65535
    unfolding house_of
    house_top kind = sum_le (count_of job) 65535 (own_of job kind) (λ j a b. own_top kind j a b)

    pub served_top : (i kind : ℕ) → served_of job i kind ≤ 4128705
    served_top i kind = omega (arith, served_le i kind, house_top kind, mul-le-mul_right 65535 r.few)

  module _ (i : ℕ) (a : 0 < i) (b : i ≤ count_of job)
      (alone : (j : ℕ) → 0 < j → j ≤ count_of job → (section_of job j).parent ≡ i → ⊥) where
    not_below : (m j : ℕ) → j ≤ m → j ≤ count_of job → (j ≡ i → ⊥) → below job i j ≡ false
    not_below zero j h k ne = below_under r i j (omega arith) k
    not_below (suc m) j h k ne =
        ⊎_elim
        (λ p. let l : (section_of job j).parent < j = r.lower j p k in
        below_up r i j ne p k ∙ not_below m (section_of job j).parent (omega arith) (omega arith) (alone j p k))
        (λ z. below_under r i j (omega arith) k)
        (cases_lt 0 j)

    below_alone : (j : ℕ) → j ≤ count_of job → below job i j ≡ eqb j i
    below_alone j k =
        ⊎_elim
        (λ e. rw (eq-eqb j i e, e) (below_self job i))
        (λ ne. rw (ne_eqb j i ne) (not_below j j (omega arith) k ne))
        (cases_eq j i)

    -- a section that is no one's parent is a set of one
    pub set_alone : set_of job i ≡ 2 ^ i
    unfolding set_of
    set_alone =
        sum_ext (count_of job) _ (λ j. cond (eqb j i) (2 ^ j) 0) (λ j p q. rw (below_alone j q)) ∙
        sum_one (count_of job) i (λ j. 2 ^ j) a b

  -- and a parent is not
  pub set_more : (i j : ℕ) → 0 < i → i ≤ count_of job → 0 < j → j ≤ count_of job → (section_of job j).parent ≡ i → set_of job i ≡ 2 ^ i → ⊥
  unfolding set_of
  set_more i j a b p q e s =
      let l : (section_of job j).parent < j = r.lower j p q in
      let under : below job i j ≡ true = child_below r i j p q e in
      let two : cond (below job i i) (2 ^ i) 0 + cond (below job i j) (2 ^ j) 0 ≤ 2 ^ i =
      rw s at (sum_two (count_of job) i j (λ k. cond (below job i k) (2 ^ k) 0) a b p q (λ z. omega arith)) in
      let both : 2 ^ i + 2 ^ j ≤ 2 ^ i = rw (below_self job i, under) at two in
      omega (arith, pow_pos j)

-- the same sum of sums, either one first
exchange : (m n : ℕ) (f : ℕ → ℕ → ℕ) → sum_to m (λ k. sum_to n (f k)) ≡ sum_to n (λ j. sum_to m (λ k. f k j))
exchange zero n f = sum_none (λ k. sum_to n (f k)) ∙ sym (sum_nothing n _ (λ j p q. sum_none (λ k. f k j)))
exchange (suc m) n f =
    sum_more m (λ k. sum_to n (f k)) ∙ rw (exchange m n f, ← sum_add n (λ j. sum_to m (λ k. f k j)) (f (suc m)))
    (sum_ext n _ _ (λ j p q. sym (sum_more m (λ k. f k j))))

either_way : (a b : ℕ) → eqb a b ≡ eqb b a
either_way a b = grind (arith, nat_tests)

-- a section's fixtures are all of its kind
own_all : (job : Job) (j : ℕ) → (section_of job j).kind ≤ 12 → ((section_of job j).kind ≡ 0 → (section_of job j).fixtures ≡ 0) →
    sum_to 12 (λ kind. own_of job kind j) ≡ (section_of job j).fixtures
unfolding own_of
own_all job j h bare =
    sum_ext 12 _ (λ kind. cond (eqb kind (section_of job j).kind) (section_of job j).fixtures 0)
    (λ kind p q. rw (either_way (section_of job j).kind kind)) ∙
    ⊎_elim
    (λ p. sum_one 12 (section_of job j).kind (λ kind. (section_of job j).fixtures) p h)
    (λ z. sum_out 12 (section_of job j).kind (λ kind. (section_of job j).fixtures) (λ p. absurd (omega arith)) ∙ sym (bare (omega arith)))
    (cases_lt 0 (section_of job j).kind)

-- all fixtures are the sum over the kinds, where no kind is over 12 and kind 0 has none
pub served_all : (job : Job) → ((j : ℕ) → 0 < j → j ≤ count_of job → (section_of job j).kind ≤ 12) →
    ((j : ℕ) → 0 < j → j ≤ count_of job → (section_of job j).kind ≡ 0 → (section_of job j).fixtures ≡ 0) →
    (i : ℕ) → sum_to 12 (served_of job i) ≡ fixtures_below job i
unfolding served_of fixtures_below
served_all job twelve bare i =
    exchange 12 (count_of job) (λ kind j. cond (below job i j) (own_of job kind j) 0) ∙
    sum_ext (count_of job) _ _ (λ j p q.
    sum_if (below job i j) 12 (λ kind. own_of job kind j) ∙ rw (own_all job j (twelve j p q) (bare j p q)))

-- the house's fixtures are those of the sections up to the last
pub house_same : (a b : Job) → count_of a ≡ count_of b → ((j : ℕ) → 0 < j → j ≤ count_of a → section_of a j ≡ section_of b j) →
    (kind : ℕ) → house_of a kind ≡ house_of b kind
unfolding house_of own_of
house_same a b e same kind =
    sum_ext (count_of a) _ (λ j. own_of b kind j) (λ j p q. rw (same j p q)) ∙ rw e

-- and so are those that a section serves, in two jobs with the same sections
pub served_same : (a b : Job) → count_of a ≡ count_of b → a.sections ≡ b.sections → (i kind : ℕ) → served_of a i kind ≡ served_of b i kind
unfolding served_of below own_of
served_same a b e same i kind =
    sum_ext (count_of a) _ (λ j. cond (below b i j) (own_of b kind j) 0) (λ j p q. rw (reach_same a b same 63 i j, same)) ∙ rw e
