-- The pump's cell of a plan is the least cost of sizes with which all sections serve.
-- Assumes nothing.
use mathlib.Core.Path.{◌≡◌, refl, sym, ap, ◌∙◌}
use mathlib.Core.Logic.{⊎_elim}
use mathlib.Core.Bool.{Bool, true, false, cond}
use Prim.Native.Nat.{ℕ, zero, suc, pred, ◌+◌, ◌-◌, ◌≤◌, ◌<◌, min}
use native.Mathlib.Nat.{eq-or-lt_of_le, sub_self}
use native.Mathlib.Omega.{arith}
use lib.Dec.{eqb}
use borrow.Author.Tests.{eq-eqb, ne_eqb}
use Rattle.basis.specs.Range.{sum_to}
use Rattle.basis.proofs.Sum.{sum_none, sum_more, sum_ext, sum_at, sum_nothing, sum_swap}
use Rattle.plan.specs.Plan.{Plan, mark, option, cheapest, added, rows, cell}
use Rattle.plan.proofs.Least.{least_le}

-- The proof follows one number from the pump to the last section. The potential at s is the cost of the sizes of 1 .. s plus the cells of 0 .. s, after
-- all sections above s, at the states of 0 .. s. At 0 it is the pump's cell, and at the last section it is the cost of all sizes.
-- From s to s + 1 it never falls, whatever size section s + 1 may take, and it stays where section s + 1 takes a cheapest one.

-- an option below the mark is of a size that the section may take
option_real : (b : Bool) (v : ℕ) → cond b v mark < mark → b ≡ true
option_real true v m = refl
option_real false v m = absurd (omega arith)

module _ {X : Type 0} (P : Plan X) where
  -- after no section all cells are 0; section s + 1 raises its parent's row and changes no other
  pub cell_last : (p : ℕ) (x : X) → cell P P.sections p x ≡ 0
  unfolding cell
  cell_last p x = rw (sub_self P.sections)

  cell_step : (s p : ℕ) (x : X) → s < P.sections → cell P s p x ≡ added P (suc s) (cell P (suc s)) p x
  unfolding cell
  cell_step s p x l =
      let k : ℕ = P.sections - suc s in
      let e : P.sections - s ≡ suc k = omega arith in
      let d : P.sections - k ≡ suc s = omega arith in
      rw (e, d)

  -- the least cost of section s and of all below it, at the state x of its parent's end
  abbrev pub next_least : ℕ → X → ℕ
  next_least s x = cheapest P s (cell P s s) x

  pub cell_parent : (s : ℕ) (x : X) → s < P.sections →
      cell P s (P.parent (suc s)) x ≡ min mark (cell P (suc s) (P.parent (suc s)) x + next_least (suc s) x)
  cell_parent s x l = cell_step s (P.parent (suc s)) x l ∙ rw (eq-eqb (P.parent (suc s)) (P.parent (suc s)) refl)

  pub cell_other : (s p : ℕ) (x : X) → s < P.sections → (p ≡ P.parent (suc s) → ⊥) → cell P s p x ≡ cell P (suc s) p x
  cell_other s p x l n = cell_step s p x l ∙ rw (ne_eqb p (P.parent (suc s)) n)

  added_most : (b : Bool) (v c : ℕ) → v ≤ mark → cond b (min mark (v + c)) v ≤ mark
  added_most true v c m = omega arith
  added_most false v c m = m

  rows_most : (k p : ℕ) (x : X) → rows P k p x ≤ mark
  rows_most zero p x = omega arith
  rows_most (suc k) p x = added_most (eqb p (P.parent (P.sections - k))) (rows P k p x) (cheapest P (P.sections - k) (rows P k (P.sections - k)) x) (rows_most k p x)

  -- no cell is above the mark
  pub cell_most : (s p : ℕ) (x : X) → cell P s p x ≤ mark
  unfolding cell
  cell_most s p x = rows_most (P.sections - s) p x

  -- with the sizes z and the states x section s may take its size at its parent's state, and its own state follows from the two
  pub record Serves (z : ℕ → ℕ) (x : ℕ → X) (s : ℕ) : Type 0 where
    pub low : 0 < z s
    pub high : z s ≤ P.sizes
    pub met : P.ok s (z s) (x (P.parent s)) ≡ true
    pub state : x s ≡ P.next s (z s) (x (P.parent s))

  -- the cost of the sizes of 1 .. s
  abbrev pub costs : (ℕ → ℕ) → ℕ → ℕ
  costs z s = sum_to s (λ j. P.cost j (z j))

  -- the cells of 0 .. n, after all sections above s
  abbrev pub waiting : (ℕ → X) → ℕ → ℕ → ℕ
  waiting x n s = sum_to (suc n) (λ q. cell P s (pred q) (x (pred q)))

  abbrev pub potential : (ℕ → ℕ) → (ℕ → X) → ℕ → ℕ
  potential z x s = costs z s + waiting x s s

  -- the two sums one section further
  costs_more : (z : ℕ → ℕ) (s : ℕ) → costs z (suc s) ≡ costs z s + P.cost (suc s) (z (suc s))
  costs_more z s = sum_more s (λ j. P.cost j (z j))

  waiting_more : (x : ℕ → X) (n s : ℕ) → waiting x (suc n) s ≡ waiting x n s + cell P s (suc n) (x (suc n))
  waiting_more x n s = sum_more (suc n) (λ q. cell P s (pred q) (x (pred q)))

  module _ (z : ℕ → ℕ) (x : ℕ → X) (s : ℕ) (l : s < P.sections) (q : P.parent (suc s) < suc s) where
    -- the cells of 0 .. s before and after section s + 1: only its parent's differs
    waiting_swap : waiting x s s + cell P (suc s) (P.parent (suc s)) (x (P.parent (suc s))) ≡
        waiting x s (suc s) + cell P s (P.parent (suc s)) (x (P.parent (suc s)))
    waiting_swap =
        sum_swap (suc s) (suc (P.parent (suc s))) (λ q. cell P s (pred q) (x (pred q))) (λ q. cell P (suc s) (pred q) (x (pred q))) (omega arith) q
        (λ j a b n. cell_other s (pred j) (x (pred j)) l (λ e. n (omega arith)))

    waiting_le : waiting x s s ≤ waiting x s (suc s) + next_least (suc s) (x (P.parent (suc s)))
    waiting_le = omega (arith, waiting_swap, cell_parent s (x (P.parent (suc s))) l)

    -- a cell is at most the sum
    cell_part : cell P s (P.parent (suc s)) (x (P.parent (suc s))) ≤ waiting x s s
    cell_part = sum_at (suc s) (suc (P.parent (suc s))) (λ q. cell P s (pred q) (x (pred q))) (omega arith) q

    -- a sum below the mark has no cell that was capped
    waiting_eq : waiting x s s < mark → waiting x s s ≡ waiting x s (suc s) + next_least (suc s) (x (P.parent (suc s)))
    waiting_eq m = omega (arith, waiting_swap, cell_part, cell_parent s (x (P.parent (suc s))) l)

    -- the size that section s + 1 has is one of its options
    taken : Serves z x (suc s) →
        option P (suc s) (cell P (suc s) (suc s)) (x (P.parent (suc s))) (z (suc s)) ≡ P.cost (suc s) (z (suc s)) + cell P (suc s) (suc s) (x (suc s))
    taken o = rw (o.state, o.met)

    never_falls : Serves z x (suc s) → potential z x s ≤ potential z x (suc s)
    never_falls o =
        omega (
          arith,
          waiting_le,
          waiting_more x s (suc s),
          costs_more z s,
          taken o,
          least_le P.sizes (option P (suc s) (cell P (suc s) (suc s)) (x (P.parent (suc s)))) (z (suc s)) o.low o.high,
        )

  -- size t is a cheapest one for section s at the state x of its parent's end
  pub record Cheap (s : ℕ) (x : X) (t : ℕ) : Type 0 where
    pub low : 0 < t
    pub high : t ≤ P.sizes
    pub least : option P s (cell P s s) x t ≡ next_least s x

  module _ {s : ℕ} {x : X} {t : ℕ} (c : Cheap s x t) (m : next_least s x < mark) where
    pub cheap_ok : P.ok s t x ≡ true
    cheap_ok = option_real (P.ok s t x) (P.cost s t + cell P s s (P.next s t x)) (rw c.least m)

    cheap_is : P.cost s t + cell P s s (P.next s t x) ≡ next_least s x
    cheap_is = rw cheap_ok at c.least

  -- the state at the pump is a, the sections 1 .. s serve, and the potential at s is the pump's cell
  pub record Good (a : X) (z : ℕ → ℕ) (x : ℕ → X) (s : ℕ) : Type 0 where
    pub start : x 0 ≡ a
    pub serves : (j : ℕ) → 0 < j → j ≤ s → Serves z x j
    pub same : potential z x s ≡ cell P 0 0 a

  -- at the pump the potential is its cell
  none_yet : (z : ℕ → ℕ) (x : ℕ → X) → potential z x 0 ≡ cell P 0 0 (x 0)
  none_yet z x =
      omega (
        arith,
        sum_none (λ j. P.cost j (z j)),
        sum_more 0 (λ q. cell P 0 (pred q) (x (pred q))),
        sum_none (λ q. cell P 0 (pred q) (x (pred q))),
      )

  pub good_none : (a : X) (z : ℕ → ℕ) (x : ℕ → X) → x 0 ≡ a → Good a z x 0
  good_none a z x e =
      record {
        start = e;
        serves = λ j p l. absurd (omega arith);
        same = none_yet z x ∙ ap (cell P 0 0) e;
      }

  -- at the last section no cell is left
  all_done : (z : ℕ → ℕ) (x : ℕ → X) → potential z x P.sections ≡ costs z P.sections
  all_done z x =
      omega (
        arith,
        sum_nothing (suc P.sections) (λ q. cell P P.sections (pred q) (x (pred q))) (λ q p l. cell_last (pred q) (x (pred q))),
      )

  pub good_cost : (a : X) (z : ℕ → ℕ) (x : ℕ → X) → Good a z x P.sections → costs z P.sections ≡ cell P 0 0 a
  good_cost a z x g = sym (all_done z x) ∙ g.same

  module _ (lower : (s : ℕ) → 0 < s → s ≤ P.sections → P.parent s < s) where
    -- Good says nothing of the sizes and states of later sections
    pub good_ext : (a : X) (z z' : ℕ → ℕ) (x x' : ℕ → X) (s : ℕ) → s ≤ P.sections →
        ((j : ℕ) → 0 < j → j ≤ s → z' j ≡ z j) → ((j : ℕ) → j ≤ s → x' j ≡ x j) → Good a z x s → Good a z' x' s
    good_ext a z z' x x' s l ez ex g =
        record {
          start = ex 0 (omega arith) ∙ g.start;
          serves = λ j p b.
              let o = g.serves j p b in
              let up : x' (P.parent j) ≡ x (P.parent j) = ex (P.parent j) (omega (arith, lower j p (omega arith))) in
              record {
                low = rw (ez j p b) o.low;
                high = rw (ez j p b) o.high;
                met = rw (ez j p b, up) o.met;
                state = rw (ez j p b, up, ex j b) o.state;
              };
          same = rw (
            sum_ext s (λ j. P.cost j (z' j)) (λ j. P.cost j (z j)) (λ j p b. rw (ez j p b)),
            sum_ext (suc s) (λ q. cell P s (pred q) (x' (pred q))) (λ q. cell P s (pred q) (x (pred q))) (λ q p b. rw (ex (pred q) (omega arith))),
          )
              g.same;
        }

    -- where the pump's cell is below the mark, so is the least cost of the next section
    pub good_real : (a : X) (z : ℕ → ℕ) (x : ℕ → X) (s : ℕ) → s < P.sections → cell P 0 0 a < mark → Good a z x s →
        next_least (suc s) (x (P.parent (suc s))) < mark
    good_real a z x s l c g =
        omega (arith, g.same, waiting_eq z x s l (lower (suc s) (omega arith) l) (omega (arith, g.same)))

    -- the next section takes a cheapest size
    pub good_more : (a : X) (z : ℕ → ℕ) (x : ℕ → X) (s : ℕ) → s < P.sections → cell P 0 0 a < mark → Good a z x s →
        Cheap (suc s) (x (P.parent (suc s))) (z (suc s)) → x (suc s) ≡ P.next (suc s) (z (suc s)) (x (P.parent (suc s))) →
        Good a z x (suc s)
    good_more a z x s l c g t e =
        let m = good_real a z x s l c g in
        let here : Serves z x (suc s) = record { low = t.low; high = t.high; met = cheap_ok t m; state = e } in
        record {
          start = g.start;
          serves = λ j p b. ⊎_elim (λ w. rw w here) (λ w. g.serves j p (omega arith)) (eq-or-lt_of_le b);
          same = omega (
            arith,
            g.same,
            waiting_eq z x s l (lower (suc s) (omega arith) l) (omega (arith, g.same)),
            waiting_more x s (suc s),
            costs_more z s,
            cheap_is t m,
            ap (cell P (suc s) (suc s)) e,
          );
        }

    -- by never_falls at each section
    climbs : (z : ℕ → ℕ) (x : ℕ → X) → ((s : ℕ) → 0 < s → s ≤ P.sections → Serves z x s) →
        (s : ℕ) → s ≤ P.sections → potential z x 0 ≤ potential z x s
    climbs z x all zero l = omega arith
    climbs z x all (suc s) l =
        omega (arith, climbs z x all s (omega arith), never_falls z x s l (lower (suc s) (omega arith) l) (all (suc s) (omega arith) l))

    -- sizes with which all sections serve cost at least the pump's cell
    pub at_least : (a : X) (z : ℕ → ℕ) (x : ℕ → X) → x 0 ≡ a → ((s : ℕ) → 0 < s → s ≤ P.sections → Serves z x s) →
        cell P 0 0 a ≤ costs z P.sections
    at_least a z x e all =
        omega (arith, climbs z x all P.sections (omega arith), none_yet z x, all_done z x, ap (cell P 0 0) e)
