-- The most head that each end can use, worked out from the last section to the first.
-- Assumes nothing.
use mathlib.Core.Path.{◌≡◌, sym, ◌∙◌}
use mathlib.Core.Logic.{⊎_elim}
use mathlib.Core.Bool.{true}
use mathlib.Core.List.{List}
use Prim.Native.Nat.{ℕ, ◌+◌, ◌-◌, ◌≤◌, ◌<◌, min, max}
use native.Mathlib.Omega.{arith}
use lib.Dec.{ltb}
use lib.ListN.{length, get_or, set, replicate, length-set, length-replicate, get_or-replicate}
use lib.Seq.{get_or-set_same, get_or-set_other}
use borrow.Author.Tests.{ltb-true}
use Rattle.std.proofs.lemmas.Bool.{cases_eq}
use Rattle.nets.specs.Net.{Net}
use Rattle.nets.specs.Tables.{top}

-- after all sections of higher numbers than s
pub record UsableAbove (N : Net) (a : ℕ) (highs : List ℕ) (s : ℕ) : Type 0 where
  pub long : length highs ≡ 64
  pub most : (j : ℕ) → j ≤ N.sections → get_or highs j 0 ≤ a
  pub own : (j : ℕ) → s < j → j ≤ N.sections → min a (N.need j) ≤ get_or highs j 0
  pub below : (j t : ℕ) → s < j → j ≤ N.sections → 0 < t → t ≤ N.sizes → N.allowed j t ≡ true → min a (get_or highs j 0 + N.loss j t) ≤ get_or highs (N.parent j) 0

module _ {N : Net} {a : ℕ} (few : N.sections ≤ 63) (lower : (s : ℕ) → 0 < s → s ≤ N.sections → N.parent s < s) where
  pub usable_none : UsableAbove N a (replicate 64 0) N.sections
  usable_none =
      record {
        long = length-replicate {A = ℕ} 64 0;
        most = λ j l. omega (arith, get_or-replicate {A = ℕ} 64 j 0 0 (omega arith));
        own = λ j b l. absurd (omega arith);
        below = λ j t b l. absurd (omega arith);
      }

  -- the most of an end at or before section s is raised
  usable_up : {highs : List ℕ} {s : ℕ} → UsableAbove N a highs s → (q v : ℕ) → q ≤ N.sections → q ≤ s → get_or highs q 0 ≤ v → v ≤ a → UsableAbove N a (set highs q v) s
  usable_up {highs} st q v l b up most =
      let here : get_or (set highs q v) q 0 ≡ v = get_or-set_same highs q v 0 (omega (arith, st.long)) in
      let there : (j : ℕ) → (j ≡ q → ⊥) → get_or (set highs q v) j 0 ≡ get_or highs j 0 = λ j n. get_or-set_other highs q j v 0 n in
      let grows : (j : ℕ) → get_or highs j 0 ≤ get_or (set highs q v) j 0 =
      λ j. ⊎_elim (λ (e : j ≡ q). rw e (rw here up)) (λ n. omega (arith, there j n)) (cases_eq j q) in
      record {
        long = length-set highs q v ∙ st.long;
        most = λ j k. ⊎_elim (λ (e : j ≡ q). rw e (rw here most)) (λ n. omega (arith, there j n, st.most j k)) (cases_eq j q);
        own = λ j m k. omega (arith, there j (λ e. omega arith), st.own j m k);
        below = λ j t m k x y z. omega (arith, there j (λ e. omega arith), grows (N.parent j), st.below j t m k x y z);
      }

  -- section s has what it needs, and its parent what it and its losses ask
  pub usable_more : {highs : List ℕ} {s : ℕ} → UsableAbove N a highs s → ((s t : ℕ) → N.allowed s t ≡ ltb (N.loss s t) top) → {high p v : ℕ} (far : ℕ) → 0 < s → s ≤ N.sections →
      high ≡ max (get_or highs s 0) (min a (N.need s)) → p ≡ N.parent s → ((k : ℕ) → k < N.sizes → N.loss s (k + 1) < top → N.loss s (k + 1) ≤ far) →
      v ≡ max (get_or (set highs s high) p 0) (min a (high + far)) → UsableAbove N a (set (set highs s high) p v) (s - 1)
  usable_more {highs} {s} st marked {high} {p} {v} far low l eh ep all ev =
      let q = lower s low l in
      let one = usable_up st s high l (omega arith) (omega arith) (omega (arith, st.most s l)) in
      let two = usable_up one p v (omega arith) (omega arith) (omega arith) (omega (arith, one.most p (omega arith))) in
      let same : get_or (set (set highs s high) p v) s 0 ≡ high =
      get_or-set_other (set highs s high) p s v 0 (λ e. omega arith) ∙ get_or-set_same highs s high 0 (omega (arith, st.long)) in
      let raised : get_or (set (set highs s high) p v) p 0 ≡ v = get_or-set_same (set highs s high) p v 0 (omega (arith, one.long)) in
      record {
        long = two.long;
        most = two.most;
        own = λ j m k. ⊎_elim (λ (e : j ≡ s). rw e (omega (arith, same))) (λ n. two.own j (omega arith) k) (cases_eq j s);
        below = λ j t m k x y z.
            ⊎_elim
            (λ (e : j ≡ s).
            let one : (t - 1) + 1 ≡ t = omega arith in
            let f : N.loss s t ≤ far = rw one at (all (t - 1) (omega arith) (rw one (ltb-true (N.loss s t) top (sym (marked s t) ∙ rw e at z)))) in
            rw e (rw (← ep, same, raised) (omega arith)))
            (λ n. two.below j t (omega arith) k x y z)
            (cases_eq j s);
      }
