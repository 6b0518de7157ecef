-- With heads as states, as far as they can be used, the lists that suit are those with which all sections serve: a Good one is Best, and none suits where the pump's cell is the mark.
-- Assumes nothing.
use mathlib.Core.Path.{◌≡◌, sym, ◌∙◌}
use mathlib.Core.Logic.{⊎_elim}
use mathlib.Core.Bool.{true}
use mathlib.Core.List.{List}
use Prim.Native.Nat.{ℕ, ◌+◌, ◌-◌, ◌≤◌, ◌<◌, min}
use native.Mathlib.Omega.{arith}
use lib.Dec.{leb}
use lib.ListN.{length}
use borrow.Author.Tests.{le-leb, leb-true}
use Rattle.std.proofs.lemmas.Bool.{cases_lt}
use Rattle.basis.specs.Sections.{size_of}
use Rattle.basis.proofs.Paths.{path_pump, path_step, by_parent}
use Rattle.basis.proofs.Sum.{sum_le}
use Rattle.basis.proofs.Bools.{left, right}
use Rattle.nets.specs.Net.{Net, loss_in, path_in, Suits, cost_in, Best, None}
use Rattle.plan.specs.Plan.{mark, cell, plan_of, Usable}
use Rattle.nets.specs.Tables.{Sound}
use Rattle.plan.proofs.Potential.{Serves, Good, good_cost, at_least}

-- a size that a section may take leaves its end what it needs
pub ok_fits : (N : Net) (high : ℕ → ℕ) (s t h : ℕ) → (plan_of N high).ok s t h ≡ true → N.loss s t + N.need s ≤ h
ok_fits N high s t h e = leb-true _ _ (right (N.allowed s t) (leb (N.loss s t + N.need s) h) e)

-- a head that is cut to what can be used, before the loss or not, is the same after it
cut_same : (a x l u v : ℕ) → x ≤ a → min a (v + l) ≤ u → min (min x u - l) v ≡ min (x - l) v
cut_same a x l u v b m =
    ⊎_elim
    (λ (i : x < u). let e : min x u ≡ x = omega arith in rw e)
    (λ (i : u ≤ x).
    ⊎_elim
    (λ (j : a < v + l). let e : min x u ≡ x = omega arith in rw e)
    (λ (j : v + l ≤ a).
    let e : min x u ≡ u = omega arith in
    let c : min (u - l) v ≡ v = omega arith in
    let d : min (x - l) v ≡ v = omega arith in
    rw (e, c, d))
    (cases_lt a (v + l)))
    (cases_lt x u)

-- b is the head at the pump, one of those for which `high` is enough
module _ {N : Net} {a : ℕ} {high : ℕ → ℕ} (lower : (s : ℕ) → 0 < s → s ≤ N.sections → N.parent s < s) (usable : Usable N a high) (b : ℕ) (most : b ≤ a) where
  -- the heads that a list leaves, as far as they can be used
  abbrev heads_of : List ℕ → ℕ → ℕ
  heads_of z s = min (b - path_in N (size_of z) s) (high s)

  heads_of_pump : (z : List ℕ) → heads_of z 0 ≡ min b (high 0)
  heads_of_pump z = let e : b - path_in N (size_of z) 0 ≡ b = omega (arith, path_pump N.parent (loss_in N (size_of z))) in rw e

  suits_serve : (z : List ℕ) → Suits N b z → (s : ℕ) → 0 < s → s ≤ N.sections → Serves (plan_of N high) (size_of z) (heads_of z) s
  suits_serve z u s p l =
      let e = path_step lower (loss_in N (size_of z)) s p l in
      let m = usable.below s (size_of z s) p l (u.sized s p l).0 (u.sized s p l).1 (u.allowed s p l) in
      record {
        low = (u.sized s p l).0;
        high = (u.sized s p l).1;
        met = rw (
          u.allowed s p l,
          le-leb (N.loss s (size_of z s) + N.need s) (heads_of z (N.parent s)) (omega (arith, e, m, u.met s p l, usable.own s l)),
        );
        state =
            let d : b - path_in N (size_of z) s ≡ b - path_in N (size_of z) (N.parent s) - N.loss s (size_of z s) = omega (arith, e) in
            rw d
            (sym (cut_same a (b - path_in N (size_of z) (N.parent s)) (N.loss s (size_of z s)) (high (N.parent s)) (high s) (omega arith) m));
      }

  -- where all sections serve
  module _ (z h : ℕ → ℕ) (start : h 0 ≡ min b (high 0)) (all : (s : ℕ) → 0 < s → s ≤ N.sections → Serves (plan_of N high) z h s) where
    serve_fits : (s : ℕ) → 0 < s → s ≤ N.sections → N.loss s (z s) + N.need s ≤ h (N.parent s)
    serve_fits s p l = ok_fits N high s (z s) (h (N.parent s)) (all s p l).met

    heads_are : (s : ℕ) → s ≤ N.sections → (h s ≡ min (b - path_in N z s) (high s)) × (path_in N z s ≤ b)
    heads_are =
        by_parent lower (λ s. (h s ≡ min (b - path_in N z s) (high s)) × (path_in N z s ≤ b))
        (let e : b - path_in N z 0 ≡ b = omega (arith, path_pump N.parent (loss_in N z)) in
        (rw e start, omega (arith, path_pump N.parent (loss_in N z))))
        (λ s p l up.
        let o = all s p l in
        let st = path_step lower (loss_in N z) s p l in
        let fits = serve_fits s p l in
        let d : b - path_in N z s ≡ b - path_in N z (N.parent s) - N.loss s (z s) = omega (arith, st) in (
          o.state ∙
              rw (up.0, d)
              (cut_same a (b - path_in N z (N.parent s)) (N.loss s (z s)) (high (N.parent s)) (high s) (omega arith)
              (usable.below s (z s) p l o.low o.high (left (N.allowed s (z s)) _ o.met))),
          omega (arith, up, st, fits),
        ))

    serve_met : (s : ℕ) → 0 < s → s ≤ N.sections → path_in N z s + N.need s ≤ b
    serve_met s p l =
        let q : N.parent s < s = lower s p l in
        omega (arith, heads_are (N.parent s) (omega arith), path_step lower (loss_in N z) s p l, serve_fits s p l)

  pub cost_at_least : (y : List ℕ) → Suits N b y → cell (plan_of N high) 0 0 (min b (high 0)) ≤ cost_in N y
  unfolding cost_in
  cost_at_least y u = at_least (plan_of N high) lower (min b (high 0)) (size_of y) (heads_of y) (heads_of_pump y) (suits_serve y u)

  module _ (z : List ℕ) (h : ℕ → ℕ) (g : Good (plan_of N high) (min b (high 0)) (size_of z) h N.sections) where
    pub cost_of_lem : cost_in N z ≡ cell (plan_of N high) 0 0 (min b (high 0))
    unfolding cost_in
    cost_of_lem = good_cost (plan_of N high) (min b (high 0)) (size_of z) h g

    pub best_of : length z ≡ N.sections → Best N b z
    best_of e =
        record {
          suits =
              record {
                long = e;
                sized = λ s p l. ((g.serves s p l).low, (g.serves s p l).high);
                allowed = λ s p l. left (N.allowed s (size_of z s)) _ (g.serves s p l).met;
                met = serve_met (size_of z) h g.start g.serves;
              };
          least = λ y u. omega (arith, cost_of_lem, cost_at_least y u);
        }

-- 63 costs stay below the mark
pub none_suits : {N : Net} {a : ℕ} {high : ℕ → ℕ} → Sound N → Usable N a high → (b : ℕ) → b ≤ a → mark ≤ cell (plan_of N high) 0 0 (min b (high 0)) → None N b
unfolding cost_in
none_suits {N} sound usable b l m =
    record {
      none = λ y u. omega (
        arith,
        sound.few,
        cost_at_least sound.lower usable b l y u,
        sum_le N.sections 50000000 (λ s. N.cost s (size_of y s)) (λ s p l. sound.cheap s (size_of y s) p l (u.sized s p l).0 (u.sized s p l).1),
      );
    }

-- at the greatest head the state at the pump is the most that its end can use
pub pump_most : {N : Net} {a : ℕ} {high : ℕ → ℕ} → Usable N a high → min a (high 0) ≡ high 0
pump_most usable = omega (arith, usable.most 0 (omega arith))
