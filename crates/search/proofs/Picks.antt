-- A cheapest size, picked from the rows.
-- Assumes nothing.
use Rattle.std.proofs.Common.{◌≡◌, sym, ◌∙◌, List, ℕ, ◌+◌, ◌-◌, ◌*◌, ◌≤◌, ◌<◌, min, Option, None, Some, MatchOption, arith}
use Rattle.nets.specs.Net.{Net}
use Rattle.plan.specs.Plan.{mark, least_to, plan_of}
use Rattle.plan.proofs.Least.{least_none, least_next, least_most}
use Rattle.plan.proofs.Potential.{next_least, Cheap}
use Rattle.rows.specs.Steps.{option_at, row_at, Holds}
use Rattle.rows.proofs.Fillings.{Fillable, option_row, least_row, row_final}
use Rattle.search.specs.Steps.{Picked}

-- what is known of the sizes below t: the least cost of one, and one that has it
pub record Picking (f : ℕ → ℕ) (t best : ℕ) (size : Option ℕ) : Type 0 where
  pub cost : (n : ℕ) → n + 1 ≡ t → best ≡ least_to n f
  pub pick : (n : ℕ) → n + 1 ≡ t → MatchOption size (least_to n f ≡ mark) (Picked n f)

pub picking_none : {f : ℕ → ℕ} → Picking f 1 mark None
picking_none {f} =
    let none : (n : ℕ) → n + 1 ≡ 1 → least_to n f ≡ mark = λ n e. let z : n ≡ 0 = omega arith in rw z (least_none f) in
    record { cost = λ n e. sym (none n e); pick = none }

-- a cheaper size takes the place of the one before
-- a pick among the sizes to m stands for those to n
pick_stays : (f : ℕ → ℕ) {m n : ℕ} (size : Option ℕ) → m ≤ n → least_to n f ≡ least_to m f → MatchOption size (least_to m f ≡ mark) (Picked m f) → MatchOption size (least_to n f ≡ mark) (Picked n f)
pick_stays f None l e k = e ∙ k
pick_stays f (Some u) l e k = record { low = k.low; high = omega (arith, k.high); at = k.at ∙ sym e; real = omega (arith, k.real) }

module _ {f : ℕ → ℕ} {t best v : ℕ} {size : Option ℕ} (st : Picking f t best size) (first : 0 < t) (e : v ≡ f t) where
  -- size t is reckoned in
  next : least_to t f ≡ min best v
  next =
      let one : (t - 1) + 1 ≡ t = omega arith in
      let n : least_to ((t - 1) + 1) f ≡ min (least_to (t - 1) f) (f ((t - 1) + 1)) = least_next (t - 1) f in
      let m : least_to t f ≡ min (least_to (t - 1) f) (f t) = rw one at n in
      omega (arith, m, st.cost (t - 1) one)

  -- a cheaper size takes the place of the one before
  pub picking_more : {best' : ℕ} {size' : Option ℕ} → best ≤ mark → v < best → best' ≡ v → size' ≡ Some t → Picking f (t + 1) best' size'
  picking_more m b eb es =
      record {
        cost = λ n k. let same : n ≡ t = omega arith in rw same (omega (arith, next));
        pick = λ n k.
            let same : n ≡ t = omega arith in
            rw (same, es) (record { low = first; high = omega arith; at = omega (arith, next); real = omega (arith, next) });
      }

  -- a size that is not
  pub picking_kept : {best' : ℕ} {size' : Option ℕ} → best ≤ v → best' ≡ best → size' ≡ size → Picking f (t + 1) best' size'
  picking_kept b eb es =
      record {
        cost = λ n k. let same : n ≡ t = omega arith in rw same (omega (arith, next));
        pick = λ n k.
            let same : n ≡ t = omega arith in
            let one : (t - 1) + 1 ≡ t = omega arith in
            rw (same, es) (pick_stays f size (omega arith) (omega (arith, next, st.cost (t - 1) one)) (st.pick (t - 1) one));
      }

  -- no cost is above the mark
  pub picking_most : best ≤ mark
  picking_most = let one : (t - 1) + 1 ≡ t = omega arith in omega (arith, st.cost (t - 1) one, least_most (t - 1) f)

-- the least of a row's options is the plan's
pub picked_least : {N : Net} {a : ℕ} {high : ℕ → ℕ} {room : ℕ} → Fillable N a high room → {ws : List ℕ} → Holds N a high ws →
    (q h : ℕ) → q ≤ N.sections → h ≤ a →
    least_to N.sizes (option_at (N.loss q) (N.cost q) (N.need q) (row_at ws (q * (a + 1)) 0 (high q)) h) ≡ next_least (plan_of N high) q h
picked_least {N} {a} {high} ok {ws} hold q h l b = least_row ok ws q h l b (λ x n y. row_final ok hold q x l n y)

-- the size that is picked from the rows is a cheapest one
pub picked_cheap : {N : Net} {a : ℕ} {high : ℕ → ℕ} {room : ℕ} → Fillable N a high room → {ws : List ℕ} → Holds N a high ws →
    (q h : ℕ) {t : ℕ} → q ≤ N.sections → h ≤ a →
    Picked N.sizes (option_at (N.loss q) (N.cost q) (N.need q) (row_at ws (q * (a + 1)) 0 (high q)) h) t → Cheap (plan_of N high) q h t
picked_cheap {N} {a} {high} ok {ws} hold q h {t} l b p =
    record {
      low = p.low;
      high = p.high;
      least = sym (option_row ok ws q h l b (λ x n y. row_final ok hold q x l n y) t) ∙ p.at ∙ picked_least ok hold q h l b;
    }
