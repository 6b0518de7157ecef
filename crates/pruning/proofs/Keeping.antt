-- A net with fewer sizes and greater needs that keeps what counts.
-- Assumes nothing.
use mathlib.Core.Path.{◌≡◌, refl, sym, ap, ◌∙◌}
use mathlib.Core.Logic.{⊎_elim}
use mathlib.Core.Bool.{true}
use mathlib.Core.List.{List}
use Prim.Native.Nat.{ℕ, ◌+◌, ◌-◌, ◌≤◌, ◌<◌, max}
use native.Mathlib.Omega.{arith}
use lib.Dec.{ltb}
use lib.ListN.{length, set, length-set}
use lib.Seq.{get_or-set_same, get_or-set_other}
use borrow.Author.Tests.{lt-ltb, ltb-true}
use Rattle.std.proofs.lemmas.Bool.{cases_eq}
use Rattle.basis.specs.Sections.{size_of}
use Rattle.basis.proofs.Paths.{path_step, path_mono}
use Rattle.basis.proofs.Sum.{sum_mono}
use Rattle.nets.specs.Net.{Net, loss_in, path_in, Suits, cost_in, head_in, Found, None}
use Rattle.pruning.specs.Keeps.{Keeps}
use Rattle.nets.specs.Tables.{top, Sound}
use Rattle.nets.proofs.Heads.{head_bound, head_least, suits_head}

module _ (a : ℕ) where
  pub keeps_self : (N : Net) → Keeps a N N
  keeps_self N = record { back = λ z u. (u, refl, refl); forth = λ z u. (z, u, omega arith, omega arith) }

  pub keeps_then : {N M L : Net} → Keeps a N M → Keeps a M L → Keeps a N L
  keeps_then k j =
      record {
        back = λ z u.
            let m = j.back z u in
            let n = k.back z m.0 in
            (n.0, m.1 ∙ n.1, m.2 ∙ n.2);
        forth = λ z u.
            let m = k.forth z u in
            let l = j.forth m.0 m.1 in
            (l.0, l.1, omega (arith, m.2, l.2), omega (arith, m.3, l.3));
      }

  -- what is found in the smaller net holds of the first
  pub keeps_found : {N M : Net} {c : ℕ} {z : List ℕ} → Keeps a N M → Found M a c z → Found N a c z
  keeps_found {z = z} k f =
      let b = k.back z f.best.suits in
      record {
        best =
            record {
              suits = b.0;
              least = λ y u. let m = k.forth y u in omega (arith, b.1, f.best.least m.0 m.1, m.2);
            };
        cost = f.cost ∙ b.1;
      }

  pub keeps_none : {N M : Net} → Keeps a N M → None M a → None N a
  keeps_none k n = record { none = λ z u. let m = k.forth z u in n.none m.0 m.1 }

-- in the net M of the same tree y is as good as z is in N
pub record Stands (N M : Net) (z y : List ℕ) : Type 0 where
  pub count : M.sections ≡ N.sections
  pub up : (s : ℕ) → M.parent s ≡ N.parent s
  pub long : length y ≡ N.sections
  pub sized : (s : ℕ) → 0 < s → s ≤ N.sections → (0 < size_of y s) × (size_of y s ≤ M.sizes)
  pub fine : (s : ℕ) → 0 < s → s ≤ N.sections → M.allowed s (size_of y s) ≡ true
  pub short : (s : ℕ) → 0 < s → s ≤ N.sections → M.loss s (size_of y s) ≤ N.loss s (size_of z s)
  pub cheap : (s : ℕ) → 0 < s → s ≤ N.sections → M.cost s (size_of y s) ≤ N.cost s (size_of z s)
  pub asks : (s : ℕ) → 0 < s → s ≤ N.sections → path_in N (size_of z) s + M.need s ≤ head_in N z

module _ {N M : Net} (lower : (s : ℕ) → 0 < s → s ≤ N.sections → N.parent s < s) {z y : List ℕ} (st : Stands N M z y) where
  path_less : (s : ℕ) → s ≤ N.sections → path_in M (size_of y) s ≤ path_in N (size_of z) s
  path_less = path_mono lower M.parent (λ s p l. st.up s) (loss_in N (size_of z)) (loss_in M (size_of y)) st.short

  stands_met : (s : ℕ) → 0 < s → s ≤ M.sections → path_in M (size_of y) s + M.need s ≤ head_in N z
  stands_met s p l = let e = st.count in omega (arith, st.asks s p (omega arith), path_less s (omega arith))

  pub stands_head : head_in M y ≤ head_in N z
  stands_head = head_least M y (head_in N z) stands_met

  pub stands_cost : cost_in M y ≤ cost_in N z
  unfolding cost_in
  stands_cost = rw st.count (sum_mono N.sections (λ s. M.cost s (size_of y s)) (λ s. N.cost s (size_of z s)) st.cheap)

  pub stands_suits : (a : ℕ) → Suits N a z → Suits M a y
  stands_suits a u =
      let e = st.count in
      record {
        long = st.long ∙ sym e;
        sized = λ s p l. st.sized s p (omega arith);
        allowed = λ s p l. st.fine s p (omega arith);
        met = λ s p l. omega (arith, stands_met s p l, suits_head N z a u);
      }

-- a list of M is alike in both, and one of M stands for each of N
pub keeps_by : {N M : Net} (a : ℕ) → ((s : ℕ) → 0 < s → s ≤ N.sections → N.parent s < s) → ((s : ℕ) → 0 < s → s ≤ M.sections → M.parent s < s) →
    ((z : List ℕ) → Suits M a z → Stands N M z z × Stands M N z z) → ((z : List ℕ) → Suits N a z → (y : List ℕ) × Stands N M z y) → Keeps a N M
keeps_by a lower lower' same other =
    record {
      back = λ z u.
          let st = same z u in (
            stands_suits lower' st.1 a u,
            omega (arith, stands_cost lower st.0, stands_cost lower' st.1),
            omega (arith, stands_head lower st.0, stands_head lower' st.1),
          );
      forth = λ z u. let st = (other z u).1 in ((other z u).0, stands_suits lower st a u, stands_cost lower st, stands_head lower st);
    }

-- the net with other needs and losses
abbrev pub like : Net → (ℕ → ℕ) → (ℕ → ℕ → ℕ) → Net
like N need loss =
    record {
      sections = N.sections;
      sizes = N.sizes;
      parent = N.parent;
      need = need;
      allowed = λ s t. ltb (loss s t) top;
      loss = loss;
      cost = N.cost;
    }

module _ {N : Net} (sound : Sound N) {need : ℕ → ℕ} {loss : ℕ → ℕ → ℕ} where
  pub sound_like : Sound (like N need loss)
  sound_like = record { few = sound.few; sizes = sound.sizes; lower = sound.lower; cheap = sound.cheap; marked = λ s t. refl }

  -- a list that N allows, and that loses as much in both, stands for itself where it asks the pump for no more
  module _ {z : List ℕ} (long : length z ≡ N.sections) (sized : (s : ℕ) → 0 < s → s ≤ N.sections → (0 < size_of z s) × (size_of z s ≤ N.sizes))
      (same : (s : ℕ) → 0 < s → s ≤ N.sections → (N.allowed s (size_of z s) ≡ true) × (loss s (size_of z s) ≡ N.loss s (size_of z s))) where
    stands_self : ((s : ℕ) → 0 < s → s ≤ N.sections → path_in N (size_of z) s + need s ≤ head_in N z) → Stands N (like N need loss) z z
    stands_self asks =
        record {
          count = refl;
          up = λ s. refl;
          long = long;
          sized = sized;
          fine = λ s p l. rw (same s p l).1 (sym (sound.marked s (size_of z s)) ∙ (same s p l).0);
          short = λ s p l. omega (arith, (same s p l).1);
          cheap = λ s p l. omega arith;
          asks = asks;
        }

    stands_back : ((s : ℕ) → 0 < s → s ≤ N.sections → path_in (like N need loss) (size_of z) s + N.need s ≤ head_in (like N need loss) z) → Stands (like N need loss) N z z
    stands_back asks =
        record {
          count = refl;
          up = λ s. refl;
          long = long;
          sized = sized;
          fine = λ s p l. (same s p l).0;
          short = λ s p l. omega (arith, (same s p l).1);
          cheap = λ s p l. omega arith;
          asks = asks;
        }

module _ {N : Net} (sound : Sound N) (a : ℕ) where
  -- size t of section s is taken out
  module _ (s t : ℕ) (low : 0 < s) (high : s ≤ N.sections) {loss : ℕ → ℕ → ℕ} (out : loss s t ≡ top)
      (others : (j u : ℕ) → u ≤ N.sizes → (j ≡ s → u ≡ t → ⊥) → loss j u ≡ N.loss j u) where
    abbrev M : Net
    M = like N N.need loss

    drop_back : (z : List ℕ) → Suits M a z → Stands N M z z × Stands M N z z
    drop_back z u =
        let same : (j : ℕ) → 0 < j → j ≤ N.sections → (N.allowed j (size_of z j) ≡ true) × (loss j (size_of z j) ≡ N.loss j (size_of z j)) =
        λ j p l.
        let e = others j (size_of z j) (u.sized j p l).1
        (λ m n. let v : loss j (size_of z j) ≡ top = rw (n, m) out in omega (arith, ltb-true (loss j (size_of z j)) top (u.allowed j p l))) in
        (sound.marked j (size_of z j) ∙ rw e at (u.allowed j p l), e) in
        (stands_self sound u.long u.sized same (head_bound N z), stands_back sound u.long u.sized same (head_bound M z))

    -- a list without it stands for itself
    drop_same : (z : List ℕ) → Suits N a z → (size_of z s ≡ t → ⊥) → Stands N M z z
    drop_same z u n =
        stands_self sound u.long u.sized
        (λ j p l. (u.allowed j p l, others j (size_of z j) (u.sized j p l).1 (λ i k. n (rw i at k)))) (head_bound N z)

    -- too long: no list that suits has it
    pub keeps_long : a < N.loss s t + N.need s → Keeps a N M
    keeps_long b =
        keeps_by a sound.lower sound.lower drop_back
        (λ z u. (z, drop_same z u (λ e. omega (arith, ap (N.loss s) e, path_step sound.lower (loss_in N (size_of z)) s low high, u.met s low high))))

    -- no better than size k: that takes its place
    module _ (k : ℕ) (kl : 0 < k) (kh : k ≤ N.sizes) (ne : k ≡ t → ⊥) (real : N.loss s k < top) (short : N.loss s k ≤ N.loss s t)
        (cheap : N.cost s k ≤ N.cost s t) where
      module _ (z : List ℕ) (u : Suits N a z) (e : size_of z s ≡ t) where
        abbrev y : List ℕ
        y = set z (s - 1) k

        -- at s, and at the others
        at_each : (P : ℕ → ℕ → Type 0) → P s k → ((j : ℕ) → 0 < j → j ≤ N.sections → (j ≡ s → ⊥) → P j (size_of z j)) → (j : ℕ) → 0 < j → j ≤ N.sections → P j (size_of y j)
        at_each P h r j p l =
            ⊎_elim
            (λ (i : j ≡ s). rw i (rw (get_or-set_same z (s - 1) k 0 (omega (arith, u.long))) h))
            (λ n. rw (get_or-set_other z (s - 1) (j - 1) k 0 (λ i. n (omega arith))) (r j p l n))
            (cases_eq j s)

        drop_other : Stands N M z y
        drop_other =
            record {
              count = refl;
              up = λ s. refl;
              long = length-set z (s - 1) k ∙ u.long;
              sized = at_each (λ j v. (0 < v) × (v ≤ N.sizes)) (kl, kh) (λ j p l n. u.sized j p l);
              fine = at_each (λ j v. M.allowed j v ≡ true) (rw (others s k kh (λ i. ne)) (lt-ltb _ _ real))
                  (λ j p l n. rw (others j (size_of z j) (u.sized j p l).1 (λ i. absurd (n i))) (sym (sound.marked j (size_of z j)) ∙ u.allowed j p l));
              short = at_each (λ j v. M.loss j v ≤ N.loss j (size_of z j)) (rw e (omega (arith, others s k kh (λ i. ne))))
                  (λ j p l n. omega (arith, others j (size_of z j) (u.sized j p l).1 (λ i. absurd (n i))));
              cheap = at_each (λ j v. M.cost j v ≤ N.cost j (size_of z j)) (rw e cheap) (λ j p l n. omega arith);
              asks = head_bound N z;
            }

      pub keeps_worse : Keeps a N M
      keeps_worse =
          keeps_by a sound.lower sound.lower drop_back
          (λ z u. ⊎_elim (λ e. (set z (s - 1) k, drop_other z u e)) (λ n. (z, drop_same z u n)) (cases_eq (size_of z s) t))

  -- the needs are raised to no more than what each list asks of the pump
  keeps_need : {need : ℕ → ℕ} → ((j : ℕ) → 0 < j → j ≤ N.sections → N.need j ≤ need j) →
      ((z : List ℕ) → ((s : ℕ) → 0 < s → s ≤ N.sections → (0 < size_of z s) × (size_of z s ≤ N.sizes)) →
      (j : ℕ) → 0 < j → j ≤ N.sections → path_in N (size_of z) j + need j ≤ head_in N z) → Keeps a N (like N need N.loss)
  keeps_need {need} rise asked =
      keeps_by a sound.lower sound.lower
      (λ z u.
      let same : (j : ℕ) → 0 < j → j ≤ N.sections → (N.allowed j (size_of z j) ≡ true) × (N.loss j (size_of z j) ≡ N.loss j (size_of z j)) =
      λ j p l. (sound.marked j (size_of z j) ∙ u.allowed j p l, refl) in (
        stands_self sound u.long u.sized same (asked z u.sized),
        stands_back sound u.long u.sized same (λ j p l. omega (arith, rise j p l, head_bound (like N need N.loss) z j p l)),
      ))
      (λ z u. (z, stands_self sound u.long u.sized (λ j p l. (u.allowed j p l, refl)) (asked z u.sized)))

  -- the need of one end is set
  module _ {need : ℕ → ℕ} (p : ℕ) (others : (j : ℕ) → (j ≡ p → ⊥) → need j ≡ N.need j) where
    -- the pump's end has no need
    pub keeps_pump : p ≡ 0 → Keeps a N (like N need N.loss)
    keeps_pump e =
        keeps_need (λ j b l. omega (arith, others j (λ i. omega arith))) (λ z r j b l. rw (others j (λ i. omega arith)) (head_bound N z j b l))

    -- a section's end needs no less than what the one below needs and the least that is lost on the way there
    pub keeps_raised : (s least : ℕ) → 0 < s → s ≤ N.sections → p ≡ N.parent s → ((t : ℕ) → 0 < t → t ≤ N.sizes → least ≤ N.loss s t) →
        need p ≡ max (N.need p) (N.need s + least) → Keeps a N (like N need N.loss)
    keeps_raised s least low high ep all is =
        keeps_need
        (λ j b l. ⊎_elim (λ (e : j ≡ p). rw e (omega (arith, is))) (λ n. omega (arith, others j n)) (cases_eq j p))
        (λ z r j b l.
        ⊎_elim
        (λ (e : j ≡ p).
        let st : path_in N (size_of z) s ≡ N.loss s (size_of z s) + path_in N (size_of z) p = rw ep (path_step sound.lower (loss_in N (size_of z)) s low high) in
        let own : path_in N (size_of z) p + N.need p ≤ head_in N z = rw e at (head_bound N z j b l) in
        rw e (omega (arith, st, is, own, all (size_of z s) (r s low high).0 (r s low high).1, head_bound N z s low high)))
        (λ n. rw (others j n) (head_bound N z j b l))
        (cases_eq j p))
