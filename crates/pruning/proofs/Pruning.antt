-- One turn of the loop that prunes, from the last section to the first.
-- Assumes nothing.
use Rattle.std.proofs.Common.{◌≡◌, refl, sym, ap, subst, ◌∙◌, ⊎_elim, List, ℕ, ◌+◌, ◌*◌, ◌≤◌, ◌<◌, arith, length, get_or, set, get_or-set_same, get_or-set_other}
use borrow.Author.Tests.{ltb-true}
use Rattle.std.proofs.lemmas.Bool.{cases_eq}
use Rattle.basis.specs.Sections.{size_of}
use Rattle.basis.proofs.Paths.{path_pump, path_step}
use Rattle.nets.specs.Net.{loss_in, path_in, None}
use Rattle.nets.specs.Tables.{top, net_of}
use Rattle.nets.specs.NetIn.{net_in}
use Rattle.nets.specs.declared.Tables.{Tables}
use Rattle.nets.proofs.Heads.{head_bound}
use Rattle.pruning.specs.Keeps.{Keeps}
use Rattle.pruning.specs.Steps.{Alike, Trimmed, Emptied, LeastLoss, Raised, Pruned}
use Rattle.pruning.proofs.Keeping.{keeps_then, keeps_none, keeps_pump, keeps_raised}
use Rattle.pruning.proofs.Trims.{net_alike}

pub alike_then : {b c d : Tables} → Alike b c → Alike c d → Alike b d
alike_then p q =
    record { sections = q.sections ∙ p.sections; sizes = q.sizes ∙ p.sizes; parents = q.parents ∙ p.parents; costs = q.costs ∙ p.costs }

-- the net of tables with other needs alone
net_needs : {b d : Tables} {needs : List ℕ} → Alike b d → d.losses ≡ b.losses → d.needs ≡ needs →
    net_of b.sections b.sizes b.parents needs b.losses b.costs ≡ net_in d
net_needs {b} {d} like same asked = sym (rw (← asked, ← same) (net_alike like))

module _ {before : Tables} {a : ℕ} where
  -- the pump's end has no need
  pub pruned_none : {now : Tables} → Alike before now → now.losses ≡ before.losses → now.needs ≡ set before.needs 0 0 → 0 < length before.needs → Pruned before a now
  pruned_none {now} like same asked long =
      let none : get_or now.needs 0 0 ≡ 0 = rw asked (get_or-set_same before.needs 0 0 0 long) in
      record {
        alike = like;
        keeps = subst (λ M. Keeps a (net_in before) M) (net_needs like same asked) (keeps_pump before.sound a 0 (λ j i. get_or-set_other before.needs 0 j 0 0 i) refl);
        pump = omega arith;
        asked = λ y u. omega arith;
      }

  -- sizes are taken out
  pub pruned_trimmed : {now t : Tables} → Pruned before a now → Alike now t → t.needs ≡ now.needs → Keeps a (net_in now) (net_in t) → Pruned before a t
  pruned_trimmed {now} {t} st like same k =
      let e : get_or t.needs 0 0 ≡ get_or now.needs 0 0 = rw same refl in
      record {
        alike = alike_then st.alike like;
        keeps = keeps_then a st.keeps k;
        pump = omega (arith, st.pump);
        asked = λ y u. let n = k.back y u in omega (arith, n.2, st.asked y n.0);
      }

  module _ {t : Tables} (st : Pruned before a t) (s : ℕ) (low : 0 < s) (high : s ≤ before.sections) where
    -- none is left
    pub pruned_stop : Emptied (net_in t) s → None (net_in before) a
    pruned_stop out =
        keeps_none a st.keeps
        (record {
          none = λ z u.
              let last : s ≤ t.sections = omega (arith, st.alike.sections) in
              omega (
                arith,
                ltb-true (get_or t.losses (s * 13 + size_of z s) 0) top (u.allowed s low last),
                out.each (size_of z s) (u.sized s low last).0 (u.sized s low last).1,
              );
        })

    -- the parent's need is raised
    pub pruned_raised : {d : Tables} {least : ℕ} → Trimmed (net_in t) a s → LeastLoss (net_in t) s least → Raised t d s least → Pruned before a d
    pruned_raised {d} {least} trim l r =
        let last : s ≤ t.sections = omega (arith, st.alike.sections) in
        let p : ℕ = get_or t.parents s 0 in
        let here = r.here p refl in
        let there = r.others in
        let raised : Keeps a (net_in t) (net_in d) =
        subst (λ M. Keeps a (net_in t) M) (net_needs r.alike r.losses refl)
        (keeps_raised t.sound a p there s least low last refl l.each here) in
        let fits : least + get_or t.needs s 0 ≤ a = let i = l.some in omega (arith, l.real, i.3, trim.fits i.0 i.1 i.2) in
        record {
          alike = alike_then st.alike r.alike;
          keeps = keeps_then a st.keeps raised;
          asked = λ y u.
              let m = raised.back y u in
              ⊎_elim
              (λ (e : 0 ≡ p).
              let q : get_or t.parents s 0 ≡ 0 = omega arith in
              let path = path_step t.sound.lower (loss_in (net_in t) (size_of y)) s low last in
              let zero-path : path_in (net_in t) (size_of y) (get_or t.parents s 0) ≡ 0 = rw q (path_pump (net_in t).parent (loss_in (net_in t) (size_of y))) in
              omega (
                arith,
                ap (λ (i : ℕ). get_or d.needs i 0) e,
                ap (λ (i : ℕ). get_or t.needs i 0) e,
                here,
                st.asked y m.0,
                m.2,
                path,
                l.each (size_of y s) (m.0.sized s low last).0 (m.0.sized s low last).1,
                head_bound (net_in t) y s low last,
              ))
              (λ x. omega (arith, there 0 x, st.asked y m.0, m.2))
              (cases_eq 0 p);
          pump =
              ⊎_elim
              (λ (e : 0 ≡ p).
              omega (arith, ap (λ (i : ℕ). get_or d.needs i 0) e, ap (λ (i : ℕ). get_or t.needs i 0) e, here, st.pump))
              (λ n. omega (arith, there 0 n, st.pump))
              (cases_eq 0 p);
        }
