-- The greatest of the sections looked at and the lowest that has it, one section more at a time.
-- Assumes nothing.
use mathlib.Core.Path.{◌≡◌, sym, subst, ◌∙◌}
use mathlib.Core.Bool.{true, false}
use Prim.Native.Nat.{ℕ, suc, ◌-◌, ◌<◌}
use native.Mathlib.Omega.{arith}
use lib.IntN.{ℤ}
use lib.Signed.{lt_z, le_z}
use Rattle.std.proofs.lemmas.Bool.{false_from_ne_true}
use Rattle.basis.proofs.Bools.{apart}
use Rattle.fields.specs.declared.Job.{Job}
use Rattle.fields.specs.Fields.{count_of}
use Rattle.heads.specs.Signed.{greater}
use Rattle.heads.specs.Heads.{reach_of, greatest_to, dictating_of}
use Rattle.heads.proofs.Signed.{le_self, le_trans, le_total, less_not, not_less, greater_first, greater_second}
use Rattle.heads.proofs.Maximum.{greatest_one, greatest_more, greatest_bound}
use Rattle.basis.proofs.Lowest.{Lowest, lowest_only}

pub record Best (f : ℕ → ℤ) (n : ℕ) (most : ℤ) (section : ℕ) : Type 0 where
  pub greatest : most ≡ greatest_to n f
  pub lowest : Lowest n (λ i. le_z most (f i)) section

pub best_start : {f : ℕ → ℤ} {z : ℤ} → z ≡ f 1 → Best f 1 z 1
best_start {f} is =
    rw is
    (record {
      greatest = sym (greatest_one f);
      lowest = record { low = omega arith; high = omega arith; holds = le_self (f 1); first = λ j h k. absurd (omega arith) };
    })

-- one section more: it is above the best so far, or not
module _ {f : ℕ → ℤ} {most z : ℤ} {section i k : ℕ} (b : Best f (i - 1) most section) (low : 0 < i) (last : k ≡ i) (is : z ≡ f i) where
  here : suc (i - 1) ≡ i
  here = omega arith

  step : greatest_to i f ≡ greater most (f i)
  step = rw b.greatest (subst (λ n. greatest_to n f ≡ greater (greatest_to (i - 1) f) (f n)) here (greatest_more f (i - 1)))

  pub best_more : lt_z most z ≡ true → Best f k z i
  best_more e =
      let above : le_z (f i) most ≡ false = less_not most (f i) (rw is at e) in
      rw (last, is)
      (record {
        greatest = sym (greater_second most (f i) (le_total (f i) most above)) ∙ sym step;
        lowest =
            record {
              low = low;
              high = omega arith;
              holds = le_self (f i);
              first = λ j h m.
                  let under : le_z (f j) most ≡ true = rw b.greatest (greatest_bound f (i - 1) j h (omega arith)) in
                  false_from_ne_true (le_z (f i) (f j)) (λ t. apart (le_trans (f i) (f j) most t under) above);
            };
      })

  pub best_same : lt_z most z ≡ false → Best f k most section
  best_same e =
      let l = b.lowest in
      rw last
      (record {
        greatest = sym (greater_first most (f i) (not_less most (f i) (rw is at e))) ∙ sym step;
        lowest = record { low = l.low; high = omega (arith, l.high); holds = l.holds; first = l.first };
      })

-- the best of all sections is the greatest reach and the dictating section
pub best_end : (job : Job) (loss : ℕ → ℕ) {most : ℤ} {section : ℕ} → Best (reach_of job loss) (count_of job) most section →
    (most ≡ greatest_to (count_of job) (reach_of job loss)) × (section ≡ dictating_of job loss)
unfolding dictating_of
best_end job loss {most} {section} b = (b.greatest, lowest_only (count_of job) _ section (rw (← b.greatest) b.lowest))
