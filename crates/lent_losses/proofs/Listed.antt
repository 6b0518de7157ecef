-- A list of losses: the test of 19 from its parts, and what a list that passes says.
-- Assumes nothing.
use mathlib.Core.Path.{◌≡◌, sym, ◌∙◌}
use mathlib.Core.Bool.{true, false}
use mathlib.Core.List.{List}
use Prim.Native.Nat.{ℕ, ◌+◌, ◌-◌, ◌*◌, ◌≤◌, ◌<◌}
use native.Mathlib.Nat.{add-sub_cancel}
use native.Mathlib.Omega.{arith}
use lib.ListN.{length, set, replicate}
use lib.Dec.{leb, eqb}
use borrow.Author.Tests.{eq-eqb, ne_eqb, eqb-true, le-leb, lt-leb, leb-true}
use Rattle.basis.specs.Range.{all_to}
use Rattle.basis.specs.Slots.{slots}
use Rattle.basis.proofs.Bools.{left}
use Rattle.basis.proofs.Each.{all_none, all_more, all_at, all_each, all_false}
use Rattle.basis.proofs.Slots.{slots_none, slots_more}
use Rattle.lent_losses.specs.LentLosses.{loss_in, losses_ok}

module _ (count : ℕ) (losses : List ℕ) where
  pub other_length : (length losses ≡ 4 * count → ⊥) → losses_ok count losses ≡ false
  unfolding losses_ok
  other_length n = rw (ne_eqb (length losses) (4 * count) n)

  module _ (long : length losses ≡ 4 * count) where
    losses_all : losses_ok count losses ≡ all_to count (λ i. leb (loss_in losses i) 4259775)
    unfolding losses_ok
    losses_all = rw (eq-eqb (length losses) (4 * count) long)

    pub losses_pass : ((i : ℕ) → 0 < i → i ≤ count → loss_in losses i ≤ 4259775) → losses_ok count losses ≡ true
    losses_pass top =
        losses_all ∙
        all_each count (λ i. leb (loss_in losses i) 4259775) (λ i low high. le-leb (loss_in losses i) 4259775 (top i low high))

    pub one_over : (i : ℕ) → 0 < i → i ≤ count → 4259775 < loss_in losses i → losses_ok count losses ≡ false
    one_over i low high h =
        losses_all ∙ all_false count i (λ j. leb (loss_in losses j) 4259775) low high (lt-leb (loss_in losses i) 4259775 h)

  module _ (ok : losses_ok count losses ≡ true) where
    pub losses_long : length losses ≡ 4 * count
    unfolding losses_ok
    losses_long = eqb-true (length losses) (4 * count) (left (eqb (length losses) (4 * count)) _ ok)

    pub losses_top : (i : ℕ) → 0 < i → i ≤ count → loss_in losses i ≤ 4259775
    losses_top i low high =
        leb-true (loss_in losses i) 4259775 (all_at count (λ j. leb (loss_in losses j) 4259775) (sym (losses_all losses_long) ∙ ok) i low high)

-- what stands before section i: the losses below it pass 19 and stand at their places
pub record Listed (losses at : List ℕ) (i : ℕ) : Type 0 where
  pub small : all_to (i - 1) (λ j. leb (loss_in losses j) 4259775) ≡ true
  pub placed : at ≡ slots 64 1 i 0 (loss_in losses)

module _ (losses : List ℕ) where
  pub listed_none : Listed losses (replicate 64 0) 1
  listed_none = record { small = all_none _; placed = slots_none 64 1 0 _ }

  -- one loss more
  pub listed_more : {at : List ℕ} {i loss : ℕ} → Listed losses at i → 0 < i → i < 64 → loss ≡ loss_in losses i → loss ≤ 4259775 →
      Listed losses (set at i loss) (i + 1)
  listed_more {at} {i} {loss} r low high e small =
      record {
        small =
            rw (add-sub_cancel i 1)
            (all_more (i - 1) i (λ j. leb (loss_in losses j) 4259775) (omega arith) r.small (le-leb (loss_in losses i) 4259775 (rw (← e) small)));
        placed = rw (e, r.placed) (slots_more 64 1 i 0 (loss_in losses) (omega arith) high);
      }

  -- and at the end all of them
  pub listed_all : (count : ℕ) {at : List ℕ} {i : ℕ} → Listed losses at i → i ≡ count + 1 → length losses ≡ 4 * count →
      (losses_ok count losses ≡ true) × (at ≡ slots 64 1 (count + 1) 0 (loss_in losses))
  listed_all count {i = i} r e long =
      let n : i - 1 ≡ count = omega arith in
      (losses_all count losses long ∙ (rw n at r.small), rw e at r.placed)
