-- Arrays made from a function of the place: by calls of a closure, and by a loop that writes one place after another.
-- Assumes nothing.
use Rattle.std.proofs.Common.{◌≡◌, ℕ, zero, suc, ◌+◌, ◌≤◌, ◌<◌, List, get_or, arith, ◌∙◌}
use mathlib.Core.Logic.{⊎_elim}
use lib.ListN.{set}
use denote.Param.Members.{Mut, Called}
use Rattle.std.specs.Array.{IsFromFnResult, IsFromFnResultFrom}
use Rattle.std.proofs.lemmas.Bool.{cases_eq}
use Rattle.basis.specs.Slots.{tabulate, slots}
use Rattle.basis.proofs.Slots.{tabulated, slots_more}

-- a closure that each call leaves as it was, and that gives h of each place
module _ {F A : Type 0} (g : Mut F (ℕ × Unit {0}) A) (h : ℕ → A) (f : F)
    (step : (i : ℕ) (y : A) (q : F) → Called g f (i, tt) y q → (y ≡ h i) × (q ≡ f)) where
  each : (ys : List A) (d : A) (n i : ℕ) → IsFromFnResultFrom g f ys i n → (k : ℕ) → i ≤ k → k < i + n → get_or ys k d ≡ h k
  each ys d zero i m k a b = absurd (omega arith)
  each ys d (suc n) i m k a b =
      let s = step i m.1 m.0 m.3 in
      ⊎_elim
      (λ (e : k ≡ i). rw e (m.2.1 d ∙ s.0))
      (λ (u : k ≡ i → ⊥). each ys d n (i + 1) (rw s.1 at m.4) k (omega arith) (omega arith))
      (cases_eq k i)

  pub made : (n : ℕ) (ys : List A) (d : A) → IsFromFnResult g f ys n → ys ≡ tabulate n h
  made n ys d m = tabulated n h ys d m.long (λ i l. each ys d n 0 m.each i (omega arith) (omega arith))

-- a value written at the first place that is still blank
pub one_more : {A : Type 0} (size lo hi : ℕ) (blank : A) (f : ℕ → A) (x : A) (old : List A) → old ≡ slots size lo hi blank f → x ≡ f hi →
    lo ≤ hi → hi < size → set old hi x ≡ slots size lo (hi + 1) blank f
one_more size lo hi blank f x old o e a b = rw (o, e) (slots_more size lo hi blank f a b)
