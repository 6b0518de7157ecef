-- What a call that answers by the table shows of its number and its result buffer: a refusal, and a result.
-- Assumes nothing.
use mathlib.Core.Path.{◌≡◌, ◌∙◌}
use mathlib.Core.List.{List}
use Prim.Native.Nat.{ℕ}
use borrow.Author.Tests.{eq-eqb, ne_eqb}
use Rattle.basis.specs.Stored.{stored}
use Rattle.answer.specs.Checks.{buffer_after}

module _ {no n : ℕ} (bytes out : List ℕ) (number : n ≡ no) where
  pub refused : (n ≡ 0 → ⊥) → (n ≡ no) × (out ≡ buffer_after n bytes out)
  refused some = (number, rw (ne_eqb n 0 some))

  pub given : {after : List ℕ} → n ≡ 0 → after ≡ stored out 0 bytes → (n ≡ no) × (after ≡ buffer_after n bytes out)
  given none written = (number, written ∙ rw (eq-eqb n 0 none))
