-- The first check that finds something: the definition's clauses as laws, and two lists in a row.
-- Assumes nothing.
use mathlib.Core.Path.{◌≡◌, refl, ◌∙◌}
use mathlib.Core.Bool.{Bool, true, false, cond}
use mathlib.Core.List.{List, [], ◌∷◌, ◌++◌}
use Prim.{Unit}
use Prim.Native.Nat.{ℕ, ◌≤◌, ◌<◌}
use native.Mathlib.Omega.{arith}
use lib.Dec.{eqb}
use borrow.Author.Tests.{ne_eqb, lt-ltb, le-ltb}
use Rattle.answer.specs.Checks.{first_no, too_short}

pub first_none : first_no [] ≡ 0
unfolding first_no
first_none = refl

module _ {t : Bool} (n : ℕ) (rest : List (Bool × ℕ)) where
  pub first_found : t ≡ true → first_no ((t, n) ∷ rest) ≡ n
  unfolding first_no
  first_found e = rw e

  pub first_next : t ≡ false → first_no ((t, n) ∷ rest) ≡ first_no rest
  unfolding first_no
  first_next e = rw e

-- 14: the buffer is too short, or it is not
module _ (room long : ℕ) (rest : List (Bool × ℕ)) where
  pub short_found : room < long → first_no ((too_short room long, 14) ∷ rest) ≡ 14
  short_found h = first_found 14 rest (lt-ltb room long h)

  pub short_next : long ≤ room → first_no ((too_short room long, 14) ∷ rest) ≡ first_no rest
  short_next h = first_next 14 rest (le-ltb room long h)

-- every check of the list has a number of its own
abbrev pub Numbered : List (Bool × ℕ) → Type 0
Numbered [] = Unit
Numbered (check ∷ rest) = (0 < check.1) × Numbered rest

-- a list and then another: the first where it finds something, else the second
pub first_append : (l m : List (Bool × ℕ)) → Numbered l → first_no (l ++ m) ≡ cond (eqb (first_no l) 0) (first_no m) (first_no l)
unfolding first_no
first_append [] m p = refl
first_append ((true, n) ∷ l) m p = rw (ne_eqb n 0 (λ e. omega (arith, p.0)))
first_append ((false, n) ∷ l) m p = first_append l m p.1

pub first_after : (l m : List (Bool × ℕ)) → Numbered l → first_no l ≡ 0 → first_no (l ++ m) ≡ first_no m
first_after l m p e = first_append l m p ∙ rw e

pub first_before : (l m : List (Bool × ℕ)) → Numbered l → (first_no l ≡ 0 → ⊥) → first_no (l ++ m) ≡ first_no l
first_before l m p n = first_append l m p ∙ rw (ne_eqb (first_no l) 0 n)

-- where nothing is found the first check found nothing, and neither do the rest
pub first_clear : (t : Bool) (n : ℕ) (rest : List (Bool × ℕ)) → 0 < n → first_no ((t, n) ∷ rest) ≡ 0 → (t ≡ false) × (first_no rest ≡ 0)
unfolding first_no
first_clear true n rest h e = absurd (omega arith)
first_clear false n rest h e = (refl, e)

pub first_split : (l m : List (Bool × ℕ)) → Numbered l → first_no (l ++ m) ≡ 0 → (first_no l ≡ 0) × (first_no m ≡ 0)
unfolding first_no
first_split [] m p e = (refl, e)
first_split ((true, n) ∷ l) m p e = absurd (omega (arith, p.0))
first_split ((false, n) ∷ l) m p e = first_split l m p.1 e

pub numbered_append : (l m : List (Bool × ℕ)) → Numbered l → Numbered m → Numbered (l ++ m)
numbered_append [] m p q = q
numbered_append (check ∷ l) m p q = (p.0, numbered_append l m p.1 q)
