-- One count written, in one row of the 64.
-- Assumes nothing.
use mathlib.Core.Path.{◌≡◌, refl, ◌∙◌}
use mathlib.Core.Logic.{⊎_elim}
use mathlib.Core.List.{List, []}
use Prim.Native.Nat.{ℕ, ◌<◌}
use native.Mathlib.Omega.{arith}
use lib.ListN.{get_or, set, replicate, length-set, get_or-replicate}
use lib.Seq.{get_or-set_same, get_or-set_other}
use Rattle.std.proofs.lemmas.Bool.{cases_eq}
use Rattle.tree.specs.Rows.{cell, Sized, Zeros}

abbrev none : List ℕ
none = replicate 12 0

pub zeros : Zeros (replicate 64 none)
zeros =
    record {
      sized = record { long = refl; wide = λ i h. rw (get_or-replicate 64 i none [] h) refl };
      zero = λ i c h k. rw (get_or-replicate 64 i none [] h) (get_or-replicate 12 c 0 0 k);
    }

module _ {n : List (List ℕ)} (s : Sized n) (i k v : ℕ) (h : i < 64) where
  abbrev row : List ℕ
  row = set (get_or n i []) k v

  abbrev pub put : List (List ℕ)
  put = set n i row

  same_row : get_or put i [] ≡ row
  same_row = get_or-set_same n i row [] (omega (arith, s.long))

  pub other_row : (a : ℕ) → (a ≡ i → ⊥) → get_or put a [] ≡ get_or n a []
  other_row a ne = get_or-set_other n i a row [] ne

  pub put_sized : Sized put
  put_sized =
      record {
        long = length-set n _ _ ∙ s.long;
        wide = λ a b. ⊎_elim
            (λ e. rw e (rw same_row (length-set (get_or n i []) k v ∙ s.wide i h)))
            (λ ne. rw (other_row a ne) (s.wide a b))
            (cases_eq a i);
      }

  pub put_here : k < 12 → cell put i k ≡ v
  put_here l = rw same_row (get_or-set_same (get_or n i []) k v 0 (omega (arith, s.wide i h)))

  pub put_beside : (c : ℕ) → (c ≡ k → ⊥) → cell put i c ≡ cell n i c
  put_beside c ne = rw same_row (get_or-set_other (get_or n i []) k c v 0 ne)
