-- The places of the sections, filled one after the other from the first, over zeros.
-- Assumes nothing.
use mathlib.Core.Path.{◌≡◌, refl, sym, ap, ◌∙◌}
use mathlib.Core.Logic.{⊎_elim}
use mathlib.Core.List.{List}
use Prim.Native.Nat.{ℕ, ◌+◌, ◌-◌, ◌^◌, ◌≤◌, ◌<◌}
use native.Mathlib.Omega.{arith}
use lib.ListN.{get_or, replicate, get_or-replicate}
use Rattle.std.proofs.lemmas.Bool.Decides.{nat_tests}
use Rattle.std.proofs.lemmas.Bool.{cases_eq}
use Rattle.fields.specs.declared.Job.{Job}
use Rattle.fields.specs.Fields.{section_of}
use Rattle.tree.specs.Tree.{own_of}
use Rattle.tree.specs.Rows.{cell, Filled, Singles, Owned}
use Rattle.tree.proofs.Cells.{put, put_sized, put_here, put_beside, other_row}

pub filled_start : (f v : ℕ → ℕ) → ((i : ℕ) → i < 64 → v i ≡ 0) → Filled 0 f v
filled_start f v zero = record { at = λ i h. grind (arith, nat_tests, zero i h) }

pub filled_more : {f v : ℕ → ℕ} {j : ℕ} → Filled (j - 1) f v → 0 < j → (w : ℕ → ℕ) → w j ≡ f j →
    ((i : ℕ) → (i ≡ j → ⊥) → w i ≡ v i) → Filled (j + 1 - 1) f w
filled_more {f} {v} {j} done p w here else =
    record {
      at = λ i h. let old = done.at i h in grind (arith, nat_tests, else i);
    }

-- a place past those that are filled
rest : {f v : ℕ → ℕ} {j : ℕ} → Filled (j - 1) f v → 0 < j → j < 64 → v j ≡ 0
rest {f} {v} {j} done p h = let old = done.at j h in grind (arith, nat_tests)

pub singles_start : Singles 0 (replicate 64 0)
singles_start =
    record { long = refl; own = filled_start (λ j. 2 ^ j) (λ i. get_or (replicate 64 0) i 0) (λ i h. get_or-replicate 64 i 0 0 h) }

own_at : (job : Job) (kind j : ℕ) → (section_of job j).kind ≡ kind → own_of job kind j ≡ (section_of job j).fixtures
unfolding own_of
own_at job kind j e = grind (arith, nat_tests)

own_not : (job : Job) (kind j : ℕ) → ((section_of job j).kind ≡ kind → ⊥) → own_of job kind j ≡ 0
unfolding own_of
own_not job kind j ne = grind (arith, nat_tests)

module _ {job : Job} {j : ℕ} {n : List (List ℕ)} (o : Owned job (j - 1) n) (p : 0 < j) (h : j < 64) (s : (section_of job j).fixtures < 65536) where
  small_more : (i : ℕ) → 0 < i → i ≤ j + 1 - 1 → (section_of job i).fixtures < 65536
  small_more i a b = ⊎_elim (λ e. rw e s) (λ ne. o.small i a (before ne)) (cases_eq i j)
    where
      before : (i ≡ j → ⊥) → i ≤ j - 1
      before ne = omega arith

  -- a kind that is none of the twelve
  pub owned_skip : ((c : ℕ) → c < 12 → (section_of job j).kind ≡ c + 1 → ⊥) → Owned job (j + 1 - 1) n
  owned_skip ne =
      record {
        sized = o.sized;
        own = λ c k. filled_more (o.own c k) p (λ i. cell n i c)
            (rest (o.own c k) p h ∙ sym (own_not job (c + 1) j (ne c k))) (λ i ne. refl);
        small = small_more;
      }

  module _ (a : 0 < (section_of job j).kind) (b : (section_of job j).kind ≤ 12) where
    abbrev column : ℕ
    column = (section_of job j).kind - 1

    abbrev stored : List (List ℕ)
    stored = put o.sized j column (section_of job j).fixtures h

    here : (c : ℕ) → c < 12 → cell stored j c ≡ own_of job (c + 1) j
    here c k =
        ⊎_elim
        (λ e. let x : c ≡ column = omega arith in
        let l : column < 12 = omega arith in
        rw (own_at job (c + 1) j e, x) (put_here o.sized j column (section_of job j).fixtures h l))
        (λ ne. put_beside o.sized j column (section_of job j).fixtures h c (λ x. ne (omega arith)) ∙
        rest (o.own c k) p h ∙ sym (own_not job (c + 1) j ne))
        (cases_eq (section_of job j).kind (c + 1))

    pub owned_set : Owned job (j + 1 - 1) stored
    owned_set =
        record {
          sized = put_sized o.sized j column (section_of job j).fixtures h;
          own = λ c k. filled_more (o.own c k) p (λ i. cell stored i c) (here c k)
              (λ i ne. ap (λ (row : List ℕ). get_or row c 0) (other_row o.sized j column (section_of job j).fixtures h i ne));
          small = small_more;
        }
