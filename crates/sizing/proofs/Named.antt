-- A list that names sizes: the test of 12 from its parts.
-- Assumes nothing.
use mathlib.Core.Path.{◌≡◌, sym, ◌∙◌}
use mathlib.Core.Bool.{true, false}
use mathlib.Core.List.{List}
use Prim.Native.Nat.{ℕ, ◌+◌, ◌-◌, ◌≤◌, ◌<◌}
use native.Mathlib.Omega.{arith}
use lib.ListN.{length, get_or}
use lib.Dec.{eqb}
use borrow.Author.Tests.{eq-eqb, ne_eqb, eqb-true}
use Rattle.std.proofs.lemmas.Bool.{false_from_ne_true}
use Rattle.basis.specs.Range.{within, all_to}
use Rattle.basis.specs.Sections.{size_of}
use Rattle.basis.proofs.Bools.{left}
use Rattle.basis.proofs.Within.{Within, within_in, in_within}
use Rattle.basis.proofs.Each.{all_more, all_at, all_false}
use Rattle.fields.specs.declared.Job.{Job}
use Rattle.fields.specs.Fields.{count_of}
use Rattle.catalogue.specs.Layout.{sizes_of}
use Rattle.sizing.specs.Losses.{list_ok}

module _ (job : Job) (cat list : List ℕ) where
  pub other_length : (length list ≡ count_of job → ⊥) → list_ok job cat list ≡ false
  unfolding list_ok
  other_length n = rw (ne_eqb (length list) (count_of job) n)

  module _ (long : length list ≡ count_of job) where
    pub list_all : list_ok job cat list ≡ all_to (count_of job) (λ i. within 1 (sizes_of cat) (size_of list i))
    unfolding list_ok
    list_all = rw (eq-eqb (length list) (count_of job) long)

    -- place k names no size
    pub no_size : (k : ℕ) → k < count_of job → (Within 1 (sizes_of cat) (get_or list k 0) → ⊥) → list_ok job cat list ≡ false
    no_size k h n =
        let e : k + 1 - 1 ≡ k = omega arith in
        list_all ∙
        all_false (count_of job) (k + 1) (λ i. within 1 (sizes_of cat) (size_of list i)) (omega arith) (omega arith)
        (rw e (false_from_ne_true (within 1 (sizes_of cat) (get_or list k 0)) (λ t. n (within_in 1 (sizes_of cat) (get_or list k 0) t))))

  pub one_more : (k : ℕ) → all_to k (λ i. within 1 (sizes_of cat) (size_of list i)) ≡ true → Within 1 (sizes_of cat) (get_or list k 0) →
      all_to (k + 1) (λ i. within 1 (sizes_of cat) (size_of list i)) ≡ true
  one_more k a w =
      let e : k + 1 - 1 ≡ k = omega arith in
      all_more k (k + 1) (λ i. within 1 (sizes_of cat) (size_of list i)) (omega arith) a (rw e (in_within 1 (sizes_of cat) (get_or list k 0) w))

  -- what a list that passes says
  pub list_long : list_ok job cat list ≡ true → length list ≡ count_of job
  unfolding list_ok
  list_long e = eqb-true (length list) (count_of job) (left (eqb (length list) (count_of job)) _ e)

  pub list_names : list_ok job cat list ≡ true → (i : ℕ) → 0 < i → i ≤ count_of job → Within 1 (sizes_of cat) (size_of list i)
  list_names e i a h =
      within_in 1 (sizes_of cat) (size_of list i)
      (all_at (count_of job) (λ j. within 1 (sizes_of cat) (size_of list j)) (sym (list_all (list_long e)) ∙ e) i a h)
