-- A list that holds a function's values: its length, its places, one place more, and when two are equal.
-- Assumes nothing.
use mathlib.Core.Path.{◌≡◌, refl, sym, ◌∙◌}
use mathlib.Core.Logic.{⊎_elim}
use mathlib.Core.List.{List, [], ◌∷◌, ◌++◌}
use Prim.Native.Nat.{ℕ, zero, suc, ◌+◌, ◌≤◌, ◌<◌}
use native.Mathlib.Omega.{arith}
use lib.ListN.{length, get_or, set, replicate, length-append, length-set, length-replicate, get_or-replicate, get_or-append}
use lib.Seq.{get_or-set_same, get_or-set_other, get_or_at, ext_get_or}
use borrow.Author.Tests.{le-leb, lt-leb, lt-ltb, le-ltb}
use Rattle.std.proofs.lemmas.Bool.{cases_lt, cases_eq}
use Rattle.basis.specs.Slots.{tabulate, slots}

module _ {A : Type 0} where
  tabulate_none : (f : ℕ → A) → tabulate 0 f ≡ []
  unfolding tabulate
  tabulate_none f = refl

  tabulate_more : (n : ℕ) (f : ℕ → A) → tabulate (suc n) f ≡ tabulate n f ++ (f n ∷ [])
  unfolding tabulate
  tabulate_more n f = refl

  pub tabulate_length : (n : ℕ) (f : ℕ → A) → length (tabulate n f) ≡ n
  tabulate_length zero f = rw (tabulate_none f)
  tabulate_length (suc n) f = rw (tabulate_more n f, length-append (tabulate n f) (f n ∷ []), tabulate_length n f) (omega arith)

  pub tabulate_at : (n : ℕ) (f : ℕ → A) (i : ℕ) (d : A) → i < n → get_or (tabulate n f) i d ≡ f i
  tabulate_at zero f i d h = absurd (omega arith)
  tabulate_at (suc n) f i d h =
      rw (tabulate_more n f)
      (⊎_elim
      (λ lt. get_or-append (tabulate n f) (f n ∷ []) d i (rw (tabulate_length n f) lt) ∙ tabulate_at n f i d lt)
      (λ ge. let e : i ≡ n = omega arith in rw e (get_or_at (tabulate n f) (f n) [] d n (tabulate_length n f)))
      (cases_lt i n))

  -- a list of n places that holds f at each is the table of f
  pub tabulated : (n : ℕ) (f : ℕ → A) (l : List A) (d : A) → length l ≡ n → ((i : ℕ) → i < n → get_or l i d ≡ f i) → l ≡ tabulate n f
  tabulated n f l d e h =
      ext_get_or d l (tabulate n f) (e ∙ sym (tabulate_length n f)) (λ i k. h i (rw e at k) ∙ sym (tabulate_at n f i d (rw e at k)))

  pub tabulate_ext : (n : ℕ) (f g : ℕ → A) (d : A) → ((i : ℕ) → i < n → f i ≡ g i) → tabulate n f ≡ tabulate n g
  tabulate_ext n f g d h =
      tabulated n g (tabulate n f) d (tabulate_length n f) (λ i k. tabulate_at n f i d k ∙ h i k)

  module _ (size lo hi : ℕ) (blank : A) (f : ℕ → A) where
    pub slots_length : length (slots size lo hi blank f) ≡ size
    unfolding slots
    slots_length = tabulate_length size _

    pub slots_in : (i : ℕ) (d : A) → lo ≤ i → i < hi → i < size → get_or (slots size lo hi blank f) i d ≡ f i
    unfolding slots
    slots_in i d a b h = tabulate_at size _ i d h ∙ rw (le-leb lo i a, lt-ltb i hi b)

    pub slots_low : (i : ℕ) (d : A) → i < lo → i < size → get_or (slots size lo hi blank f) i d ≡ blank
    unfolding slots
    slots_low i d a h = tabulate_at size _ i d h ∙ rw (lt-leb lo i a)

    pub slots_high : (i : ℕ) (d : A) → lo ≤ i → hi ≤ i → i < size → get_or (slots size lo hi blank f) i d ≡ blank
    unfolding slots
    slots_high i d a b h = tabulate_at size _ i d h ∙ rw (le-leb lo i a, le-ltb i hi b)

    pub slots_out : (i : ℕ) (d : A) → i < size → (lo ≤ i → i < hi → ⊥) → get_or (slots size lo hi blank f) i d ≡ blank
    slots_out i d h n =
        ⊎_elim
        (λ low. slots_low i d low h)
        (λ a. slots_high i d a (⊎_elim (λ lt. absurd (n a lt)) (λ ge. ge) (cases_lt i hi)) h)
        (cases_lt i lo)

    -- a list with these three rules is it
    pub slotted : (l : List A) (d : A) → length l ≡ size → ((i : ℕ) → lo ≤ i → i < hi → i < size → get_or l i d ≡ f i) →
        ((i : ℕ) → i < size → (lo ≤ i → i < hi → ⊥) → get_or l i d ≡ blank) → l ≡ slots size lo hi blank f
    slotted l d e inside outside =
        ext_get_or d l (slots size lo hi blank f) (e ∙ sym slots_length)
        (λ i k. let h : i < size = rw e at k in
        ⊎_elim
        (λ low. outside i h (λ a b. omega arith) ∙ sym (slots_low i d low h))
        (λ a. ⊎_elim
        (λ b. inside i a b h ∙ sym (slots_in i d a b h))
        (λ high. outside i h (λ c b. omega arith) ∙ sym (slots_high i d a high h))
        (cases_lt i hi))
        (cases_lt i lo))

  pub slots_none : (size lo : ℕ) (blank : A) (f : ℕ → A) → replicate size blank ≡ slots size lo lo blank f
  slots_none size lo blank f =
      slotted size lo lo blank f (replicate size blank) blank (length-replicate size blank) (λ i a b h. absurd (omega arith))
      (λ i h n. get_or-replicate size i blank blank h)

  pub slots_more : (size lo hi : ℕ) (blank : A) (f : ℕ → A) → lo ≤ hi → hi < size →
      set (slots size lo hi blank f) hi (f hi) ≡ slots size lo (hi + 1) blank f
  slots_more size lo hi blank f a h =
      let old : List A = slots size lo hi blank f in
      let w : hi < length old = rw (slots_length size lo hi blank f) h in
      slotted size lo (hi + 1) blank f (set old hi (f hi)) blank (length-set old hi (f hi) ∙ slots_length size lo hi blank f)
      (λ i b c k. ⊎_elim
      (λ e. rw e (get_or-set_same old hi (f hi) blank w))
      (λ n. get_or-set_other old hi i (f hi) blank n ∙ slots_in size lo hi blank f i blank b (omega arith) k)
      (cases_eq i hi))
      (λ i k n. get_or-set_other old hi i (f hi) blank (λ e. n (omega arith) (omega arith)) ∙
      slots_out size lo hi blank f i blank k (λ b c. n b (omega arith)))

  pub slots_full : (n : ℕ) (blank : A) (f : ℕ → A) → slots n 0 n blank f ≡ tabulate n f
  slots_full n blank f =
      tabulated n f (slots n 0 n blank f) blank (slots_length n 0 n blank f) (λ i h. slots_in n 0 n blank f i blank (omega arith) h h)

  pub slots_ext : (size lo hi : ℕ) (blank : A) (f g : ℕ → A) → ((i : ℕ) → lo ≤ i → i < hi → i < size → f i ≡ g i) →
      slots size lo hi blank f ≡ slots size lo hi blank g
  slots_ext size lo hi blank f g e =
      slotted size lo hi blank g (slots size lo hi blank f) blank (slots_length size lo hi blank f)
      (λ i a b h. slots_in size lo hi blank f i blank a b h ∙ e i a b h)
      (λ i h n. slots_out size lo hi blank f i blank h n)

  -- where g agrees with f but at one place, its list is f's with that place set
  pub slots_set : (size lo hi : ℕ) (blank : A) (f g : ℕ → A) (i : ℕ) → lo ≤ i → i < hi → i < size →
      ((j : ℕ) → lo ≤ j → j < hi → (j ≡ i → ⊥) → g j ≡ f j) → slots size lo hi blank g ≡ set (slots size lo hi blank f) i (g i)
  slots_set size lo hi blank f g i a b h same =
      let old : List A = slots size lo hi blank f in
      let w : i < length old = rw (slots_length size lo hi blank f) h in
      sym (slotted size lo hi blank g (set old i (g i)) blank (length-set old i (g i) ∙ slots_length size lo hi blank f)
      (λ j c d k. ⊎_elim
      (λ e. rw e (get_or-set_same old i (g i) blank w))
      (λ n. get_or-set_other old i j (g i) blank n ∙ slots_in size lo hi blank f j blank c d k ∙ sym (same j c d n))
      (cases_eq j i))
      (λ j k n. get_or-set_other old i j (g i) blank (λ e. n (omega arith) (omega arith)) ∙ slots_out size lo hi blank f j blank k n))
