-- The number of the rating call and of the losses call, each check after those before it, for a result of any length.
-- Assumes nothing.
use mathlib.Core.Path.{◌≡◌, sym, ◌∙◌}
use mathlib.Core.Logic.{⊎_elim}
use mathlib.Core.Bool.{true, false, not}
use mathlib.Core.List.{List, [], ◌∷◌}
use Prim.Native.Nat.{ℕ, ◌≤◌, ◌<◌}
use Rattle.std.proofs.lemmas.Bool.{cases_Bool, cases_eq}
use Rattle.answer.specs.declared.Refusal.{Refusal}
use Rattle.answer.specs.Answer.{refusal_number}
use Rattle.answer.specs.Checks.{first_no, too_short}
use Rattle.answer.proofs.First.{first_none, first_found, first_next, short_found, short_next}
use Rattle.record.specs.Record.{decode}
use Rattle.sizing.specs.Losses.{list_ok, over_any}
use Rattle.rating.specs.Calls.{sized_checks, sized_no}
use Rattle.acceptance.specs.Acceptance.{input_no}
use Rattle.acceptance.proofs.Accepting.{input_stops, input_exit, input_passes}

module _ (b cat list : List ℕ) (room long : ℕ) where
  pub sized_inputs : (input_no b cat ≡ 0 → ⊥) → sized_no b cat list room long ≡ input_no b cat
  unfolding sized_no sized_checks
  sized_inputs n = input_stops b cat _ n

  pub sized_exit : (r : Refusal) → refusal_number r ≡ input_no b cat → refusal_number r ≡ sized_no b cat list room long
  unfolding sized_no sized_checks
  sized_exit r e = input_exit b cat _ r e

  module _ (none : input_no b cat ≡ 0) where
    past : sized_no b cat list room long ≡
        first_no ((not (list_ok (decode b) cat list), 12) ∷ (too_short room long, 14) ∷ (over_any (decode b) cat list, 13) ∷ [])
    unfolding sized_no sized_checks
    past = input_passes b cat _ none

    pub sized_list : list_ok (decode b) cat list ≡ false → sized_no b cat list room long ≡ 12
    sized_list e = past ∙ first_found 12 _ (rw e)

    module _ (named : list_ok (decode b) cat list ≡ true) where
      pub sized_short : room < long → sized_no b cat list room long ≡ 14
      sized_short h = past ∙ first_next 12 _ (rw named) ∙ short_found room long _ h

      module _ (fits : long ≤ room) where
        over : sized_no b cat list room long ≡ first_no ((over_any (decode b) cat list, 13) ∷ [])
        over = past ∙ first_next 12 _ (rw named) ∙ short_next room long _ fits

        pub sized_over : over_any (decode b) cat list ≡ true → sized_no b cat list room long ≡ 13
        sized_over e = over ∙ first_found 13 [] e

        pub sized_done : over_any (decode b) cat list ≡ false → sized_no b cat list room long ≡ 0
        sized_done e = over ∙ first_next 13 [] e ∙ first_none

-- results of other lengths, where there is room for both, get the same number
pub sized_same : (b cat list : List ℕ) (room long room' long' : ℕ) → (input_no b cat ≡ 0 → long ≤ room) → (input_no b cat ≡ 0 → long' ≤ room') →
    sized_no b cat list room long ≡ sized_no b cat list room' long'
sized_same b cat list room long room' long' fits fits' =
    ⊎_elim
    (λ none. ⊎_elim
    (λ named. ⊎_elim
    (λ over. sized_over b cat list room long none named (fits none) over ∙ sym (sized_over b cat list room' long' none named (fits' none) over))
    (λ under. sized_done b cat list room long none named (fits none) under ∙ sym (sized_done b cat list room' long' none named (fits' none) under))
    (cases_Bool (over_any (decode b) cat list)))
    (λ other. sized_list b cat list room long none other ∙ sym (sized_list b cat list room' long' none other))
    (cases_Bool (list_ok (decode b) cat list)))
    (λ some. sized_inputs b cat list room long some ∙ sym (sized_inputs b cat list room' long' some))
    (cases_eq (input_no b cat) 0)
