-- The number of the choosing call from 1 to 15, each check after those before it.
-- Assumes nothing.
use mathlib.Core.Path.{◌≡◌, ◌∙◌}
use mathlib.Core.List.{List, [], ◌∷◌}
use Prim.Native.Nat.{ℕ, ◌≤◌, ◌<◌}
use lib.Dec.{ltb}
use borrow.Author.Tests.{lt-ltb, le-ltb}
use Rattle.answer.specs.declared.Refusal.{Refusal}
use Rattle.answer.specs.Answer.{refusal_number}
use Rattle.answer.specs.Checks.{first_no, too_short}
use Rattle.answer.proofs.First.{first_none, first_found, first_next, short_found, short_next}
use Rattle.fields.specs.Fields.{count_of}
use Rattle.record.specs.Record.{decode}
use Rattle.acceptance.specs.Acceptance.{input_no}
use Rattle.acceptance.proofs.Accepting.{input_stops, input_exit, input_passes}
use Rattle.choosing.specs.Calls.{choose_length, work_of, choose_checks, choose_no}

module _ (b cat : List ℕ) (room work : ℕ) where
  pub choose_inputs : (input_no b cat ≡ 0 → ⊥) → choose_no b cat room work ≡ input_no b cat
  unfolding choose_no choose_checks
  choose_inputs n = input_stops b cat _ n

  pub choose_refused : (r : Refusal) → refusal_number r ≡ input_no b cat → refusal_number r ≡ choose_no b cat room work
  unfolding choose_no choose_checks
  choose_refused r e = input_exit b cat _ r e

  module _ (none : input_no b cat ≡ 0) where
    past : choose_no b cat room work ≡ first_no ((too_short room (choose_length (count_of (decode b))), 14) ∷ (ltb work (work_of (decode b)), 15) ∷ [])
    unfolding choose_no choose_checks
    past = input_passes b cat _ none

    pub choose_short : room < choose_length (count_of (decode b)) → choose_no b cat room work ≡ 14
    choose_short h = past ∙ short_found room (choose_length (count_of (decode b))) _ h

    module _ (fits : choose_length (count_of (decode b)) ≤ room) where
      last : choose_no b cat room work ≡ first_no ((ltb work (work_of (decode b)), 15) ∷ [])
      last = past ∙ short_next room (choose_length (count_of (decode b))) _ fits

      pub choose_narrow : work < work_of (decode b) → choose_no b cat room work ≡ 15
      choose_narrow h = last ∙ first_found 15 [] (lt-ltb work (work_of (decode b)) h)

      pub choose_ready : work_of (decode b) ≤ work → choose_no b cat room work ≡ 0
      choose_ready h = last ∙ first_next 15 [] (le-ltb work (work_of (decode b)) h) ∙ first_none
