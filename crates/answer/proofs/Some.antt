-- A refusal's number is not 0, and what `?` gives back has its number.
-- Assumes nothing.
use mathlib.Core.Path.{◌≡◌, sym, ◌∙◌}
use mathlib.Core.Bool.{Bool}
use mathlib.Core.List.{List, ◌++◌}
use Prim.Native.Nat.{ℕ, ◌<◌}
use native.Mathlib.Omega.{arith}
use borrow.Author.Tests.{ne_eqb}
use Rattle.std.specs.Prelude.{Result, IsErrAnd}
use Rattle.std.proofs.lemmas.Result.{err_from_is_err_and}
use Rattle.answer.specs.declared.Refusal.{Refusal}
use Rattle.answer.specs.declared.Refusal.TheVariants.{
  JobLength,
  JobVersion,
  HeaderRange,
  SectionBytes,
  SectionRules,
  ChildlessKind,
  Residents,
  DemandOverTable,
  DemandOverFixtures,
  CatalogueShape,
  CatalogueRules,
  SizeList,
  SizeTooSmall,
  ResultShort,
  WorkShort,
  NoSuitableList,
  MeterList,
  NoMeter,
  LossList,
  NotHot,
  HeatRange,
}
use Rattle.answer.specs.Answer.{refusal_number, number_of}
use Rattle.answer.specs.Checks.{first_no, buffer_after}
use Rattle.answer.proofs.First.{Numbered, first_after, first_before}

pub refusal_some : (r : Refusal) → 0 < refusal_number r
refusal_some JobLength = omega arith
refusal_some JobVersion = omega arith
refusal_some HeaderRange = omega arith
refusal_some SectionBytes = omega arith
refusal_some SectionRules = omega arith
refusal_some ChildlessKind = omega arith
refusal_some Residents = omega arith
refusal_some DemandOverTable = omega arith
refusal_some DemandOverFixtures = omega arith
refusal_some CatalogueShape = omega arith
refusal_some CatalogueRules = omega arith
refusal_some SizeList = omega arith
refusal_some SizeTooSmall = omega arith
refusal_some ResultShort = omega arith
refusal_some WorkShort = omega arith
refusal_some NoSuitableList = omega arith
refusal_some MeterList = omega arith
refusal_some NoMeter = omega arith
refusal_some LossList = omega arith
refusal_some NotHot = omega arith
refusal_some HeatRange = omega arith

-- a refusal by the first of two lists of checks is one by both, and so is the number of the second where the first finds nothing
module _ (l m : List (Bool × ℕ)) (numbered : Numbered l) where
  pub first_refused : (r : Refusal) → refusal_number r ≡ first_no l → refusal_number r ≡ first_no (l ++ m)
  first_refused r e = e ∙ sym (first_before l m numbered (λ none. omega (arith, refusal_some r)))

  pub first_passed : {n : ℕ} → 0 ≡ first_no l → n ≡ first_no m → n ≡ first_no (l ++ m)
  first_passed none e = e ∙ sym (first_after l m numbered (sym none))

-- what a function gives back where a `?` ends it
pub number_at_exit : {A : Type 0} (r : Result A Refusal) (refusal : Refusal) → IsErrAnd r (λ e. e ≡ refusal) → number_of r ≡ refusal_number refusal
number_at_exit r refusal err = let p = err_from_is_err_and r err in rw (p.1, p.2)

-- and the buffer, which is as it was
pub buffer_at_exit : {A : Type 0} (r : Result A Refusal) (refusal : Refusal) → IsErrAnd r (λ e. e ≡ refusal) → (bytes out : List ℕ) →
    out ≡ buffer_after (number_of r) bytes out
buffer_at_exit r refusal err bytes out =
    rw (number_at_exit r refusal err, ne_eqb (refusal_number refusal) 0 (λ none. omega (arith, refusal_some refusal)))
