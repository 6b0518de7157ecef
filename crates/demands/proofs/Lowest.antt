-- The least required head: no elevation is below -1,000 cm, and free head, path loss and meter loss only add to it.
-- Assumes nothing.
use mathlib.Core.Path.{◌≡◌, refl}
use mathlib.Core.Bool.{true}
use mathlib.Core.Logic.{⊎_elim}
use mathlib.Core.List.{List}
use Prim.Native.Nat.{ℕ, suc, ◌+◌, ◌≤◌}
use native.Mathlib.Omega.{arith}
use lib.IntN.{ℤ, pos, negsuc, sub_ℕ, ◌+ℤ◌}
use lib.Signed.{le_z}
use borrow.Author.Tests.{lt-ltb, le-ltb, le-leb, leb-true}
use Rattle.std.proofs.lemmas.Bool.{cases_lt}
use Rattle.basis.proofs.Bools.{left}
use Rattle.fields.specs.Fields.{count_of, section_of}
use Rattle.record.specs.Record.{decode}
use Rattle.rules.specs.Rules.{elevation_ok}
use Rattle.rules.proofs.SectionBounds.{SectionIn}
use Rattle.rules.proofs.Kept.{sections_in}
use Rattle.demand.specs.Demand.{Accepted}
use Rattle.demand.proofs.Validity.{valid_count, valid_sections}
use Rattle.acceptance.specs.Acceptance.{job_no}
use Rattle.acceptance.proofs.Accepting.{accept_accepted}
use Rattle.heads.specs.Heads.{reach_of, greatest_to, required_of}
use Rattle.heads.proofs.Maximum.{greatest_bound}
use Rattle.heads.proofs.Signed.{le_trans}

difference : (n a b : ℕ) → b ≤ suc n → le_z (negsuc n) (sub_ℕ a b) ≡ true
difference n a b h =
    ⊎_elim (λ lt. rw (lt-ltb a b lt) (le-leb _ n (omega arith))) (λ ge. rw (le-ltb a b ge)) (cases_lt a b)

-- what is added leaves a number above its least
add_behind : (n : ℕ) (z : ℤ) (a : ℕ) → le_z (negsuc n) z ≡ true → le_z (negsuc n) (z +ℤ pos a) ≡ true
add_behind n (pos b) a e = refl
add_behind n (negsuc b) a e = difference n a (suc b) (omega (arith, leb-true b n e))

add_before : (n a : ℕ) (z : ℤ) → le_z (negsuc n) z ≡ true → le_z (negsuc n) (pos a +ℤ z) ≡ true
add_before n a (pos b) e = refl
add_before n a (negsuc b) e = difference n a (suc b) (omega (arith, leb-true b n e))

pub lowest : (job : List ℕ) (loss : ℕ → ℕ) → job_no job ≡ 0 → le_z (negsuc 999) (required_of (decode job) loss) ≡ true
unfolding required_of reach_of elevation_ok
lowest job loss e =
    let j = decode job in
    let a : Accepted j = accept_accepted job e in
    let some = (valid_count a.valid).low in
    let s : SectionIn 1 (section_of j 1) = sections_in j (valid_sections a.valid) 1 (omega arith) some in
    let first : le_z (negsuc 999) (reach_of j loss 1) ≡ true = add_behind 999 (section_of j 1).elevation _ (left _ _ s.elevation) in
    add_before 999 j.header.meter (greatest_to (count_of j) (reach_of j loss))
    (le_trans (negsuc 999) (reach_of j loss 1) (greatest_to (count_of j) (reach_of j loss)) first (greatest_bound (reach_of j loss) (count_of j) 1 (omega arith) some))
