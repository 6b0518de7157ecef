-- Demand 1: a call's number is 0 or among those of its list of checks, and a number other than 0 leaves what was lent as it was.
-- Assumes nothing.
use mathlib.Core.Path.{◌≡◌, refl, ◌∙◌}
use mathlib.Core.Logic.{◌⊎◌, inl, inr, ⊎_elim}
use mathlib.Core.Bool.{Bool, true, false}
use mathlib.Core.List.{List, [], ◌∷◌, ◌++◌}
use Prim.Native.Nat.{ℕ}
use lib.ListN.{length}
use borrow.Author.Tests.{ne_eqb}
use Rattle.std.proofs.lemmas.Bool.{cases_eq}
use Rattle.answer.specs.Checks.{first_no}
use Rattle.rules.specs.Rules.{field_checks}
use Rattle.job.specs.Calls.{shape_checks, read_checks, read_no, write_checks, write_no, copy_checks, copy_no}
use Rattle.demand.specs.Demand.{demand_checks}
use Rattle.catalogue.specs.Rules.{cat_checks}
use Rattle.acceptance.specs.Acceptance.{job_checks, input_checks}
use Rattle.flow.specs.Calls.{flow_no, duty_no}
use Rattle.heating.specs.Calls.{heat_no}
use Rattle.metering.specs.Calls.{meter_no}
use Rattle.rating.specs.Calls.{sized_checks, sized_no}
use Rattle.lent_losses.specs.Calls.{heads_no}
use Rattle.choosing.specs.Calls.{choose_checks, choose_no, Chosen}
use Rattle.order.specs.Promises.{Gives}
use Rattle.demands.specs.Demand1.{Call, Read, Write, Copy, Flow, Duty, Heat, Meter, Rate, Losses, Heads, Choose, numbers_of, Among, Called, read, written, copied, flow_given, duty_given, heat_given, meter_given, rated, losses_given, heads_given, chosen, Answered, Demand1}

-- the numbers of a list of checks
numbers : List (Bool × ℕ) → List ℕ
numbers [] = []
numbers (check ∷ rest) = check.1 ∷ numbers rest

first_among : (l : List (Bool × ℕ)) → (first_no l ≡ 0) ⊎ Among (first_no l) (numbers l)
unfolding first_no numbers
first_among [] = inl refl
first_among ((true, n) ∷ l) = inr (inl refl)
first_among ((false, n) ∷ l) = ⊎_elim inl (λ a. inr (inr a)) (first_among l)

among_more : (n : ℕ) (l m : List ℕ) → Among n l → Among n (l ++ m)
among_more n [] m a = elim a [ ]
among_more n (x ∷ l) m a = ⊎_elim inl (λ b. inr (among_more n l m b)) a

among_last : (n : ℕ) (l : List ℕ) → Among n (l ++ (n ∷ []))
among_last n [] = inl refl
among_last n (x ∷ l) = inr (among_last n l)

-- a call without a workspace, whose number is that of its checks
checked : (call : Call) (checks : List (Bool × ℕ)) → numbers checks ≡ numbers_of call → {out₀ out : List ℕ} {n : ℕ} → n ≡ first_no checks →
    ((n ≡ 0 → ⊥) → out ≡ out₀) → Answered call out₀ out [] [] n
checked call checks e {n = n} number kept =
    record {
      answer = ⊎_elim
          inl
          (λ other. inr (rw (number, ← e) (⊎_elim (λ z. absurd (other (number ∙ z))) (λ a. a) (first_among checks)), kept other))
          (cases_eq n 0);
      workspace = λ other not_16. refl;
    }

gives_answered : (call : Call) (checks : List (Bool × ℕ)) → numbers checks ≡ numbers_of call → {bytes out₀ out : List ℕ} {n : ℕ} →
    Gives (first_no checks) bytes out₀ out n → Answered call out₀ out [] [] n
gives_answered call checks e {n = n} g = checked call checks e g.number (λ other. g.buffer ∙ rw (ne_eqb n 0 other))

-- choosing: the checks before the search, then 16 or a result
chosen_answered : {b cat out₀ work₀ out work : List ℕ} {n : ℕ} → Chosen b cat out₀ work₀ out work n → Answered Choose out₀ out work₀ work n
unfolding numbers choose_no choose_checks input_checks job_checks read_checks shape_checks field_checks demand_checks cat_checks
chosen_answered {b} {cat} {out₀} {work₀} {out} {work} {n} c =
    let checks = choose_checks b cat (length out₀) (length work₀) in
    ⊎_elim
    (λ e. ⊎_elim
    (λ u. record {
      answer = inr (rw u.number (among_last 16 (numbers checks)), u.kept);
      workspace = λ other not_16. absurd (not_16 u.number);
    })
    (λ f. record { answer = inl f.number; workspace = λ other not_16. absurd (other f.number) })
    (c.chosen e))
    (λ other. let r = c.refused other in
    record {
      answer = inr
          (rw r.number (among_more (first_no checks) (numbers checks) (16 ∷ []) (⊎_elim (λ z. absurd (other z)) (λ a. a) (first_among checks))), r.kept);
      workspace = λ no not_16. r.untouched;
    })
    (cases_eq (choose_no b cat (length out₀) (length work₀)) 0)

answered : {call : Call} {out₀ out work₀ work : List ℕ} {n : ℕ} → Called call out₀ out work₀ work n → Answered call out₀ out work₀ work n
unfolding
    numbers read_no write_no write_checks copy_no copy_checks flow_no duty_no heat_no meter_no sized_no sized_checks heads_no
    input_checks job_checks read_checks shape_checks field_checks demand_checks cat_checks
answered (read b e) = checked Read (read_checks b) refl e (λ other. refl)
answered (written job g) = gives_answered Write _ refl g
answered (copied job g) = gives_answered Copy _ refl g
answered (flow_given job g) = gives_answered Flow _ refl g
answered (duty_given job g) = gives_answered Duty _ refl g
answered (heat_given job t loss g) = gives_answered Heat _ refl g
answered (meter_given job meters g) = gives_answered Meter _ refl g
answered (rated job cat sizes g) = gives_answered Rate _ refl g
answered (losses_given job cat sizes g) = gives_answered Losses _ refl g
answered (heads_given job losses g) = gives_answered Heads _ refl g
answered (chosen job cat c) = chosen_answered c

pub demand_1 : Demand1
demand_1 = record { answered = answered }
