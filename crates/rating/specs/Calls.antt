-- The rating call, document 01, "Refused orders" 1 to 14, and its result; and the losses call, document 02, L3, which gives no heads.
-- Assumes nothing.
use Rattle.std.specs.Prelude.{ℕ, Bool, not, List, [], ◌∷◌, ◌++◌}
use Rattle.basis.specs.Sections.{size_of}
use Rattle.answer.specs.Checks.{first_no, too_short}
use Rattle.fields.specs.declared.Job.{Job}
use Rattle.fields.specs.Fields.{count_of}
use Rattle.record.specs.Record.{decode}
use Rattle.demand.specs.Demand.{section_flow}
use Rattle.acceptance.specs.Acceptance.{input_checks}
use Rattle.sizing.specs.Losses.{list_ok, over_any, reading_of, losses_of}
use Rattle.rated_bytes.specs.RatedBytes.{rate_length, losses_length, result_bytes, figures_bytes}

-- what a call that takes a list of sizes checks: 1 to 11, 12, 14 where the buffer is shorter than its result, which is `long` bytes, then 13
unfoldable pub sized_checks : List ℕ → List ℕ → List ℕ → ℕ → ℕ → List (Bool × ℕ)
sized_checks b cat list room long =
    input_checks b cat ++
    ((not (list_ok (decode b) cat list), 12) ∷ (too_short room long, 14) ∷ (over_any (decode b) cat list, 13) ∷ [])

unfoldable pub sized_no : List ℕ → List ℕ → List ℕ → ℕ → ℕ → ℕ
sized_no b cat list room long = first_no (sized_checks b cat list room long)

-- the rating call with a result buffer of so many bytes
abbrev pub rate_no : List ℕ → List ℕ → List ℕ → ℕ → ℕ
rate_no b cat list room = sized_no b cat list room (rate_length (count_of (decode b)))

-- the losses call
abbrev pub losses_no : List ℕ → List ℕ → List ℕ → ℕ → ℕ
losses_no b cat list room = sized_no b cat list room (losses_length (count_of (decode b)))

-- the rating result
unfoldable pub rate_bytes : Job → List ℕ → List ℕ → List ℕ
rate_bytes job cat list = result_bytes job (λ i. (reading_of job cat (size_of list i) i).velocity) (losses_of job cat list)

-- the losses result
unfoldable pub losses_bytes : Job → List ℕ → List ℕ → List ℕ
losses_bytes job cat list =
    figures_bytes job (section_flow job) (λ i. (reading_of job cat (size_of list i) i).velocity) (losses_of job cat list)
