-- The choosing call: document 01, "Refused orders" 1 to 11 and 14 to 16, and the choosing result.
-- Assumes nothing.
use Rattle.std.specs.Prelude.{◌≡◌, ◌⊎◌, Bool, List, [], ◌∷◌, ◌++◌, ℕ, ◌+◌, ◌*◌, ◌≤◌, ltb, length}
use Rattle.basis.specs.Stored.{stored}
use Rattle.answer.specs.Checks.{first_no, too_short}
use Rattle.wire.specs.Wire.{bytes_of}
use Rattle.fields.specs.declared.Job.{Job}
use Rattle.fields.specs.Fields.{count_of}
use Rattle.record.specs.Record.{decode}
use Rattle.acceptance.specs.Acceptance.{input_checks}
use Rattle.choosing.specs.Suitable.{Suitable, cost_of}

-- the length of a choosing result for S sections
abbrev pub choose_length : ℕ → ℕ
choose_length count = 4 + count

-- the workspace for S sections at a delivered head H: 4 × (S + 1) × (H + 1,001) bytes
abbrev pub work_length : ℕ → ℕ → ℕ
work_length count delivered = 4 * ((count + 1) * (delivered + 1001))

-- for a job at its own H
abbrev pub work_of : Job → ℕ
work_of job = work_length (count_of job) job.header.delivered

-- result space and workspace are enough when neither 14 nor 15 applies
pub record Ample (b out work : List ℕ) : Type 0 where
  pub result : choose_length (count_of (decode b)) ≤ length out
  pub space : work_of (decode b) ≤ length work

-- 1 to 11, 14, 15: what is checked before the search
unfoldable pub choose_checks : List ℕ → List ℕ → ℕ → ℕ → List (Bool × ℕ)
choose_checks b cat room work =
    input_checks b cat ++ ((too_short room (choose_length (count_of (decode b))), 14) ∷ (ltb work (work_of (decode b)), 15) ∷ [])

-- the number of the first that finds something, 0 where none does
unfoldable pub choose_no : List ℕ → List ℕ → ℕ → ℕ → ℕ
choose_no b cat room work = first_no (choose_checks b cat room work)

-- the choosing result: cost (4), then S size numbers
unfoldable pub choose_bytes : Job → List ℕ → List ℕ → List ℕ
choose_bytes job cat list = bytes_of 4 (cost_of job cat list) ++ list

-- 16: no list suits, and the result buffer is as it was
pub record Unsuitable (job : Job) (cat before after : List ℕ) (n : ℕ) : Type 0 where
  pub number : n ≡ 16
  pub none : (y : List ℕ) → Suitable job cat y → ⊥
  pub kept : after ≡ before

-- a result: cost and sizes are those of one list; it suits, and every list that suits costs at least as much
pub record Cheapest (job : Job) (cat before after : List ℕ) (n : ℕ) : Type 0 where
  pub number : n ≡ 0
  pub list : List ℕ
  pub suits : Suitable job cat list
  pub least : (y : List ℕ) → Suitable job cat y → cost_of job cat list ≤ cost_of job cat y
  pub written : after ≡ stored before 0 (choose_bytes job cat list)

-- a number found before the search, and both buffers as they were
pub record Refused (no : ℕ) (out₀ work₀ out work : List ℕ) (n : ℕ) : Type 0 where
  pub number : n ≡ no
  pub kept : out ≡ out₀
  pub untouched : work ≡ work₀

-- what a call gives: the number found before the search, else 16 or a result. The workspace is free after 16 and a result
pub record Chosen (b cat out₀ work₀ out work : List ℕ) (n : ℕ) : Type 0 where
  pub refused : (choose_no b cat (length out₀) (length work₀) ≡ 0 → ⊥) → Refused (choose_no b cat (length out₀) (length work₀)) out₀ work₀ out work n
  pub chosen : choose_no b cat (length out₀) (length work₀) ≡ 0 → Unsuitable (decode b) cat out₀ out n ⊎ Cheapest (decode b) cat out₀ out n
