-- Demand 3: "A list of sizes suits an accepted job and an accepted catalogue when it gives each section one of the catalogue's sizes, no
-- section is over its last table row or the velocity limit, and each end has its free head at the delivered head. For every accepted job
-- and every accepted catalogue, a list that the chooser returns suits them at the cost it reports, which is that list's cost by document
-- 01. Nobody who keeps the job and the catalogue can spend less: every other list that suits them costs at least as much. Given enough
-- workspace and result space, the chooser refuses with 16 exactly when no list suits them, and otherwise returns one. All this holds
-- whatever the workspace and the result buffer held before."
-- Document 02, L2: "Where this or a later request changes a definition, demands 2 and 3 mean the changed one."
-- Assumes nothing.
use Rattle.std.specs.Prelude.{◌≡◌, true, false, List, ℕ, ◌≤◌, ◌<◌, pos, ◌+ℤ◌}
use Rattle.std.specs.Int.Signed.{le_z}
use Rattle.basis.specs.Part.{part}
use Rattle.wire.specs.Wire.{be_at}
use Rattle.fields.specs.declared.Job.{Job}
use Rattle.fields.specs.Fields.{count_of}
use Rattle.record.specs.Record.{decode}
use Rattle.acceptance.specs.Acceptance.{job_no}
use Rattle.catalogue.specs.Rules.{cat_no}
use Rattle.heads.specs.Heads.{reach_of}
use Rattle.sizing.specs.Losses.{list_ok, over_any, losses_of}
use Rattle.choosing.specs.Suitable.{cost_of}
use Rattle.choosing.specs.Calls.{Ample, Chosen}

-- each end has its free head at the delivered head: meter loss, elevation, free head and path loss come to no more than it
abbrev pub EndsServed : Job → List ℕ → List ℕ → Type 0
EndsServed job cat list =
    (i : ℕ) → 0 < i → i ≤ count_of job →
    le_z (pos job.header.meter +ℤ reach_of job (losses_of job cat list) i) (pos job.header.delivered) ≡ true

-- when a list suits, end by end, as the demand has it: a size of the catalogue for each section, none over its last row or the limit, each end served
pub record Suited (job : Job) (cat list : List ℕ) : Type 0 where
  pub sizes : list_ok job cat list ≡ true
  pub serves : over_any job cat list ≡ false
  pub ends : EndsServed job cat list

-- the cost that a result reports: its first four bytes
abbrev pub reported : List ℕ → ℕ
reported out = be_at 4 out 0

-- the list that a result holds: the S bytes after them
abbrev pub returned_list : Job → List ℕ → List ℕ
returned_list job out = part out 4 (count_of job)

-- what a caller has in the result buffer
pub record Returned (job : Job) (cat out : List ℕ) : Type 0 where
  -- a list that suits
  pub suits : Suited job cat (returned_list job out)
  -- at the cost it reports, which is that list's cost by document 01
  pub cost : reported out ≡ cost_of job cat (returned_list job out)
  -- every other list that suits costs at least as much
  pub least : (y : List ℕ) → Suited job cat y → reported out ≤ cost_of job cat y

-- 16 exactly when no list suits, and otherwise a list is returned
pub record SixteenOrList (job : Job) (cat out : List ℕ) (n : ℕ) : Type 0 where
  pub none : n ≡ 16 → (y : List ℕ) → Suited job cat y → ⊥
  pub only : ((y : List ℕ) → Suited job cat y → ⊥) → n ≡ 16
  pub otherwise : (n ≡ 16 → ⊥) → (n ≡ 0) × Returned job cat out

-- what follows from the choosing call's promise, whatever workspace and result buffer held before
pub record Demand3 : Type 0 where
  -- where a list is returned, the job and the catalogue are accepted, and it is one of least cost
  pub returned : (b cat out₀ work₀ out work : List ℕ) → Chosen b cat out₀ work₀ out work 0 →
      (job_no b ≡ 0) × (cat_no cat ≡ 0) × Returned (decode b) cat out
  -- given enough workspace and result space, for every accepted job and every accepted catalogue
  pub sixteen : (b cat out₀ work₀ out work : List ℕ) (n : ℕ) → job_no b ≡ 0 → cat_no cat ≡ 0 → Ample b out₀ work₀ →
      Chosen b cat out₀ work₀ out work n → SixteenOrList (decode b) cat out n
