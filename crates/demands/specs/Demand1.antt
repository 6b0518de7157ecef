-- Demand 1: "Whoever wrote the job, the catalogue or the list of sizes, each call comes back with a result or with a number from the
-- table in document 01, nobody has to check the input first, and a refusal leaves the result buffer untouched."
-- Each call comes back: the check shows of every function that it ends. Nobody has to check the input first: none of these calls has a
-- `requires`.
-- Assumes nothing.
use Rattle.std.specs.Prelude.{◌≡◌, ◌⊎◌, List, [], ◌∷◌, ℕ, length}
use Rattle.fields.specs.declared.Job.{Job}
use Rattle.record.specs.Record.{encode}
use Rattle.job.specs.Calls.{read_no, write_no}
use Rattle.choosing.specs.Calls.{Chosen}
use Rattle.order.specs.Promises.{Gives, Copied, FlowGiven, DutyGiven, HeatGiven, MeterGiven, Rated, LossesGiven, HeadsGiven}

-- the reader and the writer of a record, and the exported calls
pub data Call : Type 0 where
  Read Write Copy Flow Duty Heat Meter Rate Losses Heads Choose : Call

-- the numbers of the table, 17 and on of document 02, that a call can give, in the order of its checks
abbrev pub numbers_of : Call → List ℕ
numbers_of Read = 1 ∷ 2 ∷ 3 ∷ 4 ∷ 5 ∷ 6 ∷ 7 ∷ []
numbers_of Write = 2 ∷ 3 ∷ 5 ∷ 6 ∷ 7 ∷ 14 ∷ []
numbers_of Copy = 1 ∷ 2 ∷ 3 ∷ 4 ∷ 5 ∷ 6 ∷ 7 ∷ 14 ∷ []
numbers_of Flow = 1 ∷ 2 ∷ 3 ∷ 4 ∷ 5 ∷ 6 ∷ 7 ∷ 8 ∷ 9 ∷ 14 ∷ []
numbers_of Duty = 1 ∷ 2 ∷ 3 ∷ 4 ∷ 5 ∷ 6 ∷ 7 ∷ 8 ∷ 9 ∷ 14 ∷ []
numbers_of Heat = 1 ∷ 2 ∷ 3 ∷ 4 ∷ 5 ∷ 6 ∷ 7 ∷ 8 ∷ 9 ∷ 20 ∷ 21 ∷ 14 ∷ []
numbers_of Meter = 1 ∷ 2 ∷ 3 ∷ 4 ∷ 5 ∷ 6 ∷ 7 ∷ 8 ∷ 9 ∷ 17 ∷ 14 ∷ 18 ∷ []
numbers_of Rate = 1 ∷ 2 ∷ 3 ∷ 4 ∷ 5 ∷ 6 ∷ 7 ∷ 8 ∷ 9 ∷ 10 ∷ 11 ∷ 12 ∷ 14 ∷ 13 ∷ []
numbers_of Losses = 1 ∷ 2 ∷ 3 ∷ 4 ∷ 5 ∷ 6 ∷ 7 ∷ 8 ∷ 9 ∷ 10 ∷ 11 ∷ 12 ∷ 14 ∷ 13 ∷ []
numbers_of Heads = 1 ∷ 2 ∷ 3 ∷ 4 ∷ 5 ∷ 6 ∷ 7 ∷ 8 ∷ 9 ∷ 19 ∷ 14 ∷ []
numbers_of Choose = 1 ∷ 2 ∷ 3 ∷ 4 ∷ 5 ∷ 6 ∷ 7 ∷ 8 ∷ 9 ∷ 10 ∷ 11 ∷ 14 ∷ 15 ∷ 16 ∷ []

-- n is one of them
abbrev pub Among : ℕ → List ℕ → Type 0
Among n [] = ⊥
Among n (x ∷ l) = (n ≡ x) ⊎ Among n l

-- a call kept its promise: result buffer and workspace before and after it, empty where it has none, and the number that it gave
pub data Called : Call → List ℕ → List ℕ → List ℕ → List ℕ → ℕ → Type 0 where
  read : {n : ℕ} (b : List ℕ) → n ≡ read_no b → Called Read [] [] [] [] n
  written : {out₀ out : List ℕ} {n : ℕ} (job : Job) → Gives (write_no job (length out₀)) (encode job) out₀ out n → Called Write out₀ out [] [] n
  copied : {out₀ out : List ℕ} {n : ℕ} (job : List ℕ) → Copied job out₀ out n → Called Copy out₀ out [] [] n
  flow_given : {out₀ out : List ℕ} {n : ℕ} (job : List ℕ) → FlowGiven job out₀ out n → Called Flow out₀ out [] [] n
  duty_given : {out₀ out : List ℕ} {n : ℕ} (job : List ℕ) → DutyGiven job out₀ out n → Called Duty out₀ out [] [] n
  heat_given : {out₀ out : List ℕ} {n : ℕ} (job : List ℕ) (t loss : ℕ) → HeatGiven job t loss out₀ out n → Called Heat out₀ out [] [] n
  meter_given : {out₀ out : List ℕ} {n : ℕ} (job meters : List ℕ) → MeterGiven job meters out₀ out n → Called Meter out₀ out [] [] n
  rated : {out₀ out : List ℕ} {n : ℕ} (job cat sizes : List ℕ) → Rated job cat sizes out₀ out n → Called Rate out₀ out [] [] n
  losses_given : {out₀ out : List ℕ} {n : ℕ} (job cat sizes : List ℕ) → LossesGiven job cat sizes out₀ out n → Called Losses out₀ out [] [] n
  heads_given : {out₀ out : List ℕ} {n : ℕ} (job losses : List ℕ) → HeadsGiven job losses out₀ out n → Called Heads out₀ out [] [] n
  chosen : {out₀ out work₀ work : List ℕ} {n : ℕ} (job cat : List ℕ) → Chosen job cat out₀ work₀ out work n → Called Choose out₀ out work₀ work n

-- what it then gave: a result, or a number from the table with the result buffer untouched, and the workspace too but for 16
pub record Answered (call : Call) (out₀ out work₀ work : List ℕ) (n : ℕ) : Type 0 where
  pub answer : (n ≡ 0) ⊎ (Among n (numbers_of call) × (out ≡ out₀))
  pub workspace : (n ≡ 0 → ⊥) → (n ≡ 16 → ⊥) → work ≡ work₀

pub record Demand1 : Type 0 where
  pub answered : {call : Call} {out₀ out work₀ work : List ℕ} {n : ℕ} → Called call out₀ out work₀ work n → Answered call out₀ out work₀ work n
