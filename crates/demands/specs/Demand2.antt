-- Demand 2: "Flows, demands, velocities, losses, required head and pump head are those of the SNiP formulas with the units and roundings
-- of document 01, and a job record written and read again has the same fields, as an accepted record read and written has the same bytes."
-- Document 02, L2: "Where this or a later request changes a definition, demands 2 and 3 mean the changed one."
-- The figures are read back from a result's bytes by its layout, as a caller reads them. The formulas are the definitions named here.
-- Assumes nothing.
use Rattle.std.specs.Prelude.{◌≡◌, true, false, List, ℕ, ◌+◌, ◌-◌, ◌*◌, ◌≤◌, ◌<◌, length}
use Rattle.basis.specs.Part.{part}
use Rattle.basis.specs.Sections.{size_of}
use Rattle.wire.specs.Wire.{byte_at, be_at, signed_of}
use Rattle.fields.specs.declared.Job.{Job}
use Rattle.fields.specs.Fields.{count_of}
use Rattle.record.specs.Record.{decode, encode}
use Rattle.job.specs.Calls.{read_no, read_job, write_no, copy_no, WrittenRead, SameFields}
use Rattle.demand.specs.Demand.{hour_of, day_of, mean_of, section_flow, house_flow}
use Rattle.heads.specs.Heads.{required_of, pump_of, dictating_of}
use Rattle.acceptance.specs.Acceptance.{job_no}
use Rattle.catalogue.specs.Rules.{cat_no}
use Rattle.sizing.specs.Losses.{list_ok, over_any, reading_of, losses_of}
use Rattle.flow.specs.Calls.{flow_length, flow_no, duty_no}
use Rattle.rated_bytes.specs.RatedBytes.{rate_length, losses_length, heads_length}
use Rattle.rating.specs.Calls.{rate_no, losses_no}
use Rattle.lent_losses.specs.LentLosses.{loss_in, losses_ok}
use Rattle.lent_losses.specs.Calls.{heads_no}
use Rattle.order.specs.Promises.{Copied, FlowGiven, DutyGiven, Rated, LossesGiven, HeadsGiven}

-- what is lent is bytes, as it always is: the parameters are slices of bytes
abbrev pub Bytes : List ℕ → Type 0
Bytes b = (k : ℕ) → byte_at b k < 256

-- the figures of a flow result: hour in l/h, day in l, mean hour in l/h, and each section's flow in ml/s
pub record FlowFigures (job : Job) (out : List ℕ) : Type 0 where
  pub hour : be_at 4 out 0 ≡ hour_of job
  pub day : be_at 4 out 4 ≡ day_of job
  pub mean : be_at 4 out 8 ≡ mean_of job
  pub flow : (i : ℕ) → 0 < i → i ≤ count_of job → be_at 4 out (12 + 4 * (i - 1)) ≡ section_flow job i

-- the heads with these losses: required head, signed, and pump head in cm, and the dictating section
pub record HeadFigures (job : Job) (loss : ℕ → ℕ) (out : List ℕ) : Type 0 where
  pub required : signed_of 32 (be_at 4 out 0) ≡ required_of job loss
  pub pump : be_at 4 out 4 ≡ pump_of job loss
  pub dictating : byte_at out 8 ≡ dictating_of job loss

-- the figures of a rating result: the heads, and each section's velocity in mm/s and loss in cm
pub record RateFigures (job : Job) (cat sizes out : List ℕ) : Type 0 where
  pub heads : HeadFigures job (losses_of job cat sizes) out
  pub velocity : (i : ℕ) → 0 < i → i ≤ count_of job → be_at 2 out (9 + 6 * (i - 1)) ≡ (reading_of job cat (size_of sizes i) i).velocity
  pub loss : (i : ℕ) → 0 < i → i ≤ count_of job → be_at 4 out (11 + 6 * (i - 1)) ≡ losses_of job cat sizes i

-- the figures of a losses result: each section's flow in ml/s, velocity in mm/s and loss in cm
pub record LossFigures (job : Job) (cat sizes out : List ℕ) : Type 0 where
  pub flow : (i : ℕ) → 0 < i → i ≤ count_of job → be_at 4 out (10 * (i - 1)) ≡ section_flow job i
  pub velocity : (i : ℕ) → 0 < i → i ≤ count_of job → be_at 2 out (10 * (i - 1) + 4) ≡ (reading_of job cat (size_of sizes i) i).velocity
  pub loss : (i : ℕ) → 0 < i → i ≤ count_of job → be_at 4 out (10 * (i - 1) + 6) ≡ losses_of job cat sizes i

pub record Demand2 : Type 0 where
  -- an accepted job gets its flows and its duty, given room for them
  pub flow_given : (b : List ℕ) (room : ℕ) → job_no b ≡ 0 → flow_length (count_of (decode b)) ≤ room → flow_no b room ≡ 0
  pub duty_given : (b : List ℕ) (room : ℕ) → job_no b ≡ 0 → 4 ≤ room → duty_no b room ≡ 0
  -- and an accepted catalogue with a list that names its sizes, with no section over, a rating
  pub rate_given : (b cat sizes : List ℕ) (room : ℕ) → job_no b ≡ 0 → cat_no cat ≡ 0 → list_ok (decode b) cat sizes ≡ true →
      over_any (decode b) cat sizes ≡ false → rate_length (count_of (decode b)) ≤ room → rate_no b cat sizes room ≡ 0
  -- with a section over its last row or the limit the number is 13
  pub rate_over : (b cat sizes : List ℕ) (room : ℕ) → job_no b ≡ 0 → cat_no cat ≡ 0 → list_ok (decode b) cat sizes ≡ true →
      over_any (decode b) cat sizes ≡ true → rate_length (count_of (decode b)) ≤ room → rate_no b cat sizes room ≡ 13
  -- the losses call likewise
  pub losses_given : (b cat sizes : List ℕ) (room : ℕ) → job_no b ≡ 0 → cat_no cat ≡ 0 → list_ok (decode b) cat sizes ≡ true →
      over_any (decode b) cat sizes ≡ false → losses_length (count_of (decode b)) ≤ room → losses_no b cat sizes room ≡ 0
  pub losses_over : (b cat sizes : List ℕ) (room : ℕ) → job_no b ≡ 0 → cat_no cat ≡ 0 → list_ok (decode b) cat sizes ≡ true →
      over_any (decode b) cat sizes ≡ true → losses_length (count_of (decode b)) ≤ room → losses_no b cat sizes room ≡ 13
  -- an accepted job with losses that pass 19, whoever wrote them, gets its heads, and 19 with others
  pub heads_given : (b losses : List ℕ) (room : ℕ) → job_no b ≡ 0 → losses_ok (count_of (decode b)) losses ≡ true → heads_length ≤ room →
      heads_no b losses room ≡ 0
  pub heads_refused : (b losses : List ℕ) (room : ℕ) → job_no b ≡ 0 → losses_ok (count_of (decode b)) losses ≡ false → heads_no b losses room ≡ 19
  -- where the number is 0 the figures are these: of the flow call
  pub flow : (job out₀ out : List ℕ) → Bytes job → FlowGiven job out₀ out 0 → FlowFigures (decode job) out
  -- of the duty call, the house's design flow in ml/s
  pub duty : (job out₀ out : List ℕ) → DutyGiven job out₀ out 0 → be_at 4 out 0 ≡ house_flow (decode job)
  -- of the rating call
  pub rate : (job cat sizes out₀ out : List ℕ) → Bytes cat → Rated job cat sizes out₀ out 0 → RateFigures (decode job) cat sizes out
  -- of the losses call
  pub losses : (job cat sizes out₀ out : List ℕ) → Bytes cat → LossesGiven job cat sizes out₀ out 0 → LossFigures (decode job) cat sizes out
  -- of the heads call, with the losses that are given as the sections' own
  pub heads : (job losses out₀ out : List ℕ) → HeadsGiven job losses out₀ out 0 → HeadFigures (decode job) (loss_in losses) out
  -- a job record written and read again has the same fields
  pub same_fields : (job again : Job) (out₀ out : List ℕ) → WrittenRead job out₀ out 0 again → SameFields job again
  -- an accepted record read and written has the same bytes, by the reader and the writer and by the call that does both
  pub same_bytes : (b : List ℕ) → Bytes b → read_no b ≡ 0 → encode (read_job b) ≡ b
  pub copied : (job out₀ out : List ℕ) → Copied job out₀ out 0 → part out 0 (length job) ≡ job
  -- and neither refuses it, given room for it
  pub write_given : (b : List ℕ) (room : ℕ) → read_no b ≡ 0 → length b ≤ room → write_no (read_job b) room ≡ 0
  pub copy_given : (b : List ℕ) (room : ℕ) → read_no b ≡ 0 → length b ≤ room → copy_no b room ≡ 0
