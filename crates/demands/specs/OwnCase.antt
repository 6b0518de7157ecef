-- Document 01's own case as bytes: what its theorem says, over the definitions that the contracts cite.
-- Assumes nothing.
use Rattle.std.specs.Prelude.{◌≡◌, List, [], ◌∷◌, ℕ, ◌≤◌, pos}
use Rattle.basis.specs.Stored.{stored}
use Rattle.record.specs.Record.{decode}
use Rattle.tree.specs.Tree.{served_of, house_of}
use Rattle.coefficient.specs.Alpha.{alpha_of}
use Rattle.demand.specs.Demand.{m_of, section_flow, house_flow, hour_of, day_of, mean_of}
use Rattle.acceptance.specs.Acceptance.{job_no}
use Rattle.catalogue.specs.Rules.{cat_no}
use Rattle.heads.specs.Heads.{required_of, pump_of, dictating_of}
use Rattle.sizing.specs.Losses.{reading_of, loss_at, losses_of}
use Rattle.job.specs.Calls.{copy_no}
use Rattle.flow.specs.Calls.{flow_no, duty_no}
use Rattle.heating.specs.Calls.{heat_no, heat_bytes}
use Rattle.meters.specs.Meters.{meter_at, meter_loss}
use Rattle.metering.specs.Calls.{place_for, meter_bytes, meter_no}
use Rattle.rating.specs.Calls.{rate_no, losses_no, losses_bytes}
use Rattle.lent_losses.specs.Calls.{heads_no, lent_bytes}
use Rattle.choosing.specs.Suitable.{Suitable, cost_of}
use Rattle.choosing.specs.Calls.{Ample, choose_no, Chosen}
use Rattle.demands.specs.HotAndCold.{in_version_two}

-- the job's bytes, with the two of H left open: head, residents and the one section
abbrev pub job_of : ℕ → ℕ → List ℕ
job_of high low =
    0 ∷ 0 ∷ 0 ∷ 50 ∷ 1 ∷ 3 ∷ 1 ∷ 24 ∷ 0 ∷ 50 ∷ 1 ∷ 244 ∷ high ∷ low ∷ 5 ∷ 220 ∷
    0 ∷ 0 ∷ 0 ∷ 0 ∷ 0 ∷ 0 ∷ 0 ∷ 0 ∷ 0 ∷ 0 ∷ 0 ∷ 0 ∷ 0 ∷ 71 ∷ 0 ∷ 0 ∷ 0 ∷ 0 ∷ 0 ∷ 0 ∷ 0 ∷ 0 ∷ 0 ∷ 0 ∷
    0 ∷ 7 ∷ 0 ∷ 80 ∷ 0 ∷ 100 ∷ 2 ∷ 88 ∷ 0 ∷ 200 ∷ []

-- the catalogue's bytes: head, size 1 and size 2
abbrev pub own_cat : List ℕ
own_cat =
    0 ∷ 0 ∷ 0 ∷ 47 ∷ 1 ∷ 2 ∷ 2 ∷
    0 ∷ 40 ∷ 3 ∷ 132 ∷ 0 ∷ 0 ∷ 3 ∷ 232 ∷ 3 ∷ 32 ∷ 0 ∷ 40 ∷ 0 ∷ 0 ∷ 11 ∷ 184 ∷ 9 ∷ 96 ∷ 1 ∷ 44 ∷
    0 ∷ 50 ∷ 5 ∷ 20 ∷ 0 ∷ 0 ∷ 3 ∷ 232 ∷ 1 ∷ 244 ∷ 0 ∷ 12 ∷ 0 ∷ 0 ∷ 11 ∷ 184 ∷ 5 ∷ 220 ∷ 0 ∷ 90 ∷ []

-- H 1,200, 921 and 920
abbrev pub own_job : List ℕ
own_job = job_of 4 176

abbrev pub job921 : List ℕ
job921 = job_of 3 153

abbrev pub job920 : List ℕ
job920 = job_of 3 152

-- the same house in version 2: total (0), cold (1) or hot (2)
abbrev pub line_of : ℕ → List ℕ
line_of service =
    0 ∷ 0 ∷ 0 ∷ 51 ∷ 2 ∷ 3 ∷ 1 ∷ 24 ∷ 0 ∷ 50 ∷ 1 ∷ 244 ∷ 4 ∷ 176 ∷ 5 ∷ 220 ∷
    0 ∷ 0 ∷ 0 ∷ 0 ∷ 0 ∷ 0 ∷ 0 ∷ 0 ∷ 0 ∷ 0 ∷ 0 ∷ 0 ∷ 0 ∷ 71 ∷ 0 ∷ 0 ∷ 0 ∷ 0 ∷ 0 ∷ 0 ∷ 0 ∷ 0 ∷ 0 ∷ 0 ∷
    service ∷
    0 ∷ 7 ∷ 0 ∷ 80 ∷ 0 ∷ 100 ∷ 2 ∷ 88 ∷ 0 ∷ 200 ∷ []

-- its head alone, which states 40 bytes
abbrev pub head_alone : ℕ → List ℕ
head_alone tenths =
    0 ∷ 0 ∷ 0 ∷ 40 ∷ 2 ∷ tenths ∷ 1 ∷ 24 ∷ 0 ∷ 50 ∷ 1 ∷ 244 ∷ 4 ∷ 176 ∷ 5 ∷ 220 ∷
    0 ∷ 0 ∷ 0 ∷ 0 ∷ 0 ∷ 0 ∷ 0 ∷ 0 ∷ 0 ∷ 0 ∷ 0 ∷ 0 ∷ 0 ∷ 71 ∷ 0 ∷ 0 ∷ 0 ∷ 0 ∷ 0 ∷ 0 ∷ 0 ∷ 0 ∷ 0 ∷ 0 ∷ []

-- a turbine meter of resistance 5,938 and two vane meters of 6,000 and 5,000; the service flow is 512 more than its low byte
abbrev pub meters_of : ℕ → List ℕ
meters_of low = 2 ∷ 23 ∷ 50 ∷ 2 ∷ low ∷ 1 ∷ 23 ∷ 112 ∷ 2 ∷ low ∷ 1 ∷ 19 ∷ 136 ∷ 2 ∷ low ∷ []

-- two vane meters of resistance 2 and 1, service flow 740
abbrev pub equal_meters : List ℕ
equal_meters = 1 ∷ 0 ∷ 2 ∷ 2 ∷ 228 ∷ 1 ∷ 0 ∷ 1 ∷ 2 ∷ 228 ∷ []

-- one loss of less than 65,536 cm
abbrev pub loss_alone : ℕ → ℕ → List ℕ
loss_alone high low = 0 ∷ 0 ∷ high ∷ low ∷ []

-- document 01's figures of its own case, and what each call gives there
pub record OwnCase : Type 0 where
  -- the job is accepted
  pub job : job_no own_job ≡ 0
  -- the catalogue is accepted
  pub cat : cat_no own_cat ≡ 0
  -- m of the section
  pub section_m : m_of (decode own_job) (served_of (decode own_job) 1) ≡ 1840741
  -- m of the house
  pub house_m : m_of (decode own_job) (house_of (decode own_job)) ≡ 1840741
  -- α of that m
  pub own_α : alpha_of 1840741 ≡ 1367927
  -- α just under the table's first key
  pub under_α : alpha_of 14999 ≡ 200000
  -- α at the first key
  pub first_α : alpha_of 15000 ≡ 202000
  -- α at the last key
  pub last_α : alpha_of 400000000 ≡ 91900000
  -- the flow of the section, ml/s
  pub flow : section_flow (decode own_job) 1 ≡ 2052
  -- the flow of the house, ml/s
  pub house_flow_lem : house_flow (decode own_job) ≡ 2052
  -- the hour of the house, l/h
  pub hour : hour_of (decode own_job) ≡ 4542
  -- the day of the house, l
  pub day : day_of (decode own_job) ≡ 17750
  -- the mean hour
  pub mean : mean_of (decode own_job) ≡ 740
  -- copying, flow and duty give a result where there is room for it
  pub copied : copy_no own_job 50 ≡ 0
  pub flowed : flow_no own_job 16 ≡ 0
  pub duty_given : duty_no own_job 4 ≡ 0
  -- document 02, L1: the turbine meter loses 251 cm, one more than it may, and the vane meters 253 and 211
  pub meter_losses : (meter_loss (meter_at (meters_of 228) 1) 2052 ≡ 251) × (meter_loss (meter_at (meters_of 228) 2) 2052 ≡ 253) ×
      (meter_loss (meter_at (meters_of 228) 3) 2052 ≡ 211)
  -- at a service flow of 740 place 3 wins, and the result is 3 and the record with 211 in place of 50
  pub meter_given : meter_no own_job (meters_of 228) 51 ≡ 0
  pub meter_bytes_lem : meter_bytes own_job (meters_of 228) ≡ 3 ∷ stored own_job 8 (0 ∷ 211 ∷ [])
  -- 739 is below the mean hour; 50 bytes are too few for a result, which is found first; and 16 bytes are no list
  pub meter_none : meter_no own_job (meters_of 227) 51 ≡ 18
  pub meter_room : meter_no own_job (meters_of 227) 50 ≡ 14
  pub meter_list : meter_no own_job (1 ∷ meters_of 228) 50 ≡ 17
  -- two meters that both lose 1 cm: the lower place wins, whatever the resistances
  pub equal_losses : (meter_loss (meter_at equal_meters 1) 2052 ≡ 1) × (meter_loss (meter_at equal_meters 2) 2052 ≡ 1)
  pub equal_place : place_for (decode own_job) equal_meters ≡ 1
  -- rating takes size 2
  pub rated : rate_no own_job own_cat (2 ∷ []) 15 ≡ 0
  -- the velocity of size 2, mm/s
  pub velocity : (reading_of (decode own_job) own_cat 2 1).velocity ≡ 1026
  -- the loss of size 2, cm
  pub loss : loss_at (decode own_job) own_cat 2 1 ≡ 71
  -- the required head, cm
  pub required : required_of (decode own_job) (losses_of (decode own_job) own_cat (2 ∷ [])) ≡ pos 921
  -- the pump head, cm
  pub pump : pump_of (decode own_job) (losses_of (decode own_job) own_cat (2 ∷ [])) ≡ 421
  -- the dictating section
  pub dictating : dictating_of (decode own_job) (losses_of (decode own_job) own_cat (2 ∷ [])) ≡ 1
  -- the velocity of size 1, over the limit of 1,500 mm/s
  pub fast : (reading_of (decode own_job) own_cat 1 1).velocity ≡ 1642
  -- so rating gives 13
  pub refused : rate_no own_job own_cat (1 ∷ []) 15 ≡ 13
  -- document 02, L3: ten bytes are enough for the losses, and they are the flow, the velocity and the loss; size 1 is over the limit, 13 with ten bytes and
  -- 14 with nine, which is found first
  pub losses_given : losses_no own_job own_cat (2 ∷ []) 10 ≡ 0
  pub losses_bytes_lem : losses_bytes (decode own_job) own_cat (2 ∷ []) ≡ 0 ∷ 0 ∷ 8 ∷ 4 ∷ 4 ∷ 2 ∷ 0 ∷ 0 ∷ 0 ∷ 71 ∷ []
  pub losses_room : losses_no own_job own_cat (1 ∷ []) 9 ≡ 14
  pub losses_over : losses_no own_job own_cat (1 ∷ []) 10 ≡ 13
  -- the heads of that loss are the rating's, 921, 421 and section 1; those of no loss are 850, 350 and section 1
  pub heads_given : heads_no own_job (loss_alone 0 71) 9 ≡ 0
  pub heads_bytes_lem : lent_bytes (decode own_job) (loss_alone 0 71) ≡ 0 ∷ 0 ∷ 3 ∷ 153 ∷ 0 ∷ 0 ∷ 1 ∷ 165 ∷ 1 ∷ []
  pub no_loss : heads_no own_job (loss_alone 0 0) 9 ≡ 0
  pub no_loss_bytes : lent_bytes (decode own_job) (loss_alone 0 0) ≡ 0 ∷ 0 ∷ 3 ∷ 82 ∷ 0 ∷ 0 ∷ 1 ∷ 94 ∷ 1 ∷ []
  -- 4,259,775 cm are taken and one more is not; five bytes are no list, which is found before the room
  pub most_loss_lem : heads_no own_job (0 ∷ 64 ∷ 255 ∷ 191 ∷ []) 9 ≡ 0
  pub over_loss : heads_no own_job (0 ∷ 64 ∷ 255 ∷ 192 ∷ []) 9 ≡ 19
  pub losses_list : heads_no own_job (0 ∷ loss_alone 0 71) 8 ≡ 19
  pub heads_room : heads_no own_job (loss_alone 0 71) 8 ≡ 14
  -- document 02, L4: the house in version 2 has the fields of version 1 where its service is total
  pub own_in_two : in_version_two own_job ≡ line_of 0
  -- it is accepted as total, as its cold line and as its hot line, and has these flows in ml/s, hours in l/h, days in l and mean hours in l/h
  pub lines_accepted : (job_no (line_of 0) ≡ 0) × (job_no (line_of 1) ≡ 0) × (job_no (line_of 2) ≡ 0)
  pub line_flows : (section_flow (decode (line_of 0)) 1 ≡ 2052) × (section_flow (decode (line_of 1)) 1 ≡ 1112) × (section_flow (decode (line_of 2)) 1 ≡ 1206)
  pub line_hours : (hour_of (decode (line_of 0)) ≡ 4542) × (hour_of (decode (line_of 1)) ≡ 2385) × (hour_of (decode (line_of 2)) ≡ 2624)
  pub line_days : (day_of (decode (line_of 0)) ≡ 17750) × (day_of (decode (line_of 1)) ≡ 7100) × (day_of (decode (line_of 2)) ≡ 10650)
  pub line_means : (mean_of (decode (line_of 0)) ≡ 740) × (mean_of (decode (line_of 1)) ≡ 296) × (mean_of (decode (line_of 2)) ≡ 444)
  -- the hot line with cold water of 5 °C and a loss of 1,200 W takes 26,952 W in the mean hour and 153,392 W in the greatest
  pub heat_given : heat_no (line_of 2) 5 1200 8 ≡ 0
  pub heat_bytes_lem : heat_bytes (decode (line_of 2)) 5 1200 ≡ 0 ∷ 0 ∷ 105 ∷ 72 ∷ 0 ∷ 2 ∷ 87 ∷ 48 ∷ []
  -- the cold line is not heated, which is found before 31 °C, which is found before seven bytes of room
  pub heat_not_hot : heat_no (line_of 1) 31 1200 7 ≡ 20
  pub heat_temperature : heat_no (line_of 2) 31 1200 7 ≡ 21
  pub heat_loss : heat_no (line_of 2) 30 1000001 7 ≡ 21
  pub heat_room : heat_no (line_of 2) 30 1000000 7 ≡ 14
  -- there is no service 3; in version 1 byte 40 is a section's parent
  pub service_three : job_no (line_of 3) ≡ 3
  pub parent_three : job_no (stored own_job 40 (3 ∷ [])) ≡ 5
  -- a record that ends before its service byte is 4, and 3 with a head field out of range
  pub ends_early : (job_no (head_alone 3) ≡ 4) × (job_no (head_alone 4) ≡ 3)
  -- size 1 suits the cold line and the hot line, at 90,000, and nobody can spend less
  pub cold_suits : Suitable (decode (line_of 1)) own_cat (1 ∷ [])
  pub hot_suits : Suitable (decode (line_of 2)) own_cat (1 ∷ [])
  pub line_costs : (cost_of (decode (line_of 1)) own_cat (1 ∷ []) ≡ 90000) × (cost_of (decode (line_of 2)) own_cat (1 ∷ []) ≡ 90000)
  pub line_least : (service : ℕ) (y : List ℕ) → Suitable (decode (line_of service)) own_cat y → 90000 ≤ cost_of (decode (line_of service)) own_cat y
  -- the job with H 921 is accepted
  pub job_921 : job_no job921 ≡ 0
  -- size 2 suits it
  pub suits_921 : Suitable (decode job921) own_cat (2 ∷ [])
  -- at this cost
  pub cost_921 : cost_of (decode job921) own_cat (2 ∷ []) ≡ 130000
  -- and no list that suits costs less
  pub least_921 : (y : List ℕ) → Suitable (decode job921) own_cat y → 130000 ≤ cost_of (decode job921) own_cat y
  -- the job with H 920 is accepted
  pub job_920 : job_no job920 ≡ 0
  -- and no list suits it
  pub none_920 : (y : List ℕ) → Suitable (decode job920) own_cat y → ⊥
  -- 5 bytes of result and 17,608 of workspace are enough for the own case, and one less of either is not
  pub enough : choose_no own_job own_cat 5 17608 ≡ 0
  pub room : choose_no own_job own_cat 4 17608 ≡ 14
  pub workspace : choose_no own_job own_cat 5 17607 ≡ 15
  -- so the choosing call gives the bytes of 130,000 and size 2 for H 921, and 16 for H 920
  pub chosen_921 : (out₀ work₀ out work : List ℕ) (n : ℕ) → Ample job921 out₀ work₀ → Chosen job921 own_cat out₀ work₀ out work n →
      (n ≡ 0) × (out ≡ stored out₀ 0 (0 ∷ 1 ∷ 251 ∷ 208 ∷ 2 ∷ []))
  pub chosen_920 : (out₀ work₀ out work : List ℕ) (n : ℕ) → Ample job920 out₀ work₀ → Chosen job920 own_cat out₀ work₀ out work n → n ≡ 16
