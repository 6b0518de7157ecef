-- Document 01's own case: one theorem.
-- Assumes nothing.
use mathlib.Core.Path.{◌≡◌, refl}
use mathlib.Core.Logic.{⊎_elim}
use mathlib.Core.Bool.{true, false}
use mathlib.Core.List.{List, [], ◌∷◌}
use Prim.Native.Nat.{ℕ, ◌≤◌}
use native.Mathlib.Omega.{arith}
use lib.IntN.{pos}
use lib.Signed.{le_z}
use Rattle.basis.specs.Sections.{path_from, path_of}
use Rattle.basis.specs.Range.{sum_to, most_to, all_to, any_to, lowest_to, concat_to}
use Rattle.basis.specs.Round.{up, line}
use Rattle.basis.specs.Slots.{tabulate, slots}
use Rattle.basis.specs.Stored.{stored}
use Rattle.basis.proofs.Bools.{apart}
use Rattle.answer.specs.Checks.{first_no}
use Rattle.wire.specs.Wire.{be_at, bytes_of, bits_of, signed_of}
use Rattle.record.specs.Record.{sections_from, service_at, header_at, residents_at, section_from, decode}
use Rattle.tree.specs.Tree.{parent_of, reaches, below, own_of, served_of, house_of}
use Rattle.rules.specs.Rules.{version_ok, service_ok, header_ok, kind_ok, elevation_ok, section_ok, sections_ok, childless, childless_zero, unmatched, field_checks}
use Rattle.job.specs.Calls.{wrong_length, wrong_version, wrong_count, shape_checks, read_checks, copy_checks, copy_no}
use Rattle.norms.specs.Norms.{total_cold_hot, day_norms, hour_norms, fixture_norms, hourly_norms, norm_of}
use Rattle.coefficient.specs.Table.{table}
use Rattle.coefficient.specs.Alpha.{along, alpha_of}
use Rattle.coefficient.proofs.Worked.{worked as alpha}
use Rattle.demand.specs.Demand.{share_of, m_of, fixture_sum_of, average_flow_of, tap_of, one_tap_of, flow_of, hour_share_of, hour_sum_of, hourly_sum_of, hour_of, day_of, mean_of, fixtures_of, over_sum, needs_table_one, over_probability, demand_checks}
use Rattle.acceptance.specs.Acceptance.{job_checks, job_no}
use Rattle.catalogue.specs.Layout.{bore_of, price_of, part_of, flow_at, velocity_at, slope_at}
use Rattle.catalogue.specs.Rules.{shape_ok, row_ok, rises_at, rows_ok, size_ok, sizes_ok, cat_checks, cat_no}
use Rattle.catalogue.specs.Reading.{between, serves_at, read_rows}
use Rattle.heads.specs.Signed.{greater, clamped}
use Rattle.heads.specs.Heads.{reach_of, greatest_to, required_of, pump_at, dictating_of}
use Rattle.sizing.specs.Losses.{list_ok, reading_of, over_by, over_with, any_with, over_any, loss_of, loss_with, losses_of}
use Rattle.acceptance.specs.Acceptance.{input_checks}
use Rattle.flow.specs.Calls.{flow_no, duty_no}
use Rattle.heating.specs.Heat.{watts_of, hot_job, heat_ok}
use Rattle.heating.specs.Calls.{heat_bytes, heat_no}
use Rattle.meters.specs.Meters.{meter_at, meter_ok, meters_ok, meter_loss, most_loss, qualifies, none_qualifies, least_at, winner_of}
use Rattle.metering.specs.Calls.{metered_record, meter_bytes, meter_no}
use Rattle.rated_bytes.specs.RatedBytes.{heads_bytes, figures_bytes}
use Rattle.rating.specs.Calls.{sized_checks, sized_no, losses_bytes}
use Rattle.lent_losses.specs.LentLosses.{loss_in, losses_ok}
use Rattle.lent_losses.specs.Calls.{heads_no}
use Rattle.choosing.specs.Suitable.{Suitable, price_at, cost_of}
use Rattle.choosing.specs.Calls.{choose_checks, choose_no, choose_bytes}
use Rattle.demands.specs.OwnCase.{job_of, own_cat, own_job, job921, job920, line_of, OwnCase}
use Rattle.demands.specs.HotAndCold.{in_version_two}
use Rattle.demands.proofs.OneSection.{one_size, gives_16, gives_list}

-- size 1 is over the limit, whatever H is
over_one : (high low : ℕ) → over_any (decode (job_of high low)) own_cat (1 ∷ []) ≡ true
unfolding
    sum_to most_to any_to up line tabulate slots be_at sections_from service_at header_at residents_at section_from decode
    parent_of reaches below own_of served_of house_of total_cold_hot hour_norms fixture_norms norm_of along table alpha_of share_of m_of fixture_sum_of average_flow_of tap_of one_tap_of flow_of
    part_of flow_at velocity_at between serves_at read_rows reading_of over_by over_with any_with
over_one high low = refl

-- so a list that suits is size 2 alone
only_two : (high low : ℕ) (y : List ℕ) → Suitable (decode (job_of high low)) own_cat y → y ≡ 2 ∷ []
unfolding decode header_at
only_two high low y s =
    ⊎_elim
    (λ e. absurd (apart (over_one high low) (rw e at s.serves)))
    (λ e. e)
    (one_size (decode (job_of high low)) refl y s.sizes)

-- what is computed of the bytes: the inputs are accepted, size 2 suits H 921, and H 920 is below its required head
pub record Computed : Type 0 where
  pub own : job_no own_job ≡ 0
  pub accepted_921 : job_no job921 ≡ 0
  pub accepted_920 : job_no job920 ≡ 0
  pub listed : cat_no own_cat ≡ 0
  pub suits : Suitable (decode job921) own_cat (2 ∷ [])
  pub short : le_z (required_of (decode job920) (losses_of (decode job920) own_cat (2 ∷ []))) (pos (decode job920).header.delivered) ≡ false

-- a proof that unfolds this unfolds all that is named here, as that of L6's basin does
unfoldable pub computed : Computed
unfolding
    over_one all_to first_no signed_of bytes_of
    version_ok service_ok header_ok kind_ok elevation_ok section_ok sections_ok childless childless_zero unmatched field_checks
    wrong_length wrong_version wrong_count shape_checks read_checks
    hour_share_of hour_sum_of hourly_norms fixtures_of over_sum needs_table_one over_probability demand_checks job_checks job_no
    bore_of price_of slope_at shape_ok row_ok rises_at rows_ok size_ok sizes_ok cat_checks cat_no
    greater loss_of loss_with path_from path_of reach_of greatest_to required_of list_ok price_at cost_of choose_bytes
computed =
    record {
      own = refl;
      accepted_921 = refl;
      accepted_920 = refl;
      listed = refl;
      suits = record { sizes = refl; serves = refl; reaches = refl };
      short = refl;
    }

none_suits : (y : List ℕ) → Suitable (decode job920) own_cat y → ⊥
none_suits y s = apart (rw (only_two 3 152 y s) at s.reaches) computed.short

-- size 1 is the cheaper for any line
line_least : (service : ℕ) (y : List ℕ) → Suitable (decode (line_of service)) own_cat y → 90000 ≤ cost_of (decode (line_of service)) own_cat y
unfolding decode header_at computed
line_least service y s =
    ⊎_elim (λ e. rw e (omega arith)) (λ e. rw e (omega arith)) (one_size (decode (line_of service)) refl y s.sizes)

-- the rest is computed too, but for the statements over every list and over the call
pub own_case : OwnCase
unfolding computed day_norms hourly_sum_of hour_of day_of mean_of clamped pump_at lowest_to dictating_of copy_checks copy_no flow_no duty_no meter_at meter_ok meters_ok meter_loss most_loss qualifies none_qualifies least_at winner_of stored metered_record meter_bytes meter_no input_checks sized_checks sized_no bits_of concat_to heads_bytes figures_bytes losses_bytes loss_in losses_ok heads_no choose_checks choose_no watts_of hot_job heat_ok heat_bytes heat_no in_version_two
own_case =
    record {
      job = computed.own;
      cat = computed.listed;
      section_m = refl;
      house_m = refl;
      own_α = alpha.3;
      under_α = alpha.0;
      first_α = alpha.1;
      last_α = alpha.2;
      flow = refl;
      house_flow_lem = refl;
      hour = refl;
      day = refl;
      mean = refl;
      copied = refl;
      flowed = refl;
      duty_given = refl;
      meter_losses = (refl, refl, refl);
      meter_given = refl;
      meter_bytes_lem = refl;
      meter_none = refl;
      meter_room = refl;
      meter_list = refl;
      equal_losses = (refl, refl);
      equal_place = refl;
      rated = refl;
      velocity = refl;
      loss = refl;
      required = refl;
      pump = refl;
      dictating = refl;
      fast = refl;
      refused = refl;
      losses_given = refl;
      losses_bytes_lem = refl;
      losses_room = refl;
      losses_over = refl;
      heads_given = refl;
      heads_bytes_lem = refl;
      no_loss = refl;
      no_loss_bytes = refl;
      most_loss_lem = refl;
      over_loss = refl;
      losses_list = refl;
      heads_room = refl;
      own_in_two = refl;
      lines_accepted = (refl, refl, refl);
      line_flows = (refl, refl, refl);
      line_hours = (refl, refl, refl);
      line_days = (refl, refl, refl);
      line_means = (refl, refl, refl);
      heat_given = refl;
      heat_bytes_lem = refl;
      heat_not_hot = refl;
      heat_temperature = refl;
      heat_loss = refl;
      heat_room = refl;
      service_three = refl;
      parent_three = refl;
      ends_early = (refl, refl);
      cold_suits = record { sizes = refl; serves = refl; reaches = refl };
      hot_suits = record { sizes = refl; serves = refl; reaches = refl };
      line_costs = (refl, refl);
      line_least = line_least;
      job_921 = computed.accepted_921;
      suits_921 = computed.suits;
      cost_921 = refl;
      least_921 = λ y s. rw (only_two 3 153 y s) (omega arith);
      job_920 = computed.accepted_920;
      none_920 = none_suits;
      enough = refl;
      room = refl;
      workspace = refl;
      chosen_921 = λ out₀ work₀ out work n a c.
          gives_list computed.listed job921 computed.accepted_921 a c (2 ∷ []) computed.suits (λ y s h. only_two 3 153 y s);
      chosen_920 = λ out₀ work₀ out work n a c. gives_16 computed.listed job920 computed.accepted_920 a c none_suits;
    }
