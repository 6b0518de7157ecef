-- The version of a job plays no part in any figure, and a record of version 1 has the fields of version 2's with service 0.
-- Assumes nothing.
use mathlib.Core.Path.{◌≡◌, refl, sym, ap, fun_ext, ◌∙◌}
use mathlib.Core.Logic.{⊎_elim}
use mathlib.Core.Bool.{Bool, false}
use mathlib.Core.List.{List}
use Prim.Native.Nat.{ℕ, ◌+◌, ◌*◌, ◌≤◌}
use native.Mathlib.Omega.{arith}
use lib.ListN.{length}
use lib.Dec.{eqb}
use lib.IntN.{pos, ◌+ℤ◌}
use lib.Signed.{le_z}
use borrow.Author.Tests.{eq-eqb, ne_eqb, le-ltb}
use Rattle.std.proofs.lemmas.Bool.{cases_eq}
use Rattle.basis.specs.Sections.{size_of}
use Rattle.basis.proofs.Concat.{concat_ext}
use Rattle.basis.proofs.Each.{any_ext}
use Rattle.basis.proofs.Slots.{tabulate_ext, slots_ext}
use Rattle.wire.specs.Wire.{byte_at, be_at, bytes_of}
use Rattle.wire.proofs.Fields.{be_same}
use Rattle.fields.specs.declared.Header.{Header}
use Rattle.fields.specs.declared.Job.{Job}
use Rattle.fields.specs.Fields.{blank_section, count_of}
use Rattle.tree.specs.Tree.{parent_of}
use Rattle.rules.specs.Rules.{version_ok, service_ok, header_ok, field_checks}
use Rattle.rules.proofs.Same.{checks_same}
use Rattle.record.specs.Record.{sections_from, length_of, place_of, version_at, service_at, header_at, residents_at, section_from, section_at, decode}
use Rattle.record.specs.Edited.{with_version}
use Rattle.record.proofs.Lengths.{from_two, from_other}
use Rattle.record.proofs.Service.{service_two, service_other}
use Rattle.job.specs.Calls.{wrong_length, wrong_version, wrong_count, shape_checks, read_checks}
use Rattle.demand.specs.Demand.{demand_checks, section_flow}
use Rattle.demand.proofs.Same.{section_flow_same, house_flow_same, hour_of_same, day_same, mean_same, demand_checks_same}
use Rattle.acceptance.specs.Acceptance.{job_checks}
use Rattle.flow.specs.Calls.{flow_bytes, duty_bytes}
use Rattle.catalogue.specs.Reading.{SizeAtFlow}
use Rattle.heads.specs.Heads.{reach_of, required_of, pump_at, dictating_of}
use Rattle.sizing.specs.Losses.{list_ok, reading_of, over_with, over_at, any_with, over_any, loss_with, loss_at, losses_of}
use Rattle.rated_bytes.specs.RatedBytes.{heads_bytes, result_bytes, figures_bytes}
use Rattle.rating.specs.Calls.{rate_bytes, losses_bytes}
use Rattle.choosing.specs.Suitable.{price_at, cost_of}
use Rattle.demands.specs.Demand3.{Suited}
use Rattle.demands.specs.HotAndCold.{Counterparts}

module _ (version : ℕ) (job : Job) where
  -- the figures of the flow call and of the duty call
  flow_same : (i : ℕ) → section_flow (with_version job version) i ≡ section_flow job i
  unfolding with_version
  flow_same i = section_flow_same (with_version job version) job refl refl refl refl i

  pub flow_bytes_same : flow_bytes (with_version job version) ≡ flow_bytes job
  unfolding flow_bytes with_version
  flow_bytes_same =
      rw (
        hour_of_same (with_version job version) job refl refl refl refl,
        day_same (with_version job version) job refl refl refl refl,
        mean_same (with_version job version) job refl refl refl refl refl,
        concat_ext (count_of job) (λ i. bytes_of 4 (section_flow (with_version job version) i)) (λ i. bytes_of 4 (section_flow job i)) (λ i p q. ap (bytes_of 4) (flow_same i)),
      )

  pub duty_bytes_same : duty_bytes (with_version job version) ≡ duty_bytes job
  unfolding duty_bytes with_version
  duty_bytes_same = rw (house_flow_same (with_version job version) job refl refl refl refl)

  -- heads over any losses
  pub heads_bytes_same : (loss : ℕ → ℕ) → heads_bytes (with_version job version) loss ≡ heads_bytes job loss
  unfolding heads_bytes required_of reach_of parent_of pump_at dictating_of with_version
  heads_bytes_same loss = refl

  required_same : (loss : ℕ → ℕ) → required_of (with_version job version) loss ≡ required_of job loss
  unfolding required_of reach_of parent_of with_version
  required_same loss = refl

  module _ (cat : List ℕ) where
    reading_same : (s i : ℕ) → reading_of (with_version job version) cat s i ≡ reading_of job cat s i
    unfolding reading_of
    reading_same s i = rw (flow_same i)

    loss_same : (s i : ℕ) → loss_at (with_version job version) cat s i ≡ loss_at job cat s i
    unfolding loss_with with_version
    loss_same s i = rw (reading_same s i)

    over_same : (s i : ℕ) → over_at (with_version job version) cat s i ≡ over_at job cat s i
    unfolding over_with with_version
    over_same s i = rw (reading_same s i)

    module _ (list : List ℕ) where
      velocities : Job → ℕ → ℕ
      velocities j i = (reading_of j cat (size_of list i) i).velocity

      flows : Job → ℕ → ℕ
      flows j i = section_flow j i

      flows_same : flows (with_version job version) ≡ flows job
      unfolding flows
      flows_same = fun_ext flow_same

      velocities_same : velocities (with_version job version) ≡ velocities job
      unfolding velocities
      velocities_same = fun_ext (λ i. ap (λ (r : SizeAtFlow). r.velocity) (reading_same (size_of list i) i))

      losses_same : losses_of (with_version job version) cat list ≡ losses_of job cat list
      losses_same = fun_ext (λ i. loss_same (size_of list i) i)

      pub listed_same : list_ok (with_version job version) cat list ≡ list_ok job cat list
      unfolding list_ok with_version
      listed_same = refl

      pub any_same : over_any (with_version job version) cat list ≡ over_any job cat list
      unfolding any_with with_version
      any_same = any_ext (count_of job) _ _ (λ i p q. over_same (size_of list i) i)

      result_same : (velocity loss : ℕ → ℕ) → result_bytes (with_version job version) velocity loss ≡ result_bytes job velocity loss
      unfolding result_bytes heads_bytes required_of reach_of parent_of pump_at dictating_of with_version
      result_same velocity loss = refl

      figures_same : (flow velocity loss : ℕ → ℕ) → figures_bytes (with_version job version) flow velocity loss ≡ figures_bytes job flow velocity loss
      unfolding figures_bytes with_version
      figures_same flow velocity loss = refl

      pub rate_bytes_same : rate_bytes (with_version job version) cat list ≡ rate_bytes job cat list
      unfolding rate_bytes velocities
      rate_bytes_same =
          result_same (velocities (with_version job version)) (losses_of (with_version job version) cat list) ∙
          ap (λ v. result_bytes job v (losses_of (with_version job version) cat list)) velocities_same ∙
          ap (λ l. result_bytes job (velocities job) l) losses_same

      pub losses_bytes_same : losses_bytes (with_version job version) cat list ≡ losses_bytes job cat list
      unfolding losses_bytes velocities flows
      losses_bytes_same =
          figures_same (flows (with_version job version)) (velocities (with_version job version)) (losses_of (with_version job version) cat list) ∙
          ap (λ f. figures_bytes job f (velocities (with_version job version)) (losses_of (with_version job version) cat list)) flows_same ∙
          ap (λ v. figures_bytes job (flows job) v (losses_of (with_version job version) cat list)) velocities_same ∙
          ap (λ l. figures_bytes job (flows job) (velocities job) l) losses_same

      pub cost_same : cost_of (with_version job version) cat list ≡ cost_of job cat list
      unfolding cost_of price_at with_version
      cost_same = refl

      -- what an end asks for, against the delivered head
      served : Job → ℕ → Bool
      served j i = le_z (pos j.header.meter +ℤ reach_of j (losses_of j cat list) i) (pos j.header.delivered)

      served_same : (i : ℕ) → served (with_version job version) i ≡ served job i
      unfolding served reach_of parent_of with_version
      served_same i = ap (λ l. le_z (pos job.header.meter +ℤ reach_of job l i) (pos job.header.delivered)) losses_same

      pub suited_same : Suited (with_version job version) cat list → Suited job cat list
      unfolding served with_version
      suited_same s =
          record {
            sizes = sym listed_same ∙ s.sizes;
            serves = sym any_same ∙ s.serves;
            ends = λ i p q. sym (served_same i) ∙ s.ends i p q;
          }

      pub suited_back : Suited job cat list → Suited (with_version job version) cat list
      unfolding served with_version
      suited_back s =
          record { sizes = listed_same ∙ s.sizes; serves = any_same ∙ s.serves; ends = λ i p q. served_same i ∙ s.ends i p q }

  fields_same : field_checks (with_version job version) ≡ field_checks job
  unfolding with_version
  fields_same = checks_same (with_version job version) job refl refl (λ i h k. refl)

  demands_same : demand_checks (with_version job version) ≡ demand_checks job
  unfolding with_version
  demands_same = demand_checks_same (with_version job version) job refl refl refl refl

-- a header in version 2
header_two : Header → Header
header_two h =
    record {
      version = 2;
      service = h.service;
      tenths = h.tenths;
      sections = h.sections;
      hours = h.hours;
      meter = h.meter;
      guaranteed = h.guaranteed;
      delivered = h.delivered;
      limit = h.limit;
    }

-- 3 finds the same of a header of version 1 and service 0, and of the same in version 2
header_ok_same : (h : Header) → h.version ≡ 1 → h.service ≡ 0 → header_ok (header_two h) ≡ header_ok h
unfolding header_ok service_ok header_two
header_ok_same h one total = rw (one, total)

-- each test by one more
eqb_more : (a b : ℕ) → eqb (a + 1) (b + 1) ≡ eqb a b
eqb_more a b =
    ⊎_elim
    (λ (e : a ≡ b). eq-eqb (a + 1) (b + 1) (omega arith) ∙ sym (eq-eqb a b e))
    (λ (n : a ≡ b → ⊥). ne_eqb (a + 1) (b + 1) (λ e. n (omega arith)) ∙ sym (ne_eqb a b n))
    (cases_eq a b)

module _ {one two : List ℕ} (same : Counterparts one two) where
  -- a field of the head, and one of a section
  head_field : (w j : ℕ) → 5 ≤ j → j + w ≤ 40 → be_at w two j ≡ be_at w one j
  head_field w j low high = be_same w two one j j (λ k h. same.head (j + k) (omega arith) (omega arith))

  further : (j m : ℕ) → 40 ≤ j → m ≡ j + 1 → byte_at two m ≡ byte_at one j
  further j m h e = rw e (same.sections j h)

  section_field : (w j m : ℕ) → 40 ≤ j → m ≡ j + 1 → be_at w two m ≡ be_at w one j
  section_field w j m h e = be_same w two one m j (λ k l. further (j + k) (m + k) (omega arith) (omega arith))

  service_one : service_at one ≡ 0
  service_one = service_other one (λ e. omega (arith, same.version_one))

  service_of_two : service_at two ≡ 0
  service_of_two = service_two two same.version_two ∙ same.service

  header_same : header_at two ≡ header_two (header_at one)
  unfolding header_at header_two
  header_same =
      rw (
        same.version_two,
        service_of_two,
        service_one,
        same.head 5 (omega arith) (omega arith),
        same.head 6 (omega arith) (omega arith),
        same.head 7 (omega arith) (omega arith),
        head_field 2 8 (omega arith) (omega arith),
        head_field 2 10 (omega arith) (omega arith),
        head_field 2 12 (omega arith) (omega arith),
        head_field 2 14 (omega arith) (omega arith),
      )

  section_same : (i : ℕ) → section_at two i ≡ section_at one i
  unfolding section_from
  section_same i =
      let place = place_of (version_at one) i in
      let from : sections_from (version_at one) ≡ 40 = from_other (λ e. omega (arith, same.version_one)) in
      let next : sections_from (version_at two) ≡ 41 = from_two same.version_two in
      rw (
        further place (place_of (version_at two) i) (omega arith) (omega arith),
        further (place + 1) (place_of (version_at two) i + 1) (omega arith) (omega arith),
        section_field 2 (place + 2) (place_of (version_at two) i + 2) (omega arith) (omega arith),
        section_field 2 (place + 4) (place_of (version_at two) i + 4) (omega arith) (omega arith),
        section_field 2 (place + 6) (place_of (version_at two) i + 6) (omega arith) (omega arith),
        section_field 2 (place + 8) (place_of (version_at two) i + 8) (omega arith) (omega arith),
      )

  pub decode_same : decode two ≡ with_version (decode one) 2
  unfolding decode with_version residents_at header_two
  decode_same =
      rw (
        header_same,
        tabulate_ext 12 (residents_at two) (residents_at one) 0 (λ c h. head_field 2 (16 + 2 * c) (omega arith) (omega arith)),
        same.head 6 (omega arith) (omega arith),
        slots_ext 64 1 (byte_at one 6 + 1) blank_section (section_at two) (section_at one) (λ i a b c. section_same i),
      )

  pub count_same : count_of (decode two) ≡ count_of (decode one)
  unfolding with_version
  count_same = ap count_of decode_same

  length_same : (wrong_length two ≡ false) × (wrong_length one ≡ false)
  unfolding wrong_length
  length_same =
      let long = same.long in (
        rw (le-ltb (length two) 40 (omega (arith, same.longer)), eq-eqb (be_at 4 two 0) (length two) same.stated_two),
        rw (le-ltb (length one) 40 long, eq-eqb (be_at 4 one 0) (length one) same.stated_one),
      )

  version_same : (wrong_version two ≡ false) × (wrong_version one ≡ false)
  unfolding wrong_version version_ok header_at
  version_same = (rw same.version_two, rw same.version_one)

  counted_same : wrong_count two ≡ wrong_count one
  unfolding wrong_count
  counted_same =
      let from : sections_from (version_at one) ≡ 40 = from_other (λ e. omega (arith, same.version_one)) in
      let next : sections_from (version_at two) ≡ 41 = from_two same.version_two in
      let count = same.head 6 (omega arith) (omega arith) in
      let long : length_of (version_at two) (byte_at two 6) ≡ length_of (version_at one) (byte_at one 6) + 1 = omega arith in
      let tests : eqb (length two) (length_of (version_at two) (byte_at two 6)) ≡ eqb (length one) (length_of (version_at one) (byte_at one 6)) =
      rw (same.longer, long) (eqb_more (length one) (length_of (version_at one) (byte_at one 6))) in
      rw tests

  shape_same : shape_checks two ≡ shape_checks one
  unfolding shape_checks header_at
  shape_same =
      rw (
        length_same.0,
        length_same.1,
        version_same.0,
        version_same.1,
        header_same,
        header_ok_same (header_at one) same.version_one service_one,
        counted_same,
      )

  pub jobs_same : job_checks two ≡ job_checks one
  unfolding job_checks read_checks
  jobs_same = rw (shape_same, decode_same, fields_same 2 (decode one), demands_same 2 (decode one))
