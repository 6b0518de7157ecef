-- L6: a flow under the first row takes the straight line from zero, and every list that suited before still suits.
-- Assumes nothing.
use mathlib.Core.Path.{◌≡◌, refl, ap, ◌∙◌}
use mathlib.Core.Bool.{true}
use mathlib.Core.Logic.{⊎_elim}
use mathlib.Core.List.{List}
use Prim.Native.Nat.{ℕ, ◌+◌, ◌-◌, ◌*◌, ◌≤◌, ◌<◌}
use native.Mathlib.Nat.{mul_comm}
use native.Mathlib.Omega.{arith}
use borrow.Author.Tests.{lt-ltb, le-ltb}
use Rattle.std.proofs.lemmas.Bool.{cases_lt}
use Rattle.basis.specs.Round.{up}
use Rattle.basis.proofs.Round.{up_whole}
use Rattle.basis.specs.Sections.{size_of}
use Rattle.wire.specs.Wire.{be_at}
use Rattle.fields.specs.declared.Job.{Job}
use Rattle.fields.specs.Fields.{count_of, section_of}
use Rattle.record.specs.Record.{decode}
use Rattle.rules.proofs.SectionBounds.{SectionIn}
use Rattle.rules.proofs.Kept.{sections_in}
use Rattle.demand.specs.Demand.{section_flow, Accepted}
use Rattle.demand.proofs.DesignFlows.{flow_pos}
use Rattle.demand.proofs.Validity.{valid_sections}
use Rattle.acceptance.specs.Acceptance.{job_no}
use Rattle.acceptance.proofs.Accepting.{accept_accepted}
use Rattle.catalogue.specs.Layout.{sizes_of, part_of, flow_at, velocity_at, slope_at}
use Rattle.catalogue.specs.Rules.{cat_no}
use Rattle.catalogue.specs.Reading.{SizeAtFlow, read_rows}
use Rattle.catalogue.specs.Steps.{Rows, AcceptedCat}
use Rattle.catalogue.proofs.AcceptedCat.{cat_of, cat_rows}
use Rattle.catalogue.proofs.Lines.{first_high}
use Rattle.catalogue.proofs.Readings.{first_flow, reading_over, reading_low, reading_between, reading_pos}
use Rattle.sizing.specs.Losses.{reading_of, loss_of, loss_with, loss_at}
use Rattle.sizing.proofs.Named.{list_names}
use Rattle.rating.specs.Steps.{Rateable}
use Rattle.sizing.proofs.LossBounds.{loss_pos}
use Rattle.sizing.proofs.Trying.{read_top}
use Rattle.choosing.specs.Suitable.{SuitableAt, cost_of}
use Rattle.choosing.specs.Calls.{Ample, Chosen}
use Rattle.order.specs.Promises.{LossesGiven}
use Rattle.demands.specs.Demand2.{Bytes, LossFigures}
use Rattle.demands.specs.Demand3.{Suited, reported, Returned, SixteenOrList}
use Rattle.demands.specs.SmallFlows.{served, read_before, before_of, SuitableBefore, Lower, ReadAt, OnLine, SmallFlows}
use Rattle.demands.proofs.Basin.{basin}
use Rattle.demands.proofs.Demand2.{demand_2}
use Rattle.demands.proofs.Ratings.{losses_rateable}
use Rattle.demands.proofs.Demand3.{demand_3, suited}
use Rattle.demands.proofs.Lower.{over_with_lem, loss_with_lem, suits_lower}

module _ {rows : List ℕ} {n : ℕ} (r : Rows rows n) (q : ℕ) where
  before_under : q < flow_at rows 0 → read_before rows n q ≡ served (velocity_at rows 0) (slope_at rows 0)
  unfolding read_before
  before_under h = rw (lt-ltb q (flow_at rows 0) h)

  before_beyond : flow_at rows 0 ≤ q → read_before rows n q ≡ read_rows rows n q
  unfolding read_before
  before_beyond h = rw (le-ltb q (flow_at rows 0) h)

  -- under the first row
  line_lower : q ≤ flow_at rows 0 → Lower (served (up (q * velocity_at rows 0) (flow_at rows 0)) (up (q * slope_at rows 0) (flow_at rows 0))) (served (velocity_at rows 0) (slope_at rows 0))
  line_lower h =
      record {
        serves = refl;
        velocity = first_high (flow_at rows) (velocity_at rows) (first_flow r) q h;
        slope = first_high (flow_at rows) (slope_at rows) (first_flow r) q h;
      }

  lower_at : Lower (read_rows rows n q) (read_before rows n q)
  lower_at =
      ⊎_elim
      (λ (h : q < flow_at rows 0). rw (before_under h, reading_low r q (omega arith)) (line_lower (omega arith)))
      (λ (h : flow_at rows 0 ≤ q). rw (before_beyond h) (record { serves = refl; velocity = omega arith; slope = omega arith }))
      (cases_lt q (flow_at rows 0))

  -- at the first row's flow
  whole : (value : ℕ) → q ≡ flow_at rows 0 → up (q * value) (flow_at rows 0) ≡ value
  whole value e = rw (e, mul_comm (flow_at rows 0) value) (up_whole value (flow_at rows 0) (first_flow r))

  some : 0 < q → (read_rows rows n q).serves ≡ true → (1 ≤ (read_rows rows n q).velocity) × (1 ≤ (read_rows rows n q).slope)
  unfolding read_rows
  some h e = reading_pos r q h e

  read_at : ReadAt rows n q
  read_at =
      record {
        low = reading_low r q;
        first = λ e. reading_low r q (omega arith) ∙ rw (whole (velocity_at rows 0) e, whole (slope_at rows 0) e);
        between = reading_between r q;
        over = λ h. ap (λ (x : SizeAtFlow). x.serves) (reading_over rows n q h);
        lower = lower_at;
        some = some;
      }

-- size s of an accepted catalogue at the flow of section i
lower_of : (job : Job) {cat : List ℕ} → AcceptedCat cat → (s i : ℕ) → 0 < s → s ≤ sizes_of cat → Lower (reading_of job cat s i) (before_of job cat s i)
unfolding reading_of before_of
lower_of job l s i a b = lower_at (cat_rows l s a b) (section_flow job i)

loss_some : {job : Job} {cat : List ℕ} → Accepted job → AcceptedCat cat → (s i : ℕ) → 0 < s → s ≤ sizes_of cat → 0 < i → i ≤ count_of job →
    (reading_of job cat s i).serves ≡ true → 1 ≤ loss_at job cat s i
unfolding reading_of loss_with
loss_some {job} {cat} accepted listed s i a b h k e =
    let section : SectionIn i (section_of job i) = sections_in job (valid_sections accepted.valid) i h k in
    loss_pos _ (section_of job i).decimetres job.header.tenths
    ((read_at (cat_rows listed s a b) (section_flow job i)).some (flow_pos accepted.valid i h k) e).1 section.decimetres.low

-- a section of a losses result, its figures read back by demand 2
on_line : (job cat sizes out₀ out : List ℕ) → Bytes cat → LossesGiven job cat sizes out₀ out 0 → (i : ℕ) → 0 < i → i ≤ count_of (decode job) →
    be_at 4 out (10 * (i - 1)) ≤ flow_at (part_of cat (size_of sizes i)) 0 →
    OnLine (decode job) (part_of cat (size_of sizes i)) i (be_at 4 out (10 * (i - 1))) (be_at 2 out (10 * (i - 1) + 4)) (be_at 4 out (10 * (i - 1) + 6))
unfolding reading_of loss_with
on_line job cat sizes out₀ out bytes g i h k under =
    let p : Rateable (decode job) cat sizes = losses_rateable job cat sizes out₀ out bytes g in
    let w = list_names (decode job) cat sizes p.list i h k in
    let figures : LossFigures (decode job) cat sizes out = demand_2.losses job cat sizes out₀ out bytes g in
    let flow = figures.flow i h k in
    let low = reading_low (cat_rows p.cat (size_of sizes i) w.low w.high) (section_flow (decode job) i) (rw flow at under) in
    record {
      velocity_is = rw flow (figures.velocity i h k ∙ ap (λ (r : SizeAtFlow). r.velocity) low);
      loss_is = rw flow (figures.loss i h k ∙
          ap (λ (r : SizeAtFlow). loss_of r.slope (section_of (decode job) i).decimetres (decode job).header.tenths) low);
    }

-- an accepted job and an accepted catalogue
module _ (job cat : List ℕ) (e : job_no job ≡ 0) (l : cat_no cat ≡ 0) where
  suits : (list : List ℕ) (delivered : ℕ) → SuitableBefore (decode job) cat delivered list → SuitableAt (decode job) cat delivered list
  suits list delivered s =
      suits_lower (accept_accepted job e).valid cat (reading_of (decode job) cat) (before_of (decode job) cat) (lower_of (decode job) (cat_of cat l)) delivered
      list s

  least : {out₀ work₀ out work : List ℕ} {n : ℕ} → Ample job out₀ work₀ → Chosen job cat out₀ work₀ out work n → (y : List ℕ) →
      SuitableBefore (decode job) cat (decode job).header.delivered y → (n ≡ 0) × (reported out ≤ cost_of (decode job) cat y)
  least {out₀} {work₀} {out} {work} {n} space c y s =
      let given : SixteenOrList (decode job) cat out n = demand_3.sixteen job cat out₀ work₀ out work n e l space c in
      let still : Suited (decode job) cat y = suited (suits y (decode job).header.delivered s) in
      let result : (n ≡ 0) × Returned (decode job) cat out = given.otherwise (λ none. given.none none y still) in
      (result.0, result.1.least y still)

pub small_flows : SmallFlows
small_flows =
    record {
      read = λ cat e s q a b. read_at (cat_rows (cat_of cat e) s a b) q;
      two_bytes = λ cat e bytes s q a b. read_top (cat_of cat e) s a b bytes q;
      flow = λ job i e h k. flow_pos (accept_accepted job e).valid i h k;
      loss = λ job cat s i e l a b h k serves. loss_some (accept_accepted job e) (cat_of cat l) s i a b h k serves;
      given = on_line;
      no_more = λ job cat s i l a b.
          loss_with_lem (decode job) (reading_of (decode job) cat) (before_of (decode job) cat) s i (lower_of (decode job) (cat_of cat l) s i a b);
      not_over = λ job cat s i l a b.
          over_with_lem (decode job) (reading_of (decode job) cat) (before_of (decode job) cat) s i (lower_of (decode job) (cat_of cat l) s i a b);
      suits = λ job cat list delivered e l s. suits job cat e l list delivered s;
      least = λ job cat out₀ work₀ out work n e l space c y s. least job cat e l space c y s;
      basin = basin;
    }
