-- Hot and cold lines: norms that add up, the two versions of a record alike, and the figures of the heat call.
-- Assumes nothing.
use mathlib.Core.Path.{◌≡◌, sym, ap, ◌∙◌}
use mathlib.Core.Logic.{⊎_elim}
use mathlib.Core.Bool.{true, false}
use mathlib.Core.List.{List, ◌++◌, append_assoc}
use Prim.Native.Nat.{ℕ, ◌+◌, ◌≤◌}
use native.Mathlib.Omega.{arith}
use lib.ListN.{length, drop}
use borrow.Author.Tests.{eq-eqb}
use Rattle.std.proofs.lemmas.Bool.{cases_Bool, cases_eq}
use Rattle.basis.proofs.Stored.{stored_front}
use Rattle.answer.specs.Checks.{first_no}
use Rattle.wire.specs.Wire.{byte_at, be_at, bytes_of}
use Rattle.wire.proofs.Fields.{be_written}
use Rattle.fields.specs.Fields.{service_of, count_of}
use Rattle.record.specs.Record.{header_at, decode}
use Rattle.record.proofs.Service.{service_other}
use Rattle.norms.proofs.Services.{services}
use Rattle.demand.specs.Demand.{hour_of, mean_of, Accepted}
use Rattle.demand.proofs.DesignFlows.{house_hour_top}
use Rattle.acceptance.specs.Acceptance.{job_no, input_checks, input_no}
use Rattle.acceptance.proofs.Accepting.{input_both, accept_accepted}
use Rattle.flow.specs.Calls.{flow_length, flow_no, duty_no}
use Rattle.flow.proofs.Ordering.{flow_refused, flow_done, duty_refused, duty_done}
use Rattle.heating.specs.Heat.{watts_of}
use Rattle.heating.specs.Calls.{heat_bytes}
use Rattle.heating.proofs.Ordering.{Clear, heat_clear, heat_done, in_heat}
use Rattle.heating.proofs.HeatBounds.{watts_top, hot_mean_top}
use Rattle.rated_bytes.specs.RatedBytes.{rate_length, losses_length, heads_length}
use Rattle.rating.proofs.Ordering.{sized_same}
use Rattle.rating.specs.Calls.{sized_no, sized_checks, rate_no, losses_no}
use Rattle.lent_losses.specs.LentLosses.{loss_in, losses_ok}
use Rattle.lent_losses.specs.Calls.{heads_no}
use Rattle.lent_losses.proofs.Ordering.{heads_refused, heads_listed, heads_done}
use Rattle.choosing.specs.Suitable.{cost_of}
use Rattle.choosing.specs.Calls.{Ample, Chosen}
use Rattle.choosing.proofs.Ordering.{choose_inputs}
use Rattle.order.specs.Promises.{Gives, HeatGiven}
use Rattle.demands.specs.Demand2.{Bytes}
use Rattle.demands.specs.Demand3.{Suited, returned_list, reported, Returned, SixteenOrList}
use Rattle.demands.specs.HotAndCold.{Counterparts, SameGiven, VersionsAlike, HeatFigures, HotAndCold}
use Rattle.demands.proofs.Demand3.{demand_3}
use Rattle.demands.proofs.Flows.{residents_top}
use Rattle.demands.proofs.Counterpart.{counterpart}
use Rattle.demands.proofs.Versions.{flow_bytes_same, duty_bytes_same, heads_bytes_same, rate_bytes_same, losses_bytes_same, listed_same, any_same, cost_same, suited_same, suited_back, decode_same, count_same, jobs_same}

-- two calls of one number and one result
given_same : {no no' : ℕ} {bytes bytes' out₀ out out₀' out' : List ℕ} {n n' : ℕ} → no' ≡ no → bytes' ≡ bytes →
    Gives no bytes out₀ out n → Gives no' bytes' out₀' out' n' → SameGiven out₀ out out₀' out' n n'
given_same {no} {no'} {bytes} {bytes'} {out₀} {out} {out₀'} {out'} {n} {n'} e f g g' =
    let number : n' ≡ n = g'.number ∙ e ∙ sym g.number in
    record {
      number = number;
      result = bytes;
      first = λ none. g.buffer ∙ rw (eq-eqb n 0 none);
      second = λ none. g'.buffer ∙ rw (eq-eqb n' 0 (number ∙ none), f);
    }

module _ {one two : List ℕ} (same : Counterparts one two) where
  number_same : job_no two ≡ job_no one
  unfolding job_no
  number_same = ap first_no (jobs_same same)

  refused_too : (job_no one ≡ 0 → ⊥) → job_no two ≡ 0 → ⊥
  refused_too n e = n (sym number_same ∙ e)

  -- both rooms do for a result of so many bytes, where the job is accepted
  abbrev Fits : ℕ → ℕ → ℕ → Type 0
  Fits bytes room room' = job_no one ≡ 0 → (bytes ≤ room) × (bytes ≤ room')

  sized_same_job : (cat list : List ℕ) (room long : ℕ) → sized_no two cat list room long ≡ sized_no one cat list room long
  unfolding sized_no sized_checks input_checks
  sized_same_job cat list room long =
      rw (jobs_same same, decode_same same, listed_same 2 (decode one) cat list, any_same 2 (decode one) cat list)

  input_same : (cat : List ℕ) → input_no two cat ≡ input_no one cat
  unfolding input_no input_checks
  input_same cat = rw (jobs_same same)

  -- the number of each call, with any two buffers that are long enough
  flow_number : (room room' : ℕ) → Fits (flow_length (count_of (decode one))) room room' → flow_no two room' ≡ flow_no one room
  flow_number room room' fits =
      ⊎_elim
      (λ (e : job_no one ≡ 0).
      flow_done two room' (number_same ∙ e) (rw (count_same same) (fits e).1) ∙ sym (flow_done one room e (fits e).0))
      (λ (n : job_no one ≡ 0 → ⊥). flow_refused two room' (refused_too n) ∙ number_same ∙ sym (flow_refused one room n))
      (cases_eq (job_no one) 0)

  duty_number : (room room' : ℕ) → Fits 4 room room' → duty_no two room' ≡ duty_no one room
  duty_number room room' fits =
      ⊎_elim
      (λ (e : job_no one ≡ 0). duty_done two room' (number_same ∙ e) (fits e).1 ∙ sym (duty_done one room e (fits e).0))
      (λ (n : job_no one ≡ 0 → ⊥). duty_refused two room' (refused_too n) ∙ number_same ∙ sym (duty_refused one room n))
      (cases_eq (job_no one) 0)

  heads_number : (losses : List ℕ) (room room' : ℕ) → Fits heads_length room room' → heads_no two losses room' ≡ heads_no one losses room
  heads_number losses room room' fits =
      ⊎_elim
      (λ (e : job_no one ≡ 0). ⊎_elim
      (λ (ok : losses_ok (count_of (decode one)) losses ≡ true).
      heads_done two losses room' (number_same ∙ e) (rw (count_same same) ok) (fits e).1 ∙ sym (heads_done one losses room e ok (fits e).0))
      (λ (not-ok : losses_ok (count_of (decode one)) losses ≡ false).
      heads_listed two losses room' (number_same ∙ e) (rw (count_same same) not-ok) ∙ sym (heads_listed one losses room e not-ok))
      (cases_Bool (losses_ok (count_of (decode one)) losses)))
      (λ (n : job_no one ≡ 0 → ⊥). heads_refused two losses room' (refused_too n) ∙ number_same ∙ sym (heads_refused one losses room n))
      (cases_eq (job_no one) 0)

  sized_number : (cat list : List ℕ) (long room room' : ℕ) → Fits long room room' → sized_no two cat list room' long ≡ sized_no one cat list room long
  sized_number cat list long room room' fits =
      sized_same_job cat list room' long ∙
      sized_same one cat list room' long room long (λ e. (fits (input_both one cat e).0).1) (λ e. (fits (input_both one cat e).0).0)

  rate_number : (cat list : List ℕ) (room room' : ℕ) → Fits (rate_length (count_of (decode one))) room room' → rate_no two cat list room' ≡ rate_no one cat list room
  rate_number cat list room room' fits = rw (count_same same) (sized_number cat list _ room room' fits)

  losses_number : (cat list : List ℕ) (room room' : ℕ) → Fits (losses_length (count_of (decode one))) room room' →
      losses_no two cat list room' ≡ losses_no one cat list room
  losses_number cat list room room' fits = rw (count_same same) (sized_number cat list _ room room' fits)

  -- a list suits both or neither, at one cost
  suits_one : (cat list : List ℕ) → Suited (decode two) cat list → Suited (decode one) cat list
  suits_one cat list s = suited_same 2 (decode one) cat list (rw (decode_same same) at s)

  suits_two : (cat list : List ℕ) → Suited (decode one) cat list → Suited (decode two) cat list
  suits_two cat list s = rw (decode_same same) (suited_back 2 (decode one) cat list s)

  costs_same : (cat list : List ℕ) → cost_of (decode two) cat list ≡ cost_of (decode one) cat list
  costs_same cat list = rw (decode_same same) (cost_same 2 (decode one) cat list)

  -- choosing
  module _ (cat : List ℕ) {out out' : List ℕ} where
    reported_same : Returned (decode one) cat out → Returned (decode two) cat out' → reported out' ≡ reported out
    reported_same r r' =
        let up = r.least (returned_list (decode two) out') (suits_one cat _ r'.suits) in
        let down = r'.least (returned_list (decode one) out) (suits_two cat _ r.suits) in
        omega (
          arith,
          up,
          down,
          r.cost,
          r'.cost,
          costs_same cat (returned_list (decode two) out'),
          costs_same cat (returned_list (decode one) out),
        )

    either_same : {n n' : ℕ} → SixteenOrList (decode one) cat out n → SixteenOrList (decode two) cat out' n' →
        (n' ≡ n) × (n ≡ 0 → reported out' ≡ reported out)
    either_same {n} {n'} s s' =
        ⊎_elim
        (λ (e : n ≡ 16).
        (s'.only (λ y t. s.none e y (suits_one cat y t)) ∙ sym e, λ z. absurd (omega arith)))
        (λ (other : n ≡ 16 → ⊥).
        let found = s.otherwise other in
        let found' = s'.otherwise (λ e. s'.none e _ (suits_two cat _ found.1.suits)) in
        (found'.0 ∙ sym found.0, λ z. reported_same found.1 found'.1))
        (cases_eq n 16)

  chosen_same : (cat : List ℕ) {out₀ out out₀' out' work₀ work work₀' work' : List ℕ} {n n' : ℕ} → Ample one out₀ work₀ → Ample two out₀' work₀' →
      Chosen one cat out₀ work₀ out work n → Chosen two cat out₀' work₀' out' work' n' → (n' ≡ n) × (n ≡ 0 → reported out' ≡ reported out)
  chosen_same cat {out₀} {out} {out₀'} {out'} {work₀} {work} {work₀'} {work'} {n} {n'} a a' c c' =
      ⊎_elim
      (λ (e : input_no one cat ≡ 0).
      let both = input_both one cat e in
      let both' = input_both two cat (input_same cat ∙ e) in
      either_same cat
      (demand_3.sixteen one cat out₀ work₀ out work n both.0 both.1 a c)
      (demand_3.sixteen two cat out₀' work₀' out' work' n' both'.0 both'.1 a' c'))
      (λ (some : input_no one cat ≡ 0 → ⊥).
      let first = choose_inputs one cat (length out₀) (length work₀) some in
      let second = choose_inputs two cat (length out₀') (length work₀') (λ e. some (sym (input_same cat) ∙ e)) in
      let number : n ≡ input_no one cat = (c.refused (λ e. some (sym first ∙ e))).number ∙ first in
      let number' : n' ≡ input_no two cat = (c'.refused (λ e. some (sym (input_same cat) ∙ sym second ∙ e))).number ∙ second in
      (number' ∙ input_same cat ∙ sym number, λ z. absurd (some (sym number ∙ z))))
      (cases_eq (input_no one cat) 0)

  alike : VersionsAlike one two
  alike =
      record {
        fields = decode_same same;
        number = number_same;
        flow = λ room g g'. given_same (flow_number _ _ room) (rw (decode_same same) (flow_bytes_same 2 (decode one))) g g';
        duty = λ room g g'. given_same (duty_number _ _ room) (rw (decode_same same) (duty_bytes_same 2 (decode one))) g g';
        losses = λ cat sizes room g g'. given_same (losses_number cat sizes _ _ room) (rw (decode_same same) (losses_bytes_same 2 (decode one) cat sizes)) g g';
        heads = λ losses room g g'. given_same (heads_number losses _ _ room) (rw (decode_same same) (heads_bytes_same 2 (decode one) (loss_in losses))) g g';
        rate = λ cat sizes room g g'. given_same (rate_number cat sizes _ _ room) (rw (decode_same same) (rate_bytes_same 2 (decode one) cat sizes)) g g';
        choose = λ cat a a' c c'. chosen_same cat a a' c c';
      }

-- the heat flows of a hot job
module _ (b : List ℕ) (t loss : ℕ) (out₀ out : List ℕ) (g : HeatGiven b t loss out₀ out 0) where
  clear : Clear b t loss (length out₀)
  clear = heat_clear b t loss (length out₀) (sym g.number)

  mean_watts : ℕ
  mean_watts = watts_of (mean_of (decode b)) t loss

  hour_watts : ℕ
  hour_watts = watts_of (hour_of (decode b)) t loss

  rest : List ℕ
  rest = drop (length (heat_bytes (decode b) t loss)) out₀

  result : out ≡ bytes_of 4 mean_watts ++ (bytes_of 4 hour_watts ++ rest)
  unfolding heat_bytes mean_watts hour_watts rest
  result = g.buffer ∙ stored_front out₀ (heat_bytes (decode b) t loss) ∙ append_assoc (bytes_of 4 mean_watts) (bytes_of 4 hour_watts) _

  heat_figures : Bytes b → HeatFigures (decode b) t loss out
  unfolding mean_watts hour_watts bytes_of
  heat_figures bytes =
      let a : Accepted (decode b) = accept_accepted b clear.accepted in
      let mean : watts_of (mean_of (decode b)) t loss ≤ 4249031128 =
      watts_top (mean_of (decode b)) t loss (hot_mean_top a.valid clear.hot (residents_top b bytes)) clear.inside.lost in
      let hour : watts_of (hour_of (decode b)) t loss ≤ 4249031128 =
      watts_top (hour_of (decode b)) t loss (omega (arith, house_hour_top a.valid)) clear.inside.lost in
      let first : be_at 4 out 0 ≡ watts_of (mean_of (decode b)) t loss = be_written 4 out 0 _ (omega arith) (rw result) in
      let second : be_at 4 out 4 ≡ watts_of (hour_of (decode b)) t loss = be_written 4 out 4 _ (omega arith) (rw result) in
      record { mean = first; greatest = second; most = (omega arith, omega arith) }

total : (b : List ℕ) → byte_at b 4 ≡ 1 → service_of (decode b) ≡ 0
unfolding decode header_at
total b e = service_other b (λ two. omega arith)

pub hot_and_cold : HotAndCold
hot_and_cold =
    record {
      day_norms_lem = λ kind p q. (services kind p q).day;
      hour_norms_lem = λ kind p q. (services kind p q).hour;
      either_line = λ kind p q. ((services kind p q).fixture, (services kind p q).hourly);
      total = total;
      counterpart = λ b long fits stated one. counterpart b long fits stated one;
      alike = λ one two same. alike same;
      heat_given = λ b t loss room e hot low few fits. heat_done b t loss room e hot (in_heat t loss (record { cold = low; lost = few })) fits;
      heat = λ job t loss out₀ out bytes g. heat_figures job t loss out₀ out g bytes;
    }
