-- L3: the losses call and the heads call in turn give what the rating call gives.
-- Assumes nothing.
use mathlib.Core.Path.{◌≡◌, refl, sym, ◌∙◌}
use mathlib.Core.Bool.{true}
use mathlib.Core.List.{List, [], append-nil}
use Prim.Native.Nat.{ℕ, ◌+◌, ◌-◌, ◌*◌, ◌≤◌, ◌<◌}
use native.Mathlib.Omega.{arith}
use lib.ListN.{length}
use Rattle.basis.specs.Part.{part}
use Rattle.basis.specs.Range.{concat_to}
use Rattle.basis.specs.Round.{up}
use Rattle.basis.proofs.Concat.{concat_ext, concat_length, concat_part}
use Rattle.wire.specs.Wire.{bytes_of}
use Rattle.wire.proofs.Fields.{be_written, bytes_length}
use Rattle.fields.specs.Fields.{count_of}
use Rattle.record.specs.Record.{decode}
use Rattle.demand.specs.Demand.{Accepted}
use Rattle.demand.proofs.Validity.{valid_count, valid_rooted}
use Rattle.acceptance.specs.Acceptance.{job_no}
use Rattle.acceptance.proofs.Accepting.{accept_accepted, input_both}
use Rattle.catalogue.proofs.AcceptedCat.{cat_of}
use Rattle.heads.proofs.Same.{required_same, pump_same, dictating_same}
use Rattle.sizing.specs.Losses.{loss_of, losses_of}
use Rattle.sizing.proofs.LossBounds.{loss_top}
use Rattle.rated_bytes.proofs.Same.{heads_same}
use Rattle.rating.proofs.Ordering.{sized_same}
use Rattle.lent_losses.specs.LentLosses.{loss_in, losses_ok}
use Rattle.lent_losses.proofs.Listed.{losses_pass}
use Rattle.lent_losses.proofs.Ordering.{heads_done}
use Rattle.order.specs.Promises.{Rated, LossesGiven, HeadsGiven}
use Rattle.demands.specs.Demand2.{Bytes}
use Rattle.demands.specs.InTurn.{gathered, Enough, ThreeCalls, SameFigures, Alike, InTurn}
use Rattle.demands.proofs.Heads.{heads_front, heads_figures}
use Rattle.demands.proofs.Lowest.{lowest}
use Rattle.demands.proofs.Ratings.{passed_job, table_top, losses_small, losses_rateable, losses_bytes_lem, rate_front, rate_figures, losses_figures}

-- where the first call gives a result: what is gathered from it
module _ (b cat sizes out₀ out : List ℕ) (bytes : Bytes cat) (g : LossesGiven b cat sizes out₀ out 0) where
  gathered_is : gathered (count_of (decode b)) out ≡ concat_to (count_of (decode b)) (λ i. bytes_of 4 (losses_of (decode b) cat sizes i))
  unfolding gathered
  gathered_is =
      concat_ext (count_of (decode b)) (λ i. part out (10 * (i - 1) + 6) 4) (λ i. bytes_of 4 (losses_of (decode b) cat sizes i))
      (λ i h k. losses_bytes_lem b cat sizes out₀ out bytes g i h k)

  gathered_long : length (gathered (count_of (decode b)) out) ≡ 4 * count_of (decode b)
  gathered_long = rw gathered_is (concat_length 4 (λ i. bytes_of 4 (losses_of (decode b) cat sizes i)) (λ i. bytes_length 4 _) (count_of (decode b)))

  -- the second call reads each section's loss there
  gathered_at : (i : ℕ) → 0 < i → i ≤ count_of (decode b) → loss_in (gathered (count_of (decode b)) out) i ≡ losses_of (decode b) cat sizes i
  unfolding loss_in
  gathered_at i h k =
      let f : ℕ → List ℕ = λ j. bytes_of 4 (losses_of (decode b) cat sizes j) in
      let top = losses_small (losses_rateable b cat sizes out₀ out bytes g) bytes i h k in
      let at = concat_part 4 f (λ j. bytes_length 4 _) (count_of (decode b)) i [] h k in
      be_written 4 _ (4 * (i - 1)) (losses_of (decode b) cat sizes i) (omega arith) (rw gathered_is (rw (append-nil (concat_to (count_of (decode b)) f)) at at))

  gathered_pass : losses_ok (count_of (decode b)) (gathered (count_of (decode b)) out) ≡ true
  gathered_pass =
      losses_pass (count_of (decode b)) _ gathered_long
      (λ i h k. rw (gathered_at i h k) (losses_small (losses_rateable b cat sizes out₀ out bytes g) bytes i h k))

  -- and so finds the rating's heads
  heads_of_lem : {rated₀ rated heads₀ heads : List ℕ} → Accepted (decode b) → Rated b cat sizes rated₀ rated 0 →
      HeadsGiven b (gathered (count_of (decode b)) out) heads₀ heads 0 → SameFigures (count_of (decode b)) rated out heads
  heads_of_lem {rated₀} {rated} {heads₀} {heads} accepted one second =
      let rooted = valid_rooted accepted.valid in
      let some = (valid_count accepted.valid).low in
      let given : ℕ → ℕ = loss_in (gathered (count_of (decode b)) out) in
      let own : ℕ → ℕ = losses_of (decode b) cat sizes in
      let l = losses_figures b cat sizes out₀ out bytes g in
      let r = rate_figures b cat sizes rated₀ rated bytes one in
      let h = heads_figures b (gathered (count_of (decode b)) out) heads₀ heads second in
      record {
        required = h.required ∙ required_same (decode b) rooted some given own gathered_at ∙ sym r.heads.required;
        pump = h.pump ∙ pump_same (decode b) rooted some given own gathered_at ∙ sym r.heads.pump;
        dictating = h.dictating ∙ dictating_same (decode b) rooted some given own gathered_at ∙ sym r.heads.dictating;
        nine = heads_front b _ heads₀ heads second ∙ heads_same (decode b) rooted some given own gathered_at ∙ sym (rate_front b cat sizes rated₀ rated bytes one);
        velocity = λ i a k. l.velocity i a k ∙ sym (r.velocity i a k);
        loss = λ i a k. l.loss i a k ∙ sym (r.loss i a k);
      }

-- with space for both results the first call's number is the rating's
module _ {b cat sizes rated₀ rated losses₀ losses heads₀ heads : List ℕ} {n m k : ℕ} (bytes : Bytes cat)
    (enough : Enough b rated₀ losses₀ heads₀) (c : ThreeCalls b cat sizes rated₀ rated losses₀ losses heads₀ heads n m k) where
  first_same : m ≡ n
  first_same =
      c.first.number ∙
      sized_same b cat sizes (length losses₀) _ (length rated₀) _ (λ e. enough.losses (input_both b cat e).0) (λ e. enough.rate (input_both b cat e).0) ∙
      sym c.one.number

  -- where that is 0
  module _ (none : n ≡ 0) where
    one_given : Rated b cat sizes rated₀ rated 0
    one_given = rw none at c.one

    first_given : LossesGiven b cat sizes losses₀ losses 0
    first_given = rw (first_same ∙ none) at c.first

    accepted : Accepted (decode b)
    accepted = (losses_rateable b cat sizes losses₀ losses bytes first_given).job

    pass : losses_ok (count_of (decode b)) (gathered (count_of (decode b)) losses) ≡ true
    pass = gathered_pass b cat sizes losses₀ losses bytes first_given

    second_none : k ≡ 0
    second_none =
        let job = passed_job b cat sizes (length losses₀) _ (sym first_given.number) in
        (c.second (first_same ∙ none)).number ∙ heads_done b (gathered (count_of (decode b)) losses) (length heads₀) job pass (enough.heads job)

    figures : SameFigures (count_of (decode b)) rated losses heads
    figures =
        heads_of_lem b cat sizes losses₀ losses bytes first_given accepted one_given (rw second_none at (c.second (first_same ∙ none)))

  alike : Alike (count_of (decode b)) rated losses heads n m k
  alike =
      record {
        number = first_same;
        pass = pass;
        taken = second_none;
        figures = figures;
      }

-- the longest results are those of 63 sections
longest : (job rated₀ losses₀ heads₀ : List ℕ) → 387 ≤ length rated₀ → 630 ≤ length losses₀ → 9 ≤ length heads₀ → Enough job rated₀ losses₀ heads₀
longest job rated₀ losses₀ heads₀ rate losses heads =
    let few : job_no job ≡ 0 → count_of (decode job) ≤ 63 = λ e. (valid_count (accept_accepted job e).valid).high in
    record {
      rate = λ e. let most = few e in omega arith;
      losses = λ e. let most = few e in omega arith;
      heads = λ e. heads;
    }

reached : loss_of 65535 5000 3 ≡ 4259775
unfolding loss_of up
reached = refl

pub in_turn : InTurn
in_turn =
    record {
      alike = λ job cat sizes rated₀ rated losses₀ losses heads₀ heads n m k bytes enough c. alike bytes enough c;
      longest = longest;
      most = loss_top;
      reached = reached;
      table = λ job cat s i e f bytes low high h k. table_top (accept_accepted job e) (cat_of cat f) bytes s i low high h k;
      lowest = lowest;
    }
