-- Document 02, L3: "the first call gives flow (4), velocity (2) and loss (4) per section, the second takes those losses with the job and
-- gives required head, pump head and dictating section. Callers use both; with enough result space for each, the two in turn give the
-- figures or the number that the one gave." And of 19: "over 4,259,775 cm, which no table can give".
-- Assumes nothing.
use Rattle.std.specs.Prelude.{◌≡◌, true, List, ℕ, ◌+◌, ◌-◌, ◌*◌, ◌≤◌, ◌<◌, negsuc, length}
use Rattle.std.specs.Int.Signed.{le_z}
use Rattle.basis.specs.Part.{part}
use Rattle.basis.specs.Range.{concat_to}
use Rattle.wire.specs.Wire.{byte_at, be_at, signed_of}
use Rattle.fields.specs.Fields.{count_of}
use Rattle.record.specs.Record.{decode}
use Rattle.acceptance.specs.Acceptance.{job_no}
use Rattle.catalogue.specs.Layout.{sizes_of}
use Rattle.catalogue.specs.Rules.{cat_no}
use Rattle.heads.specs.Heads.{required_of}
use Rattle.sizing.specs.Losses.{loss_of, loss_at}
use Rattle.rated_bytes.specs.RatedBytes.{rate_length, losses_length, heads_length}
use Rattle.lent_losses.specs.LentLosses.{losses_ok}
use Rattle.order.specs.Promises.{Rated, LossesGiven, HeadsGiven}
use Rattle.demands.specs.Demand2.{Bytes}

-- the losses of the first call's result, gathered for the second: of each section's ten bytes the last four
unfoldable pub gathered : ℕ → List ℕ → List ℕ
gathered count out = concat_to count (λ i. part out (10 * (i - 1) + 6) 4)

-- the buffers of a rating, of the first call and of the second have space for their results, where the job is accepted
pub record Enough (job rated₀ losses₀ heads₀ : List ℕ) : Type 0 where
  pub rate : job_no job ≡ 0 → rate_length (count_of (decode job)) ≤ length rated₀
  pub losses : job_no job ≡ 0 → losses_length (count_of (decode job)) ≤ length losses₀
  pub heads : job_no job ≡ 0 → heads_length ≤ length heads₀

-- the one call gave n; of the two the first gave m and, where that is 0, the second k with the losses gathered from it
pub record ThreeCalls (job cat sizes rated₀ rated losses₀ losses heads₀ heads : List ℕ) (n m k : ℕ) : Type 0 where
  pub one : Rated job cat sizes rated₀ rated n
  pub first : LossesGiven job cat sizes losses₀ losses m
  pub second : m ≡ 0 → HeadsGiven job (gathered (count_of (decode job)) losses) heads₀ heads k

-- the figures of the two are the rating's
pub record SameFigures (count : ℕ) (rated losses heads : List ℕ) : Type 0 where
  pub required : signed_of 32 (be_at 4 heads 0) ≡ signed_of 32 (be_at 4 rated 0)
  pub pump : be_at 4 heads 4 ≡ be_at 4 rated 4
  pub dictating : byte_at heads 8 ≡ byte_at rated 8
  -- these are all nine bytes of the second's result
  pub nine : part heads 0 heads_length ≡ part rated 0 heads_length
  pub velocity : (i : ℕ) → 0 < i → i ≤ count → be_at 2 losses (10 * (i - 1) + 4) ≡ be_at 2 rated (9 + 6 * (i - 1))
  pub loss : (i : ℕ) → 0 < i → i ≤ count → be_at 4 losses (10 * (i - 1) + 6) ≡ be_at 4 rated (11 + 6 * (i - 1))

-- what the two give in turn
pub record Alike (count : ℕ) (rated losses heads : List ℕ) (n m k : ℕ) : Type 0 where
  -- the first gives the number that the one gives: its refusal, or 0 where it gives a result
  pub number : m ≡ n
  -- with a result, the losses gathered from it pass 19,
  pub pass : n ≡ 0 → losses_ok count (gathered count losses) ≡ true
  -- the second gives a result too,
  pub taken : n ≡ 0 → k ≡ 0
  -- and the figures are the rating's
  pub figures : n ≡ 0 → SameFigures count rated losses heads

pub record InTurn : Type 0 where
  -- for every job, catalogue and list, given enough result space; what is lent is bytes, as it always is
  pub alike : (job cat sizes rated₀ rated losses₀ losses heads₀ heads : List ℕ) (n m k : ℕ) → Bytes cat → Enough job rated₀ losses₀ heads₀ →
      ThreeCalls job cat sizes rated₀ rated losses₀ losses heads₀ heads n m k → Alike (count_of (decode job)) rated losses heads n m k
  -- 387, 630 and 9 bytes are enough for every job
  pub longest : (job rated₀ losses₀ heads₀ : List ℕ) → 387 ≤ length rated₀ → 630 ≤ length losses₀ → 9 ≤ length heads₀ →
      Enough job rated₀ losses₀ heads₀
  -- no table gives a loss over 4,259,775 cm: a slope has two bytes, a length is at most 5,000 decimetres and k at most 3
  pub most : (slope decimetres tenths : ℕ) → slope ≤ 65535 → decimetres ≤ 5000 → tenths ≤ 3 → loss_of slope decimetres tenths ≤ 4259775
  -- and the bound is exact: the formula gives just this at the greatest slope, length and k
  pub reached : loss_of 65535 5000 3 ≡ 4259775
  -- so of an accepted job and an accepted catalogue no section with any size loses more
  pub table : (job cat : List ℕ) (s i : ℕ) → job_no job ≡ 0 → cat_no cat ≡ 0 → Bytes cat → 0 < s → s ≤ sizes_of cat → 0 < i →
      i ≤ count_of (decode job) → loss_at (decode job) cat s i ≤ 4259775
  -- the required head of an accepted job is at least -1,000 cm, whatever the losses are, 0 too
  pub lowest : (job : List ℕ) (loss : ℕ → ℕ) → job_no job ≡ 0 → le_z (negsuc 999) (required_of (decode job) loss) ≡ true
