-- The heads from the losses at the sections' places, where the losses that are given stand there.
-- Assumes nothing.
use mathlib.Core.Path.{◌≡◌}
use mathlib.Core.List.{List}
use Prim.Native.Nat.{ℕ, ◌+◌, ◌≤◌, ◌<◌}
use native.Mathlib.Omega.{arith}
use lib.ListN.{get_or}
use Rattle.basis.specs.Slots.{slots}
use Rattle.basis.proofs.Slots.{slots_in}
use Rattle.fields.specs.declared.Job.{Job}
use Rattle.fields.specs.Fields.{count_of}
use Rattle.demand.specs.Demand.{Accepted}
use Rattle.demand.proofs.Validity.{valid_count, valid_sections, valid_rooted}
use Rattle.heads.specs.Steps.{Given}
use Rattle.rated_bytes.specs.RatedBytes.{heads_bytes}
use Rattle.rated_bytes.proofs.Same.{heads_same}

module _ (job : Job) (accepted : Accepted job) (loss : ℕ → ℕ) {at : List ℕ} (placed : at ≡ slots 64 1 (count_of job + 1) 0 loss) where
  pub placed_at : (i : ℕ) → 0 < i → i ≤ count_of job → get_or at i 0 ≡ loss i
  placed_at i low high =
      let few = (valid_count accepted.valid).high in
      rw placed (slots_in 64 1 (count_of job + 1) 0 loss i 0 (omega arith) (omega arith) (omega arith))

  pub given_of : ((i : ℕ) → 0 < i → i ≤ count_of job → loss i ≤ 4259775) → Given job at
  given_of top =
      record {
        header = accepted.valid.header;
        sections = valid_sections accepted.valid;
        top = λ i low high. rw (placed_at i low high) (top i low high);
      }

  pub given_bytes : heads_bytes job (λ i. get_or at i 0) ≡ heads_bytes job loss
  given_bytes = heads_same job (valid_rooted accepted.valid) (valid_count accepted.valid).low (λ i. get_or at i 0) loss placed_at
