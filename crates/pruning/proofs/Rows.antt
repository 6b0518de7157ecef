-- The least loss of a section's row of sizes.
-- Assumes nothing.
use Rattle.std.proofs.Common.{◌≡◌, ℕ, ◌+◌, ◌-◌, ◌*◌, ◌≤◌, ◌<◌, List, Option, None, Some, MatchOption, ◌∙◌, sym, arith, length, get_or}
use Rattle.std.specs.List.{EachIndex, SomeIndex}
use Rattle.nets.specs.Tables.{top}
use Rattle.nets.specs.NetIn.{net_in}
use Rattle.nets.specs.declared.Tables.{Tables}
use Rattle.pruning.specs.Steps.{Emptied, LeastLoss}

pub row_least : (b : Tables) (s : ℕ) (row : List ℕ) (least : Option ℕ) → length row ≡ b.sizes →
    ((k : ℕ) → k < b.sizes → get_or row k 0 ≡ get_or b.losses (s * 13 + (k + 1)) 0) →
    MatchOption least (EachIndex row (λ k. top ≤ get_or row k 0)) (λ l. (l < top) × SomeIndex row (λ k. get_or row k 0 ≡ l) × EachIndex row (λ k. l ≤ get_or row k 0)) →
    MatchOption least (Emptied (net_in b) s) (LeastLoss (net_in b) s)
row_least b s row None long is h =
    record { each = λ t p l. let e : t - 1 + 1 ≡ t = omega arith in rw (← e) (rw (← (is (t - 1) (omega arith))) (h (t - 1) (omega arith))) }
row_least b s row (Some least) long is h =
    record {
      each = λ t p l. let e : t - 1 + 1 ≡ t = omega arith in rw (← e) (rw (← (is (t - 1) (omega arith))) (h.2 (t - 1) (omega arith)));
      some =
          let i = h.1 in
          let low : i.0 < b.sizes = omega (arith, i.1) in
          (i.0 + 1, omega arith, omega arith, sym (is i.0 low) ∙ i.2);
      real = h.0;
    }
