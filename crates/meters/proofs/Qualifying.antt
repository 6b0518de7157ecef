-- When a meter qualifies, as bounds; and what its loss comes to at most.
-- Assumes nothing.
use mathlib.Core.Path.{◌≡◌}
use mathlib.Core.Bool.{true, false}
use mathlib.Core.Logic.{⊎_elim}
use Prim.Native.Nat.{ℕ, ◌*◌, ◌≤◌, ◌<◌}
use native.Mathlib.Omega.{arith}
use native.Mathlib.Nat.{mul-le-mul}
use lib.Dec.{leb, eqb}
use borrow.Author.Tests.{leb-true}
use Rattle.std.proofs.lemmas.Bool.{cases_Bool}
use Rattle.basis.proofs.Bools.{left, right}
use Rattle.meters.specs.declared.Meter.{Meter}
use Rattle.meters.specs.Meters.{meter_loss, most_loss, qualifies}

-- resistance × q × q for a flow of at most 137,850 ml/s
pub square_top : (r q : ℕ) → r < 65536 → q ≤ 137850 → (r * q ≤ 9033999750) × (r * q * q ≤ 1245336865537500)
square_top r q h k =
    let one : r * q ≤ 65535 * 137850 = mul-le-mul {n₂ = 65535} {m₂ = 137850} (omega arith) k in
    let two : r * q * q ≤ 9033999750 * 137850 = mul-le-mul {n₂ = 9033999750} {m₂ = 137850} (omega arith) k in
    (omega arith, omega arith)

module _ (m : Meter) where
  pub most_top : most_loss m ≤ 500
  unfolding most_loss
  most_top =
      ⊎_elim
      (λ (e : eqb m.form 1 ≡ true). rw e (omega arith))
      (λ (e : eqb m.form 1 ≡ false). rw e (omega arith))
      (cases_Bool (eqb m.form 1))

  module _ (q mean : ℕ) where
    -- as the definition reads
    pub record Fit : Type 0 where
      pub loss : meter_loss m q ≤ most_loss m
      pub service : mean ≤ m.service

    pub fit_of : qualifies m q mean ≡ true → Fit
    unfolding qualifies
    fit_of e =
        record {
          loss = leb-true (meter_loss m q) (most_loss m) (left _ _ e);
          service = leb-true mean m.service (right (leb (meter_loss m q) (most_loss m)) _ e);
        }

    -- no loss of a meter that qualifies is over 500
    pub loss_top : qualifies m q mean ≡ true → meter_loss m q ≤ 500
    loss_top e = omega (arith, most_top, (fit_of e).loss)
