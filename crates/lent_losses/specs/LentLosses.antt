-- Document 02, L3: "S losses of 4 bytes each, whoever wrote them, as the sections' own", and refusal 19.
-- Assumes nothing.
use Rattle.std.specs.Prelude.{ℕ, ◌-◌, ◌*◌, Bool, ◌&&◌, List, length, leb, eqb}
use Rattle.basis.specs.Range.{all_to}
use Rattle.wire.specs.Wire.{be_at}

-- the loss that is given for section i, in cm
unfoldable pub loss_in : List ℕ → ℕ → ℕ
loss_in losses i = be_at 4 losses (4 * (i - 1))

-- 19 finds nothing: the losses are S long and none is over 4,259,775 cm
unfoldable pub losses_ok : ℕ → List ℕ → Bool
losses_ok count losses = eqb (length losses) (4 * count) && all_to count (λ i. leb (loss_in losses i) 4259775)
