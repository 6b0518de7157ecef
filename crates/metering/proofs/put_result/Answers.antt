-- `metering::put_result` meets its contract.
-- Assumes nothing.
use mathlib.Core.Path.{refl, ◌∙◌}
use mathlib.Core.List.{[], ◌∷◌}
use native.Mathlib.Omega.{arith}
use Rattle.basis.proofs.Stored.{stored_one, stored_next}
use Rattle.metering.proofs.put_result.Goals as goal

pub returns : goal.returns
returns c =
    c.put_edited.ensures ∙
    rw (stored_one c.args.out.now 0 c.args.place (omega arith))
    (stored_next c.args.out.now 0 (c.args.place ∷ []) 1 _ refl (omega arith))
