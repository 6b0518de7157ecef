-- The heat flows are bounded, and are written one after the other.
-- Assumes nothing.
use Rattle.std.proofs.Common.{arith, rules, refl}
use Rattle.basis.proofs.Stored.{stored_next}
use Rattle.wire.specs.Wire.{bytes_of}
use Rattle.heating.specs.Calls.{heat_bytes}
use Rattle.heating.proofs.HeatBounds.{hot_mean_top}
use Rattle.heating.proofs.put_result.Goals as goal

pub watts-mean-requires : goal.watts-mean-requires
watts-mean-requires c =
    rw c.mean.ensures (hot_mean_top c.args.accepted.accepted.valid c.requires.0 (λ kind p q. search rules))

pub returns : goal.returns
unfolding heat_bytes bytes_of
returns c =
    rw (
      c.put_at-2.ensures,
      c.put_at.ensures,
      c.watts-greatest.ensures,
      c.hour.ensures,
      c.watts-mean.ensures,
      c.mean.ensures,
      stored_next c.args.out.now 0 _ 4 _ refl (omega arith),
    )
