-- The heads' bytes, from their three numbers written one after another.
-- Assumes nothing.
use Rattle.std.proofs.Common.{◌≡◌, refl, ◌∙◌, arith, rules}
use Rattle.basis.specs.Stored.{stored}
use Rattle.wire.specs.Wire.{bytes_of, bits_of}
use Rattle.rated_bytes.specs.RatedBytes.{heads_bytes}
use Rattle.rated_bytes.proofs.Written.{heads_stored}
use Rattle.rated_bytes.proofs.put_heads.Goals as goal

pub returns : goal.returns
unfolding heads_bytes
returns c =
    let first : c.put_at.new.s ≡ stored c.args.out.now 0 (bytes_of 4 (bits_of 32 c.heads-heads.result.required)) = search rules in
    rw (c.put_at-2.ensures, first)
    (heads_stored _ _ _ _ (omega arith) ∙ rw (c.heads-heads.ensures.0, c.heads-heads.ensures.1, c.heads-heads.ensures.2) refl)
