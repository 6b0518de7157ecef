-- Each kind's residents are read at their place.
-- Assumes nothing.
use Rattle.std.proofs.Common.{rules}
use Rattle.record.specs.Record.{residents_at}
use Rattle.decoding.proofs.Arrays.{made}
use Rattle.decoding.proofs.residents_of.Goals as goal

pub returns : goal.returns
unfolding residents_at
returns c = made _ _ _ (λ i y q k. search rules) 12 _ 0 c.from_fn.ensures.items
