-- A list that 19 lets pass stands at the sections' places.
-- Assumes nothing.
use Rattle.std.proofs.Common.{◌≡◌, ◌+◌, ◌∙◌, arith}
use Rattle.lent_losses.specs.LentLosses.{loss_in}
use Rattle.lent_losses.proofs.Chunks.{chunk_loss}
use Rattle.lent_losses.proofs.Listed.{other_length, one_over, listed_none, listed_more, listed_all}
use Rattle.lent_losses.proofs.read_losses.Goals as goal
use Rattle.lent_losses.proofs.read_losses.Goals.{After-at-loss}

pub returns-then-given-count : goal.returns-then-given-count
returns-then-given-count c = other_length _ _ (λ e. omega arith)

pub loop-i-init : goal.loop-i-init
loop-i-init c = listed_none _

-- the number read is the loss of the next section
read : (c : After-at-loss) → c.at-loss.result ≡ loss_in c.args.given.now (c.loop-i.i + 1)
read c = c.at-loss.ensures ∙ chunk_loss c.args.given.now _ c.loop-i.i _ c.as_chunks.ensures.front (omega (arith, c.as_chunks.ensures.front_len))

pub returns-then-loss-gt-MOST_LOSS : goal.returns-then-loss-gt-MOST_LOSS
returns-then-loss-gt-MOST_LOSS c =
    one_over _ _ (omega arith) (c.loop-i.i + 1) (omega arith) (omega (arith, c.as_chunks.ensures.front_len))
    (rw (← read (goal.at.returns-then-loss-gt-MOST_LOSS c).After-at-loss) (omega arith))

pub loop-i-preserved : goal.loop-i-preserved
loop-i-preserved c =
    listed_more _ c.loop-i.invariant (omega arith) (omega (arith, c.as_chunks.ensures.front_len)) (read (goal.at.loop-i-preserved c).After-at-loss) (omega arith)

pub returns : goal.returns
returns c = listed_all _ _ c.loop-i.invariant (omega (arith, c.as_chunks.ensures.front_len)) (omega arith)
