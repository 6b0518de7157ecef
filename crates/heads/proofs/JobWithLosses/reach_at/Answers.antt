-- With the path loss that the walk gives, a section's reach is document 01's.
-- Assumes nothing.
use Rattle.std.proofs.Common.{◌≡◌, arith}
use Rattle.std.proofs.lemmas.Int.{ints}
use Rattle.heads.specs.Heads.{reach_of}
use Rattle.heads.proofs.Bounds.{given_few, path_small}
use Rattle.heads.proofs.JobWithLosses.reach_at.Goals as goal

pub bounds-self-place : goal.bounds-self-place
bounds-self-place c = omega (arith, given_few c.args.self.now.given)

pub reach-requires : goal.reach-requires
reach-requires c = omega (arith, path_small c.args.self.now.given)

pub returns : goal.returns
unfolding reach_of
returns c =
    let same : c.from-place.result ≡ c.args.section = omega arith in
    omega (arith, ints, rw (c.path_loss.ensures, same) at c.reach.ensures)
