-- `meters::Draw::winner`: the best of all meters is the winner.
-- Assumes nothing.
use Rattle.std.proofs.Common.{◌≡◌, ◌+◌, arith}
use Rattle.meters.specs.Meters.{meters_in}
use Rattle.meters.proofs.Least.{Best, best_more, best_wins, best_named}
use Rattle.meters.proofs.Chunks.{chunk_meter}
use Rattle.meters.proofs.Draw.winner.Goals.{After-loop-i}
use Rattle.meters.proofs.Draw.winner.Goals as goal

pub loop-i-preserved : goal.loop-i-preserved
loop-i-preserved c =
    let list = c.args.list.now in
    let next = c.loop-i.i + 1 in
    let meter = chunk_meter list _ c.loop-i.i next _ c.as_chunks.ensures.front (omega arith) (omega arith) in
    rw (c.better-best.ensures, c.from.ensures, meter) (best_more list c.args.self.flow c.args.self.mean next (omega arith) c.loop-i.best c.loop-i.invariant)

-- of the whole list
whole : (c : After-loop-i) → Best c.args.list.now c.args.self.flow c.args.self.mean (meters_in c.args.list.now) c.loop-i.best
whole c =
    let e : c.loop-i.i ≡ meters_in c.args.list.now = omega arith in
    rw e at c.loop-i.invariant

pub returns-clause-place : goal.returns-clause-place
returns-clause-place c = best_wins c.args.list.now c.args.self.flow c.args.self.mean _ (whole c)

pub returns-clause-named : goal.returns-clause-named
returns-clause-named c = best_named c.args.list.now c.args.self.flow c.args.self.mean _ _ (whole c)
