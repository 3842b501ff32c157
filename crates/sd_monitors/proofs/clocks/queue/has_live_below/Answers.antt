use Rattle.std.proofs.Common.{arith}
use Rattle.sd_monitors.proofs.clocks.Queueing.{reach_all, one_below}
use Rattle.sd_monitors.proofs.clocks.queue.has_live_below.Goals as goal

pub returns-then-first-bound-clause-reached : goal.returns-then-first-bound-clause-reached
returns-then-first-bound-clause-reached c _ =
    reach_all c.args.bound c.front.entries.items c.in-Some.first.now c.front.invariant.order c.in-Some.ensures.lookup c.if-first-bound.true

pub returns-then-is_live-clause-below : goal.returns-then-is_live-clause-below
returns-then-is_live-clause-below c _ =
    let here = c.is_live.ensures.stands c.if-is_live.true in
    one_below c.args.bound c.args.marks.now c.in-Some.first.now.place (c.is_live.ensures.live c.if-is_live.true) (omega (arith, here, c.if-first-bound.false))
