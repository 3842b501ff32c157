use Rattle.sd_checker.specs.check_hit.Outages.{plan_of}
use Rattle.sd_checker.proofs.check_loop.Answering.{found_cycle}
use Rattle.sd_checker.proofs.check_loop.loop_among.Goals as goal

pub returns-in-Some : goal.returns-in-Some
returns-in-Some c =
    let first = c.in-Some.ensures in
    found_cycle (plan_of c.args.outage.now) c.args.outage.now.hit.now c.in_ok-graph.graph.items c.deref.result.now c.deref-in-Some.result.now
    c.in_ok-marks.marks.items c.deref-2.result.now c.deref-in-Some-2.result.now c.in-Some.begin c.in_ok-shown-in-Some.shown
    c.in_ok-graph.ensures c.deref.ensures.value c.deref-in-Some.ensures.value c.deref-2.ensures.value c.deref-in-Some-2.ensures.value
    c.in_ok-marks.ensures first.0 first.1 first.2 c.in_ok-shown-in-Some.ensures
