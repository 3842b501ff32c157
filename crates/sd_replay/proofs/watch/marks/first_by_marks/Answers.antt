-- Each device that can be on a loop was passed, and so is settled.
use Rattle.std.proofs.Common.{◌<◌, length, refl, arith}
use Rattle.sd_replay.specs.watch.Watch.{parent_in}
use Rattle.sd_replay.proofs.watch.Following.{has_parent}
use Rattle.sd_replay.proofs.watch.Settling.{only_within}
use Rattle.sd_replay.proofs.watch.Marking.{first_of_all}
use Rattle.sd_replay.proofs.watch.marks.first_by_marks.Goals as goal

pub returns : goal.returns
returns c =
    let parent = parent_in c.args.parents.now in
    first_of_all parent c.loop-start.first c.loop-start.invariant.on_loop
    (λ e loop.
    let next = has_parent parent e loop in
    let within : e < length c.args.parents.now = only_within c.args.parents.now e next.0 next.1 in
    c.loop-start.invariant.settled e (c.loop-start.invariant.passed e (omega arith)) e (record { steps = 0; there = refl }) loop)
