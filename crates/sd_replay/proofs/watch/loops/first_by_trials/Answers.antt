-- Each device on a loop is the parent of another, and so was tried.
use Rattle.std.proofs.Common.{◌<◌, length, arith}
use Rattle.sd_replay.specs.watch.Watch.{parent_in}
use Rattle.sd_replay.proofs.watch.Following.{is_parent}
use Rattle.sd_replay.proofs.watch.Settling.{only_within, entry_there}
use Rattle.sd_replay.proofs.watch.Marking.{first_of_all}
use Rattle.sd_replay.proofs.watch.loops.first_by_trials.Goals as goal

pub returns : goal.returns
returns c =
    let parent = parent_in c.args.parents.now in
    first_of_all parent c.loop-entry.first c.loop-entry.invariant.on_loop
    (λ e loop.
    let child = is_parent parent e loop in
    let within : child.0 < length c.args.parents.now = only_within c.args.parents.now child.0 e child.1 in
    c.loop-entry.invariant.tried child.0 e (omega arith) (entry_there c.args.parents.now child.0 e child.1) loop)
