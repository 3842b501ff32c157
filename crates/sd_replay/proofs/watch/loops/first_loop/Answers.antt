-- No device has a mark yet.
use Rattle.sd_replay.proofs.watch.Marking.{fresh}
use Rattle.sd_replay.proofs.watch.loops.first_loop.Goals as goal

pub first_by_marks-requires-clause-new : goal.first_by_marks-requires-clause-new
first_by_marks-requires-clause-new c = fresh 4096
