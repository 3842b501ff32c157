use Rattle.std.proofs.Common.{List, ◌-◌, ◌^◌}
use Rattle.sd_sched.specs.declared.Event.{Event}
use Rattle.sd_history.specs.World.{Setting}
use Rattle.sd_record.specs.Recorded.{lose_all}
use Rattle.sd_record.specs.Standing.{HoldsSince}
use Rattle.sd_record.proofs.Losing.{StillTo}
use Rattle.sd_record.proofs.recorder.Recorder.lose_all.Given as goal

abbrev pub invariant-losses : goal.invariant-losses
invariant-losses l =
    (setting : Setting) (start events : List Event) → HoldsSince l.fn.self setting start events
    → StillTo l.self setting start l.reference (2 ^ 64 - 1 - l.counter) (lose_all setting l.reference events)
