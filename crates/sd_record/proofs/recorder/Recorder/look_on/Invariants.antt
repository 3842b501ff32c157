use Rattle.std.proofs.Common.{◌≡◌, List}
use Rattle.sd_sched.specs.declared.Event.{Event}
use Rattle.sd_history.specs.World.{Setting}
use Rattle.sd_record.specs.Standing.{StandsFor}
use Rattle.sd_record.proofs.recorder.Recorder.look_on.Given as goal

abbrev pub invariant-loop-looked : goal.invariant-loop-looked
invariant-loop-looked l =
    record {
      stands : (setting : Setting) (events : List Event) → StandsFor l.fn.self setting events → StandsFor l.self setting events;
      looked : l.self.looked ≡ l.looked;
      text : l.self.text ≡ l.fn.self.text;
    }
