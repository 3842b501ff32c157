use Rattle.std.proofs.Common.{◌≡◌, List}
use Rattle.std.specs.BinaryHeap.{heap_len}
use Rattle.sd_sched.specs.declared.Event.{Event}
use Rattle.sd_history.specs.World.{Setting}
use Rattle.sd_record.specs.Standing.{StandsFor}
use Rattle.sd_record.proofs.recorder.Recorder.soonest_before.Given as goal

abbrev pub invariant-endings : goal.invariant-endings
invariant-endings l =
    record {
      stands : (setting : Setting) (events : List Event) → StandsFor l.fn.self setting events → StandsFor l.self setting events;
      looked : l.self.looked ≡ l.fn.self.looked;
      text : l.self.text ≡ l.fn.self.text;
    }

abbrev pub decreases-endings : goal.decreases-endings
decreases-endings l = heap_len l.self.endings.heap
