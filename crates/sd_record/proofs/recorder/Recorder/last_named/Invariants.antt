use Rattle.std.proofs.Common.{◌≡◌, List}
use Rattle.std.specs.BTreeSet.{btree_set_len}
use Rattle.sd_sched.specs.declared.Event.{Event}
use Rattle.sd_history.specs.World.{Setting}
use Rattle.sd_record.specs.Standing.{StandsFor}
use Rattle.sd_record.proofs.recorder.Recorder.last_named.Given as goal

abbrev pub invariant-names : goal.invariant-names
invariant-names l =
    record {
      stands : (setting : Setting) (events : List Event) → StandsFor l.fn.self setting events → StandsFor l.self setting events;
      looked : l.self.looked ≡ l.fn.self.looked;
      text : l.self.text ≡ l.fn.self.text;
    }

abbrev pub decreases-names : goal.decreases-names
decreases-names l = btree_set_len l.self.names.messages
