-- What is promised of a history while none of its premises is broken: no loop of parents, one acting root, and no alarm.
use Rattle.std.specs.Prelude.{◌≡◌, ◌≤◌, List, length, count_by, IsTrue, None}
use Rattle.sd_sched.specs.declared.Event.{Event}
use Rattle.sd_history.specs.World.{Setting}
use Rattle.sd_history.specs.Steps.{Step, seen_of, events_of}
use Rattle.sd_history.specs.Chronicle.{chronicle, IsHistory}
use Rattle.sd_history.specs.Premises.{all_hold}
use Rattle.sd_history.specs.Lines.{first_on_loop, roots, lines_of}
use Rattle.sd_replay.specs.Tallies.{is_alarm}

-- the events are a history, and the steps are their chronicle: the nodes told what devices tell
pub record IsChronicle (setting : Setting) (steps : List Step) (events : List Event) : Type 0 where
  pub history : IsHistory setting events
  pub chronicle : steps ≡ chronicle setting events

-- parents of live devices close no loop, at most one of them acts as root, and the newest event has no line of an alarm
pub record IsCalm (setting : Setting) (steps : List Step) : Type 0 where
  pub no_loop : first_on_loop setting steps ≡ None
  pub one_root : length (roots setting steps) ≤ 1
  pub no_alarm : count_by is_alarm (lines_of setting steps) ≡ 0

-- While no premise is broken: of every setting over which a replay was made.
abbrev pub StaysCalm : Setting → List Step → Type 0
StaysCalm setting steps = IsChronicle setting steps (events_of steps) → IsTrue (all_hold setting (seen_of steps)) → IsCalm setting steps
