-- The steps of every run are accepted, and so is every chronicle of a history.
use Rattle.std.specs.Prelude.{List, [], ◌∷◌, refl}
use Rattle.sd_device.specs.declared.node.Node.{Ghosts}
use Rattle.sd_sched.specs.declared.Event.{Event}
use Rattle.sd_history.specs.World.{Setting}
use Rattle.sd_history.specs.Accepted.{AreSteps}
use Rattle.sd_history.specs.Chronicle.{chronicle, IsHistory}
use Rattle.sd_history.specs.Nodes.{NodeStep, steps_of, IsRun}

pub run_is_accepted : {N : Type 0} (g : Ghosts N) (setting : Setting) (run : List (NodeStep N)) → IsRun g setting run → AreSteps setting (steps_of run)
run_is_accepted g setting [] is = tt
run_is_accepted g setting (x ∷ earlier) is = (run_is_accepted g setting earlier is.0, is.1, is.2.is)

pub history_is_accepted : (setting : Setting) (history : List Event) → IsHistory setting history → AreSteps setting (chronicle setting history)
history_is_accepted setting [] is = tt
history_is_accepted setting (e ∷ earlier) is = (history_is_accepted setting earlier is.0, is.1, refl)
