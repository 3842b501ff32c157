-- An event that was tried, and happened.
use Rattle.std.specs.Prelude.{◌≡◌, List, Option, Some, IfSome}
use Rattle.std.proofs.Common.{subst}
use Rattle.sd_device.specs.declared.node.Node.{Ghosts}
use Rattle.sd_device.specs.declared.msg.observer.Observer as observers
use Rattle.sd_sched.specs.declared.Event.{Event}
use Rattle.sd_history.specs.World.{Setting}
use Rattle.sd_history.specs.Nodes.{NodeStep}
use Rattle.sd_replay.specs.declared.replay.QuickEvent.{QuickEvent}
use Rattle.sd_replay.specs.declared.replay.Replay.{Replay}
use Rattle.sd_replay.specs.Replaying.{StandsFor, IsQuick, IsTried}

pub happened : {N V : Type 0} (g : Ghosts N) (o : observers.Ghosts V) (old new : Replay N V g o) (e : Event) (result : Option QuickEvent) (quick : QuickEvent)
    → IsTried g o old new e result → result ≡ Some quick → (setting : Setting) (run : List (NodeStep N)) → StandsFor g o old setting run
    → IsQuick g o new setting run e quick
happened {N} g o old new e result quick tried is =
    subst
    (λ (x : Option QuickEvent). IfSome x (λ i. (setting : Setting) (run : List (NodeStep N)) → StandsFor g o old setting run
    → IsQuick g o new setting run e i)) is tried.accepted
