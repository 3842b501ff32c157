use Rattle.std.proofs.Common.{◌≡◌, ◌≤◌, List, length, take, filter}
use Rattle.std.specs.Vec.{vec_capacity}
use Rattle.sd_sched.specs.declared.Event.{Event}
use Rattle.sd_history.specs.World.{Setting}
use Rattle.sd_history.specs.Nodes.{NodeStep}
use Rattle.sd_fleet.specs.Standing.{IsAccepted}
use Rattle.sd_fleet.specs.declared.Outcome.{Outcome}
use Rattle.sd_replay.specs.Sights.{AreSentBy}
use Rattle.sd_replay.proofs.observe.collect.Given as goal

abbrev pub invariant-loop-i : goal.invariant-loop-i
invariant-loop-i g l =
    record {
      flights : (setting : Setting) (run : List (NodeStep _)) (event : Event) (outcome : Outcome)
          (accepted : IsAccepted g.N.Node l.fleet setting run event outcome) → AreSentBy l.messages outcome
          → l.sent.items ≡ filter (λ f. f.reaches) (take l.i accepted.next.step.sent);
      few : length l.sent.items ≤ l.i;
      capacity : vec_capacity l.fn.sent ≤ vec_capacity l.sent;
    }
