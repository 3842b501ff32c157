-- A call after which its device answers as before, while no window is open.
use Rattle.std.specs.Prelude.{◌≡◌, ℕ, List, length, Option, Some}
use Rattle.sd_device.specs.declared.msg.Flight.{Flight}
use Rattle.sd_device.specs.declared.Effect.{Effect}
use Rattle.sd_device.specs.declared.node.Node.{Ghosts}
use Rattle.sd_device.specs.Calls.{Call}
use Rattle.sd_sched.specs.declared.Event.{Event}
use Rattle.sd_history.specs.Nodes.{answers_of}
use Rattle.sd_world.specs.membership.Standing.{summary}
use Rattle.sd_fleet.specs.declared.Outcome.{Outcome}
use Rattle.sd_fleet.specs.declared.Reply.{Reply}
use Rattle.sd_fleet.specs.declared.messages.Sent.{Sent}
use Rattle.sd_fleet.specs.declared.nodes.CallContext.{CallContext}
use Rattle.sd_fleet.specs.Registers.{Registers}
use Rattle.sd_fleet.specs.Doing.{replied}
use Rattle.sd_fleet.specs.Nodes.{node_at, CallsAt}
use Rattle.sd_fleet.specs.Outcomes.{first_number}
use Rattle.sd_fleet.specs.Sending.{sent_in}
use Rattle.sd_fleet.specs.Stepping.{IsAfter, outcome_resting}

-- the node at the place was called, and answers as before
pub record KeepsAt {N : Type 0} (g : Ghosts N) (old : List (Option N)) (d : ℕ) (call : Call) (context : CallContext) (effect : Effect)
    (new : List (Option N)) : Type 0 where
  pub node : N
  pub was : node_at old d ≡ Some node
  pub calls : CallsAt g old d call context (replied effect (summary (answers_of g node))) new

-- the event, to which its device replied this, leaves the fabric so, and these messages were sent
pub record SendsTo (old : Registers) (e : Event) (reply : Reply) (sent : Sent) (new : Registers) : Type 0 where
  pub after : IsAfter old e reply new
  pub first : sent.first ≡ first_number (sent_in old e reply)
  pub count : sent.count ≡ length (sent_in old e reply)

-- what comes of a tick or a receipt after which the device answers as before: it received this flight, if any, and sent these messages
abbrev pub outcome_keeping : Registers → ℕ → Option Flight → Sent → Outcome
outcome_keeping r d taken sent = record (outcome_resting r d) { taken = taken; first_sent = sent.first; sent = sent.count }
