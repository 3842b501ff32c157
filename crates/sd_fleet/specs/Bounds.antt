-- What a fleet keeps of its nodes: that a device that is up has one, how great their numbers are, and whose duty they were given.
use Rattle.std.specs.Prelude.{◌≡◌, ◌≢◌, ℕ, ◌<◌, List, length, true, Option, Some, None, option_map, option_and_then}
use Rattle.sd_num.specs.Lists.{at_place, map_or}
use Rattle.sd_plan.specs.topo.Network.{Each}
use Rattle.sd_plan.specs.declared.Duty.{Duty}
use Rattle.sd_device.specs.declared.node.Node.{Ghosts}
use Rattle.sd_history.specs.Nodes.{answers_of}
use Rattle.sd_world.specs.world.Registers.{up_at, reading_at}
use Rattle.sd_world.specs.declared.membership.AnswerSummary.{AnswerSummary}
use Rattle.sd_world.specs.membership.Plans.{row_numbered}
use Rattle.sd_world.specs.membership.Memberships as membership
use Rattle.sd_world.specs.membership.Standing.{summary}
use Rattle.sd_fleet.specs.Registers.{Registers}
use Rattle.sd_fleet.specs.Doing.{given_in}
use Rattle.sd_sched.specs.declared.Event.{Event}
use Rattle.sd_sched.specs.Events.{device_of}
use Rattle.sd_fleet.specs.declared.nodes.CallContext.{CallContext}
use Rattle.sd_fleet.specs.Calling.{IsNode, IsMessage}
use Rattle.sd_fleet.specs.Nodes.{node_at}

-- the number of the plan whose duty the device was given last, by what it answered
abbrev pub given_at : membership.Registers → ℕ → Option ℕ
given_at r d = option_and_then (λ (a : AnswerSummary). a.given) (at_place r.answers d None (λ a. a))

-- the context of an event, by the device that it names
abbrev pub context_of : Registers → Event → CallContext
context_of r e = record { given = given_in r e; events = r.membership.world.events; reading = map_or (device_of e) 0 (reading_at r.membership.world) }

-- what is kept of the node of one device
pub record IsKept {N : Type 0} (g : Ghosts N) (r : Registers) (d : ℕ) (n : N) : Type 0 where
  pub numbers : IsNode g r.membership.world.events (reading_at r.membership.world d) n
  -- what it answers is known, and its given duty is the device's own in that plan
  pub answers : at_place r.membership.answers d None (λ a. a) ≡ Some (summary (answers_of g n))
  pub duty : (duty : Duty) → g.given n ≡ Some duty → option_map (λ row. row.duty) (row_numbered r.membership.plans duty.epoch d) ≡ Some duty

-- the nodes are those of the devices, each as it has to be
pub record AreNodes {N : Type 0} (g : Ghosts N) (r : Registers) (nodes : List (Option N)) : Type 0 where
  pub places : length nodes ≡ length r.net.devices
  pub there : (d : ℕ) → d < length r.net.devices → up_at r.membership.world d ≡ true → node_at nodes d ≢ None
  pub kept : (d : ℕ) (n : N) → node_at nodes d ≡ Some n → IsKept g r d n
  pub messages : Each (λ f. IsMessage r.membership.world.events f.message) r.book.flights
