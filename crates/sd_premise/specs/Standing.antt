-- For which settings and lists the monitors stand, and what they ask of the next event.
use Rattle.std.specs.Prelude.{◌≡◌, ℕ, ◌-◌, ◌<◌, ◌≤◌, ◌^◌, true, List, length, IfSome}
use Rattle.std.specs.Option.{ForSome}
use Rattle.sd_plan.specs.topo.Network.{Network}
use Rattle.sd_plan.specs.topo.Topologies.{network}
use Rattle.sd_history.specs.World.{Setting, Seen}
use Rattle.sd_history.specs.Premises.{broken_in}
use Rattle.sd_world.specs.membership.Plans.{AreSound}
use Rattle.sd_world.specs.world.Registers.{HasNamed}
use Rattle.sd_world.specs.world.Standing.{Stands}
use Rattle.sd_monitors.specs.clocks.Memberships.{AreMembers, ArePresent}
use Rattle.sd_monitors.specs.clocks.Starts.{StartStands}
use Rattle.sd_monitors.specs.clocks.Drifts.{DriftStands}
use Rattle.sd_monitors.specs.clocks.Delays.{DelayStands}
use Rattle.sd_monitors.specs.clocks.Tickings.{TickStands}
use Rattle.sd_monitors.specs.loss.rounds.Standing as rounds
use Rattle.sd_monitors.specs.renewal.Domains.{DomainStands}
use Rattle.sd_monitors.specs.renewal.Renewals.{RenewalStands}
use Rattle.sd_premise.specs.Order.{ComesInOrder}
use Rattle.sd_premise.specs.declared.premises.Premises.{Premises}

-- The monitors keep what the premises say of what was seen, each event of which could follow those before it.
pub record StandsFor (premises : Premises) (setting : Setting) (seen : List Seen) : Type 0 where
  pub order : ComesInOrder setting seen
  pub net : setting.net ≡ network premises.topology
  pub count : length setting.plans < 2 ^ 32
  pub sound : AreSound setting.net setting.plans
  pub members : AreMembers setting premises.members
  pub links : ArePresent setting premises.links
  pub world : Stands premises.world setting seen
  pub start : StartStands premises.start seen
  pub drift : DriftStands setting premises.drift seen
  pub delay : DelayStands setting premises.delay seen
  pub tick : TickStands setting premises.tick seen
  pub loss : rounds.StandsFor premises.loss setting seen
  pub domain : DomainStands setting premises.domain seen
  pub renew : RenewalStands setting premises.renew seen
  pub broken : premises.broken ≡ broken_in setting seen

-- for how many more flights there is room
abbrev pub room_of : Premises → ℕ
room_of premises = rounds.room_of premises.loss

-- the network of the topology that is kept
abbrev pub net_of : Premises → Network
net_of premises = network premises.topology

-- what is asked of the next event, by what is kept. Where the monitors stand for a list, each event that can follow it is such
-- (`proofs/Asking.antt`), given room for its flights.
pub record CanObserve (premises : Premises) (s : Seen) : Type 0 where
  pub room : length s.sent ≤ room_of premises
  pub named : HasNamed premises.world s.event
  pub activated : IfSome s.activated (λ d. d < length (net_of premises).devices)
  pub taken : ForSome s.taken (λ f. f.link < length (net_of premises).links)
  pub events : premises.world.events < 2 ^ 26
  pub epoch : s.closed ≡ true → premises.world.epoch < 2 ^ 32 - 1
