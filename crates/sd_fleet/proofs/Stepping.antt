-- What makes a fleet stand for one step more, where the fabric's registers and the outcome are told.
use Rattle.std.specs.Prelude.{◌≡◌, ℕ, ◌<◌, ◌≤◌, List, length, Option, None, IsTrue, Result, Ok, refl}
use Rattle.std.proofs.Common.{arith, sym, ◌∙◌, ap, subst}
use Rattle.sd_device.specs.declared.msg.Flight.{Flight}
use Rattle.sd_device.specs.declared.msg.TakeFault.{TakeFault}
use Rattle.sd_device.specs.declared.node.Node.{Ghosts}
use Rattle.sd_device.specs.Calls as calls
use Rattle.sd_sched.specs.declared.Event.{Event}
use Rattle.sd_sched.specs.declared.Event.TheVariants as event
use Rattle.sd_sched.specs.Spelled.{is_within}
use Rattle.sd_plan.specs.topo.Network.{Network}
use Rattle.sd_world.specs.membership.Memberships as membership
use Rattle.sd_history.specs.Steps as steps
use Rattle.sd_history.specs.Steps.{act_by}
use Rattle.sd_history.specs.World.{Setting}
use Rattle.sd_history.specs.Nodes.{NodeStep, IsRun, steps_of, node_in}
use Rattle.sd_fleet.specs.declared.Reply.{Reply}
use Rattle.sd_fleet.specs.declared.Outcome.{Outcome}
use Rattle.sd_fleet.specs.Registers.{Registers, kept}
use Rattle.sd_fleet.specs.Room.{ends_in}
use Rattle.sd_fleet.specs.Sound.{IsSound}
use Rattle.sd_fleet.specs.Causes.{refusal_in, flight_at}
use Rattle.sd_fleet.specs.Doing.{act_in, receipt, IsReplyTo}
use Rattle.sd_fleet.specs.FabricStanding.{Stands}
use Rattle.sd_fleet.specs.Stepping.{IsAfter, IsWithout, outcome_in}
use Rattle.sd_fleet.proofs.FabricStepping.{stands_next}
use Rattle.sd_fleet.proofs.Outcoming.{outcome_is}
use Rattle.sd_fleet.specs.declared.nodes.CallContext.{CallContext}
use Rattle.sd_fleet.specs.Nodes.{node_at, CanAct, CallsAt, Acts}
use Rattle.sd_fleet.specs.Bounds.{AreNodes, context_of}
use Rattle.sd_fleet.proofs.FabricActing.{act_is}
use Rattle.sd_fleet.proofs.Following.{Shows, shows, next, goes_on, nodes_stand}
use Rattle.sd_fleet.proofs.Applying.{GoesOn, can_do}

pub goes_further : {N : Type 0} (g : Ghosts N) (r new : Registers) (e : Event) (nodes given after left : List (Option N)) (context : CallContext)
    (reply : Reply) (outcome : Outcome) → given ≡ nodes → Acts g given (act_in r e) context reply after → left ≡ after → AreNodes g r nodes
    → refusal_in r e ≡ None → IsReplyTo e reply → IsAfter r e reply new → outcome ≡ outcome_in r e reply → (setting : Setting) (run : List (NodeStep N))
    → IsRun g setting run → Stands r setting (steps_of run) → ((d : ℕ) → d < length setting.net.devices → node_at nodes d ≡ node_in run d)
    → GoesOn g new left setting run e outcome
goes_further g r new e nodes given after left context reply outcome same acts ends are_nodes accepted tells step comes setting run earlier stands kept =
    let shown : Shows g given after (act_by setting (steps_of run) e) reply =
    subst (λ (x : steps.Act). Shows g given after x reply) (act_is setting r (steps_of run) stands e accepted)
    (shows g given after (act_in r e) context reply acts)
    in
    let size : length given ≡ length setting.net.devices = ap length same ∙ are_nodes.places ∙ ap (λ (n : Network). length n.devices) stands.net in
    let before : (d : ℕ) → d < length setting.net.devices → node_at given d ≡ node_in run d = λ d within. ap (λ ns. node_at ns d) same ∙ kept d within in
    record {
      step = next g setting run r e reply given after earlier stands size before accepted shown;
      happens = refl;
      comes = comes ∙ outcome_is setting r (steps_of run) stands e reply shown.told accepted shown.says tells;
      is_run = goes_on g setting run r e reply given after earlier stands size before accepted shown;
      stands = stands_next setting r (steps_of run) stands e reply shown.told accepted shown.says tells new step;
      nodes = λ d within. ap (λ ns. node_at ns d) ends ∙ nodes_stand g setting run r e reply given after earlier stands size before accepted shown d within;
    }

pub can_tick : {N : Type 0} (g : Ghosts N) (r : Registers) (reference d counter : ℕ) (nodes given : List (Option N)) (context : CallContext) → given ≡ nodes
    → context ≡ context_of r (event.Tick 0 d 0) → AreNodes g r nodes → IsSound r → refusal_in r (event.Tick reference d counter) ≡ None
    → IsTrue (is_within (event.Tick reference d counter)) → CanAct g given context (steps.Calls d (calls.Tick counter))
can_tick g r reference d counter nodes given context same at are_nodes sound accepted within =
    can_do g r (event.Tick reference d counter) nodes given context (steps.Calls d (calls.Tick counter)) same at refl are_nodes sound accepted within

-- A receipt

pub can_receive : {N : Type 0} (g : Ghosts N) (r : Registers) (reference d counter message : ℕ) (f : Flight) (nodes given : List (Option N))
    (context : CallContext) → given ≡ nodes → context ≡ context_of r (event.Tick 0 d 0) → flight_at r message ≡ Ok f → AreNodes g r nodes → IsSound r
    → refusal_in r (event.Recv reference d counter message) ≡ None → IsTrue (is_within (event.Recv reference d counter message))
    → CanAct g given context (steps.Calls d (calls.Receive f.link f.message counter))
can_receive g r reference d counter message f nodes given context same at found are_nodes sound accepted within =
    can_do g r (event.Recv reference d counter message) nodes given context (steps.Calls d (calls.Receive f.link f.message counter)) same at
    (sym (ap (λ o. receipt o d counter) found)) are_nodes sound accepted within

-- there is room as before
pub room_without : (old mid : Registers) (d message : ℕ) → IsWithout message old mid → ends_in old d ≤ old.book.room → ends_in mid d ≤ mid.book.room
room_without old mid d message left room =
    let same : ends_in mid d ≡ ends_in old d =
    ap (λ (n : Network). ends_in (kept n mid.membership mid.book) d) left.net
    ∙ ap (λ (m : membership.Registers). ends_in (kept old.net m mid.book) d) left.membership in
    omega (arith, same, left.room, room)

-- the call of that flight is what the event does
pub received_acts : {N : Type 0} (g : Ghosts N) (given after : List (Option N)) (context : CallContext) (reply : Reply) (look : Result Flight TakeFault)
    (f : Flight) (d counter : ℕ) → look ≡ Ok f → CallsAt g given d (calls.Receive f.link f.message counter) context reply after
    → Acts g given (receipt look d counter) context reply after
received_acts g given after context reply look f d counter found calls_ =
    subst (λ (o : Result Flight TakeFault). Acts g given (receipt o d counter) context reply after) (sym found) calls_
