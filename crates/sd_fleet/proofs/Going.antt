-- What is kept of the nodes stays true with an accepted event.
use Rattle.std.specs.Prelude.{◌≡◌, ℕ, ◌+◌, ◌<◌, ◌≤◌, false, List, length, slice_set, nat_eq, Option, Some, None, Result, Ok, Err, refl}
use Rattle.std.proofs.Common.{sym, ◌∙◌, ap, subst, arith}
use Rattle.std.proofs.lemmas.Bool.{eqb-false}
use Rattle.std.proofs.lemmas.List.{get_or-set_same, get_or-set_other, length-set}
use Rattle.sd_num.specs.Lists.{map_or, same_number}
use Rattle.sd_plan.specs.Tables.{TableRow}
use Rattle.sd_device.specs.declared.msg.Flight.{Flight}
use Rattle.sd_device.specs.declared.msg.Message.{Message}
use Rattle.sd_device.specs.declared.msg.TakeFault.{TakeFault}
use Rattle.sd_device.specs.declared.node.Node.{Ghosts}
use Rattle.sd_device.specs.Limits.{IfSent}
use Rattle.sd_sched.specs.declared.Event.{Event}
use Rattle.sd_sched.specs.declared.Event.TheVariants as event
use Rattle.sd_sched.specs.Events.{device_of}
use Rattle.sd_world.specs.membership.Plans.{row_numbered}
use Rattle.sd_world.specs.membership.Memberships.{staged_number}
use Rattle.sd_device.specs.Calls as calls
use Rattle.sd_history.specs.Steps.{Act}
use Rattle.sd_history.specs.Steps as steps
use Rattle.sd_fleet.specs.declared.Reply.{Reply}
use Rattle.sd_fleet.specs.Registers.{Registers}
use Rattle.sd_fleet.specs.Causes.{flight_at}
use Rattle.sd_fleet.specs.Doing.{act_in, receipt}
use Rattle.sd_fleet.specs.declared.nodes.CallContext.{CallContext}
use Rattle.sd_fleet.specs.Calling.{IsNode, IsMessage}
use Rattle.sd_fleet.specs.Nodes.{node_at, Acts}

-- Numbers

pub message_later : (events : ℕ) (m : Message) → IsMessage events m → IsMessage (events + 1) m
message_later events m is =
    let clock = is.clock in
    let eps = is.eps in
    let term = is.term in
    let round = is.round in
    record { clock = omega arith; eps = omega arith; term = omega arith; round = omega arith }

pub node_later : {N : Type 0} (g : Ghosts N) (events before after : ℕ) (n : N) → before ≤ after → IsNode g events before n → IsNode g (events + 1) after n
node_later g events before after n rises is =
    let floor = is.floor in
    let ceiling = is.ceiling in
    let height = is.height in
    record { floor = omega arith; ceiling = omega arith; height = omega arith }

-- The nodes at their places

-- whose node an act makes, calls or asks
abbrev pub actor : Act → Option ℕ
actor (steps.Makes d making) = Some d
actor (steps.Calls d call) = Some d
actor (steps.Asks d counter) = Some d
actor steps.Passes = None

pub set_other : {N : Type 0} (nodes new : List (Option N)) (m d : ℕ) (x : Option N) → new ≡ slice_set nodes m x → nat_eq m d ≡ false
    → node_at new d ≡ node_at nodes d
set_other nodes new m d x placed other = ap (λ ns. node_at ns d) placed ∙ get_or-set_other nodes m d x None (λ same. eqb-false m d other (sym same))

-- a device that is not addressed keeps its node
pub acts_other : {N : Type 0} (g : Ghosts N) (nodes new : List (Option N)) (a : Act) (context : CallContext) (reply : Reply) (d : ℕ)
    → Acts g nodes a context reply new → same_number (actor a) d ≡ false → node_at new d ≡ node_at nodes d
acts_other g nodes new (steps.Makes m making) context reply d acts other = set_other nodes new m d (Some acts.node) acts.placed other
acts_other g nodes new (steps.Calls m call) context reply d acts other = set_other nodes new m d (Some acts.node) acts.placed other
acts_other g nodes new (steps.Asks m counter) context reply d acts other = ap (λ ns. node_at ns d) acts.1
acts_other g nodes new steps.Passes context reply d acts other = ap (λ ns. node_at ns d) acts.1

-- no node goes
pub some_at : {N : Type 0} (nodes new : List (Option N)) (m : ℕ) (x : N) → m < length nodes → new ≡ slice_set nodes m (Some x) → node_at new m ≡ Some x
some_at nodes new m x within placed = ap (λ ns. node_at ns m) placed ∙ get_or-set_same nodes m (Some x) None within

pub length_acts : {N : Type 0} (g : Ghosts N) (nodes new : List (Option N)) (a : Act) (context : CallContext) (reply : Reply) → Acts g nodes a context reply new
    → length new ≡ length nodes
length_acts g nodes new (steps.Makes m making) context reply acts = ap length acts.placed ∙ length-set nodes m (Some acts.node)
length_acts g nodes new (steps.Calls m call) context reply acts = ap length acts.placed ∙ length-set nodes m (Some acts.node)
length_acts g nodes new (steps.Asks m counter) context reply acts = ap length acts.1
length_acts g nodes new steps.Passes context reply acts = ap length acts.1

-- what is sent is within the limits
pub acts_sent : {N : Type 0} (g : Ghosts N) (nodes new : List (Option N)) (a : Act) (context : CallContext) (reply : Reply) → Acts g nodes a context reply new
    → IfSent reply.effect (IsMessage (context.events + 1))
acts_sent g nodes new (steps.Makes m making) context reply acts = subst (λ (x : Reply). IfSent x.effect (IsMessage (context.events + 1))) (sym acts.replied) tt
acts_sent g nodes new (steps.Calls m call) context reply acts = acts.sent
acts_sent g nodes new (steps.Asks m counter) context reply acts =
    subst (λ (x : Reply). IfSent x.effect (IsMessage (context.events + 1))) (sym acts.0.replied) tt
acts_sent g nodes new steps.Passes context reply acts = subst (λ (x : Reply). IfSent x.effect (IsMessage (context.events + 1))) (sym acts.0) tt

-- The act of an event addresses its device, if any
pub actor_in : (r : Registers) (e : Event) (d : ℕ) → same_number (device_of e) d ≡ false → same_number (actor (act_in r e)) d ≡ false
actor_in r (event.Start reference m counter clock eps) d other = by (row_numbered r.membership.plans r.membership.world.epoch m)
  where
    by : (o : Option TableRow) → same_number (actor (map_or o steps.Passes (λ row. steps.Makes m (calls.Started row.duty counter clock eps)))) d ≡ false
    by None = refl
    by (Some row) = other
actor_in r (event.Join reference m counter clock eps) d other = other
actor_in r (event.Tick reference m counter) d other = other
actor_in r (event.Recv reference m counter message) d other = by (flight_at r message)
  where
    by : (o : Result Flight TakeFault) → same_number (actor (receipt o m counter)) d ≡ false
    by (Ok f) = other
    by (Err x) = refl
actor_in r (event.Fix reference m counter clock eps) d other = other
actor_in r (event.Ask reference m counter) d other = other
actor_in r (event.Give reference m) d other = by (row_numbered r.membership.plans (staged_number r.membership) m)
  where
    by : (o : Option TableRow) → same_number (actor (map_or o steps.Passes (λ row. steps.Calls m (calls.Give row.duty)))) d ≡ false
    by None = refl
    by (Some row) = other
actor_in r (event.Commit reference m counter) d other = other
actor_in r (event.Seal reference m) d other = other
actor_in r _ d other = refl
