-- What a fleet stands for before any event, and after one that is accepted or refused.
use Rattle.std.specs.Prelude.{◌≡◌, ◌≢◌, ℕ, zero, suc, ◌+◌, ◌^◌, ◌<◌, ◌≤◌, Bool, true, false, List, [], ◌∷◌, ◌++◌, length, replicate, Option, Some, None, option_map, IsTrue, IfSome, refl}
use Rattle.std.proofs.Common.{arith, sym, ◌∙◌, ap, subst, inl, inr, add-one}
use Rattle.sd_plan.specs.topo.Network.{Network, Each}
use Rattle.std.proofs.lemmas.Option.{same_Some}
use Rattle.sd_num.specs.Lists.{map_or}
use Rattle.sd_plan.specs.declared.Duty.{Duty}
use Rattle.sd_plan.specs.Tables.{TableRow}
use Rattle.sd_device.specs.declared.node.Node.{Ghosts}
use Rattle.sd_world.specs.membership.Plans.{row_numbered}
use Rattle.sd_sched.specs.declared.Event.{Event}
use Rattle.sd_sched.specs.declared.Event.TheVariants as event
use Rattle.sd_history.specs.declared.ApplyFault.{ApplyFault}
use Rattle.sd_history.specs.declared.ApplyFault.TheVariants.{Memory}
use Rattle.sd_history.specs.World.{Setting}
use Rattle.sd_history.specs.Steps.{Step}
use Rattle.sd_history.specs.Steps as steps
use Rattle.sd_history.specs.Nodes.{NodeStep, IsRun, steps_of, node_in}
use Rattle.sd_world.proofs.world.Answers.{up_stands}
use Rattle.sd_fleet.specs.declared.Reply.{Reply}
use Rattle.sd_fleet.specs.declared.Outcome.{Outcome}
use Rattle.sd_fleet.specs.Registers.{Registers}
use Rattle.sd_fleet.specs.Causes.{refusal_in}
use Rattle.sd_fleet.specs.Doing.{act_in, with_duty, may_send}
use Rattle.sd_fleet.specs.Room.{most_sent_in}
use Rattle.sd_fleet.specs.Outcomes.{outcome_of}
use Rattle.sd_fleet.specs.FabricStanding.{Stands}
use Rattle.sd_fleet.specs.Stepping.{IsAfter, OnlyRoomGrew}
use Rattle.sd_fleet.specs.Sound.{IsSound}
use Rattle.sd_history.specs.Steps.{Act}
use Rattle.sd_fleet.proofs.Admitted.{device_known}
use Rattle.sd_sched.specs.Events.{device_of}
use Rattle.sd_sched.specs.Spelled.{is_within}
use Rattle.sd_fleet.proofs.Refused.{refusal_is}
use Rattle.sd_fleet.specs.declared.nodes.CallContext.{CallContext}
use Rattle.sd_fleet.specs.Nodes.{node_at, CanAct, Acts}
use Rattle.sd_fleet.specs.Calling.{IsNode, IsMessage}
use Rattle.sd_fleet.specs.Bounds.{context_of, AreNodes}
use Rattle.sd_fleet.specs.Standing.{IsFault}
use Rattle.sd_fleet.proofs.Acting.{can_act}
use Rattle.sd_fleet.proofs.Going.{length_acts}
use Rattle.sd_fleet.proofs.Crewing.{nodes_after, nodes_roomy}

-- Before any event

pub replicate_more : {N : Type 0} (n : ℕ) (x : N) → replicate n x ++ x ∷ [] ≡ replicate (n + 1) x
replicate_more n x = by n ∙ sym (ap (λ (k : ℕ). replicate k x) (add-one n))
  where
    by : (k : ℕ) → replicate k x ++ x ∷ [] ≡ replicate (suc k) x
    by zero = refl
    by (suc k) = ap (λ xs. x ∷ xs) (by k)

pub no_node : {N : Type 0} (n d : ℕ) → node_at {N = N} (replicate n None) d ≡ None
no_node zero d = refl
no_node (suc n) zero = refl
no_node (suc n) (suc d) = no_node n d

-- the nodes before any event: nobody is up, nobody has a node
pub nodes_first : {N : Type 0} (g : Ghosts N) (r : Registers) (nodes : List (Option N)) (setting : Setting) → Stands r setting []
    → length nodes ≡ length r.net.devices → ((d : ℕ) → node_at nodes d ≡ None) → AreNodes g r nodes
nodes_first {N = N} g r nodes setting stands places none =
    record {
      places = places;
      there = λ d within up. absurd
          (both_ways (up_stands r.membership.world setting [] d stands.membership.world (subst (λ (net : Network). d < length net.devices) stands.net within))
          up);
      kept = λ d n at. absurd (nobody (node_at nodes d) n (none d) at);
      messages = subst (λ fs. Each (λ f. IsMessage r.membership.world.events f.message) fs) (sym stands.flights) (λ i x at. cc);
    }
  where
    both_ways : {b : Bool} → b ≡ false → b ≡ true → ⊥
    both_ways off on = cc

    nobody : (o : Option N) (n : N) → o ≡ None → o ≡ Some n → ⊥
    nobody o n off on = cc

-- Where only room grew

-- only a tick or a receipt may send
pub may_send_some : (r : Registers) (e : Event) → most_sent_in r e ≢ 0 → IsTrue (may_send e)
may_send_some r (event.Tick reference d counter) some = refl
may_send_some r (event.Recv reference d counter message) some = refl
may_send_some r _ some = absurd (some refl)

-- The faults

pub refused_fault : (r : Registers) (setting : Setting) (earlier : List Step) (e : Event) (fault : ApplyFault) → Stands r setting earlier
    → refusal_in r e ≡ Some fault → IsFault fault setting earlier e
refused_fault r setting earlier e fault stands refused = inl (sym (refusal_is setting r earlier e stands) ∙ refused)

pub memory_fault : (r : Registers) (setting : Setting) (earlier : List Step) (e : Event) → Stands r setting earlier → refusal_in r e ≡ None
    → most_sent_in r e ≢ 0 → IsFault Memory setting earlier e
memory_fault r setting earlier e stands accepted some = inr (refl, sym (refusal_is setting r earlier e stands) ∙ accepted, may_send_some r e some)

-- the nodes where only room grew
pub nodes_grown : {N : Type 0} (g : Ghosts N) (old new : Registers) (nodes : List (Option N)) → AreNodes g old nodes → OnlyRoomGrew old new
    → AreNodes g new nodes
nodes_grown g old new nodes are_nodes grew = nodes_roomy g old new nodes are_nodes grew.net grew.membership grew.flights

-- An accepted event

pub device_if : (r : Registers) (e : Event) → refusal_in r e ≡ None → IfSome (device_of e) (λ d. d < length r.net.devices)
device_if r e accepted = go (device_of e) refl
  where
    go : (o : Option ℕ) → device_of e ≡ o → IfSome o (λ d. d < length r.net.devices)
    go None none = tt
    go (Some d) named = device_known r e accepted d named

pub can_do : {N : Type 0} (g : Ghosts N) (r : Registers) (e : Event) (nodes given : List (Option N)) (context : CallContext) (a : Act) → given ≡ nodes
    → context ≡ context_of r e → a ≡ act_in r e
    → AreNodes g r nodes → IsSound r → refusal_in r e ≡ None → IsTrue (is_within e) → CanAct g given context a
can_do g r e nodes given context a same at is are_nodes sound accepted within =
    subst (λ ns. CanAct g ns context a) (sym same)
    (subst (λ (m : CallContext). CanAct g nodes m a) (sym at)
    (subst (λ (x : Act). CanAct g nodes (context_of r e) x) (sym is) (can_act g r nodes are_nodes sound e accepted within)))

pub length_done : {N : Type 0} (g : Ghosts N) (nodes given after : List (Option N)) (context : CallContext) (a : Act) (reply : Reply) → given ≡ nodes
    → Acts g given a context reply after → length after ≡ length nodes
length_done g nodes given after context a reply same acts = length_acts g given after a context reply acts ∙ ap length same

pub done : {N : Type 0} (g : Ghosts N) (r : Registers) (e : Event) (nodes given after : List (Option N)) (context : CallContext) (a : Act) (reply : Reply)
    → given ≡ nodes → context ≡ context_of r e → a ≡ act_in r e
    → Acts g given a context reply after → Acts g nodes (act_in r e) (context_of r e) reply after
done g r e nodes given after context a reply same at is acts =
    subst (λ ns. Acts g ns (act_in r e) (context_of r e) reply after) same
    (subst (λ (m : CallContext). Acts g given (act_in r e) m reply after) at (subst (λ (x : Act). Acts g given x context reply after) is acts))

-- what the device of an event of this kind can be asked
pub can_as : {N : Type 0} (g : Ghosts N) (r : Registers) (e kind : Event) (nodes : List (Option N)) (context : CallContext) → e ≡ kind
    → context ≡ context_of r e → AreNodes g r nodes → IsSound r → refusal_in r e ≡ None → IsTrue (is_within e) → CanAct g nodes context (act_in r kind)
can_as g r e kind nodes context is at are_nodes sound accepted within =
    can_do g r e nodes nodes context (act_in r kind) refl at (ap (act_in r) (sym is)) are_nodes sound accepted within

-- the act with the duty of a member
pub with_its_duty : (r : Registers) (epoch d : ℕ) (f : Duty → Act) (duty : Duty)
    → option_map (λ row. row.duty) (row_numbered r.membership.plans epoch d) ≡ Some duty → f duty ≡ with_duty r epoch d f
with_its_duty r epoch d f duty has = by (row_numbered r.membership.plans epoch d) has
  where
    by : (o : Option TableRow) → option_map (λ row. row.duty) o ≡ Some duty → f duty ≡ map_or o steps.Passes (λ row. f row.duty)
    by None has' = cc
    by (Some row) has' = ap f (sym (same_Some row.duty duty has'))

-- the numbers of a node that was just made
pub numbers_made : {N : Type 0} (g : Ghosts N) (counter : ℕ) (n : N) → g.floor n ≤ counter → g.ceiling n ≤ 2 ^ 60 → g.height n ≡ 0 → (events : ℕ)
    → IsNode g (events + 1) counter n
numbers_made g counter n floor ceiling height events = record { floor = floor; ceiling = omega (arith, ceiling); height = omega (arith, height) }

pub nodes_next : {N : Type 0} (g : Ghosts N) (r new : Registers) (e : Event) (nodes given after left : List (Option N)) (context : CallContext) (a : Act)
    (reply : Reply) → given ≡ nodes → context ≡ context_of r e → a ≡ act_in r e
    → Acts g given a context reply after → left ≡ after → AreNodes g r nodes → IsSound r → refusal_in r e ≡ None → IsAfter r e reply new → AreNodes g new left
nodes_next g r new e nodes given after left context a reply same at is acts ends are_nodes sound accepted step =
    subst (λ ns. AreNodes g new ns) (sym ends)
    (nodes_after g r new e reply nodes after are_nodes sound accepted (done g r e nodes given after context a reply same at is acts) step)

-- what makes a fleet stand for one step more
pub record GoesOn {N : Type 0} (g : Ghosts N) (new : Registers) (left : List (Option N)) (setting : Setting) (run : List (NodeStep N)) (e : Event)
    (outcome : Outcome) : Type 0 where
  pub step : NodeStep N
  pub happens : step.step.seen.event ≡ e
  pub comes : outcome ≡ outcome_of step.step
  pub is_run : IsRun g setting (step ∷ run)
  pub stands : Stands new setting (steps_of (step ∷ run))
  pub nodes : (d : ℕ) → d < length setting.net.devices → node_at left d ≡ node_in (step ∷ run) d
