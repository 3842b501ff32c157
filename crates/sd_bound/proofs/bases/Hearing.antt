-- What a member hears in a history without a stage: a message that the parent of the hop that it is on sent before, over that hop. So the estimate
-- that it sets has the uncertainty of the message and half of the hop's spread.
use Rattle.std.specs.Prelude.{◌≡◌, ℕ, ◌<◌, Bool, true, false, ◌∷◌, length, List, Option, Some, None, option_map, refl, if◌then◌else◌}
use Rattle.std.proofs.Common.{sym, ◌∙◌, ap, subst, inl, inr}
use Rattle.sd_num.specs.Lists.{map_or}
use Rattle.sd_plan.specs.topo.Network.{Network, joins}
use Rattle.sd_plan.specs.declared.Hop.{Hop as PlanHop}
use Rattle.sd_plan.specs.declared.Plan.{Plan}
use Rattle.sd_plan.specs.declared.Edge.{Edge}
use Rattle.sd_plan.specs.declared.Duty.{Duty}
use Rattle.sd_plan.specs.Plans.{primary_of, backup_of}
use Rattle.sd_plan.specs.Duties.{duty_of, edge_of}
use Rattle.sd_device.specs.declared.msg.Message.{Message}
use Rattle.sd_device.specs.declared.msg.Flight.{Flight}
use Rattle.sd_device.specs.Calls.{Receive, Past}
use Rattle.sd_device.specs.Words.{transition_of, after, accepted_over, duty_now, given_now, epoch_now, primary_now, backup_now, has_moved, is_acting}
use Rattle.sd_sched.specs.declared.Event.{Event}
use Rattle.sd_history.specs.World.{plan_numbered, alone}
use Rattle.sd_history.specs.Steps.{Calls, act_by}
use Rattle.sd_history.specs.Chronicle.{past_in, next_step}
use Rattle.sd_history.proofs.Given.{some_is}
use Rattle.sd_safety.specs.messages.Moments.{IsChronicle, Moment, when, IsIn, Sends, Accepts, entering, following}
use Rattle.sd_safety.proofs.messages.Tails.{history_chronicle, tail_chronicle}
use Rattle.sd_safety.proofs.messages.Sending.{accepted_why, sends_own}
use Rattle.sd_safety.proofs.messages.Flights.{IsSentBy, moment_sends}
use Rattle.sd_safety.proofs.messages.Receipts.{Taken, taken_flight, CameFrom, came_from}
use Rattle.sd_safety.specs.messages.Hops.{IsPlanHop, Leads}
use Rattle.sd_safety.proofs.messages.Parents.{ends_lead}
use Rattle.sd_safety.proofs.windows.Entering.{joins_one}
use Rattle.sd_bound.specs.Recovering.{steps_under}
use Rattle.sd_bound.proofs.histories.Plain.{IsPlain, plain_before}
use Rattle.sd_bound.proofs.histories.Lives.{none_given}
use Rattle.sd_bound.proofs.histories.Standing.{IsLive}
use Rattle.sd_bound.proofs.bases.Planned.{WellPlanned, led_joined}

-- the hop that a device of this past is on
abbrev pub hop_now : Plan → Past → ℕ → Option PlanHop
hop_now plan past d = if has_moved past then backup_of plan d else primary_of plan d

-- the device follows a hop, over this edge
pub record IsOn (net : Network) (plan : Plan) (past : Past) (d : ℕ) (edge : Edge) : Type 0 where
  pub idle : is_acting past ≡ false
  pub hop : PlanHop
  pub hop_is : hop_now plan past d ≡ Some hop
  pub edge_is : edge_of net d hop ≡ edge

-- where an accepted message came from
pub record IsHeard (net : Network) (plan : Plan) (history : List Event) (past : Past) (d : ℕ) (message : Message) (edge : Edge) : Type 0 where
  pub on : IsOn net plan past d edge
  pub from : Moment
  pub before : IsIn from (steps_under net plan history)
  pub sent : Message
  pub sends : Sends from on.hop.parent sent
  pub same : sent ≡ message

edge_of_hop : (net : Network) (d : ℕ) (o : Option PlanHop) (edge : Edge) → option_map (edge_of net d) o ≡ Some edge
    → (hop : PlanHop) × (o ≡ Some hop) × (edge_of net d hop ≡ edge)
edge_of_hop net d None edge same = cc
edge_of_hop net d (Some hop) edge same = (hop, refl, some_is same)

on_by : (net : Network) (plan : Plan) (past : Past) (d : ℕ) (edge : Edge) (a m : Bool) → is_acting past ≡ a → has_moved past ≡ m
    → duty_now past ≡ Some (duty_of net plan 1 d)
    → (if a then None else if m then backup_now past else primary_now past) ≡ Some edge → IsOn net plan past d edge
on_by net plan past d edge true m acts moved duty same = cc
on_by net plan past d edge false true acts moved duty same =
    let found = edge_of_hop net d (backup_of plan d) edge (sym (ap (λ o. map_or o None (λ (u : Duty). u.backup)) duty) ∙ same) in
    record { idle = acts; hop = found.0; hop_is = ap (λ b. if b then backup_of plan d else primary_of plan d) moved ∙ found.1; edge_is = found.2 }
on_by net plan past d edge false false acts moved duty same =
    let found = edge_of_hop net d (primary_of plan d) edge (sym (ap (λ o. map_or o None (λ (u : Duty). u.primary)) duty) ∙ same) in
    record { idle = acts; hop = found.0; hop_is = ap (λ b. if b then backup_of plan d else primary_of plan d) moved ∙ found.1; edge_is = found.2 }

-- an accepted message is of plan 1, over the edge to the parent
pub on_edge : (net : Network) (plan : Plan) (past : Past) (d : ℕ) (m : Message) (edge : Edge) → duty_now past ≡ Some (duty_of net plan 1 d)
    → given_now past ≡ None → Accepts past m edge
    → IsOn net plan past d edge × (m.epoch ≡ 1)
on_edge net plan past d m edge duty none (entering u given epoch primary) = cc
on_edge net plan past d m edge duty none (following epoch parent newer) = (
  on_by net plan past d edge (is_acting past) (has_moved past) refl refl duty parent,
  sym epoch ∙ ap (λ o. map_or o 0 (λ (u : Duty). u.epoch)) duty,
)

hop_planned : (plan : Plan) (past : Past) (d : ℕ) (hop : PlanHop) (b : Bool) → has_moved past ≡ b
    → (if b then backup_of plan d else primary_of plan d) ≡ Some hop → IsPlanHop plan d hop
hop_planned plan past d hop true is same = inr same
hop_planned plan past d hop false is same = inl same

-- the hop that it is on is one of the plan
pub planned_hop : (plan : Plan) (past : Past) (d : ℕ) (hop : PlanHop) → hop_now plan past d ≡ Some hop → IsPlanHop plan d hop
planned_hop plan past d hop same = hop_planned plan past d hop (has_moved past) refl same

-- the sender of a flight is a parent of its receiver
sender_leads : (net : Network) (plan : Plan) (p : Moment) (f : Flight) → f.message.epoch ≡ 1 → IsSentBy (alone net plan) p.earlier (when p) p.step.act f
    → Leads plan f.receiver f.sender f.link
sender_leads net plan p f epoch by =
    let own = sends_own by.past by.call f.message by.effect in
    let led = ends_lead (alone net plan) p.earlier (epoch_now (after by.past by.call)) by.device by.over.end_ by.over.among in
    let planned_ : Leads plan by.over.end_.device by.device by.over.end_.link =
    subst (λ n. Leads (plan_numbered (alone net plan) n) by.over.end_.device by.device by.over.end_.link) (sym own.1 ∙ epoch) led in
    subst (λ (g : Flight). Leads plan g.receiver g.sender g.link) (sym by.over.is) planned_

pub heard : (net : Network) (plan : Plan) (e : Event) (history : List Event) → WellPlanned net plan → IsPlain (alone net plan) (e ∷ history)
    → (d l c : ℕ) (m : Message) (edge : Edge) (past : Past) → d < length net.devices
    → act_by (alone net plan) (steps_under net plan history) e ≡ Calls d (Receive l m c) → IsLive net plan history d past
    → past_in (steps_under net plan history) d ≡ Some past
    → accepted_over (transition_of past (Receive l m c)) ≡ Some edge → IsHeard net plan history past d m edge
heard net plan e history well plain d l c m edge past within act lives there over =
    record {
      on = on;
      from = came.from;
      before = came.before;
      sent = t.flight.message;
      sends = subst (λ x. Sends came.from x t.flight.message) parents came.sends;
      same = t.message;
    }
  where
    p : Moment
    p = record { step = next_step (alone net plan) (steps_under net plan history) e; earlier = steps_under net plan history }

    is : IsChronicle (alone net plan) (steps_under net plan (e ∷ history))
    is = history_chronicle (alone net plan) (e ∷ history) plain.is

    t : Taken p d l m c
    t = taken_flight (alone net plan) p d l m c is act

    came : CameFrom (alone net plan) p d t.flight
    came = came_from (alone net plan) p d t.number t.flight is t.found t.receivable

    why : Accepts past m edge × (edge.link ≡ l)
    why = accepted_why past l m c edge over

    both : IsOn net plan past d edge × (m.epoch ≡ 1)
    both = on_edge net plan past d m edge lives.duty (none_given (alone net plan) history (plain_before (alone net plan) e history plain) d past there) why.0

    on : IsOn net plan past d edge
    on = both.0

    led : Leads plan t.flight.receiver t.flight.sender t.flight.link
    led = sender_leads net plan came.from t.flight (ap (λ n. n.epoch) t.message ∙ both.1)
        (moment_sends (alone net plan) came.from t.flight (tail_chronicle (alone net plan) came.before is.0) came.among)

    over_link : joins net l d t.flight.sender ≡ true
    over_link =
        led_joined net plan well d t.flight.sender l within
        (subst (λ k. Leads plan d t.flight.sender k) t.link (subst (λ v. Leads plan v t.flight.sender t.flight.link) t.receivable.receiver led))

    over_hop : joins net l d on.hop.parent ≡ true
    over_hop = subst (λ k. joins net k d on.hop.parent ≡ true) (ap (λ (x : Edge). x.link) on.edge_is ∙ why.1)
        (well.leads d on.hop within (planned_hop plan past d on.hop on.hop_is)).joined

    parents : t.flight.sender ≡ on.hop.parent
    parents = joins_one net l d t.flight.sender on.hop.parent over_link over_hop
