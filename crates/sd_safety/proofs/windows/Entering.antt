-- A receipt keeps C9 d: a device that enters stands on its primary, and its parent is the sender, which is new; other new devices stand as they did.
use Rattle.std.specs.Prelude.{◌≡◌, ℕ, ◌<◌, Bool, true, false, ◌&&◌, List, [], ◌∷◌, length, nat_eq, Option, Some, None, is_some, option_map, option_and_then, refl, if◌then◌else◌}
use Rattle.std.proofs.Common.{◌∙◌, ap, sym, subst, inl, inr}
use Rattle.std.proofs.lemmas.Bool.{and_parts, or_cases, eqb-true}
use Rattle.sd_num.specs.Lists.{map_or}
use Rattle.sd_plan.specs.topo.Network.{Network, joins, link_of}
use Rattle.sd_plan.specs.declared.Duty.{Duty}
use Rattle.sd_plan.specs.declared.Edge.{Edge}
use Rattle.sd_plan.specs.declared.Plan.{Plan}
use Rattle.sd_plan.specs.declared.Hop.{Hop}
use Rattle.sd_plan.specs.Plans.{is_member, is_present, primary_of, backup_of}
use Rattle.sd_plan.specs.Structure.{hop_is_right}
use Rattle.sd_plan.proofs.Rules.{KeepsRules}
use Rattle.sd_device.specs.declared.msg.Message.{Message}
use Rattle.sd_device.specs.declared.msg.Flight.{Flight}
use Rattle.sd_device.specs.msg.Stamps.{is_newer}
use Rattle.sd_device.specs.Calls as calls
use Rattle.sd_device.specs.Calls.{Call, Transition, Past}
use Rattle.sd_device.specs.Words.{after, transition_of, taken_up, accepted_by, over_link, given_now, epoch_now, is_acting, has_moved, parent_now, parent_edge, stamp_now}
use Rattle.sd_sched.specs.declared.Event.{Event}
use Rattle.sd_sched.specs.Events.{reference_of}
use Rattle.sd_history.specs.World.{Setting, plan_numbered}
use Rattle.sd_history.specs.Steps.{Step, act_by, flights, ends_at, live_answers, acts_in}
use Rattle.sd_history.specs.Chronicle.{answers_by, next_step, chronicle}
use Rattle.sd_history.proofs.Among.{Among, either_side}
use Rattle.sd_history.proofs.Given.{some_is}
use Rattle.sd_history.proofs.flights.Sending.{IsOver}
use Rattle.sd_safety.proofs.messages.Sending.{sends_own}
use Rattle.sd_safety.proofs.messages.Flights.{IsSentBy, sent_by}
use Rattle.sd_safety.specs.messages.Hops.{Leads}
use Rattle.sd_safety.proofs.messages.Parents.{ends_lead}
use Rattle.sd_safety.specs.invariant.Eras.{is_new, live_past, moved}
use Rattle.sd_safety.proofs.invariant.Parents.{live_is}
use Rattle.sd_safety.proofs.timers.Transitions.{by_case}
use Rattle.sd_safety.proofs.windows.Leading.{IsLinked, stands_by}
use Rattle.sd_safety.proofs.windows.NoneBeforeCommit.{is_commit_call}
use Rattle.sd_safety.proofs.waits.LookingBack.{all_three}

-- Over a link a device has one parent.

flight_leads : (setting : Setting) (steps : List Step) (r d : ℕ) (m : Message) (epoch : ℕ) (f : Flight) → f.message.epoch ≡ epoch
    → IsOver setting steps r d m (ends_at setting steps epoch d) f
    → Leads (plan_numbered setting f.message.epoch) f.receiver f.sender f.link
flight_leads setting steps r d m epoch f same over =
    subst (λ (g : Flight). Leads (plan_numbered setting f.message.epoch) g.receiver g.sender g.link) (sym over.is)
    (subst (λ n. Leads (plan_numbered setting n) over.end_.device d over.end_.link) (sym same) (ends_lead setting steps epoch d over.end_ over.among))

-- each flight goes to a device that follows its sender over the link, in the plan of its epoch
pub flights_lead : (setting : Setting) (history : List Event) (f : Flight) → Among f (flights (chronicle setting history))
    → Leads (plan_numbered setting f.message.epoch) f.receiver f.sender f.link
flights_lead setting [] f among = elim among [ ]
flights_lead setting (e ∷ history) f among =
    elim (either_side (next_step setting (chronicle setting history) e).sent (flights (chronicle setting history)) among) [
      | inl here ↦
          let sent : IsSentBy setting (chronicle setting history) (reference_of e) (act_by setting (chronicle setting history) e) f =
          sent_by setting (chronicle setting history) (reference_of e) (act_by setting (chronicle setting history) e) f here in
          flight_leads setting (chronicle setting history) (reference_of e) sent.device f.message (epoch_now (after sent.past sent.call)) f
          (sends_own sent.past sent.call f.message sent.effect).1 sent.over
      | inr before ↦ flights_lead setting history f before
    ]

pub joins_one : (net : Network) (l d a b : ℕ) → joins net l d a ≡ true → joins net l d b ≡ true → a ≡ b
joins_one net l d a b one two =
    elim (or_cases (nat_eq (link_of net l).end_a d && nat_eq (link_of net l).end_b a) (nat_eq (link_of net l).end_a a && nat_eq (link_of net l).end_b d) one) [
      | inl x ↦ elim (or_cases (nat_eq (link_of net l).end_a d && nat_eq (link_of net l).end_b b)
          (nat_eq (link_of net l).end_a b && nat_eq (link_of net l).end_b d) two) [
            | inl y ↦ sym (eqb-true (link_of net l).end_b a (and_parts (nat_eq (link_of net l).end_a d) _ x).1)
                ∙ eqb-true (link_of net l).end_b b (and_parts (nat_eq (link_of net l).end_a d) _ y).1
            | inr y ↦
                sym (eqb-true (link_of net l).end_b a (and_parts (nat_eq (link_of net l).end_a d) _ x).1)
                ∙ eqb-true (link_of net l).end_b d (and_parts (nat_eq (link_of net l).end_a b) _ y).1
                ∙ sym (eqb-true (link_of net l).end_a d (and_parts (nat_eq (link_of net l).end_a d) _ x).0)
                ∙ eqb-true (link_of net l).end_a b (and_parts (nat_eq (link_of net l).end_a b) _ y).0
          ]
      | inr x ↦ elim (or_cases (nat_eq (link_of net l).end_a d && nat_eq (link_of net l).end_b b)
          (nat_eq (link_of net l).end_a b && nat_eq (link_of net l).end_b d) two) [
            | inl y ↦
                sym (eqb-true (link_of net l).end_a a (and_parts (nat_eq (link_of net l).end_a a) _ x).0)
                ∙ eqb-true (link_of net l).end_a d (and_parts (nat_eq (link_of net l).end_a d) _ y).0
                ∙ sym (eqb-true (link_of net l).end_b d (and_parts (nat_eq (link_of net l).end_a a) _ x).1)
                ∙ eqb-true (link_of net l).end_b b (and_parts (nat_eq (link_of net l).end_a d) _ y).1
            | inr y ↦ sym (eqb-true (link_of net l).end_a a (and_parts (nat_eq (link_of net l).end_a a) _ x).0)
                ∙ eqb-true (link_of net l).end_a b (and_parts (nat_eq (link_of net l).end_a b) _ y).0
          ]
    ]

right_joins : (net : Network) (plan : Plan) (d : ℕ) (o : Option Hop) (h : Hop) → hop_is_right net plan d o ≡ true → o ≡ Some h
    → joins net h.link d h.parent ≡ true
right_joins net plan d None h right is = cc
right_joins net plan d (Some g) h right is =
    subst (λ (x : Hop). joins net x.link d x.parent ≡ true) (some_is is)
    (and_parts (is_member plan g.parent && is_present plan g.link) (joins net g.link d g.parent) right).1

leads_joins : (net : Network) (plan : Plan) (d y l : ℕ) → KeepsRules net plan → d < length net.devices → Leads plan d y l → joins net l d y ≡ true
leads_joins net plan d y l rules known of =
    let both = and_parts (hop_is_right net plan d (primary_of plan d)) (hop_is_right net plan d (backup_of plan d)) (rules.hops d known) in
    subst (λ k. joins net k d y ≡ true) of.link_is
    (subst (λ p. joins net of.hop.link d p ≡ true) of.parent_is
    (elim of.is [ inl is ↦ right_joins net plan d (primary_of plan d) of.hop both.0 is | inr is ↦ right_joins net plan d (backup_of plan d) of.hop both.1 is ]))

-- the link to a parent tells the parent
pub one_parent : (net : Network) (plan : Plan) (d x y l : ℕ) → KeepsRules net plan → d < length net.devices → Leads plan d x l → Leads plan d y l → x ≡ y
one_parent net plan d x y l rules known one two =
    joins_one net l d x y (leads_joins net plan d x l rules known one) (leads_joins net plan d y l rules known two)

-- Receipts that take up a duty, and others

abbrev pub Enters : Call → Transition → Type 0
Enters call transition = (u : Duty) → is_commit_call call ≡ false → taken_up transition ≡ Some u → (edge : Edge) × (transition ≡ calls.Entered u edge)

pub enters_so : (past : Past) (call : Call) → Enters call (transition_of past call)
enters_so past call =
    by_case past Enters
    (record {
      emitted = λ c e u none takes. cc;
      took = λ c e t u none takes. cc;
      moved = λ c e t m u none takes. cc;
      still = λ c e t m u none takes. cc;
      entered = λ link message c duty edge u none takes. (edge, ap (λ v. calls.Entered v edge) (some_is takes));
      accepted = λ link message c edge u none takes. cc;
      committed = λ c duty a u none takes. cc;
      recommitted = λ c duty a u none takes. cc;
      nothing = λ x t u none takes. cc;
    }) call

-- a call with a transition that turns nothing
pub record TurnsNone (past : Past) (call : Call) (transition : Transition) : Type 0 where
  pub stands : has_moved (record { making = past.making; did = record { call = call; transition = transition } ∷ past.did }) ≡ has_moved past
  pub acts : is_acting (record { making = past.making; did = record { call = call; transition = transition } ∷ past.did }) ≡ is_acting past
  pub parent : parent_now (record { making = past.making; did = record { call = call; transition = transition } ∷ past.did }) ≡ parent_now past

accepts_none : (past : Past) (call : Call) (b : Bool) (o : Option Edge)
    → TurnsNone past call (map_or (if b then option_map calls.Accepted o else None) calls.Nothing (λ transition. transition))
accepts_none past call false o = record { stands = refl; acts = refl; parent = refl }
accepts_none past call true None = record { stands = refl; acts = refl; parent = refl }
accepts_none past call true (Some edge) = record { stands = refl; acts = refl; parent = refl }

pub turns_none : (past : Past) (l : ℕ) (m : Message) (c : ℕ) → given_now past ≡ None
    → TurnsNone past (calls.Receive l m c) (transition_of past (calls.Receive l m c))
turns_none past l m c none =
    subst (TurnsNone past (calls.Receive l m c))
    (sym (ap (λ g. map_or
    (option_and_then
    (λ (duty : Duty). if nat_eq duty.epoch m.epoch then option_map (calls.Entered duty) (option_and_then (over_link l) duty.primary) else None) g)
    (map_or (accepted_by past l m) calls.Nothing (λ transition. transition)) (λ transition. transition)) none))
    (accepts_none past (calls.Receive l m c) (nat_eq (epoch_now past) m.epoch && is_newer m.stamp (stamp_now past))
    (option_and_then (over_link l) (parent_edge past)))

-- Linked, by the past

module _ (setting : Setting) (history : List Event) (x : ℕ) (past : Past) (live : live_past (chronicle setting history) x ≡ Some past) where
  answers : live_answers (chronicle setting history) x ≡ Some (answers_by past)
  answers = live_is setting history x ∙ ap (option_map answers_by) live

  pub linked_by : (y : ℕ) → has_moved past ≡ false → is_acting past ≡ false → parent_now past ≡ Some y → is_new (chronicle setting history) y ≡ true
      → IsLinked (chronicle setting history) x
  linked_by y stands idle parent new =
      record {
        primary =
            all_three (is_some (live_past (chronicle setting history) x)) (moved (chronicle setting history) x) (acts_in (chronicle setting history) x)
            (ap is_some live) (ap (λ p. map_or p false has_moved) live ∙ stands) (ap (λ o. map_or o false (λ a. a.acts)) answers ∙ idle);
        parent = y;
        leads = ap (option_and_then (λ a. a.parent)) answers ∙ parent;
        new = new;
      }

  pub stands_of : IsLinked (chronicle setting history) x → (has_moved past ≡ false) × (is_acting past ≡ false)
  stands_of of =
      let put = stands_by (is_some (live_past (chronicle setting history) x)) (moved (chronicle setting history) x)
      (acts_in (chronicle setting history) x) of.primary in
      (sym (ap (λ p. map_or p false has_moved) live) ∙ put.0, sym (ap (λ o. map_or o false (λ a. a.acts)) answers) ∙ put.1)

  pub parent_of : (of : IsLinked (chronicle setting history) x) → parent_now past ≡ Some of.parent
  parent_of of = sym (ap (option_and_then (λ a. a.parent)) answers) ∙ of.leads
