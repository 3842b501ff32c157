-- Each hop of a trace is a hop of the plan of its epoch: what a device of a chronicle takes up is its duty of the plan with that number,
-- and what it sends goes to those that follow it there. So where a link tells the parent, the link of a receipt led to who sent it.
use Rattle.std.specs.Prelude.{◌≡◌, ℕ, Bool, true, false, List, [], ◌∷◌, filter_map, find, nat_eq, Option, Some, None, option_map, ◌⊎◌, refl, if◌then◌else◌}
use Rattle.std.specs.List.{cons_option}
use Rattle.std.proofs.Common.{sym, ◌∙◌, ap, subst, inl, inr}
use Rattle.std.proofs.lemmas.Bool.{and_parts, or_cases, eqb-true}
use Rattle.sd_num.specs.Lists.{map_or}
use Rattle.sd_plan.specs.topo.Network.{Network, device_numbers, link_numbers}
use Rattle.sd_plan.specs.declared.Hop.{Hop as PlanHop}
use Rattle.sd_plan.specs.declared.Plan.{Plan}
use Rattle.sd_plan.specs.declared.Edge.{Edge}
use Rattle.sd_plan.specs.declared.Duty.{Duty}
use Rattle.sd_plan.specs.declared.End.{End}
use Rattle.sd_plan.specs.Plans.{primary_of, backup_of}
use Rattle.sd_plan.specs.Duties.{duty_of, edge_of, ends_of, follows_over, leads_to}
use Rattle.sd_num.proofs.Firsts.{find_passes}
use Rattle.sd_device.specs.declared.msg.Stamp.{Stamp}
use Rattle.sd_device.specs.declared.msg.Message.{Message}
use Rattle.sd_device.specs.declared.msg.Flight.{Flight}
use Rattle.sd_device.specs.Calls as calls
use Rattle.sd_device.specs.Calls.{Call, Past}
use Rattle.sd_device.specs.Words.{after, duty_now, given_now, epoch_now, is_acting, has_moved}
use Rattle.sd_sched.specs.declared.Event.{Event}
use Rattle.sd_sched.specs.declared.Event.TheVariants as event
use Rattle.sd_history.specs.World.{Setting, Seen, window, in_force, epoch_in_force, staged, staged_epoch, plan_numbered}
use Rattle.sd_history.specs.Steps.{Act, Makes, Calls, Asks, Passes, Step, seen_of, act_by, ends_at, flight_numbered}
use Rattle.sd_history.specs.Chronicle.{new_past, past_in, past_after}
use Rattle.sd_history.proofs.Among.{Among, first, later}
use Rattle.sd_history.proofs.Given.{some_is, HasDuties, GivesSuch, duties_after}
use Rattle.sd_safety.specs.messages.Moments.{IsChronicle, Moment, upto, when, Accepts, entering, following, Receipt}
use Rattle.sd_safety.specs.messages.Hops.{IsPlanHop, Leads, TellsParent}
use Rattle.sd_safety.specs.messages.Traces.{Hop}
use Rattle.sd_safety.proofs.messages.Tails.{tail_chronicle}
use Rattle.sd_safety.proofs.messages.Sending.{sends_own}
use Rattle.sd_safety.proofs.messages.Flights.{IsSentBy, moment_sends}

-- The duties of a device are those of the plans with their numbers.

abbrev pub IsPlanned : Setting → ℕ → Duty → Type 0
IsPlanned setting d u = u ≡ duty_of setting.net (plan_numbered setting u.epoch) u.epoch d

abbrev PlannedAct : Setting → Act → Type 0
PlannedAct setting (Makes m making) = HasDuties (IsPlanned setting m) (new_past making)
PlannedAct setting (Calls m call) = GivesSuch (IsPlanned setting m) call
PlannedAct setting (Asks m counter) = Unit {0}
PlannedAct setting Passes = Unit {0}

started_planned : (setting : Setting) (epoch m c clock eps : ℕ)
    → HasDuties (IsPlanned setting m) (new_past (calls.Started (duty_of setting.net (plan_numbered setting epoch) epoch m) c clock eps))
started_planned setting epoch m c clock eps = record { duty = λ u same. subst (IsPlanned setting m) (some_is same) refl; given = λ u same. cc }

give_planned : (setting : Setting) (epoch d : ℕ) (o : Option (List Seen))
    → PlannedAct setting (map_or (option_map (λ w. plan_numbered setting epoch) o) Passes (λ plan. Calls d (calls.Give (duty_of setting.net plan epoch d))))
give_planned setting epoch d None = tt
give_planned setting epoch d (Some w) = refl

receipt_planned : (setting : Setting) (d c : ℕ) (o : Option Flight) → PlannedAct setting (map_or o Passes (λ f. Calls d (calls.Receive f.link f.message c)))
receipt_planned setting d c None = tt
receipt_planned setting d c (Some f) = tt

act_planned : (setting : Setting) (steps : List Step) (e : Event) → PlannedAct setting (act_by setting steps e)
act_planned setting steps (event.Start r d c clock eps) = started_planned setting (epoch_in_force (seen_of steps)) d c clock eps
act_planned setting steps (event.Join r d c clock eps) = record { duty = λ u same. cc; given = λ u same. cc }
act_planned setting steps (event.Recv r d c n) = receipt_planned setting d c (flight_numbered steps n)
act_planned setting steps (event.Give r d) = give_planned setting (staged_epoch (seen_of steps)) d (window (seen_of steps))
act_planned setting steps _ = tt

made_when : (setting : Setting) (m d : ℕ) (new : Past) (old : Option Past) (past : Past) (b : Bool) → nat_eq m d ≡ b → HasDuties (IsPlanned setting m) new
    → ((q : Past) → old ≡ Some q → HasDuties (IsPlanned setting d) q)
    → (if b then Some new else old) ≡ Some past → HasDuties (IsPlanned setting d) past
made_when setting m d new old past true equal has before same =
    subst (HasDuties (IsPlanned setting d)) (some_is same) (subst (λ x. HasDuties (IsPlanned setting x) new) (eqb-true m d equal) has)
made_when setting m d new old past false equal has before same = before past same

called_when : (setting : Setting) (m d : ℕ) (call : Call) (old : Option Past) (past : Past) (b : Bool) → nat_eq m d ≡ b → GivesSuch (IsPlanned setting m) call
    → ((q : Past) → old ≡ Some q → HasDuties (IsPlanned setting d) q)
    → (if b then option_map (λ q. after q call) old else old) ≡ Some past → HasDuties (IsPlanned setting d) past
called_when setting m d call None past true equal gives before same = cc
called_when setting m d call (Some q) past true equal gives before same =
    subst (HasDuties (IsPlanned setting d)) (some_is same)
    (duties_after (IsPlanned setting d) q call (before q refl) (subst (λ x. GivesSuch (IsPlanned setting x) call) (eqb-true m d equal) gives))
called_when setting m d call old past false equal gives before same = before past same

planned_after : (setting : Setting) (act : Act) (d : ℕ) (old : Option Past) (past : Past) → PlannedAct setting act
    → ((q : Past) → old ≡ Some q → HasDuties (IsPlanned setting d) q) → past_after act d old ≡ Some past
    → HasDuties (IsPlanned setting d) past
planned_after setting (Makes m making) d old past planned before same = made_when setting m d (new_past making) old past (nat_eq m d) refl planned before same
planned_after setting (Calls m call) d old past planned before same = called_when setting m d call old past (nat_eq m d) refl planned before same
planned_after setting (Asks m counter) d old past planned before same = before past same
planned_after setting Passes d old past planned before same = before past same

pub planned : (setting : Setting) (steps : List Step) (d : ℕ) (past : Past) → IsChronicle setting steps → past_in steps d ≡ Some past
    → HasDuties (IsPlanned setting d) past
planned setting [] d past is there = cc
planned setting (s ∷ earlier) d past is there =
    planned_after setting s.act d (past_in earlier d) past (subst (PlannedAct setting) (sym (ap (λ x. x.act) is.1)) (act_planned setting earlier s.seen.event))
    (λ q same. planned setting earlier d q is.0 same) there

-- The hops of a device in a plan

leads_by : (plan : Plan) (d x l : ℕ) (o : Option PlanHop) → ((h : PlanHop) → o ≡ Some h → IsPlanHop plan d h) → leads_to x l o ≡ true → Leads plan d x l
leads_by plan d x l None is holds = cc
leads_by plan d x l (Some h) is holds =
    let parts = and_parts (nat_eq h.parent x) (nat_eq h.link l) holds in
    record { hop = h; is = is h refl; parent_is = eqb-true h.parent x parts.0; link_is = eqb-true h.link l parts.1 }

follows_leads : (plan : Plan) (d x l : ℕ) → follows_over plan x l d ≡ true → Leads plan d x l
follows_leads plan d x l holds = go (or_cases (leads_to x l (primary_of plan d)) (leads_to x l (backup_of plan d)) holds)
  where
    go : (leads_to x l (primary_of plan d) ≡ true) ⊎ (leads_to x l (backup_of plan d) ≡ true) → Leads plan d x l
    go (inl one) = leads_by plan d x l (primary_of plan d) (λ h same. inl same) one
    go (inr two) = leads_by plan d x l (backup_of plan d) (λ h same. inr same) two

end_leads : (net : Network) (plan : Plan) (x : ℕ) (ls : List ℕ) (e : End)
    → Among e (filter_map (λ l. option_map (λ c. record { link = l; device = c }) (find (follows_over plan x l) (device_numbers net))) ls)
    → Leads plan e.device x e.link
end_leads net plan x [] e a = elim a [ ]
end_leads net plan x (l ∷ ls) e a = go (find (follows_over plan x l) (device_numbers net)) refl a (end_leads net plan x ls e)
  where
    at_head : (c : ℕ) (es : List End) → follows_over plan x l c ≡ true → Among e (record { link = l; device = c } ∷ es)
        → (Among e es → Leads plan e.device x e.link) → Leads plan e.device x e.link
    at_head c es holds b rest = by_place (record { link = l; device = c }) refl refl es b rest
      where
        by_place : (y : End) → y.link ≡ l → y.device ≡ c → (zs : List End) → Among e (y ∷ zs) → (Among e zs → Leads plan e.device x e.link)
            → Leads plan e.device x e.link
        by_place y one two zs first rest' =
            follows_leads plan e.device x e.link
            (subst (λ k. follows_over plan x k e.device ≡ true) (sym one) (subst (λ v. follows_over plan x l v ≡ true) (sym two) holds))
        by_place y one two zs (later b') rest' = rest' b'

    go : (o : Option ℕ) → find (follows_over plan x l) (device_numbers net) ≡ o
        → Among e (cons_option (option_map (λ c. record { link = l; device = c }) o)
        (filter_map (λ k. option_map (λ c. record { link = k; device = c }) (find (follows_over plan x k) (device_numbers net))) ls))
        → (Among e (filter_map (λ k. option_map (λ c. record { link = k; device = c }) (find (follows_over plan x k) (device_numbers net))) ls)
        → Leads plan e.device x e.link) → Leads plan e.device x e.link
    go None is b rest = rest b
    go (Some c) is b rest =
        at_head c (filter_map (λ k. option_map (λ c'. record { link = k; device = c' }) (find (follows_over plan x k) (device_numbers net))) ls)
        (find_passes (follows_over plan x l) (device_numbers net) c is) b rest

-- whom a device sends to in an epoch follows it in the plan of that epoch
pub ends_lead : (setting : Setting) (steps : List Step) (epoch x : ℕ) (e : End) → Among e (ends_at setting steps epoch x)
    → Leads (plan_numbered setting epoch) e.device x e.link
ends_lead setting steps epoch x e a = go (nat_eq epoch (epoch_in_force (seen_of steps))) refl a
  where
    here : (n : ℕ) → epoch ≡ n → Among e (ends_of setting.net (plan_numbered setting n) x) → Leads (plan_numbered setting epoch) e.device x e.link
    here n same b =
        end_leads setting.net (plan_numbered setting epoch) x (link_numbers setting.net) e
        (subst (λ k. Among e (ends_of setting.net (plan_numbered setting k) x)) (sym same) b)

    by_window : epoch ≡ staged_epoch (seen_of steps) → (o : Option (List Seen))
        → Among e (map_or (option_map (λ w. plan_numbered setting (staged_epoch (seen_of steps))) o) [] (λ plan. ends_of setting.net plan x))
        → Leads (plan_numbered setting epoch) e.device x e.link
    by_window same None b = elim b [ ]
    by_window same (Some w) b = here (staged_epoch (seen_of steps)) same b

    second : (t : Bool) → nat_eq epoch (staged_epoch (seen_of steps)) ≡ t
        → Among e (map_or (if t then staged setting (seen_of steps) else None) [] (λ plan. ends_of setting.net plan x))
        → Leads (plan_numbered setting epoch) e.device x e.link
    second true is b = by_window (eqb-true epoch (staged_epoch (seen_of steps)) is) (window (seen_of steps)) b
    second false is b = elim b [ ]

    go : (t : Bool) → nat_eq epoch (epoch_in_force (seen_of steps)) ≡ t
        → Among e (map_or
        (if t then Some (in_force setting (seen_of steps)) else if nat_eq epoch (staged_epoch (seen_of steps)) then staged setting
        (seen_of steps) else None) [] (λ plan. ends_of setting.net plan x)) → Leads (plan_numbered setting epoch) e.device x e.link
    go true is b = here (epoch_in_force (seen_of steps)) (eqb-true epoch (epoch_in_force (seen_of steps)) is) b
    go false is b = second (nat_eq epoch (staged_epoch (seen_of steps))) refl b

-- The sender of a hop is a parent of its receiver in the plan of the epoch.

sender_leads : (setting : Setting) (p : Moment) (f : Flight) (epoch : ℕ) → f.message.epoch ≡ epoch → (by : IsSentBy setting p.earlier (when p) p.step.act f)
    → Leads (plan_numbered setting epoch) f.receiver f.sender f.link
sender_leads setting p f epoch epoch_is by =
    let own = sends_own by.past by.call f.message by.effect in
    let led = ends_lead setting p.earlier (epoch_now (after by.past by.call)) by.device by.over.end_ by.over.among in
    let planned_ : Leads (plan_numbered setting epoch) by.over.end_.device by.device by.over.end_.link =
    subst (λ n. Leads (plan_numbered setting n) by.over.end_.device by.device by.over.end_.link) (sym own.1 ∙ epoch_is) led in
    subst (λ (g : Flight). Leads (plan_numbered setting epoch) g.receiver g.sender g.link) (sym by.over.is) planned_

pub hop_in_plan : (setting : Setting) (stamp : Stamp) (epoch : ℕ) (from to : Moment) (x d : ℕ) → IsChronicle setting (upto to)
    → (hop : Hop setting stamp epoch from x to d) → Leads (plan_numbered setting epoch) d x hop.flight.link
hop_in_plan setting stamp epoch from to x d is hop =
    subst (λ y. Leads (plan_numbered setting epoch) d y hop.flight.link) hop.sender
    (subst (λ v. Leads (plan_numbered setting epoch) v hop.flight.sender hop.flight.link) hop.receiver
    (sender_leads setting from hop.flight epoch hop.epoch_is (moment_sends setting from hop.flight (tail_chronicle setting hop.before is.0) hop.sent)))

-- The edge of a receipt is an edge of the plan of the message's epoch.

edge_leads : (net : Network) (plan : Plan) (d : ℕ) (o : Option PlanHop) (edge : Edge) → ((h : PlanHop) → o ≡ Some h → IsPlanHop plan d h)
    → option_map (edge_of net d) o ≡ Some edge → Leads plan d edge.parent edge.link
edge_leads net plan d None edge is same = cc
edge_leads net plan d (Some h) edge is same =
    record { hop = h; is = is h refl; parent_is = ap (λ e. e.parent) (some_is same); link_is = ap (λ e. e.link) (some_is same) }

primary_leads : (setting : Setting) (d : ℕ) (u : Duty) (edge : Edge) → IsPlanned setting d u → u.primary ≡ Some edge
    → Leads (plan_numbered setting u.epoch) d edge.parent edge.link
primary_leads setting d u edge is same =
    edge_leads setting.net (plan_numbered setting u.epoch) d (primary_of (plan_numbered setting u.epoch) d) edge (λ h there. inl there)
    (sym (ap (λ v. v.primary) is) ∙ same)

backup_leads : (setting : Setting) (d : ℕ) (u : Duty) (edge : Edge) → IsPlanned setting d u → u.backup ≡ Some edge
    → Leads (plan_numbered setting u.epoch) d edge.parent edge.link
backup_leads setting d u edge is same =
    edge_leads setting.net (plan_numbered setting u.epoch) d (backup_of (plan_numbered setting u.epoch) d) edge (λ h there. inr there)
    (sym (ap (λ v. v.backup) is) ∙ same)

parent_leads : (setting : Setting) (d : ℕ) (o : Option Duty) (edge : Edge) (epoch : ℕ) (a m : Bool) → ((u : Duty) → o ≡ Some u → IsPlanned setting d u)
    → map_or o 0 (λ duty. duty.epoch) ≡ epoch
    → (if a then None else if m then map_or o None (λ duty. duty.backup) else map_or o None (λ duty. duty.primary)) ≡ Some edge
    → Leads (plan_numbered setting epoch) d edge.parent edge.link
parent_leads setting d o edge epoch true m is epoch_is same = cc
parent_leads setting d None edge epoch false true is epoch_is same = cc
parent_leads setting d None edge epoch false false is epoch_is same = cc
parent_leads setting d (Some u) edge epoch false true is epoch_is same =
    subst (λ n. Leads (plan_numbered setting n) d edge.parent edge.link) epoch_is (backup_leads setting d u edge (is u refl) same)
parent_leads setting d (Some u) edge epoch false false is epoch_is same =
    subst (λ n. Leads (plan_numbered setting n) d edge.parent edge.link) epoch_is (primary_leads setting d u edge (is u refl) same)

pub accepted_leads : (setting : Setting) (d : ℕ) (past : Past) (m : Message) (edge : Edge) → HasDuties (IsPlanned setting d) past → Accepts past m edge
    → Leads (plan_numbered setting m.epoch) d edge.parent edge.link
accepted_leads setting d past m edge has (entering duty given epoch primary) =
    subst (λ n. Leads (plan_numbered setting n) d edge.parent edge.link) epoch (primary_leads setting d duty edge (has.given duty given) primary)
accepted_leads setting d past m edge has (following epoch parent newer) =
    parent_leads setting d (duty_now past) edge m.epoch (is_acting past) (has_moved past) has.duty epoch parent

-- an entering receipt goes over the primary edge of that plan
pub entering_primary : (setting : Setting) (d : ℕ) (past : Past) (duty : Duty) (edge : Edge) → HasDuties (IsPlanned setting d) past → given_now past ≡ Some duty
    → duty.primary ≡ Some edge
    → option_map (edge_of setting.net d) (primary_of (plan_numbered setting duty.epoch) d) ≡ Some edge
entering_primary setting d past duty edge has given primary = sym (ap (λ v. v.primary) (has.given duty given)) ∙ primary

pub receipt_in_plan : (setting : Setting) (p : Moment) (d : ℕ) (f : Flight) → IsChronicle setting (upto p) → (r : Receipt p d f)
    → Leads (plan_numbered setting f.message.epoch) d r.edge.parent f.link
receipt_in_plan setting p d f is r =
    subst (λ l. Leads (plan_numbered setting f.message.epoch) d r.edge.parent l) r.link
    (accepted_leads setting d r.past f.message r.edge (planned setting p.earlier d r.past is.0 r.there) r.accepts)

-- where the link tells the parent, the link of the receipt led to the sender
pub hop_parent : (setting : Setting) (stamp : Stamp) (epoch : ℕ) (from to : Moment) (x d : ℕ) → IsChronicle setting (upto to)
    → TellsParent (plan_numbered setting epoch) → (hop : Hop setting stamp epoch from x to d)
    → hop.receipt.edge.parent ≡ x
hop_parent setting stamp epoch from to x d is tells hop =
    tells d hop.receipt.edge.parent x hop.flight.link
    (subst (λ n. Leads (plan_numbered setting n) d hop.receipt.edge.parent hop.flight.link) hop.epoch_is
    (receipt_in_plan setting to d hop.flight is hop.receipt))
    (hop_in_plan setting stamp epoch from to x d is hop)
