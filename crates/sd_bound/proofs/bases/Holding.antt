-- The induction: after each part of a run that recovers, every member has set its estimate so, and every message of a member was sent so.
use Rattle.std.specs.Prelude.{◌≡◌, ℕ, ◌+◌, ◌-◌, ◌<◌, ◌≤◌, Bool, true, false, ◌&&◌, ◌||◌, not, List, [], ◌∷◌, length, nat_eq, nat_le, Option, Some, None, option_map, ◌⊎◌, refl, if◌then◌else◌}
use Rattle.std.proofs.Common.{arith, sym, ◌∙◌, ap, subst, inl, inr}
use Rattle.std.proofs.lemmas.Bool.{and_parts, and_from, or_from, or_right, leb-true, eqb-true, eq-eqb, not_from_false, both_ways}
use Rattle.sd_num.specs.Lists.{map_or}
use Rattle.sd_plan.specs.topo.Network.{Network, rates_of, bounds_of}
use Rattle.sd_plan.specs.declared.domain.DomainId.{DomainId}
use Rattle.sd_plan.specs.declared.Hop.{Hop}
use Rattle.sd_plan.specs.declared.Plan.{Plan}
use Rattle.sd_plan.specs.declared.Edge.{Edge}
use Rattle.sd_plan.specs.declared.Duty.{Duty}
use Rattle.sd_plan.specs.Plans.{is_member, is_root, is_backup_root, primary_of, backup_of}
use Rattle.sd_plan.specs.Walks.{walk, on_walk}
use Rattle.sd_plan.proofs.Forest.{IsStep, on_up, on_itself}
use Rattle.sd_device.specs.declared.msg.Message.{Message}
use Rattle.sd_device.specs.declared.Effect.TheVariants.{Send}
use Rattle.sd_device.specs.Calls as calls
use Rattle.sd_device.specs.Calls.{Call, Transition, Entered, Accepted, TookOver, Emitted, Past}
use Rattle.sd_device.specs.Words.{transition_of, after, accepted_over, estimate_now, first_rates, rates_now, has_moved, is_acting, report_at, effect_of, effect_of_latest, later_entry, starts_as_root, is_commit}
use Rattle.sd_device.proofs.Reached.{added, has_taken_over}
use Rattle.sd_sched.specs.declared.Event.{Event}
use Rattle.sd_history.specs.World.{is_up, alone}
use Rattle.sd_history.specs.Steps.{Calls, Step, seen_of, act_by, acts_in}
use Rattle.sd_history.specs.Chronicle.{past_in, past_after, new_past, next_step}
use Rattle.sd_sched.specs.Honesty.{clock_set}
use Rattle.sd_num.specs.clock.Estimates.{corrected}
use Rattle.sd_device.specs.msg.Stamps.{carried}
use Rattle.sd_drill.specs.ages.Ages.{ageing}
use Rattle.sd_drill.specs.recovery.Walks.{halves}
use Rattle.sd_drill.specs.declared.Budget.{Budget}
use Rattle.sd_drill.specs.Drill.{root_halves}
use Rattle.sd_safety.specs.invariant.Kept.{StaysInvariant}
use Rattle.sd_safety.proofs.invariant.Facts.{sound_now}
use Rattle.sd_safety.proofs.timers.Transitions.{Cases, by_case}
use Rattle.sd_safety.proofs.timers.Pasts.{itself, onward, was_unmoved}
use Rattle.sd_safety.specs.messages.Moments.{Tail, whole, behind, Moment, IsIn, Sends, is_emission}
use Rattle.sd_safety.proofs.messages.Tails.{rest_of, tail_all, tail_trans}
use Rattle.sd_safety.proofs.messages.Sending.{Sender, root_sends, relay_sends, sender_of}
use Rattle.sd_history.proofs.Contained.{send_same}
use Rattle.sd_bound.specs.Bound.{held_briefly}
use Rattle.sd_bound.specs.Recovering.{steps_under}
use Rattle.sd_bound.specs.Steady.{RecoversSteadily}
use Rattle.sd_bound.proofs.Composing.{tail_steps, held_at, held_when, aged}
use Rattle.sd_bound.proofs.histories.Plain.{IsPlain, plain_event}
use Rattle.sd_bound.proofs.histories.Lives.{PastBy, by_making, by_call, unchanged, past_by, made_by, Called, ticks, receives, fixes, called_by, called_is_up, called_stays_up, none_given, takes_none}
use Rattle.sd_bound.proofs.histories.Standing.{IsLive, Stands, fair, plain, stands}
use Rattle.sd_bound.proofs.bases.Planned.{WellPlanned, LeadsRight, well_planned, path_halves, fallback_halves}
use Rattle.sd_bound.proofs.bases.Hearing.{hop_now, IsHeard, planned_hop, heard}
use Rattle.sd_bound.proofs.bases.Straight.{IsStraight, path_straight, fallback_straight, straight_before}
use Rattle.sd_bound.proofs.bases.Sums.{sent_by_root, IsWalked, Based, SentSo, set_so, based_on, sent_on, passed_on, backup_walked, hop_walked, hop_direct, within_halves}

-- Calls

-- who begins a round acts after it, and does so at a tick
pub record IsBegun (past : Past) (call : Call) (transition : Transition) : Type 0 where
  pub counter : ℕ
  pub call_is : call ≡ calls.Tick counter
  pub acts : is_acting (added past call transition) ≡ true

abbrev Begins : Past → Call → Transition → Type 0
Begins past call transition = is_emission transition ≡ true → IsBegun past call transition

begun_cases : (past : Past) → Cases past (Begins past)
begun_cases past =
    record {
      emitted = λ c e. λ begins. record { counter = c; call_is = refl; acts = (and_parts (is_acting past) _ e).0 };
      took = λ c e t. λ begins. record {
        counter = c;
        call_is = refl;
        acts = or_right (map_or (later_entry past) (starts_as_root past.making) (λ entry. is_commit entry.transition)) (true || has_taken_over past) refl;
      };
      moved = λ c e t m. λ begins. cc;
      still = λ c e t m. λ begins. cc;
      entered = λ link message c duty edge. λ begins. cc;
      accepted = λ link message c edge. λ begins. cc;
      committed = λ c duty a. λ begins. cc;
      recommitted = λ c duty a. λ begins. cc;
      nothing = λ call n. λ begins. cc;
    }

pub begun : (past : Past) (call : Call) → is_emission (transition_of past call) ≡ true → IsBegun past call (transition_of past call)
begun past call begins = by_case past (Begins past) (begun_cases past) call begins

-- what is sent is a round or a relay
by_sender : (past : Past) (call : Call) (transition : Transition) (P : Type 0) → (is_emission transition ≡ true → P)
    → ((edge : Edge) → accepted_over transition ≡ Some edge → P) → Sender past call transition → P
by_sender past call transition P rounds relays (root_sends emission) = rounds emission
by_sender past _ transition P rounds relays (relay_sends l m c edge over) = relays edge over

-- a relay carries the estimate as it was set, and a round the report at its counter
pub relayed_eps : (past : Past) (call : Call) (transition : Transition) (edge : Edge) (m : Message) → accepted_over transition ≡ Some edge
    → effect_of_latest past (record { call = call; transition = transition }) ≡ Send m → (estimate_now past).base ≡ m.eps
relayed_eps past call (Entered duty e) edge m over same = ap (λ (n : Message). n.eps) (send_same same)
relayed_eps past call (Accepted e) edge m over same = ap (λ (n : Message). n.eps) (send_same same)
relayed_eps past call _ edge m over same = cc

pub emitted_eps : (past : Past) (c : ℕ) (transition : Transition) (m : Message) → is_emission transition ≡ true
    → effect_of_latest past (record { call = calls.Tick c; transition = transition }) ≡ Send m → (report_at past c).eps ≡ m.eps
emitted_eps past c TookOver m begins same = ap (λ (n : Message). n.eps) (send_same same)
emitted_eps past c Emitted m begins same = ap (λ (n : Message). n.eps) (send_same same)
emitted_eps past c _ m begins same = cc

called_past : (x : ℕ) (call : Call) (o : Option Past) (past : Past) → o ≡ Some past → past_after (Calls x call) x o ≡ Some (after past call)
called_past x call o past there = ap (λ b. if b then option_map (λ q. after q call) o else o) (eq-eqb x x refl) ∙ ap (option_map (λ q. after q call)) there

own_rates : (net : Network) (plan : Plan) (history : List Event) (d : ℕ) (past : Past) → IsLive net plan history d past → rates_now past ≡ rates_of net d
own_rates net plan history d past lives = ap (λ o. map_or o (first_rates past.making) (λ (u : Duty). u.rates)) lives.duty

-- the newest step of a chronicle, or one before it
in_cases : (p : Moment) (s : Step) (steps : List Step) → IsIn p (s ∷ steps) → (p ≡ record { step = s; earlier = steps }) ⊎ IsIn p steps
in_cases p _ _ whole = inl refl
in_cases p s steps (behind t) = inr t

-- Sums

aged_source : (x base rh a b : ℕ) → x ≤ base + a + rh + b → x ≤ base + rh + a + b + 0
aged_source x base rh a b le = omega (arith, le)

aged_by : (x y most age : ℕ) → x ≤ y + age → y ≤ most → x ≤ most + age
aged_by x y most age le less = omega (arith, le, less)

aged_root : (x base a rh b h : ℕ) → x ≤ base + a → (x ≤ base + rh + a + b + 0) × (x ≤ base + a + h)
aged_root x base a rh b h le = (omega (arith, le), omega (arith, le))

-- What holds after a part of the run

pub record Holds (net : Network) (plan : Plan) (budget : Budget) (f : DomainId) (history : List Event) : Type 0 where
  pub based : (d : ℕ) (past : Past) → is_member plan d ≡ true → d < length net.devices → past_in (steps_under net plan history) d ≡ Some past
      → Based net plan budget f history d (estimate_now past).base
  pub sent : (p : Moment) (x : ℕ) (m : Message) → IsIn p (steps_under net plan history) → is_member plan x ≡ true → x < length net.devices → Sends p x m
      → SentSo net plan budget f history x m.eps

module _ (net : Network) (plan : Plan) (budget : Budget) (f : DomainId) (stays : StaysInvariant (alone net plan)) (whole_ : List Event)
    (run : RecoversSteadily net plan budget f whole_) where
  pub well : WellPlanned net plan
  well = well_planned net plan (sound_now (alone net plan) [] (fair net plan budget f stays whole_ run) tt)

  pub standing : (history : List Event) → Tail history whole_ → Stands net plan f history
  standing = stands net plan budget f stays whole_ run

  plain_now : (history : List Event) → Tail history whole_ → IsPlain (alone net plan) history
  plain_now = plain net plan budget f stays whole_ run

  module _ (e : Event) (history : List Event) (t : Tail (e ∷ history) whole_) where
    abbrev steps : List Step
    steps = steps_under net plan history

    -- the clock that the event sets is within the base
    set_within : (clock eps : ℕ) → clock_set e ≡ Some (clock, eps) → eps ≤ budget.base
    set_within clock eps set =
        leb-true eps budget.base
        (subst (λ (o : Option (ℕ × ℕ)). map_or o true (λ s. nat_le s.1 budget.base) ≡ true) set
        (and_parts (map_or (clock_set e) true (λ s. nat_le s.1 budget.base)) _
        (tail_all (λ s. map_or (clock_set s.event) true (λ x. nat_le x.1 budget.base)) (tail_steps (alone net plan) t) run.based)).0)

    module _ (before : Holds net plan budget f history) where
      -- Estimates

      module _ (d : ℕ) (past : Past) (l c : ℕ) (m : Message) (edge : Edge) (member : is_member plan d ≡ true) (within : d < length net.devices)
          (act : act_by (alone net plan) steps e ≡ Calls d (calls.Receive l m c))
          (there : past_in steps d ≡ Some past) (over : accepted_over (transition_of past (calls.Receive l m c)) ≡ Some edge) where
        up : is_up (seen_of steps) d ≡ true
        up = called_is_up (alone net plan) steps e d (calls.Receive l m c) (plain_now (e ∷ history) t).is.1
            (called_by (alone net plan) steps e d (calls.Receive l m c) (plain_event (alone net plan) e history (plain_now (e ∷ history) t)) act)

        lives : IsLive net plan history d past
        lives = (standing history (rest_of t)).live d past member up there

        hears : IsHeard net plan history past d m edge
        hears = heard net plan e history well (plain_now (e ∷ history) t) d l c m edge past within act lives there over

        abbrev hop : Hop
        hop = hears.on.hop

        leads : LeadsRight net plan d hop
        leads = well.leads d hop within (planned_hop plan past d hop hears.on.hop_is)

        sent : SentSo net plan budget f history hop.parent m.eps
        sent = subst (λ (n : Message). SentSo net plan budget f history hop.parent n.eps) hears.same
            (before.sent hears.from hop.parent hears.sent hears.before leads.member leads.within hears.sends)

        -- the root hears nothing
        not_root : is_root plan d ≡ false
        not_root =
            false_from (is_root plan d) (λ is.
            both_ways (is_acting past) hears.on.idle
            (sym lives.acts_is ∙ subst (λ x. acts_in steps x ≡ true) (eqb-true plan.root d is)
            ((standing history (rest_of t)).root (subst (λ x. is_member plan x ≡ true) (sym (eqb-true plan.root d is)) member)
            (subst (λ x. is_up (seen_of steps) x ≡ true) (sym (eqb-true plan.root d is)) up))))
          where
            false_from : (b : Bool) → (b ≡ true → ⊥) → b ≡ false
            false_from true none = absurd (none refl)
            false_from false none = refl

        -- the backup root hears over one of its ways
        heard_backup : is_backup_root plan d ≡ true → m.eps + (bounds_of net hop.link d).half ≤ sent_by_root net plan budget + root_halves net plan
        heard_backup is =
            subst (λ x. m.eps + (bounds_of net hop.link x).half ≤ sent_by_root net plan budget + root_halves net plan) same (by_way (has_moved past) refl)
          where
            same : plan.backup_root ≡ d
            same = eqb-true plan.backup_root d is

            up_b : is_up (seen_of steps) plan.backup_root ≡ true
            up_b = subst (λ x. is_up (seen_of steps) x ≡ true) (sym same) up

            there_b : past_in steps plan.backup_root ≡ Some past
            there_b = subst (λ x. past_in steps x ≡ Some past) (sym same) there

            on_b : (b : Bool) → has_moved past ≡ b → (if b then backup_of plan plan.backup_root else primary_of plan plan.backup_root) ≡ Some hop
            on_b b moved =
                subst (λ (x : Bool). (if x then backup_of plan plan.backup_root else primary_of plan plan.backup_root) ≡ Some hop) moved
                (subst (λ x. hop_now plan past x ≡ Some hop) (sym same) hears.on.hop_is)

            part : (s : List Event) → Tail s history → Stands net plan f s
            part s u = standing s (tail_trans u (rest_of t))

            by_way : (b : Bool) → has_moved past ≡ b
                → m.eps + (bounds_of net hop.link plan.backup_root).half ≤ sent_by_root net plan budget + root_halves net plan
            by_way true moved =
                let straight =
                fallback_straight net plan f well history (plain_now history (rest_of t)) part past up_b there_b moved hears.on.idle hop
                (on_b true moved) in
                within_halves net plan budget f (m.eps + (bounds_of net hop.link plan.backup_root).half)
                (halves net plan.backup_root (hop ∷ walk net plan hop.parent))
                (hop_direct net plan budget f plan.backup_root m.eps hop (sent.direct straight)) (fallback_halves net plan hop (on_b true moved))
            by_way false moved =
                let straight =
                path_straight net plan f well history (plain_now history (rest_of t)) part past up_b there_b moved hears.on.idle hop (on_b false moved) in
                let step = well.forest.up plan.backup_root hop well.backup_within (on_b false moved) in
                within_halves net plan budget f (m.eps + (bounds_of net hop.link plan.backup_root).half)
                (halves net plan.backup_root (hop ∷ walk net plan hop.parent))
                (hop_direct net plan budget f plan.backup_root m.eps hop (sent.direct straight))
                (subst (λ (hs : List Hop). halves net plan.backup_root hs ≤ root_halves net plan) step.walk (path_halves net plan))

        -- any other device over a hop that it may be on
        heard_walked : IsWalked net plan budget f d (m.eps + (bounds_of net hop.link d).half)
        heard_walked = by_role (is_backup_root plan d) refl
          where
            by_role : (b : Bool) → is_backup_root plan d ≡ b → IsWalked net plan budget f d (m.eps + (bounds_of net hop.link d).half)
            by_role true is = backup_walked net plan budget f d (m.eps + (bounds_of net hop.link d).half) (heard_backup is)
            by_role false is =
                hop_walked net plan budget f d m.eps hop (has_moved past) member (or_from (is_root plan d) (is_backup_root plan d) not_root is)
                (λ moved. (standing history (rest_of t)).hit d
                (and_from (is_member plan d && not (is_root plan d)) (not (is_backup_root plan d))
                (and_from (is_member plan d) (not (is_root plan d)) member (not_from_false (is_root plan d) not_root))
                (not_from_false (is_backup_root plan d) is))
                up (lives.moved_is ∙ moved))
                hears.on.hop_is sent.walked

        -- on a straight way over its primary hop
        heard_direct : IsStraight net plan (e ∷ history) d
            → m.eps + (bounds_of net hop.link d).half ≤ sent_by_root net plan budget + halves net d (walk net plan d)
        heard_direct straight =
            subst (λ (hs : List Hop). m.eps + (bounds_of net hop.link d).half ≤ sent_by_root net plan budget + halves net d hs) (sym step.walk)
            (hop_direct net plan budget f d m.eps hop (sent.direct above))
          where
            unmoved : has_moved past ≡ false
            unmoved =
                was_unmoved past (after past (calls.Receive l m c))
                (onward (calls.Receive l m c)
                (takes_none past (calls.Receive l m c) (none_given (alone net plan) history (plain_now history (rest_of t)) d past there)) itself)
                (straight.still d (on_itself net plan d) not_root (after past (calls.Receive l m c))
                (ap (λ a. past_after a d (past_in steps d)) act ∙ called_past d (calls.Receive l m c) (past_in steps d) past there))

            primary : primary_of plan d ≡ Some hop
            primary = subst (λ (b : Bool). (if b then backup_of plan d else primary_of plan d) ≡ Some hop) unmoved hears.on.hop_is

            step : IsStep net plan d hop
            step = well.forest.up d hop within primary

            above : IsStraight net plan history hop.parent
            above =
                let was = straight_before net plan e history (plain_now (e ∷ history) t) d straight in
                record {
                  off = λ y on. was.off y (on_up net plan d y hop step.walk ∙ or_right (nat_eq y d) (on_walk net plan hop.parent y) on);
                  still = λ y on. was.still y (on_up net plan d y hop step.walk ∙ or_right (nat_eq y d) (on_walk net plan hop.parent y) on);
                }

        heard_based : Based net plan budget f (e ∷ history) d (m.eps + edge.bounds.half)
        heard_based =
            subst (λ (x : Edge). Based net plan budget f (e ∷ history) d (m.eps + x.bounds.half)) hears.on.edge_is
            (record { root = λ is. absurd (both_ways (is_root plan d) not_root is); backup = heard_backup; walked = heard_walked; direct = heard_direct })

      -- what a call leaves of the estimate
      called_based : (d : ℕ) (past : Past) (call : Call) → is_member plan d ≡ true → d < length net.devices → act_by (alone net plan) steps e ≡ Calls d call
          → past_in steps d ≡ Some past → Called e d call
          → Based net plan budget f (e ∷ history) d (estimate_now (after past call)).base
      called_based d past _ member within act there (ticks r c is) =
          based_on net plan budget f e history (plain_now (e ∷ history) t) d (estimate_now past).base (before.based d past member within there)
      called_based d past _ member within act there (fixes r c clock eps is) =
          set_so net plan budget f (e ∷ history) d eps (set_within clock eps (ap clock_set is))
      called_based d past _ member within act there (receives r c n l m is) = by_edge (accepted_over (transition_of past (calls.Receive l m c))) refl
        where
          by_edge : (o : Option Edge) → accepted_over (transition_of past (calls.Receive l m c)) ≡ o
              → Based net plan budget f (e ∷ history) d (estimate_now (after past (calls.Receive l m c))).base
          by_edge None over =
              subst (λ o. Based net plan budget f (e ∷ history) d
              (map_or (option_map (λ edge. corrected (carried m) edge.bounds c) o) (estimate_now past) (λ x. x)).base) (sym over)
              (based_on net plan budget f e history (plain_now (e ∷ history) t) d (estimate_now past).base (before.based d past member within there))
          by_edge (Some edge) over =
              subst (λ o. Based net plan budget f (e ∷ history) d
              (map_or (option_map (λ edge. corrected (carried m) edge.bounds c) o) (estimate_now past) (λ x. x)).base) (sym over)
              (heard_based d past l c m edge member within act there over)

      based_now : (d : ℕ) (past : Past) → is_member plan d ≡ true → d < length net.devices → past_in (steps_under net plan (e ∷ history)) d ≡ Some past
          → Based net plan budget f (e ∷ history) d (estimate_now past).base
      based_now d past member within there = go (past_by (act_by (alone net plan) steps e) d (past_in steps d) past there)
        where
          go : PastBy (act_by (alone net plan) steps e) d (past_in steps d) past → Based net plan budget f (e ∷ history) d (estimate_now past).base
          go (by_making making act is) =
              let by = made_by (alone net plan) steps e d making (plain_event (alone net plan) e history (plain_now (e ∷ history) t)) act in
              subst (λ (q : Past). Based net plan budget f (e ∷ history) d (estimate_now q).base) (sym (is ∙ ap new_past by.making_is))
              (set_so net plan budget f (e ∷ history) d by.eps (set_within by.clock by.eps (ap clock_set by.event_is)))
          go (by_call old call act was is) =
              subst (λ (q : Past). Based net plan budget f (e ∷ history) d (estimate_now q).base) (sym is)
              (called_based d old call member within act was
              (called_by (alone net plan) steps e d call (plain_event (alone net plan) e history (plain_now (e ∷ history) t)) act))
          go (unchanged was) =
              based_on net plan budget f e history (plain_now (e ∷ history) t) d (estimate_now past).base (before.based d past member within was)

      -- Messages

      module _ (x : ℕ) (m : Message) (past : Past) (call : Call) (member : is_member plan x ≡ true) (within : x < length net.devices)
          (there : past_in steps x ≡ Some past) (act : act_by (alone net plan) steps e ≡ Calls x call)
          (effect : effect_of past call ≡ Send m) where
        there_now : past_in (steps_under net plan (e ∷ history)) x ≡ Some (after past call)
        there_now = ap (λ a. past_after a x (past_in steps x)) act ∙ called_past x call (past_in steps x) past there

        called : Called e x call
        called = called_by (alone net plan) steps e x call (plain_event (alone net plan) e history (plain_now (e ∷ history) t)) act

        lives_now : IsLive net plan (e ∷ history) x (after past call)
        lives_now = (standing (e ∷ history) t).live x (after past call) member
            (called_stays_up (alone net plan) history e x call (plain_now (e ∷ history) t).is.1 called) there_now

        based_after : Based net plan budget f (e ∷ history) x (estimate_now (after past call)).base
        based_after = based_now x (after past call) member within there_now

        -- a round ages by the hold at most
        round_aged : (c : ℕ) → call ≡ calls.Tick c → is_acting (after past call) ≡ true
            → (report_at (after past call) c).eps ≤ (estimate_now (after past call)).base + ageing (rates_of net x) budget.hold
        round_aged c is acts =
            aged (after past call) (rates_of net x) c budget.hold (own_rates net plan (e ∷ history) x (after past call) lives_now)
            (held_when (acts_in (steps_under net plan (e ∷ history)) x) (past_in (steps_under net plan (e ∷ history)) x)
            (after past call) c budget.hold there_now (lives_now.acts_is ∙ acts)
            (held_by (subst (Called e x) is called)
            (held_at budget steps (steps_under net plan whole_) (next_step (alone net plan) steps e) (tail_steps (alone net plan) t) run.held)))
          where
            held_by : Called e x (calls.Tick c) → held_briefly budget (steps_under net plan (e ∷ history)) e ≡ true
                → (not (acts_in (steps_under net plan (e ∷ history)) x)
                || map_or (past_in (steps_under net plan (e ∷ history)) x) true (λ p. nat_le (c - (estimate_now p).at) budget.hold)) ≡ true
            held_by (ticks r _ same) held = subst (λ z. held_briefly budget (steps_under net plan (e ∷ history)) z ≡ true) same held

        -- the root sends at most what is said of it, and the backup root the source
        root_sent : (c : ℕ) → call ≡ calls.Tick c → is_acting (after past call) ≡ true → is_root plan x ≡ true
            → SentSo net plan budget f (e ∷ history) x (report_at (after past call) c).eps
        root_sent c is acts root =
            let age = round_aged c is acts in
            let less = aged_by (report_at (after past call) c).eps (estimate_now (after past call)).base budget.base (ageing (rates_of net x) budget.hold) age
            (based_after.root root) in
            let both =
            aged_root (report_at (after past call) c).eps budget.base (ageing (rates_of net plan.root) budget.hold) (root_halves net plan)
            (ageing (rates_of net plan.backup_root) budget.hold) (halves net x (walk net plan x))
            (subst (λ y. (report_at (after past call) c).eps ≤ budget.base + ageing (rates_of net y) budget.hold) (sym (eqb-true plan.root x root)) less) in
            record { walked = record { hops = []; walk = refl; sum = both.0 }; direct = λ straight. both.1 }

        backup_sent : (c : ℕ) → call ≡ calls.Tick c → is_acting (after past call) ≡ true → is_root plan x ≡ false → is_backup_root plan x ≡ true
            → SentSo net plan budget f (e ∷ history) x (report_at (after past call) c).eps
        backup_sent c is acts other backup =
            let age = round_aged c is acts in
            let less =
            aged_by (report_at (after past call) c).eps (estimate_now (after past call)).base (sent_by_root net plan budget + root_halves net plan)
            (ageing (rates_of net x) budget.hold) age (based_after.backup backup) in
            record {
              walked =
                  record {
                    hops = [];
                    walk = refl;
                    sum =
                        aged_source (report_at (after past call) c).eps budget.base (root_halves net plan) (ageing (rates_of net plan.root) budget.hold)
                        (ageing (rates_of net plan.backup_root) budget.hold)
                        (subst (λ y. (report_at (after past call) c).eps ≤ sent_by_root net plan budget + root_halves net plan + ageing
                        (rates_of net y) budget.hold) (sym (eqb-true plan.backup_root x backup)) less);
                  };
              direct = λ straight. absurd (both_ways (acts_in (steps_under net plan (e ∷ history)) plan.backup_root)
                  ((standing (e ∷ history) t).idle (straight.off x (on_itself net plan x) other backup))
                  (subst (λ y. acts_in (steps_under net plan (e ∷ history)) y ≡ true) (sym (eqb-true plan.backup_root x backup)) (lives_now.acts_is ∙ acts)));
            }

        -- nobody else sends rounds
        round_sent : (c : ℕ) → call ≡ calls.Tick c → is_acting (after past call) ≡ true
            → SentSo net plan budget f (e ∷ history) x (report_at (after past call) c).eps
        round_sent c is acts = by_role (is_root plan x) (is_backup_root plan x) refl refl
          where
            by_role : (r b : Bool) → is_root plan x ≡ r → is_backup_root plan x ≡ b
                → SentSo net plan budget f (e ∷ history) x (report_at (after past call) c).eps
            by_role true b is_r is_b = root_sent c is acts is_r
            by_role false true is_r is_b = backup_sent c is acts is_r is_b
            by_role false false is_r is_b =
                absurd (both_ways (acts_in (steps_under net plan (e ∷ history)) x)
                ((standing (e ∷ history) t).ordinary x
                (and_from (is_member plan x && not (is_root plan x)) (not (is_backup_root plan x))
                (and_from (is_member plan x) (not (is_root plan x)) member (not_from_false (is_root plan x) is_r))
                (not_from_false (is_backup_root plan x) is_b))
                (called_stays_up (alone net plan) history e x call (plain_now (e ∷ history) t).is.1 called))
                (lives_now.acts_is ∙ acts))

        begun_sent : IsBegun past call (transition_of past call) → is_emission (transition_of past call) ≡ true → SentSo net plan budget f (e ∷ history) x m.eps
        begun_sent begins emission =
            subst (SentSo net plan budget f (e ∷ history) x)
            (emitted_eps (after past call) begins.counter (transition_of past call) m emission
            (subst (λ k. effect_of_latest (after past call) (record { call = k; transition = transition_of past call }) ≡ Send m) begins.call_is effect))
            (round_sent begins.counter begins.call_is begins.acts)

        sent_by : Sender past call (transition_of past call) → SentSo net plan budget f (e ∷ history) x m.eps
        sent_by sender =
            by_sender past call (transition_of past call) (SentSo net plan budget f (e ∷ history) x m.eps)
            (λ emission. begun_sent (begun past call emission) emission)
            (λ edge over.
            subst (SentSo net plan budget f (e ∷ history) x) (relayed_eps (after past call) call (transition_of past call) edge m over effect)
            (passed_on net plan budget f (e ∷ history) x (estimate_now (after past call)).base based_after))
            sender

      sent_now : (p : Moment) (x : ℕ) (m : Message) → IsIn p (steps_under net plan (e ∷ history)) → is_member plan x ≡ true → x < length net.devices
          → Sends p x m → SentSo net plan budget f (e ∷ history) x m.eps
      sent_now p x m t' member within sends = go (in_cases p (next_step (alone net plan) steps e) steps t')
        where
          at_last : Sends (record { step = next_step (alone net plan) steps e; earlier = steps }) x m → SentSo net plan budget f (e ∷ history) x m.eps
          at_last s = sent_by x m s.past s.call member within s.there s.act s.effect (sender_of s.past s.call m s.effect)

          go : (p ≡ record { step = next_step (alone net plan) steps e; earlier = steps }) ⊎ IsIn p steps → SentSo net plan budget f (e ∷ history) x m.eps
          go (inl same) = at_last (subst (λ q. Sends q x m) same sends)
          go (inr older) = sent_on net plan budget f e history (plain_now (e ∷ history) t) x m.eps (before.sent p x m older member within sends)

      holds_now : Holds net plan budget f (e ∷ history)
      holds_now = record { based = based_now; sent = sent_now }

  pub all_hold_so : (history : List Event) → Tail history whole_ → Holds net plan budget f history
  all_hold_so [] t = record { based = λ d past member within there. cc; sent = λ p x m here member within sends. elim here [ ] }
  all_hold_so (e ∷ history) t = holds_now e history t (all_hold_so history (rest_of t))
