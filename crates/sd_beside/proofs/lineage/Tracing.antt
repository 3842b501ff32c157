-- What is kept of every history: each estimate and each flight has a lineage, and where that is honest it was as near the reference as it says when it was
-- set, or sent.
use Rattle.std.specs.Prelude.{◌≡◌, ℕ, ◌+◌, not, ◌-◌, ◌≤◌, Bool, true, false, ◌&&◌, List, [], ◌∷◌, find, nat_eq, nat_le, Option, Some, None, is_some, option_map, option_and_then, refl, if◌then◌else◌}
use Rattle.std.specs.Option.{option_or}
use Rattle.std.proofs.Common.{arith, sym, ◌∙◌, ap, subst}
use Rattle.std.proofs.lemmas.Bool.{and_parts, leb-true, eqb-true, eq-eqb, not-false}
use Rattle.std.proofs.lemmas.List.Folds.{find-append}
use Rattle.sd_num.specs.Lists.{map_or, same_number}
use Rattle.sd_num.specs.Numbers.{distance, keeps_rate}
use Rattle.sd_plan.specs.topo.Network.{rates_of, bounds_of, delay_of}
use Rattle.sd_plan.specs.declared.Edge.{Edge}
use Rattle.sd_plan.specs.declared.Duty.{Duty}
use Rattle.sd_plan.specs.declared.Plan.{Plan}
use Rattle.sd_plan.specs.Duties.{duty_of}
use Rattle.sd_num.specs.declared.clock.Estimate.{Estimate}
use Rattle.sd_num.specs.clock.Estimates.{corrected}
use Rattle.sd_num.proofs.clock.Containment.{report_is_near, corrected_is_near}
use Rattle.sd_device.specs.declared.msg.Message.{Message}
use Rattle.sd_device.specs.declared.msg.Flight.{Flight}
use Rattle.sd_device.specs.msg.Stamps.{carried}
use Rattle.sd_device.specs.declared.Effect.{Effect}
use Rattle.sd_device.specs.declared.Effect.TheVariants.{Quiet, Send}
use Rattle.sd_device.specs.Calls as calls
use Rattle.sd_device.specs.Calls.{Call, Making, Past}
use Rattle.sd_device.specs.Words.{transition_of, after, effect_of, effect_of_latest, relayed, accepted_over, accepted_by, over_link, given_now, parent_edge, epoch_now, stamp_now, estimate_now, first_estimate, rates_now, report_at, emits_at, takes_over_at, moves_at}
use Rattle.sd_device.specs.msg.Stamps.{is_newer}
use Rattle.sd_sched.specs.declared.Event.{Event}
use Rattle.sd_sched.specs.declared.Event.TheVariants as event
use Rattle.sd_sched.specs.Events.{reference_of, device_of}
use Rattle.sd_history.specs.World.{Setting, latest_reference, staged, staged_epoch, in_force, epoch_in_force}
use Rattle.sd_history.specs.Steps.{Act, Calls, Passes, tells_nothing, tells_called, Step, seen_of, flights, flight_numbered, flights_of, flights_by, flight_count, ends_at}
use Rattle.sd_history.specs.Chronicle.{answers_by, past_in, past_after, told_by, new_past, next_step, chronicle}
use Rattle.sd_history.specs.Admitted.{Admits, IsAdmitted}
use Rattle.sd_history.specs.Premises.{is_in_time}
use Rattle.sd_history.proofs.Clear.{clear}
use Rattle.sd_history.proofs.Among.{Among, found, carried_by}
use Rattle.sd_history.proofs.Contained.{send_same, admitted_time_goes_on}
use Rattle.sd_history.proofs.Given.{some_is}
use Rattle.sd_history.proofs.Owned.{OwnPast, rates_are_own, accepts_own}
use Rattle.sd_history.proofs.Owning.{own_pasts}
use Rattle.sd_history.proofs.Tellings.{commits_quietly}
use Rattle.sd_beside.specs.lineage.Lineage.{Lineage, Came, is_honest_lineage, Descent, set_at, come_at, held_to, accepts, descent_set, descent_after, lineage_sent, lineages}

-- What is kept

-- an estimate descends so; where that is honest, it was as near the reference as it says when it was set
pub record Descends (setting : Setting) (latest : ℕ) (o : Option Descent) (estimate : Estimate) : Type 0 where
  pub descent : Descent
  pub there : o ≡ Some descent
  pub at : descent.at.1 ≡ estimate.at
  pub before : descent.at.0 ≤ latest
  pub near : is_honest_lineage setting descent.from ≡ true → distance estimate.clock descent.at.0 ≤ estimate.base

-- a flight has this lineage; where that is honest, it carries a clock as near the reference of its sending as it says
pub record Carries (setting : Setting) (latest : ℕ) (o : Option Lineage) (f : Flight) : Type 0 where
  pub lineage : Lineage
  pub there : o ≡ Some lineage
  pub before : f.sent_at ≤ latest
  pub near : is_honest_lineage setting lineage ≡ true → distance f.message.clock f.sent_at ≤ f.message.eps

pub record AreTraced (setting : Setting) (steps : List Step) : Type 0 where
  pub own : (d : ℕ) (past : Past) → past_in steps d ≡ Some past → OwnPast setting.net d past
  pub device : (d : ℕ) (past : Past) → past_in steps d ≡ Some past
      → Descends setting (latest_reference (seen_of steps)) ((lineages steps).of_device d) (estimate_now past)
  pub flight : (n : ℕ) (f : Flight) → flight_numbered steps n ≡ Some f
      → Carries setting (latest_reference (seen_of steps)) ((lineages steps).of_flight n) f

still_descends : (setting : Setting) (l r : ℕ) (o : Option Descent) (estimate : Estimate) → l ≤ r → Descends setting l o estimate → Descends setting r o estimate
still_descends setting l r o estimate le x =
    record { descent = x.descent; there = x.there; at = x.at; before = omega (arith, x.before, le); near = x.near }

still_carries : (setting : Setting) (l r : ℕ) (o : Option Lineage) (f : Flight) → l ≤ r → Carries setting l o f → Carries setting r o f
still_carries setting l r o f le x = record { lineage = x.lineage; there = x.there; before = omega (arith, x.before, le); near = x.near }

-- what a device reports at a counter is as near the reference as it says, where the lineage up to there is honest
pub held_near : (setting : Setting) (l : ℕ) (o : Option Descent) (d : ℕ) (past : Past) (r c : ℕ) → OwnPast setting.net d past
    → (x : Descends setting l o (estimate_now past)) → l ≤ r → is_honest_lineage setting (held_to d (r, c) x.descent) ≡ true
    → distance (report_at past c).clock r ≤ (report_at past c).eps
held_near setting l o d past r c own x le honest =
    let parts : (is_honest_lineage setting x.descent.from ≡ true) × (keeps_rate (rates_of setting.net d) (c - x.descent.at.1) (r - x.descent.at.0) ≡ true) =
    and_parts (is_honest_lineage setting x.descent.from) (keeps_rate (rates_of setting.net d) (c - x.descent.at.1) (r - x.descent.at.0)) honest in
    report_is_near (rates_now past) (estimate_now past) x.descent.at.0 r c (x.near parts.0) (omega (arith, x.before, le))
    (subst (λ rates. keeps_rate rates (c - (estimate_now past).at) (r - x.descent.at.0) ≡ true) (sym (rates_are_own setting.net d past own))
    (subst (λ a. keeps_rate (rates_of setting.net d) (c - a) (r - x.descent.at.0) ≡ true) x.at parts.1))

-- One step

-- what a step sends has a lineage
abbrev SendsSo : Setting → List Step → Step → Type 0
SendsSo setting steps s =
    (f : Flight) → Among f s.sent
    → Carries setting (reference_of s.seen.event) (lineage_sent (descent_after steps (lineages steps) s.seen.event) s.seen.event) f

-- of each device after it
abbrev DescendsSo : Setting → List Step → Step → Type 0
DescendsSo setting steps s =
    (d : ℕ) (past : Past) → past_in (s ∷ steps) d ≡ Some past
    → Descends setting (reference_of s.seen.event) (descent_after steps (lineages steps) s.seen.event d) (estimate_now past)

-- the lineage of what is found under a number, by whether the step sent it
abbrev by_sent : List Step → Step → ℕ → Option Flight → Option Lineage
by_sent steps s n o =
    if is_some o then lineage_sent (descent_after steps (lineages steps) s.seen.event) s.seen.event else (lineages steps).of_flight n

traced_on : (setting : Setting) (steps : List Step) (s : Step) → AreTraced setting steps → latest_reference (seen_of steps) ≤ reference_of s.seen.event
    → ((d : ℕ) (past : Past) → past_in (s ∷ steps) d ≡ Some past → OwnPast setting.net d past) → DescendsSo setting steps s → SendsSo setting steps s
    → AreTraced setting (s ∷ steps)
traced_on setting steps s inv le own devices sends =
    record { own = own; device = devices; flight = λ n f same. by_side n f (find (λ g. nat_eq g.number n) s.sent) refl (sym (sides n) ∙ same) }
  where
    sides : (n : ℕ) → flight_numbered (s ∷ steps) n ≡ option_or (find (λ g. nat_eq g.number n) s.sent) (flight_numbered steps n)
    sides n = find-append (λ g. nat_eq g.number n) s.sent (flights steps)

    by_side : (n : ℕ) (f : Flight) (o : Option Flight) → find (λ g. nat_eq g.number n) s.sent ≡ o → option_or o (flight_numbered steps n) ≡ Some f
        → Carries setting (reference_of s.seen.event) (by_sent steps s n (find (λ g. nat_eq g.number n) s.sent)) f
    by_side n f None there same =
        subst (λ o. Carries setting (reference_of s.seen.event) (by_sent steps s n o) f) (sym there)
        (still_carries setting (latest_reference (seen_of steps)) (reference_of s.seen.event) ((lineages steps).of_flight n) f le (inv.flight n f same))
    by_side n f (Some g) there same =
        subst (λ o. Carries setting (reference_of s.seen.event) (by_sent steps s n o) f) (sym there)
        (sends f (found (λ x. nat_eq x.number n) f s.sent (there ∙ same)))

-- a device of which the event sets nothing
unset : (b : Bool) (o : Option Descent) → (if b then option_or None o else o) ≡ o
unset true o = refl
unset false o = refl

-- where a step leaves all devices as they are, and sends nothing
passing : (setting : Setting) (steps : List Step) (s : Step) → AreTraced setting steps → latest_reference (seen_of steps) ≤ reference_of s.seen.event
    → ((d : ℕ) (p : Option Past) → past_after s.act d p ≡ p) → descent_set steps (lineages steps) s.seen.event ≡ None → s.sent ≡ []
    → AreTraced setting (s ∷ steps)
passing setting steps s inv le unchanged none sent =
    traced_on setting steps s inv le (λ d past here. inv.own d past (was d past here))
    (λ d past here.
    subst (λ o. Descends setting (reference_of s.seen.event) o (estimate_now past))
    (sym
    (ap (λ o. if same_number (device_of s.seen.event) d then option_or o ((lineages steps).of_device d) else (lineages steps).of_device d) none
    ∙ unset (same_number (device_of s.seen.event) d) ((lineages steps).of_device d)))
    (still_descends setting (latest_reference (seen_of steps)) (reference_of s.seen.event) ((lineages steps).of_device d) (estimate_now past) le
    (inv.device d past (was d past here))))
    (λ f a. elim (subst (λ fs. Among f fs) sent a) [ ])
  where
    was : (d : ℕ) (past : Past) → past_in (s ∷ steps) d ≡ Some past → past_in steps d ≡ Some past
    was d past here = sym (unchanged d (past_in steps d)) ∙ here

-- The devices after an event that names one of them

module _ (setting : Setting) (steps : List Step) (inv : AreTraced setting steps) (r : ℕ) (le : latest_reference (seen_of steps) ≤ r) (e : ℕ)
    (new : Option Past → Option Past) (set : Option Descent)
    (named : (past : Past) → new (past_in steps e) ≡ Some past
    → Descends setting r (option_or set ((lineages steps).of_device e)) (estimate_now past)) where
  after_naming : (d : ℕ) (past : Past) (b : Bool) → nat_eq e d ≡ b → (if b then new (past_in steps d) else past_in steps d) ≡ Some past
      → Descends setting r (if b then option_or set ((lineages steps).of_device d) else (lineages steps).of_device d) (estimate_now past)
  after_naming d past true equal here =
      subst
      (λ x. new (past_in steps x) ≡ Some past → Descends setting r (option_or set ((lineages steps).of_device x)) (estimate_now past))
      (eqb-true e d equal) (named past) here
  after_naming d past false equal here =
      still_descends setting (latest_reference (seen_of steps)) r ((lineages steps).of_device d) (estimate_now past) le (inv.device d past here)

-- a clock that an event sets
set_near : (setting : Setting) (r c clock eps : ℕ) (o : Option Descent) (estimate : Estimate) → estimate ≡ record { clock = clock; base = eps; at = c }
    → Descends setting r (option_or (Some (set_at r c clock eps)) o) estimate
set_near setting r c clock eps o estimate is =
    subst (λ x. Descends setting r (Some (set_at r c clock eps)) x) (sym is)
    (record {
      descent = set_at r c clock eps;
      there = refl;
      at = refl;
      before = omega arith;
      near = λ honest. leb-true (distance clock r) eps honest;
    })

-- a device that is called keeps its estimate where the call sets none
abbrev KeepsEstimate : Call → Type 0
KeepsEstimate call = (past : Past) → estimate_now (after past call) ≡ estimate_now past

called_keeps : (setting : Setting) (l r : ℕ) (o : Option Descent) (call : Call) → KeepsEstimate call → l ≤ r → (p : Option Past)
    → ((past : Past) → p ≡ Some past → Descends setting l o (estimate_now past)) → (past : Past) → option_map (λ q. after q call) p ≡ Some past
    → Descends setting r o (estimate_now past)
called_keeps setting l r o call keeps le None was past here = cc
called_keeps setting l r o call keeps le (Some q) was past here =
    subst (λ x. Descends setting r o (estimate_now x)) (some_is here)
    (subst (Descends setting r o) (sym (keeps q)) (still_descends setting l r o (estimate_now q) le (was q refl)))

-- What is sent

sent_so : (setting : Setting) (r : ℕ) (o : Option Lineage) (m : Message) (lineage : Lineage) → o ≡ Some lineage
    → (is_honest_lineage setting lineage ≡ true → distance m.clock r ≤ m.eps) → (f : Flight) → (f.message ≡ m) × (f.sent_at ≡ r) → Carries setting r o f
sent_so setting r o m lineage there near f carries =
    record {
      lineage = lineage;
      there = there;
      before = omega (arith, carries.1);
      near = λ honest.
          subst (λ q. distance f.message.clock q ≤ f.message.eps) (sym carries.1)
          (subst (λ (n : Message). distance n.clock r ≤ n.eps) (sym carries.0) (near honest));
    }

-- the flights of an effect, each with the lineage that its message has
by_effect : (setting : Setting) (steps : List Step) (r d epoch : ℕ) (o : Option Lineage) (effect : Effect)
    → ((m : Message) → effect ≡ Send m → (f : Flight) → (f.message ≡ m) × (f.sent_at ≡ r) → Carries setting r o f)
    → (f : Flight) → Among f (flights_by setting steps r d epoch effect) → Carries setting r o f
by_effect setting steps r d epoch o Quiet sends f a = elim a [ ]
by_effect setting steps r d epoch o (Send m) sends f a =
    sends m refl f (carried_by setting steps r d m (flight_count steps + 1) (ends_at setting steps epoch d) f a)

-- the flights of a call, by the past of its device
by_call : (setting : Setting) (steps : List Step) (r d : ℕ) (call : Call) (o : Option Lineage) (p : Option Past)
    → ((past : Past) → p ≡ Some past → (m : Message) → effect_of past call ≡ Send m → (f : Flight) → (f.message ≡ m) × (f.sent_at ≡ r)
    → Carries setting r o f)
    → (f : Flight) → Among f
    (flights_of setting steps r (Calls d call)
    (map_or p tells_nothing (λ past. tells_called (effect_of past call) (answers_by (after past call))))) → Carries setting r o f
by_call setting steps r d call o None sends f a = elim a [ ]
by_call setting steps r d call o (Some past) sends f a =
    by_effect setting steps r d (answers_by (after past call)).epoch o (effect_of past call) (sends past refl) f a

-- at a tick a device sends what it holds, as it reports it at the counter
tick_sends : (past : Past) (counter : ℕ) (a b c : Bool) (m : Message)
    → (let transition = if a then calls.Emitted else if b then calls.TookOver else if c then calls.Moved else calls.Nothing in
    let x : calls.CallDone = record { call = calls.Tick counter; transition = transition } in
    effect_of_latest (record { making = past.making; did = x ∷ past.did }) x) ≡ Send m
    → (m.clock ≡ (report_at past counter).clock) × (m.eps ≡ (report_at past counter).eps)
tick_sends past counter true b c m same = (sym (ap (λ (n : Message). n.clock) (send_same same)), sym (ap (λ (n : Message). n.eps) (send_same same)))
tick_sends past counter false true c m same = (sym (ap (λ (n : Message). n.clock) (send_same same)), sym (ap (λ (n : Message). n.eps) (send_same same)))
tick_sends past counter false false true m same = cc
tick_sends past counter false false false m same = cc

-- a receipt that accepts nothing does nothing
abbrev AcceptsOrRests : calls.Transition → Type 0
AcceptsOrRests transition = accepted_over transition ≡ None → transition ≡ calls.Nothing

entered_or_rests : (link : ℕ) (message : Message) (given : Option Duty) (transition : calls.Transition)
    → option_and_then
    (λ duty. if nat_eq duty.epoch message.epoch then option_map (calls.Entered duty) (option_and_then (over_link link) duty.primary) else None) given
    ≡ Some transition
    → AcceptsOrRests transition
entered_or_rests link message None transition is = cc
entered_or_rests link message (Some duty) transition is =
    by (nat_eq duty.epoch message.epoch) (option_and_then (over_link link) duty.primary) is
  where
    by : (b : Bool) (o : Option Edge) → (if b then option_map (calls.Entered duty) o else None) ≡ Some transition → AcceptsOrRests transition
    by true (Some edge) same none =
        let no : accepted_over (calls.Entered duty edge) ≡ None = subst (λ z. accepted_over z ≡ None) (sym (some_is same)) none in cc
    by true None same none = cc
    by false o same none = cc

accepted_or_rests : (b : Bool) (o : Option Edge) → AcceptsOrRests (map_or (if b then option_map calls.Accepted o else None) calls.Nothing (λ transition. transition))
accepted_or_rests true None none = refl
accepted_or_rests true (Some edge) none = cc
accepted_or_rests false o none = refl

receipt_or_rests : (past : Past) (link : ℕ) (message : Message) (counter : ℕ) → AcceptsOrRests (transition_of past (calls.Receive link message counter))
receipt_or_rests past link message counter =
    by
    (option_and_then
    (λ duty. if nat_eq duty.epoch message.epoch then option_map (calls.Entered duty) (option_and_then (over_link link) duty.primary) else None)
    (given_now past))
    (entered_or_rests link message (given_now past))
  where
    by : (o : Option calls.Transition) → ((t : calls.Transition) → o ≡ Some t → AcceptsOrRests t)
        → AcceptsOrRests (map_or o (map_or (accepted_by past link message) calls.Nothing (λ transition. transition)) (λ transition. transition))
    by None each =
        accepted_or_rests (nat_eq (epoch_now past) message.epoch && is_newer message.stamp (stamp_now past))
        (option_and_then (over_link link) (parent_edge past))
    by (Some t) each = each t refl

-- what accepts sends on the estimate that it set
relays : (past : Past) (call : Call) (transition : calls.Transition) (edge : Edge) (m : Message) → accepted_over transition ≡ Some edge
    → effect_of_latest past (record { call = call; transition = transition }) ≡ Send m → relayed past ≡ m
relays past call (calls.Entered duty e) edge m over same = send_same same
relays past call (calls.Accepted e) edge m over same = send_same same
relays past call _ edge m over same = cc

-- Calls that set no estimate

module _ (setting : Setting) (steps : List Step) (s : Step) (inv : AreTraced setting steps) (le : latest_reference (seen_of steps) ≤ reference_of s.seen.event)
    (own : (d : ℕ) (past : Past) → past_in (s ∷ steps) d ≡ Some past → OwnPast setting.net d past)
    (none : descent_set steps (lineages steps) s.seen.event ≡ None) (e : ℕ) (call : Call) (keeps : KeepsEstimate call) where
  quiet_device : (d : ℕ) (past : Past) (b : Bool) → (if b then option_map (λ q. after q call) (past_in steps d) else past_in steps d) ≡ Some past
      → Descends setting (reference_of s.seen.event) ((lineages steps).of_device d) (estimate_now past)
  quiet_device d past true here =
      called_keeps setting (latest_reference (seen_of steps)) (reference_of s.seen.event) ((lineages steps).of_device d) call keeps le (past_in steps d)
      (inv.device d) past here
  quiet_device d past false here =
      still_descends setting (latest_reference (seen_of steps)) (reference_of s.seen.event) ((lineages steps).of_device d) (estimate_now past) le
      (inv.device d past here)

  quiet_call : ((past : Past) → effect_of past call ≡ Quiet) → s.act ≡ Calls e call
      → s.sent ≡ flights_of setting steps (reference_of s.seen.event) (Calls e call) (told_by steps (Calls e call)) → AreTraced setting (s ∷ steps)
  quiet_call quiet act sent =
      traced_on setting steps s inv le own
      (λ d past here.
      subst (λ o. Descends setting (reference_of s.seen.event) o (estimate_now past))
      (sym
      (ap (λ o. if same_number (device_of s.seen.event) d then option_or o ((lineages steps).of_device d) else (lineages steps).of_device d) none
      ∙ unset (same_number (device_of s.seen.event) d) ((lineages steps).of_device d)))
      (quiet_device d past (nat_eq e d) (subst (λ a. past_after a d (past_in steps d) ≡ Some past) act here)))
      (λ f a.
      by_call setting steps (reference_of s.seen.event) e call
      (lineage_sent (descent_after steps (lineages steps) s.seen.event) s.seen.event) (past_in steps e)
      (λ past is m same g carries. let no : Quiet ≡ Send m = sym (quiet past) ∙ same in cc) f (subst (λ fs. Among f fs) sent a))

-- A receipt

module _ (setting : Setting) (steps : List Step) (inv : AreTraced setting steps) (r d c n : ℕ) (le : latest_reference (seen_of steps) ≤ r) where
  -- by the flight
  abbrev call_of : Flight → Call
  call_of f = calls.Receive f.link f.message c

  -- what it sets, by whether it is accepted
  abbrev set_if : Flight → Bool → Option Descent
  set_if f accepted = if accepted then option_map (come_at r c f) ((lineages steps).of_flight n) else None

  -- the estimate that it leaves, by the edge over which it is accepted
  abbrev estimate_by : Flight → Past → Option Edge → Estimate
  estimate_by f q o = map_or (option_map (λ edge. corrected (carried f.message) edge.bounds c) o) (estimate_now q) (λ z. z)

  module _ (f : Flight) (there : flight_numbered steps n ≡ Some f) (receiver : d ≡ f.receiver) where
    carries_so : Carries setting (latest_reference (seen_of steps)) ((lineages steps).of_flight n) f
    carries_so = inv.flight n f there

    -- a flight that comes in time is corrected to a true estimate
    came_near : (q : Past) → past_in steps d ≡ Some q → (edge : Edge) → accepted_over (transition_of q (call_of f)) ≡ Some edge
        → is_honest_lineage setting (Came f r carries_so.lineage) ≡ true
        → distance (corrected (carried f.message) edge.bounds c).clock r ≤ (corrected (carried f.message) edge.bounds c).base
    came_near q here edge over honest =
        let delay = delay_of setting.net f.link f.receiver in
        let parts : (is_honest_lineage setting carries_so.lineage ≡ true) × (is_in_time setting r f ≡ true) =
        and_parts (is_honest_lineage setting carries_so.lineage) (is_in_time setting r f) honest in
        let times : (nat_le delay.min (r - f.sent_at) ≡ true) × (nat_le (r - f.sent_at) delay.max ≡ true) =
        and_parts (nat_le delay.min (r - f.sent_at)) (nat_le (r - f.sent_at) delay.max) parts.1 in
        let bounds : edge.bounds ≡ bounds_of setting.net f.link f.receiver =
        (accepts_own setting.net d q f.link f.message c edge (inv.own d q here) over).bounds ∙ ap (λ x. bounds_of setting.net f.link x) receiver in
        subst (λ b. distance (corrected (carried f.message) b c).clock r ≤ (corrected (carried f.message) b c).base) (sym bounds)
        (corrected_is_near (carried f.message) delay.min delay.max f.sent_at r c (carries_so.near parts.0)
        (omega (arith, carries_so.before, le))
        (leb-true delay.min (r - f.sent_at) times.0) (leb-true (r - f.sent_at) delay.max times.1))

    received : (q : Past) → past_in steps d ≡ Some q → (o : Option Edge) → accepted_over (transition_of q (call_of f)) ≡ o
        → Descends setting r (option_or (set_if f (is_some o)) ((lineages steps).of_device d)) (estimate_by f q o)
    received q here None over =
        still_descends setting (latest_reference (seen_of steps)) r ((lineages steps).of_device d) (estimate_now q) le (inv.device d q here)
    received q here (Some edge) over =
        record {
          descent = come_at r c f carries_so.lineage;
          there = ap (λ o. option_or (option_map (come_at r c f) o) ((lineages steps).of_device d)) carries_so.there;
          at = refl;
          before = omega arith;
          near = came_near q here edge over;
        }

    -- the device that receives it
    named_by : (p : Option Past) → past_in steps d ≡ p → (past : Past) → option_map (λ q. after q (call_of f)) p ≡ Some past
        → Descends setting r
        (option_or (set_if f (map_or p false (λ q. is_some (accepted_over (transition_of q (call_of f)))))) ((lineages steps).of_device d))
        (estimate_now past)
    named_by None here past same = cc
    named_by (Some q) here past same =
        subst
        (λ z. Descends setting r (option_or (set_if f (is_some (accepted_over (transition_of q (call_of f))))) ((lineages steps).of_device d)) (estimate_now z))
        (some_is same) (received q here (accepted_over (transition_of q (call_of f))) refl)

    -- what it sends on
    sends_on : (q : Past) → past_in steps d ≡ Some q → (o : Option Edge) → accepted_over (transition_of q (call_of f)) ≡ o → (m : Message)
        → effect_of q (call_of f) ≡ Send m → (g : Flight) → (g.message ≡ m) × (g.sent_at ≡ r)
        → Carries setting r
        (option_map (λ (x : Descent). x.from)
        (if nat_eq d d then option_or (set_if f (accepts steps d f c)) ((lineages steps).of_device d) else (lineages steps).of_device d)) g
    sends_on q here None over m same g carries =
        let quiet : effect_of q (call_of f) ≡ Quiet =
        ap (λ t. effect_of_latest (after q (call_of f)) (record { call = call_of f; transition = t }))
        (receipt_or_rests q f.link f.message c over) in
        let no : Quiet ≡ Send m = sym quiet ∙ same in
        cc
    sends_on q here (Some edge) over m same g carries =
        sent_so setting r _ m (Came f r carries_so.lineage) lineage_is near g carries
      where
        accepted : accepts steps d f c ≡ true
        accepted = ap (λ p. map_or p false (λ x. is_some (accepted_over (transition_of x (call_of f))))) here ∙ ap is_some over

        lineage_is : option_map (λ (x : Descent). x.from)
            (if nat_eq d d then option_or (set_if f (accepts steps d f c)) ((lineages steps).of_device d) else (lineages steps).of_device d)
            ≡ Some (Came f r carries_so.lineage)
        lineage_is =
            ap (λ b. option_map (λ (x : Descent). x.from)
            (if b then option_or (set_if f (accepts steps d f c)) ((lineages steps).of_device d) else (lineages steps).of_device d)) (eq-eqb d d refl)
            ∙ ap (λ b. option_map (λ (x : Descent). x.from) (option_or (set_if f b) ((lineages steps).of_device d))) accepted
            ∙ ap (λ o. option_map (λ (x : Descent). x.from) (option_or (option_map (come_at r c f) o) ((lineages steps).of_device d))) carries_so.there

        estimate_is : estimate_now (after q (call_of f)) ≡ corrected (carried f.message) edge.bounds c
        estimate_is = ap (estimate_by f q) over

        message_is : relayed (after q (call_of f)) ≡ m
        message_is = relays (after q (call_of f)) (call_of f) (transition_of q (call_of f)) edge m over same

        near : is_honest_lineage setting (Came f r carries_so.lineage) ≡ true → distance m.clock r ≤ m.eps
        near honest =
            subst (λ (x : Message). distance x.clock r ≤ x.eps) message_is
            (subst (λ (x : Estimate). distance x.clock r ≤ x.base) (sym estimate_is) (came_near q here edge over honest))

  -- by the flight, if there is one
  abbrev act_for : Option Flight → Act
  act_for o = map_or o Passes (λ f. Calls d (call_of f))

  abbrev set_for : Option Flight → Option Descent
  set_for o = option_and_then (λ f. set_if f (accepts steps d f c)) o

  abbrev IsReceiver : Option Flight → Type 0
  IsReceiver o = map_or o false (λ f. not (same_number (Some d) f.receiver)) ≡ false

  receiving_devices : (o : Option Flight) → flight_numbered steps n ≡ o → IsReceiver o → (x : ℕ) (past : Past)
      → past_after (act_for o) x (past_in steps x) ≡ Some past
      → Descends setting r (if nat_eq d x then option_or (set_for o) ((lineages steps).of_device x) else (lineages steps).of_device x) (estimate_now past)
  receiving_devices None there right x past here =
      subst (λ o. Descends setting r o (estimate_now past)) (sym (unset (nat_eq d x) ((lineages steps).of_device x)))
      (still_descends setting (latest_reference (seen_of steps)) r ((lineages steps).of_device x) (estimate_now past) le (inv.device x past here))
  receiving_devices (Some f) there right x past here =
      after_naming setting steps inv r le d (option_map (λ q. after q (call_of f))) (set_if f (accepts steps d f c))
      (named_by f there (eqb-true d f.receiver (not-false (nat_eq d f.receiver) right)) (past_in steps d) refl) x past (nat_eq d x) refl here

  receiving_sends : (o : Option Flight) → flight_numbered steps n ≡ o → IsReceiver o → (g : Flight)
      → Among g (flights_of setting steps r (act_for o) (told_by steps (act_for o)))
      → Carries setting r
      (option_map (λ (x : Descent). x.from)
      (if nat_eq d d then option_or (set_for o) ((lineages steps).of_device d) else (lineages steps).of_device d)) g
  receiving_sends None there right g a = elim a [ ]
  receiving_sends (Some f) there right g a =
      by_call setting steps r d (call_of f) _ (past_in steps d)
      (λ q here. sends_on f there (eqb-true d f.receiver (not-false (nat_eq d f.receiver) right)) q here (accepted_over (transition_of q (call_of f))) refl)
      g a

-- Each kind of event

module _ (setting : Setting) (steps : List Step) (inv : AreTraced setting steps) where
  time : (e : Event) → Admits setting steps e → latest_reference (seen_of steps) ≤ reference_of e
  time e admits = admitted_time_goes_on setting steps e admits

  abbrev OwnNow : Event → Type 0
  OwnNow e = (d : ℕ) (past : Past) → past_in (next_step setting steps e ∷ steps) d ≡ Some past → OwnPast setting.net d past

  made : (making : Making) (clock eps c : ℕ) → first_estimate making ≡ record { clock = clock; base = eps; at = c } → (past : Past)
      → Some (new_past making) ≡ Some past → estimate_now past ≡ record { clock = clock; base = eps; at = c }
  made making clock eps c is past same = sym (ap estimate_now (some_is same)) ∙ is

  fixed : (clock eps c : ℕ) (p : Option Past) (past : Past) → option_map (λ q. after q (calls.Fix c clock eps)) p ≡ Some past
      → estimate_now past ≡ record { clock = clock; base = eps; at = c }
  fixed clock eps c None past same = cc
  fixed clock eps c (Some q) past same = sym (ap estimate_now (some_is same))

  ticking : (r d c : ℕ) → latest_reference (seen_of steps) ≤ r → (past : Past) → past_in steps d ≡ Some past → (m : Message)
      → effect_of past (calls.Tick c) ≡ Send m → (f : Flight) → (f.message ≡ m) × (f.sent_at ≡ r)
      → Carries setting r (lineage_sent (descent_after steps (lineages steps) (event.Tick r d c)) (event.Tick r d c)) f
  ticking r d c le past here m same f carries =
      let x = inv.device d past here in
      let sends = tick_sends past c (emits_at past c) (takes_over_at past c) (moves_at past c) m same in
      sent_so setting r _ m (held_to d (r, c) x.descent)
      (ap (option_map (held_to d (r, c))) (unset (nat_eq d d) ((lineages steps).of_device d) ∙ x.there))
      (λ honest.
      subst (λ t. distance t r ≤ m.eps) (sym sends.0)
      (subst (λ b. distance (report_at past c).clock r ≤ b) (sym sends.1)
      (held_near setting (latest_reference (seen_of steps)) ((lineages steps).of_device d) d past r c (inv.own d past here) x le honest)))
      f carries

  giving : (r d : ℕ) → latest_reference (seen_of steps) ≤ r → (o : Option Plan) → (s : Step) → s.seen.event ≡ event.Give r d
      → ((x : ℕ) (past : Past) → past_in (s ∷ steps) x ≡ Some past → OwnPast setting.net x past)
      → s.act ≡ map_or o Passes (λ plan. Calls d (calls.Give (duty_of setting.net plan (staged_epoch (seen_of steps)) d)))
      → s.sent ≡ flights_of setting steps (reference_of s.seen.event)
      (map_or o Passes (λ plan. Calls d (calls.Give (duty_of setting.net plan (staged_epoch (seen_of steps)) d))))
      (told_by steps (map_or o Passes (λ plan. Calls d (calls.Give (duty_of setting.net plan (staged_epoch (seen_of steps)) d)))))
      → AreTraced setting (s ∷ steps)
  giving r d le None s is own act sent =
      passing setting steps s inv (subst (λ e. latest_reference (seen_of steps) ≤ reference_of e) (sym is) le) (λ x p. ap (λ a. past_after a x p) act)
      (ap (descent_set steps (lineages steps)) is) sent
  giving r d le (Some plan) s is own act sent =
      quiet_call setting steps s inv (subst (λ e. latest_reference (seen_of steps) ≤ reference_of e) (sym is) le) own
      (ap (descent_set steps (lineages steps)) is) d (calls.Give (duty_of setting.net plan (staged_epoch (seen_of steps)) d)) (λ past. refl) (λ past. refl)
      act sent

  event_step : (e : Event) → Admits setting steps e → OwnNow e → AreTraced setting (next_step setting steps e ∷ steps)
  event_step (event.Start r d c clock eps) admits own =
      let le = time (event.Start r d c clock eps) admits in
      let making = calls.Started (duty_of setting.net (in_force setting (seen_of steps)) (epoch_in_force (seen_of steps)) d) c clock eps in
      traced_on setting steps (next_step setting steps (event.Start r d c clock eps)) inv le own
      (λ x past here.
      after_naming setting steps inv r le d (λ p. Some (new_past making)) (Some (set_at r c clock eps))
      (λ p same. set_near setting r c clock eps ((lineages steps).of_device d) (estimate_now p) (made making clock eps c refl p same)) x past (nat_eq d x) refl
      here)
      (λ f a. elim a [ ])
  event_step (event.Join r d c clock eps) admits own =
      let le = time (event.Join r d c clock eps) admits in
      let making = calls.Joined (rates_of setting.net d) c clock eps in
      traced_on setting steps (next_step setting steps (event.Join r d c clock eps)) inv le own
      (λ x past here.
      after_naming setting steps inv r le d (λ p. Some (new_past making)) (Some (set_at r c clock eps))
      (λ p same. set_near setting r c clock eps ((lineages steps).of_device d) (estimate_now p) (made making clock eps c refl p same)) x past (nat_eq d x) refl
      here)
      (λ f a. elim a [ ])
  event_step (event.Fix r d c clock eps) admits own =
      let le = time (event.Fix r d c clock eps) admits in
      traced_on setting steps (next_step setting steps (event.Fix r d c clock eps)) inv le own
      (λ x past here.
      after_naming setting steps inv r le d (option_map (λ q. after q (calls.Fix c clock eps))) (Some (set_at r c clock eps))
      (λ p same. set_near setting r c clock eps ((lineages steps).of_device d) (estimate_now p) (fixed clock eps c (past_in steps d) p same)) x past
      (nat_eq d x) refl here)
      (λ f a.
      by_call setting steps r d (calls.Fix c clock eps)
      (lineage_sent (descent_after steps (lineages steps) (event.Fix r d c clock eps)) (event.Fix r d c clock eps)) (past_in steps d)
      (λ past is m same g carries. cc) f a)
  event_step (event.Tick r d c) admits own =
      let le = time (event.Tick r d c) admits in
      traced_on setting steps (next_step setting steps (event.Tick r d c)) inv le own
      (λ x past here.
      after_naming setting steps inv r le d (option_map (λ q. after q (calls.Tick c))) None
      (λ p same.
      called_keeps setting (latest_reference (seen_of steps)) r ((lineages steps).of_device d) (calls.Tick c) (λ q. refl) le (past_in steps d) (inv.device d)
      p same)
      x past (nat_eq d x) refl here)
      (λ f a.
      by_call setting steps r d (calls.Tick c)
      (lineage_sent (descent_after steps (lineages steps) (event.Tick r d c)) (event.Tick r d c)) (past_in steps d) (ticking r d c le) f a)
  event_step (event.Recv r d c n) admits own =
      let le = time (event.Recv r d c n) admits in
      let right = (clear setting steps (event.Recv r d c n) admits).right_device in
      traced_on setting steps (next_step setting steps (event.Recv r d c n)) inv le own
      (receiving_devices setting steps inv r d c n le (flight_numbered steps n) refl right)
      (receiving_sends setting steps inv r d c n le (flight_numbered steps n) refl right)
  event_step (event.Give r d) admits own =
      giving r d (time (event.Give r d) admits) (staged setting (seen_of steps)) (next_step setting steps (event.Give r d)) refl own refl refl
  event_step (event.Commit r d c) admits own =
      quiet_call setting steps (next_step setting steps (event.Commit r d c)) inv (time (event.Commit r d c) admits) own refl d (calls.Commit c)
      (λ past. refl) (λ past. commits_quietly past c) refl refl
  event_step (event.Seal r d) admits own =
      quiet_call setting steps (next_step setting steps (event.Seal r d)) inv (time (event.Seal r d) admits) own refl d calls.Seal (λ past. refl)
      (λ past. refl) refl refl
  event_step (event.Lose r n) admits own =
      passing setting steps (next_step setting steps (event.Lose r n)) inv (time (event.Lose r n) admits) (λ x p. refl) refl refl
  event_step (event.FailDevice r d) admits own =
      passing setting steps (next_step setting steps (event.FailDevice r d)) inv (time (event.FailDevice r d) admits) (λ x p. refl) refl refl
  event_step (event.FailLink r l) admits own =
      passing setting steps (next_step setting steps (event.FailLink r l)) inv (time (event.FailLink r l) admits) (λ x p. refl) refl refl
  event_step (event.Ask r d c) admits own =
      passing setting steps (next_step setting steps (event.Ask r d c)) inv (time (event.Ask r d c) admits) (λ x p. refl) refl refl
  event_step (event.Stage r) admits own =
      passing setting steps (next_step setting steps (event.Stage r)) inv (time (event.Stage r) admits) (λ x p. refl) refl refl
  event_step (event.MendDevice r d) admits own =
      passing setting steps (next_step setting steps (event.MendDevice r d)) inv (time (event.MendDevice r d) admits) (λ x p. refl) refl refl
  event_step (event.MendLink r l) admits own =
      passing setting steps (next_step setting steps (event.MendLink r l)) inv (time (event.MendLink r l) admits) (λ x p. refl) refl refl
  event_step (event.End r) admits own =
      passing setting steps (next_step setting steps (event.End r)) inv (time (event.End r) admits) (λ x p. refl) refl refl

-- every history is traced
pub traced : (setting : Setting) (history : List Event) → IsAdmitted setting history → AreTraced setting (chronicle setting history)
traced setting [] is = record { own = λ d past same. cc; device = λ d past same. cc; flight = λ n f same. cc }
traced setting (e ∷ earlier) is =
    event_step setting (chronicle setting earlier) (traced setting earlier is.0) e is.1 (own_pasts setting (e ∷ earlier))
