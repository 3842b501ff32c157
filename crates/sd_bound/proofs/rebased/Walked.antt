-- What any member holds of the plan in force: at most what a root sends, and the halves of a walk on which devices may be while the domain fails. A round is
-- of the root, or of the backup root once that has taken over.
use Rattle.std.specs.Prelude.{◌≡◌, ℕ, ◌+◌, ◌-◌, ◌<◌, ◌≤◌, Bool, true, false, ◌&&◌, ◌||◌, not, List, [], ◌∷◌, length, nat_le, Option, Some, None, option_map, refl, ◌⊎◌, if◌then◌else◌}
use Rattle.std.specs.List.{list_all}
use Rattle.std.proofs.Common.{arith, ap, sym, ◌∙◌, subst, inl, inr, le_antisymm}
use Rattle.std.proofs.lemmas.Bool.{and_parts, and_from, or_from, not-true, not_from_false, eqb-true, eq-eqb, cases_lt, true_from_ne_false}
use Rattle.sd_num.specs.Lists.{map_or, same_number}
use Rattle.sd_plan.specs.topo.Network.{Network, rates_of, bounds_of}
use Rattle.sd_plan.specs.domain.Domains.{holds}
use Rattle.sd_plan.specs.declared.domain.DomainId.{DomainId}
use Rattle.sd_plan.specs.declared.Hop as declared
use Rattle.sd_plan.specs.declared.Plan.{Plan}
use Rattle.sd_plan.specs.declared.Duty.{Duty}
use Rattle.sd_plan.specs.declared.Edge.{Edge}
use Rattle.sd_plan.specs.Duties.{edge_of}
use Rattle.sd_plan.specs.Plans.{is_member, is_root, is_backup_root, primary_of, backup_of}
use Rattle.sd_plan.specs.Walks.{epath, is_hit}
use Rattle.sd_drill.specs.ages.Ages.{ageing}
use Rattle.sd_drill.specs.declared.Budget.{Budget}
use Rattle.sd_drill.specs.Drill.{root_halves, source}
use Rattle.sd_device.specs.declared.msg.Stamp.{Stamp}
use Rattle.sd_device.specs.declared.msg.Message.{Message}
use Rattle.sd_device.specs.declared.msg.Flight.{Flight}
use Rattle.sd_device.specs.declared.Effect.TheVariants.{Send}
use Rattle.sd_device.specs.Calls as calls
use Rattle.sd_device.specs.Calls.{Call, Past}
use Rattle.sd_device.specs.Words.{transition_of, after, effect_of_latest, duty_now, epoch_now, has_moved, is_acting, primary_now, backup_now, estimate_now, report_at}
use Rattle.sd_sched.specs.declared.Event.{Event}
use Rattle.sd_sched.specs.declared.Event.TheVariants as event
use Rattle.sd_sched.specs.Events.{reference_of}
use Rattle.sd_sched.specs.Honesty.{clock_set}
use Rattle.sd_history.specs.World.{Setting, Seen, is_up, plan_numbered, staged}
use Rattle.sd_history.specs.Steps.{Calls, Passes, Step, seen_of, act_by, acts_in, flight_numbered}
use Rattle.sd_history.specs.Chronicle.{past_in, chronicle}
use Rattle.sd_history.proofs.Given.{some_is, HasDuties}
use Rattle.sd_history.proofs.Owned.{rates_are_own}
use Rattle.sd_history.proofs.Owning.{own_pasts}
use Rattle.sd_safety.specs.invariant.Eras.{era, plan_now, is_old, is_ordinary, is_among, touches, failed_now, hit, hit_otherwise, moved}
use Rattle.sd_safety.specs.invariant.Clauses.{backup_root_acts}
use Rattle.sd_safety.specs.invariant.Invariant.{Core, Invariant, AtEach}
use Rattle.sd_safety.specs.invariant.Guarded.{IsSteady}
use Rattle.sd_safety.specs.invariant.Coming.{IsNextEvent}
use Rattle.sd_safety.proofs.invariant.Domains.{touched_is_hit}
use Rattle.sd_safety.proofs.invariant.Facts.{IsSound, sound_now}
use Rattle.sd_safety.proofs.invariant.Parents.{IsPlanned, duties_planned}
use Rattle.sd_safety.proofs.invariant.Parts.{premises_of}
use Rattle.sd_safety.proofs.invariant.Prefix.{clean_before}
use Rattle.sd_safety.proofs.invariant.Sides.{implied, not_both}
use Rattle.sd_safety.proofs.invariant.Staying.{old_is_member}
use Rattle.sd_safety.specs.messages.Moments.{Tail, whole, behind, IsChronicle, Moment, upto, IsIn, Emits, Accepts, entering, following}
use Rattle.sd_safety.specs.messages.Traces.{Hop, Trace, begins, goes_on}
use Rattle.sd_safety.proofs.messages.Tails.{tail_trans, rest_of, tail_all, tail_chronicle, history_chronicle}
use Rattle.sd_safety.proofs.messages.Consecutive.{past_after_call}
use Rattle.sd_safety.proofs.messages.Receipts.{device_is, call_is}
use Rattle.sd_safety.proofs.messages.Sending.{passes_on, sends_own}
use Rattle.sd_safety.proofs.messages.Parents.{hop_parent}
use Rattle.sd_safety.proofs.silences.FirstEra.{emitter_up}
use Rattle.sd_safety.proofs.silences.Phases.{era_grows, fewer, touched_less}
use Rattle.sd_safety.proofs.silences.RootIsSource.{emission_keeps}
use Rattle.sd_safety.proofs.timers.Emissions.{timed_tail}
use Rattle.sd_safety.proofs.waits.Standing.{steps_timed}
use Rattle.sd_safety.proofs.frame.Telling.{links_tell}
use Rattle.sd_safety.proofs.windows.Senders.{called_is_up}
use Rattle.sd_safety.proofs.receipts.Stood.{core_of, clean_of, each_of, next_stood, moved_is, acts_is, epoch_is}
use Rattle.sd_safety.proofs.receipts.Alive.{IsOf, events_of_tail}
use Rattle.sd_safety.proofs.entering.Stages.{Stage, stage}
use Rattle.sd_safety.proofs.traced.Roots.{root_takes_none}
use Rattle.sd_bound.specs.Bound.{held_briefly}
use Rattle.sd_bound.specs.RenewedBases.{IsBudgeted, commits_so, commits_within}
use Rattle.sd_bound.proofs.Composing.{tail_steps, held_at, held_when, aged}
use Rattle.sd_bound.proofs.bases.Planned.{LeadsRight, well_planned}
use Rattle.sd_bound.proofs.bases.Sums.{sent_by_root, IsWalked, backup_walked, hop_walked}
use Rattle.sd_bound.proofs.bases.Holding.{IsBegun, begun, emitted_eps}
use Rattle.sd_bound.proofs.rebased.Sets.{ByMessage, SetBy, set_by, heard_base}
use Rattle.sd_bound.proofs.rebased.Carried.{carried_by, next_carries, LastHop, last_hop, brings_heard}
use Rattle.sd_bound.proofs.rebased.BackupRoot.{edge_on, backup_root_based}

-- Tails

commits_tail : (budget : Budget) (older steps : List Step) → Tail older steps → commits_within budget steps ≡ true → commits_within budget older ≡ true
commits_tail budget older _ whole all = all
commits_tail budget older _ (behind {x = s} {xs = steps} t) all =
    commits_tail budget older steps t (and_parts (commits_within budget steps) (commits_so budget steps s.seen.event) all).0

-- who begins a round does so at a tick
ticked_flight : (m c d k : ℕ) (o : Option Flight) → map_or o Passes (λ f. Calls m (calls.Receive f.link f.message c)) ≡ Calls d (calls.Tick k) → ⊥
ticked_flight m c d k None same = cc
ticked_flight m c d k (Some f) same = let is : calls.Receive f.link f.message c ≡ calls.Tick k = call_is same in cc

ticked_plan : (m d k : ℕ) (duty : Plan → Duty) (o : Option Plan) → map_or o Passes (λ plan. Calls m (calls.Give (duty plan))) ≡ Calls d (calls.Tick k) → ⊥
ticked_plan m d k duty None same = cc
ticked_plan m d k duty (Some plan) same = let is : calls.Give (duty plan) ≡ calls.Tick k = call_is same in cc

counter_is : {a b : ℕ} → calls.Tick a ≡ calls.Tick b → a ≡ b
counter_is {a = a} same = ap (λ (x : Call). elim x [ calls.Tick c ↦ c | _ ↦ a ]) same

tick_event : (setting : Setting) (steps : List Step) (e : Event) (d k : ℕ) → act_by setting steps e ≡ Calls d (calls.Tick k)
    → e ≡ event.Tick (reference_of e) d k
tick_event setting steps (event.Tick r m c) d k same = ap (λ x. event.Tick r x c) (device_is same) ∙ ap (event.Tick r d) (counter_is (call_is same))
tick_event setting steps (event.Recv r m c n) d k same = absurd (ticked_flight m c d k (flight_numbered steps n) same)
tick_event setting steps (event.Give r m) d k same = absurd (ticked_plan m d k _ (staged setting (seen_of steps)) same)
tick_event setting steps (event.Fix r m c clock eps) d k same = let is : calls.Fix c clock eps ≡ calls.Tick k = call_is same in cc
tick_event setting steps (event.Commit r m c) d k same = let is : calls.Commit c ≡ calls.Tick k = call_is same in cc
tick_event setting steps (event.Seal r m) d k same = let is : calls.Seal ≡ calls.Tick k = call_is same in cc
tick_event setting steps _ d k same = cc

-- Sums

aged_root : (x base a most : ℕ) → x ≤ base + a → base ≤ most → x ≤ most + a
aged_root x base a most one two = omega (arith, one, two)

in_source : (x base a rh b : ℕ) → x ≤ base + a + rh + b → x ≤ base + rh + a + b
in_source x base a rh b le = omega (arith, le)

root_in_source : (x base a rh b : ℕ) → x ≤ base + a → x ≤ base + rh + a + b
root_in_source x base a rh b le = omega (arith, le)

base_in_source : (x base a rh b : ℕ) → x ≤ base → x ≤ base + rh + a + b
base_in_source x base a rh b le = omega (arith, le)

none_more : (x n : ℕ) → x ≤ n → x ≤ n + 0
none_more x n le = omega (arith, le)

-- the hop of a plan over which a message came from z to d, and why d was on it
record IsOn (net : Network) (plan : Plan) (f : DomainId) (z d : ℕ) (edge : Edge) : Type 0 where
  hop : declared.Hop
  moved_ : Bool
  on : (if moved_ then backup_of plan d else primary_of plan d) ≡ Some hop
  caused : moved_ ≡ true → is_hit net plan f d ≡ true
  parent : hop.parent ≡ z
  half : edge.bounds.half ≡ (bounds_of net hop.link d).half
  leads : LeadsRight net plan d hop

module _ (setting : Setting) (x : Event) (h : List Event) (e : Event) (next : IsNextEvent setting (x ∷ h) e) (budget : Budget) (f : DomainId)
    (budgeted : IsBudgeted budget (chronicle setting (x ∷ h)))
    (inside : list_all (holds setting.net f) (failed_now (chronicle setting (x ∷ h))) ≡ true) where
  abbrev steps : List Step
  steps = chronicle setting (x ∷ h)

  abbrev plan : Plan
  plan = plan_now setting (chronicle setting (x ∷ h))

  abbrev n : ℕ
  n = era (chronicle setting (x ∷ h))

  clean : IsSteady setting (x ∷ h)
  clean = clean_before setting e (x ∷ h) next.clean

  each : AtEach (Invariant setting) (chronicle setting (x ∷ h))
  each = next.before

  fine : IsSound setting.net (plan_now setting (chronicle setting (x ∷ h)))
  fine = sound_now setting (x ∷ h) next.fair clean.is

  chronicle_ : IsChronicle setting (chronicle setting (x ∷ h))
  chronicle_ = history_chronicle setting (x ∷ h) clean.is

  -- how a device of a part of the history set its estimate
  set_then : (part : List Event) → Tail part (x ∷ h) → (d : ℕ) (past : Past) → past_in (chronicle setting part) d ≡ Some past
      → SetBy budget (chronicle setting (x ∷ h)) d past
  set_then part t d past there =
      by (set_by setting budget part
      (tail_all (λ (s : Seen). map_or (clock_set s.event) true (λ set. nat_le set.1 budget.base)) steps_tail budgeted.based)
      (commits_tail budget (chronicle setting part) steps steps_tail budgeted.commits) d past there)
    where
      steps_tail : Tail (chronicle setting part) (chronicle setting (x ∷ h))
      steps_tail = tail_steps setting t

      by : SetBy budget (chronicle setting part) d past → SetBy budget (chronicle setting (x ∷ h)) d past
      by (inl le) = inl le
      by (inr b) =
          inr (record {
            moment = b.moment;
            inside = tail_trans b.inside steps_tail;
            link = b.link;
            message = b.message;
            counter = b.counter;
            was = b.was;
            edge = b.edge;
            there = b.there;
            act = b.act;
            over = b.over;
            epoch = b.epoch;
            base = b.base;
          })

  -- the root of the plan hears nothing of it
  root_based : (past : Past) → epoch_now past ≡ era (chronicle setting (x ∷ h)) → SetBy budget (chronicle setting (x ∷ h)) plan.root past
      → (estimate_now past).base ≤ budget.base
  root_based past own (inl le) = le
  root_based past own (inr b) =
      let came : LastHop setting b.message.stamp b.message.epoch b.moment plan.root =
      last_hop setting steps chronicle_ (premises_of setting (seen_of steps) clean.premises).delay plan.root past b in
      absurd (root_takes_none setting (x ∷ h) next.fair clean each b.moment b.inside b.message.stamp came.from came.through
      (subst (λ k. Hop setting b.message.stamp k came.from came.through b.moment plan.root) (b.epoch ∙ own) came.last))

  -- A round of the plan

  module _ (q : Moment) (here : IsIn q (chronicle setting (x ∷ h))) (y : ℕ) (m : Message) (emits : Emits q y m)
      (number : m.epoch ≡ era (chronicle setting (x ∷ h))) where
    -- the history up to it, and after it
    at : IsOf setting (x ∷ h) (upto q)
    at = events_of_tail setting (x ∷ h) (upto q) here

    st : Stage setting q
    st = stage setting next.fair q h x clean each.0 here

    own_before : epoch_now emits.sends.past ≡ era (chronicle setting (x ∷ h))
    own_before =
        let s = emits.sends in
        sym ((sends_own s.past s.call m s.effect).1 ∙ emission_keeps s.past s.call emits.emission) ∙ number

    begins_ : IsBegun emits.sends.past emits.sends.call (transition_of emits.sends.past emits.sends.call)
    begins_ = begun emits.sends.past emits.sends.call emits.emission

    abbrev later : Past
    later = after emits.sends.past emits.sends.call

    there_now : past_in (upto q) y ≡ Some later
    there_now = let s = emits.sends in past_after_call q y s.call s.past s.act s.there

    up_now : is_up (seen_of (upto q)) y ≡ true
    up_now =
        emitter_up setting q y m (tail_chronicle setting here chronicle_)
        (timed_tail setting (upto q) steps here (steps_timed setting x h e next)) emits

    there_at : past_in (chronicle setting at.events) y ≡ Some later
    there_at = subst (λ l. past_in l y ≡ Some later) at.is there_now

    up_at : is_up (seen_of (chronicle setting at.events)) y ≡ true
    up_at = subst (λ l. is_up (seen_of l) y ≡ true) at.is up_now

    acts_now : acts_in (upto q) y ≡ true
    acts_now = subst (λ l. acts_in l y ≡ true) (sym at.is) (acts_is setting at.events y later up_at there_at ∙ begins_.acts)

    own_now : epoch_now later ≡ era (chronicle setting (x ∷ h))
    own_now = let s = emits.sends in sym (sends_own s.past s.call m s.effect).1 ∙ number

    -- it held its estimate no longer than the budget says
    aged_so : m.eps ≤ (estimate_now emits.sends.past).base + ageing (rates_of setting.net y) budget.hold
    aged_so =
        let s = emits.sends in
        let c : ℕ = begins_.counter in
        let same : after s.past (calls.Tick c) ≡ later = ap (after s.past) (sym begins_.call_is) in
        let report : (report_at later c).eps ≡ m.eps =
        emitted_eps later c (transition_of s.past s.call) m emits.emission
        (subst (λ k. effect_of_latest later (record { call = k; transition = transition_of s.past s.call }) ≡ Send m) begins_.call_is s.effect) in
        let act : act_by setting (chronicle setting st.h) st.e ≡ Calls y (calls.Tick c) =
        sym (ap (λ (p : Moment). p.step.act) st.is) ∙ s.act ∙ ap (Calls y) begins_.call_is in
        let is : st.e ≡ event.Tick (reference_of st.e) y c = tick_event setting (chronicle setting st.h) st.e y c act in
        let held : held_briefly budget (upto q) (event.Tick (reference_of st.e) y c) ≡ true =
        subst (λ g. held_briefly budget (upto q) g ≡ true) (ap (λ (p : Moment). p.step.seen.event) st.is ∙ is)
        (held_at budget q.earlier steps q.step here budgeted.held) in
        let age : c - (estimate_now later).at ≤ budget.hold =
        held_when (acts_in (upto q) y) (past_in (upto q) y) later c budget.hold there_now acts_now held in
        let grown = aged later (rates_of setting.net y) c budget.hold (rates_are_own setting.net y later (own_pasts setting at.events y later there_at)) age in
        subst (λ k. k ≤ (estimate_now s.past).base + ageing (rates_of setting.net y) budget.hold) report
        (subst (λ k. (report_at later c).eps ≤ k + ageing (rates_of setting.net y) budget.hold)
        (sym (ap (λ (p : Past). (estimate_now p).base) same)) grown)

    set_before : SetBy budget (chronicle setting (x ∷ h)) y emits.sends.past
    set_before =
        let before : IsOf setting (x ∷ h) q.earlier = events_of_tail setting (x ∷ h) q.earlier (rest_of here) in
        set_then before.events before.tail y emits.sends.past (subst (λ l. past_in l y ≡ Some emits.sends.past) before.is emits.sends.there)

    pub sent_of_root : is_root (plan_now setting (chronicle setting (x ∷ h))) y ≡ true → m.eps ≤ sent_by_root setting.net plan budget
    sent_of_root root =
        let same : plan.root ≡ y = eqb-true plan.root y root in
        subst (λ z. m.eps ≤ budget.base + ageing (rates_of setting.net z) budget.hold) (sym same)
        (aged_root m.eps (estimate_now emits.sends.past).base (ageing (rates_of setting.net y) budget.hold) budget.base aged_so
        (root_based emits.sends.past own_before (subst (λ z. SetBy budget steps z emits.sends.past) (sym same) set_before)))

    -- who is not the root is the backup root
    is_backup : is_root (plan_now setting (chronicle setting (x ∷ h))) y ≡ false → is_backup_root (plan_now setting (chronicle setting (x ∷ h))) y ≡ true
    is_backup low = by (cases_lt (era (chronicle setting at.events)) n)
      where
        core_at : Core setting (chronicle setting at.events)
        core_at = core_of setting at.events (each_of setting at.events (x ∷ h) at.tail each)

        grows : era (chronicle setting at.events) ≤ n
        grows = era_grows (chronicle setting at.events) steps (tail_steps setting at.tail)

        by : (era (chronicle setting at.events) < n) ⊎ (n ≤ era (chronicle setting at.events)) → is_backup_root plan y ≡ true
        by (inl less) =
            absurd (not_both (is_acting later) begins_.acts
            (next_stood setting at.events next.fair (clean_of setting at.events (x ∷ h) at.tail clean) core_at y later up_at there_at n own_now less low).1)
        by (inr more) =
            let same : era (chronicle setting at.events) ≡ n = le_antisymm grows more in
            let plans : plan_now setting (chronicle setting at.events) ≡ plan = ap (plan_numbered setting) same in
            let old : is_old (chronicle setting at.events) y ≡ true =
            ap (λ o. same_number o (era (chronicle setting at.events))) (epoch_is setting at.events y later up_at there_at)
            ∙ eq-eqb (epoch_now later) (era (chronicle setting at.events)) (own_now ∙ sym same) in
            let member : is_member (plan_now setting (chronicle setting at.events)) y ≡ true =
            old_is_member setting (chronicle setting at.events) y (core_at.census.outsiders y) old in
            true_from_ne_false (is_backup_root plan y)
            (λ none.
            let ordinary : is_ordinary (plan_now setting (chronicle setting at.events)) y ≡ true =
            subst (λ p. is_ordinary p y ≡ true) (sym plans)
            (and_from (is_member plan y && not (is_root plan y)) (not (is_backup_root plan y))
            (and_from (is_member plan y) (not (is_root plan y)) (subst (λ p. is_member p y ≡ true) plans member) (not_from_false (is_root plan y) low))
            (not_from_false (is_backup_root plan y) none)) in
            not_both (acts_in (chronicle setting at.events) y) (acts_is setting at.events y later up_at there_at ∙ begins_.acts)
            (not-true (acts_in (chronicle setting at.events) y)
            (implied (is_old (chronicle setting at.events) y && is_ordinary (plan_now setting (chronicle setting at.events)) y)
            (not (acts_in (chronicle setting at.events) y)) (core_at.roles.ordinary y)
            (and_from (is_old (chronicle setting at.events) y) (is_ordinary (plan_now setting (chronicle setting at.events)) y) old ordinary))))

  -- what the root sends
  root_sends : (q : Moment) → IsIn q (chronicle setting (x ∷ h)) → (m : Message) → Emits q (plan_now setting (chronicle setting (x ∷ h))).root m
      → m.epoch ≡ era (chronicle setting (x ∷ h)) → m.eps ≤ sent_by_root setting.net (plan_now setting (chronicle setting (x ∷ h))) budget
  root_sends q here m emits number = sent_of_root q here plan.root m emits number (eq-eqb plan.root plan.root refl)

  -- what the backup root holds
  pub backup_based : (past : Past) → epoch_now past ≡ era (chronicle setting (x ∷ h))
      → SetBy budget (chronicle setting (x ∷ h)) (plan_now setting (chronicle setting (x ∷ h))).backup_root past
      → (estimate_now past).base ≤ sent_by_root setting.net plan budget + root_halves setting.net plan
  backup_based past own (inl le) = by (estimate_now past).base budget.base (ageing (rates_of setting.net plan.root) budget.hold) (root_halves setting.net plan) le
    where
      by : (a b c d : ℕ) → a ≤ b → a ≤ b + c + d
      by a b c d le' = omega (arith, le')
  backup_based past own (inr b) = backup_root_based setting x h next.fair clean each budget f root_sends past b own

  -- so what any root sends is within the source
  pub emitted_within : (q : Moment) → IsIn q (chronicle setting (x ∷ h)) → (y : ℕ) (m : Message) → Emits q y m → m.epoch ≡ era (chronicle setting (x ∷ h))
      → m.eps ≤ source setting.net plan budget
  emitted_within q here y m emits number = by (is_root plan y) refl
    where
      by : (r : Bool) → is_root plan y ≡ r → m.eps ≤ source setting.net plan budget
      by true root =
          root_in_source m.eps budget.base (ageing (rates_of setting.net plan.root) budget.hold) (root_halves setting.net plan)
          (ageing (rates_of setting.net plan.backup_root) budget.hold) (sent_of_root q here y m emits number root)
      by false low =
          let same : plan.backup_root ≡ y = eqb-true plan.backup_root y (is_backup q here y m emits number low) in
          in_source m.eps budget.base (ageing (rates_of setting.net plan.root) budget.hold) (root_halves setting.net plan)
          (ageing (rates_of setting.net plan.backup_root) budget.hold)
          (subst (λ z. m.eps ≤ sent_by_root setting.net plan budget + root_halves setting.net plan + ageing (rates_of setting.net z) budget.hold) (sym same)
          (aged_root m.eps (estimate_now emits.sends.past).base (ageing (rates_of setting.net y) budget.hold)
          (sent_by_root setting.net plan budget + root_halves setting.net plan) (aged_so q here y m emits number)
          (backup_based emits.sends.past (own_before q here y m emits number)
          (subst (λ z. SetBy budget steps z emits.sends.past) (sym same) (set_before q here y m emits number)))))

  -- Over a trace

  heard_at_hop : (stamp : Stamp) (q : Moment) (here : IsIn q (chronicle setting (x ∷ h))) (from : Moment) (z d : ℕ)
      → (hop : Hop setting stamp (era (chronicle setting (x ∷ h))) from z q d)
      → ByMessage (chronicle setting (x ∷ h)) d (after hop.receipt.past (calls.Receive hop.flight.link hop.flight.message hop.receipt.counter))
  heard_at_hop stamp q here from z d hop =
      let r = hop.receipt in
      record {
        moment = q;
        inside = here;
        link = hop.flight.link;
        message = hop.flight.message;
        counter = r.counter;
        was = r.past;
        edge = r.edge;
        there = r.there;
        act = r.act;
        over = r.over;
        epoch = sym (passes_on r.past hop.flight.link hop.flight.message r.counter r.edge r.over).1;
        base = heard_base r.past hop.flight.link hop.flight.message r.counter r.edge r.over;
      }

  module _ (stamp : Stamp) (q : Moment) (here : IsIn q (chronicle setting (x ∷ h))) (from : Moment) (z d : ℕ)
      (last : Hop setting stamp (era (chronicle setting (x ∷ h))) from z q d) (known : d < length setting.net.devices)
      (member : is_member (plan_now setting (chronicle setting (x ∷ h))) d ≡ true)
      (low : is_root (plan_now setting (chronicle setting (x ∷ h))) d ≡ false)
      (apart : is_backup_root (plan_now setting (chronicle setting (x ∷ h))) d ≡ false) where
    stage_at : Stage setting q
    stage_at = stage setting next.fair q h x clean each.0 here

    abbrev older : List Step
    older = chronicle setting stage_at.h

    there_then : past_in (chronicle setting stage_at.h) d ≡ Some last.receipt.past
    there_then = subst (λ l. past_in l d ≡ Some last.receipt.past) (ap (λ (p : Moment). p.earlier) stage_at.is) last.receipt.there

    up_then : is_up (seen_of (chronicle setting stage_at.h)) d ≡ true
    up_then = (called_is_up setting (chronicle setting stage_at.h) d (calls.Receive last.flight.link last.flight.message last.receipt.counter) stage_at.e
        stage_at.comes.clean.is.1 (sym (ap (λ (p : Moment). p.step.act) stage_at.is) ∙ last.receipt.act)).up

    inside_then : Tail (chronicle setting stage_at.h) (chronicle setting (x ∷ h))
    inside_then = subst (λ (l : List Step). Tail l steps) (ap (λ (p : Moment). p.earlier) stage_at.is) (rest_of here)

    core_then : Core setting (chronicle setting stage_at.h)
    core_then = core_of setting stage_at.h stage_at.comes.before

    least : era (chronicle setting stage_at.h) ≤ era (chronicle setting (x ∷ h))
    least = era_grows (chronicle setting stage_at.h) steps inside_then

    -- who had moved in the plan was hit then, and so is now
    hit_then : epoch_now last.receipt.past ≡ era (chronicle setting (x ∷ h)) → has_moved last.receipt.past ≡ true
        → is_hit setting.net (plan_now setting (chronicle setting (x ∷ h))) f d ≡ true
    hit_then own put = by (cases_lt (era (chronicle setting stage_at.h)) n)
      where
        by : (era (chronicle setting stage_at.h) < era (chronicle setting (x ∷ h))) ⊎ (era (chronicle setting (x ∷ h)) ≤ era (chronicle setting stage_at.h))
            → is_hit setting.net (plan_now setting (chronicle setting (x ∷ h))) f d ≡ true
        by (inl less) =
            absurd (not_both (has_moved last.receipt.past) put
            (next_stood setting stage_at.h next.fair (clean_before setting stage_at.e stage_at.h stage_at.comes.clean) core_then d last.receipt.past up_then
            there_then n own less low).0)
        by (inr more) =
            let same : era (chronicle setting stage_at.h) ≡ n = le_antisymm least more in
            let plans : plan_now setting (chronicle setting stage_at.h) ≡ plan = ap (plan_numbered setting) same in
            let old : is_old older d ≡ true = ap (λ o. same_number o (era older)) (epoch_is setting stage_at.h d last.receipt.past up_then there_then)
            ∙ eq-eqb (epoch_now last.receipt.past) (era older) (own ∙ sym same) in
            let ordinary : is_ordinary (plan_now setting (chronicle setting stage_at.h)) d ≡ true =
            subst (λ p. is_ordinary p d ≡ true) (sym plans)
            (and_from (is_member plan d && not (is_root plan d)) (not (is_backup_root plan d))
            (and_from (is_member plan d) (not (is_root plan d)) member (not_from_false (is_root plan d) low)) (not_from_false (is_backup_root plan d) apart)) in
            let moved_then : moved older d ≡ true = moved_is setting stage_at.h d last.receipt.past up_then there_then ∙ put in
            let hit_older : hit setting older d ≡ true =
            (and_parts (hit setting older d) (hit_otherwise setting older d || backup_root_acts setting older)
            (implied (is_old older d && is_ordinary (plan_now setting older) d && moved older d)
            (hit setting older d && (hit_otherwise setting older d || backup_root_acts setting older)) (core_then.causes.backups d)
            (and_from (is_old older d && is_ordinary (plan_now setting older) d) (moved older d)
            (and_from (is_old older d) (is_ordinary (plan_now setting older) d) old ordinary) moved_then))).0 in
            let touched : touches (failed_now older) (epath setting.net plan d) ≡ true =
            subst (λ p. touches (failed_now older) (epath setting.net p d) ≡ true) plans hit_older in
            touched_is_hit setting.net f (failed_now steps) (epath setting.net plan d) inside
            (true_from_ne_false (touches (failed_now steps) (epath setting.net plan d))
            (λ none. not_both (touches (failed_now older) (epath setting.net plan d)) touched
            (touched_less (is_among (failed_now older)) (is_among (failed_now steps)) (epath setting.net plan d)
            (λ y clear. fewer y older steps inside_then more clear) none)))

    on_hop : (moved_ : Bool) (o : Option declared.Hop) → (if moved_ then backup_of plan d else primary_of plan d) ≡ o
        → option_map (edge_of setting.net d) o ≡ Some last.receipt.edge
        → (moved_ ≡ true → is_hit setting.net (plan_now setting (chronicle setting (x ∷ h))) f d ≡ true)
        → ((hop : declared.Hop) → (if moved_ then backup_of plan d else primary_of plan d) ≡ Some hop → LeadsRight setting.net plan d hop)
        → IsOn setting.net (plan_now setting (chronicle setting (x ∷ h))) f z d last.receipt.edge
    on_hop moved_ None none edge caused leads = cc
    on_hop moved_ (Some hop) some edge caused leads =
        let same : edge_of setting.net d hop ≡ last.receipt.edge = some_is edge in
        record {
          hop = hop;
          moved_ = moved_;
          on = some;
          caused = caused;
          parent =
              ap (λ (k : Edge). k.parent) same
              ∙ hop_parent setting stamp n from q z d (tail_chronicle setting here chronicle_) (links_tell next.fair n) last;
          half = ap (λ (k : Edge). k.bounds.half) (sym same);
          leads = leads hop some;
        }

    leads_by : (moved_ : Bool) (hop : declared.Hop) → (if moved_ then backup_of plan d else primary_of plan d) ≡ Some hop → LeadsRight setting.net plan d hop
    leads_by false hop is = (well_planned setting.net plan fine).leads d hop known (inl is)
    leads_by true hop is = (well_planned setting.net plan fine).leads d hop known (inr is)

    -- a duty with the number of the plan is of the plan
    told_primary : (u : Duty) → IsPlanned setting d u → u.epoch ≡ era (chronicle setting (x ∷ h))
        → u.primary ≡ option_map (edge_of setting.net d) (primary_of plan d)
    told_primary u told number =
        ap (λ (v : Duty). v.primary) told.is ∙ ap (λ k. option_map (edge_of setting.net d) (primary_of (plan_numbered setting k) d)) number

    told_backup : (u : Duty) → IsPlanned setting d u → u.epoch ≡ era (chronicle setting (x ∷ h))
        → u.backup ≡ option_map (edge_of setting.net d) (backup_of plan d)
    told_backup u told number =
        ap (λ (v : Duty). v.backup) told.is ∙ ap (λ k. option_map (edge_of setting.net d) (backup_of (plan_numbered setting k) d)) number

    duties : HasDuties (IsPlanned setting d) last.receipt.past
    duties = duties_planned setting stage_at.h d last.receipt.past there_then

    by_edge : (m : Bool) → has_moved last.receipt.past ≡ m → (o : Option Duty) → duty_now last.receipt.past ≡ o
        → epoch_now last.receipt.past ≡ era (chronicle setting (x ∷ h))
        → (if m then backup_now last.receipt.past else primary_now last.receipt.past) ≡ Some last.receipt.edge → IsOn setting.net (plan_now setting (chronicle setting (x ∷ h))) f z d last.receipt.edge
    by_edge false put None none own edge = absurd (never (sym (ap (λ (o : Option Duty). map_or o None (λ u. u.primary)) none) ∙ edge))
      where
        never : ◌≡◌ {A = Option Edge} None (Some last.receipt.edge) → ⊥
        never is = cc
    by_edge true put None none own edge = absurd (never (sym (ap (λ (o : Option Duty). map_or o None (λ u. u.backup)) none) ∙ edge))
      where
        never : ◌≡◌ {A = Option Edge} None (Some last.receipt.edge) → ⊥
        never is = cc
    by_edge false put (Some u) is own edge =
        let numbered : u.epoch ≡ n = sym (ap (λ (o : Option Duty). map_or o 0 (λ v. v.epoch)) is) ∙ own in
        on_hop false (primary_of plan d) refl
        (sym (told_primary u (duties.duty u is) numbered) ∙ sym (ap (λ (o : Option Duty). map_or o None (λ v. v.primary)) is) ∙ edge) (λ yes_. cc)
        (leads_by false)
    by_edge true put (Some u) is own edge =
        let numbered : u.epoch ≡ n = sym (ap (λ (o : Option Duty). map_or o 0 (λ v. v.epoch)) is) ∙ own in
        on_hop true (backup_of plan d) refl
        (sym (told_backup u (duties.duty u is) numbered) ∙ sym (ap (λ (o : Option Duty). map_or o None (λ v. v.backup)) is) ∙ edge)
        (λ yes_. hit_then own put) (leads_by true)

    is_on : IsOn setting.net (plan_now setting (chronicle setting (x ∷ h))) f z d last.receipt.edge
    is_on = go last.receipt.accepts
      where
        go : Accepts last.receipt.past last.flight.message last.receipt.edge → IsOn setting.net (plan_now setting (chronicle setting (x ∷ h))) f z d last.receipt.edge
        go (entering duty given epoch primary) =
            on_hop false (primary_of plan d) refl (sym (told_primary duty (duties.given duty given) (epoch ∙ last.epoch_is)) ∙ primary) (λ yes_. cc) (leads_by false)
        go (following epoch edge newer) =
            by_edge (has_moved last.receipt.past) refl (duty_now last.receipt.past) refl (epoch ∙ last.epoch_is) (edge_on last.receipt.past last.receipt.edge edge).1

  -- what the last device of a trace holds
  walked : (stamp : Stamp) {first : Moment} {source_ m : ℕ} {q : Moment} {d : ℕ} (trace : Trace setting stamp (era (chronicle setting (x ∷ h))) first source_ m q d)
      → IsIn q (chronicle setting (x ∷ h)) → d < length setting.net.devices → is_member (plan_now setting (chronicle setting (x ∷ h))) d ≡ true
      → IsWalked setting.net plan budget f d (carried_by trace)
  unfolding heard_at_hop
  walked stamp {q = q} {d = d} (begins message emits carries number) here known member =
      record {
        hops = [];
        walk = refl;
        sum = none_more message.eps (source setting.net plan budget) (emitted_within q here d message emits number);
      }
  walked stamp {q = q} {d = d} (goes_on {from = from} {x = z} trace hop) here known member =
      by (is_root plan d) (is_backup_root plan d) refl refl (λ known_z member_z. walked stamp trace from_in known_z member_z)
    where
      from_in : IsIn from (chronicle setting (x ∷ h))
      from_in = tail_trans hop.before (rest_of here)

      held_as : (k : ℕ) → k ≡ hop.flight.message.eps + hop.receipt.edge.bounds.half → IsWalked setting.net plan budget f d k
          → IsWalked setting.net plan budget f d (hop.flight.message.eps + hop.receipt.edge.bounds.half)
      held_as k same is = subst (IsWalked setting.net plan budget f d) same is

      by : (r b : Bool) → is_root plan d ≡ r → is_backup_root plan d ≡ b
          → (z < length setting.net.devices → is_member plan z ≡ true → IsWalked setting.net plan budget f z (carried_by trace))
          → IsWalked setting.net plan budget f d (hop.flight.message.eps + hop.receipt.edge.bounds.half)
      by true b root is_b rest =
          absurd (root_takes_none setting (x ∷ h) next.fair clean each q here stamp from z
          (subst (λ y. Hop setting stamp n from z q y) (sym (eqb-true plan.root d root)) hop))
      by false true low is_b rest =
          let heard = heard_at_hop stamp q here from z d hop in
          let same : plan.backup_root ≡ d = eqb-true plan.backup_root d is_b in
          let past : Past = after hop.receipt.past (calls.Receive hop.flight.link hop.flight.message hop.receipt.counter) in
          held_as (estimate_now past).base heard.base
          (backup_walked setting.net plan budget f d (estimate_now past).base
          (backup_based past (sym heard.epoch ∙ hop.epoch_is) (subst (λ y. SetBy budget steps y past) (sym same) (inr heard))))
      by false false low apart rest =
          let on = is_on stamp q here from z d hop known member low apart in
          held_as (carried_by trace + (bounds_of setting.net on.hop.link d).half)
          (sums (carried_by trace) hop.flight.message.eps (bounds_of setting.net on.hop.link d).half hop.receipt.edge.bounds.half
          (next_carries trace (tail_chronicle setting from_in chronicle_) q d hop) on.half)
          (hop_walked setting.net plan budget f d (carried_by trace) on.hop on.moved_ member (or_from (is_root plan d) (is_backup_root plan d) low apart)
          on.caused on.on
          (subst (λ y. IsWalked setting.net plan budget f y (carried_by trace)) (sym on.parent)
          (rest (subst (λ y. y < length setting.net.devices) on.parent on.leads.within) (subst (λ y. is_member plan y ≡ true) on.parent on.leads.member))))
        where
          sums : (c m h_ e_ : ℕ) → m ≡ c → e_ ≡ h_ → c + h_ ≡ m + e_
          sums c m h_ e_ one two = omega (arith, one, two)

  -- Devices

  -- what a member of the plan holds of it
  pub walked_now : (d : ℕ) (past : Past) → d < length setting.net.devices → is_member (plan_now setting (chronicle setting (x ∷ h))) d ≡ true
      → past_in (chronicle setting (x ∷ h)) d ≡ Some past → epoch_now past ≡ era (chronicle setting (x ∷ h))
      → IsWalked setting.net plan budget f d (estimate_now past).base
  walked_now d past known member there own = by (set_then (x ∷ h) whole d past there)
    where
      last_so : (b : ByMessage (chronicle setting (x ∷ h)) d past) → LastHop setting b.message.stamp (era (chronicle setting (x ∷ h))) b.moment d
          → IsWalked setting.net plan budget f d (estimate_now past).base
      last_so b came =
          subst (IsWalked setting.net plan budget f d)
          (brings_heard setting steps d past b b.message.stamp n came.from came.through came.last ∙ sym b.base)
          (walked b.message.stamp (goes_on came.trace came.last) b.inside known member)

      by : SetBy budget (chronicle setting (x ∷ h)) d past → IsWalked setting.net plan budget f d (estimate_now past).base
      by (inl le) =
          record {
            hops = [];
            walk = refl;
            sum = none_more (estimate_now past).base (source setting.net plan budget)
                (base_in_source (estimate_now past).base budget.base (ageing (rates_of setting.net plan.root) budget.hold) (root_halves setting.net plan)
                (ageing (rates_of setting.net plan.backup_root) budget.hold) le);
          }
      by (inr b) =
          let came : LastHop setting b.message.stamp b.message.epoch b.moment d =
          last_hop setting steps chronicle_ (premises_of setting (seen_of steps) clean.premises).delay d past b in
          last_so b (subst (λ k. LastHop setting b.message.stamp k b.moment d) (b.epoch ∙ own) came)

  -- what the root holds, and the backup root
  pub root_now : (past : Past) → past_in (chronicle setting (x ∷ h)) (plan_now setting (chronicle setting (x ∷ h))).root ≡ Some past
      → epoch_now past ≡ era (chronicle setting (x ∷ h)) → (estimate_now past).base ≤ budget.base
  root_now past there own = root_based past own (set_then (x ∷ h) whole plan.root past there)

  pub backup_now_ : (past : Past) → past_in (chronicle setting (x ∷ h)) (plan_now setting (chronicle setting (x ∷ h))).backup_root ≡ Some past
      → epoch_now past ≡ era (chronicle setting (x ∷ h))
      → (estimate_now past).base ≤ sent_by_root setting.net plan budget + root_halves setting.net plan
  backup_now_ past there own = backup_based past own (set_then (x ∷ h) whole plan.backup_root past there)
