-- The age half of the bound, from the invariant and the silences of steady histories: the silence of a live device that does not act and comes to hear again, as
-- its counter sees it.
use Rattle.std.specs.Prelude.{◌≡◌, ℕ, zero, suc, ◌+◌, ◌-◌, ◌*◌, ◌≤◌, Bool, true, false, ◌&&◌, ◌||◌, not, max, List, [], ◌∷◌, nat_eq, Option, Some, None, refl}
use Rattle.std.specs.List.{list_all, list_any, cons_option}
use Rattle.std.proofs.Common.{arith, ap, sym, subst, inl, inr}
use Rattle.std.proofs.lemmas.Bool.{and_parts, or_from, not-true, eqb-true}
use Rattle.sd_num.specs.Lists.{map_or}
use Rattle.sd_num.specs.Numbers.{low}
use Rattle.sd_plan.specs.topo.Network.{Network, rates_of, Each}
use Rattle.sd_plan.specs.topo.Limits.{IsNetwork}
use Rattle.sd_plan.specs.declared.topo.Thing.{Thing}
use Rattle.sd_plan.specs.domain.Domains.{holds}
use Rattle.sd_plan.specs.declared.domain.DomainId.{DomainId}
use Rattle.sd_plan.specs.declared.Plan.{Plan}
use Rattle.sd_plan.specs.Plans.{is_member}
use Rattle.sd_checker.specs.check_root.Timing.{round_gap}
use Rattle.sd_device.specs.Calls.{Past}
use Rattle.sd_device.specs.Words.{heard, estimate_now}
use Rattle.sd_sched.specs.declared.Event.{Event}
use Rattle.sd_sched.specs.declared.Event.TheVariants as event
use Rattle.sd_sched.specs.Events.{reference_of, is_stage}
use Rattle.sd_history.specs.Things.{failure_of}
use Rattle.sd_history.specs.World.{Setting, Seen, is_up, joined_in_window, plan_numbered, alone}
use Rattle.sd_history.specs.Steps.{Step, seen_of}
use Rattle.sd_history.specs.Chronicle.{past_in, chronicle, next_step}
use Rattle.sd_safety.specs.invariant.Bounds.{depth, delay, losses, tick_gap, first_up, second_up, wait_up}
use Rattle.sd_safety.specs.invariant.Eras.{era, heard_at}
use Rattle.sd_safety.specs.invariant.Coming.{IsNextEvent}
use Rattle.sd_safety.specs.invariant.Guarded.{AreGuarded, IsSteady}
use Rattle.sd_safety.specs.invariant.Kept.{StaysInvariant}
use Rattle.sd_safety.specs.invariant.Silences.{AreSilent}
use Rattle.sd_safety.proofs.invariant.Prefix.{clean_before}
use Rattle.sd_safety.specs.messages.Moments.{Tail, whole, behind, Moment, when, IsIn}
use Rattle.sd_safety.proofs.messages.Tails.{tail_trans}
use Rattle.sd_safety.proofs.moves.Starts.{IsUnstaged, no_window, first_era}
use Rattle.sd_safety.specs.timers.Times.{AreTimed, heard_in}
use Rattle.sd_safety.proofs.timers.NotEarly.{heard_is_reading}
use Rattle.sd_safety.proofs.timers.Histories.{timed}
use Rattle.sd_safety.proofs.timers.Readings.{Keeps, honest_reading}
use Rattle.sd_safety.proofs.timers.Spans.{timer_low}
use Rattle.sd_safety.proofs.timers.NetworkBounds.{rate_is_low}
use Rattle.sd_safety.proofs.waits.SameReferences.{heard_is}
use Rattle.sd_safety.proofs.waits.Standing.{times}
use Rattle.sd_drill.specs.Drill.{quiet}
use Rattle.sd_bound.specs.Bound.{failures, FailsSo}
use Rattle.sd_bound.specs.Recovering.{steps_under}
use Rattle.sd_bound.specs.Halves.{AgesHold}
use Rattle.sd_bound.proofs.Composing.{tail_steps}
use Rattle.sd_bound.specs.timeouts.Settled.{the_plan}
use Rattle.sd_bound.proofs.timeouts.Unstaged.{unstaged_before, unstaged_tail, unjoined}
use Rattle.sd_bound.specs.ages.Sums.{silence_at_most}
use Rattle.sd_bound.proofs.ages.Orders.{IsOrdered, in_order}
use Rattle.sd_bound.proofs.ages.Silences.{FailsIn, silent_at_most}

-- Sums

quiet_by : (k h d p q f1 f2 up n : ℕ)
    → (k + 1) * p + p + h * d + max (f1 + f2 + 2 * q + (h + 1) * d) (up + q + (2 * (h + 1) + 1) * d) + ((k + 1) * p + 2 * (h + 1) * d)
    ≤ max (f1 + f2 + 6 * ((k + 2) * p + 4 * (h + 1) * d + q)) (up + q + ((k + 2) * p + 4 * (h + 1) * d)) + 2 * ((k + 2) * p + 4 * (h + 1) * d) * (n + 1)
quiet_by k h d p q f1 f2 up n =
    let once : 2 * ((k + 2) * p + 4 * (h + 1) * d) ≤ 2 * ((k + 2) * p + 4 * (h + 1) * d) * (n + 1) = more (2 * ((k + 2) * p + 4 * (h + 1) * d)) n in
    upto_ _ _ _ _ alone_ once
  where
    more : (w m : ℕ) → w ≤ w * (m + 1)
    more w m = omega arith

    upto_ : (a b c e : ℕ) → a ≤ b + c → c ≤ e → a ≤ b + e
    upto_ a b c e one two = omega (arith, one, two)

    alone_ : (k + 1) * p + p + h * d + max (f1 + f2 + 2 * q + (h + 1) * d) (up + q + (2 * (h + 1) + 1) * d) + ((k + 1) * p + 2 * (h + 1) * d)
        ≤ max (f1 + f2 + 6 * ((k + 2) * p + 4 * (h + 1) * d + q)) (up + q + ((k + 2) * p + 4 * (h + 1) * d)) + 2 * ((k + 2) * p + 4 * (h + 1) * d)
    alone_ = omega arith

pub silence_is_quiet : (net : Network) (plan : Plan) (n : ℕ) → silence_at_most net plan ≤ quiet net plan n
silence_is_quiet net plan n =
    quiet_by (losses net) (depth net) (delay net) (round_gap net) (tick_gap net) (first_up net plan) (second_up net plan) (wait_up net plan) n

-- What a run that recovers gives

each_one : (P : Plan → Type 0) (plan : Plan) → P plan → Each P (plan ∷ [])
each_one P plan is zero x at = subst P (some_same at) is
  where
    some_same : Some plan ≡ Some x → plan ≡ x
    some_same same = ap (λ (o : Option Plan). map_or o plan (λ y. y)) same
each_one P plan is (suc i) x at = cc

none_staged : (seen : List Seen) → list_all (λ s. not (is_stage s.event)) seen ≡ true → list_any (λ s. is_stage s.event) seen ≡ false
none_staged [] all = refl
none_staged (s ∷ seen) all =
    let parts = and_parts (not (is_stage s.event)) (list_all (λ x. not (is_stage x.event)) seen) all in
    or_from (is_stage s.event) (list_any (λ x. is_stage x.event) seen) (not-true (is_stage s.event) parts.0) (none_staged seen parts.1)

clean_tail : (setting : Setting) {history whole_ : List Event} → Tail history whole_ → IsSteady setting whole_ → IsSteady setting history
clean_tail setting whole is = is
clean_tail setting (behind {x = e} {xs = earlier} t) is = clean_tail setting t (clean_before setting e earlier is)

-- what holds of all failures holds of one
of_failure : (P : Thing × ℕ → Bool) (steps : List Step) → list_all P (failures (seen_of steps)) ≡ true → (q : Moment) → IsIn q steps → (y : Thing)
    → failure_of q.step.seen.event ≡ Some y → P (y, when q) ≡ true
of_failure P [] all q here y failure = elim here [ ]
of_failure P (s ∷ earlier) all q whole y failure =
    (and_parts (P (y, when q)) (list_all P (failures (seen_of earlier)))
    (subst (λ o. list_all P (cons_option (map_or o None (λ x. Some (x, reference_of s.seen.event))) (failures (seen_of earlier))) ≡ true) failure all)).0
of_failure P (s ∷ earlier) all q (behind t) y failure = of_failure P earlier (rest (failure_of s.seen.event) all) q t y failure
  where
    rest : (o : Option Thing) → list_all P (cons_option (map_or o None (λ x. Some (x, reference_of s.seen.event))) (failures (seen_of earlier))) ≡ true
        → list_all P (failures (seen_of earlier)) ≡ true
    rest None all' = all'
    rest (Some x) all' = (and_parts (P (x, reference_of s.seen.event)) (list_all P (failures (seen_of earlier))) all').1

-- all failures lie in the domain, at one reference
record OneOutage (setting : Setting) (history : List Event) (f : DomainId) : Type 0 where
  reference : ℕ
  fails_in : FailsIn setting history f reference

one_outage : (net : Network) (plan : Plan) (f : DomainId) (history whole_ : List Event) → Tail history whole_
    → FailsSo net f (seen_of (steps_under net plan whole_)) → OneOutage (alone net plan) history f
one_outage net plan f history whole_ t (inl none) =
    record {
      reference = 0;
      fails_in = λ q here y failure.
          let never : false ≡ true =
          of_failure (λ z. false) (steps_under net plan whole_) (subst (λ (l : List (Thing × ℕ)). list_all (λ z. false) l ≡ true) (sym none) refl) q
          (tail_trans here (tail_steps (alone net plan) t)) y failure in
          cc;
    }
one_outage net plan f history whole_ t (inr (reference, at_once)) =
    record {
      reference = reference;
      fails_in = λ q here y failure.
          let both = and_parts (holds net f y) (nat_eq (when q) reference)
          (of_failure (λ z. holds net f z.0 && nat_eq z.1 reference) (steps_under net plan whole_) at_once.only q
          (tail_trans here (tail_steps (alone net plan) t)) y failure) in
          (both.0, eqb-true (when q) reference both.1);
    }

pub counted_member : (up member joined : Bool) → (up && (member || joined)) ≡ true → joined ≡ false → (up ≡ true) × (member ≡ true)
counted_member true true joined is none = (refl, refl)
counted_member true false true is none = cc
counted_member true false false is none = cc
counted_member false member joined is none = cc

age_by : (c h a o : ℕ) → c - h ≤ o → h ≤ a → c - a ≤ o
age_by c h a o one two = omega (arith, one, two)

-- what lies below what lies below the third
pub upto_sum : (l r q : ℕ) → l ≤ r → r ≤ q → l ≤ q
upto_sum l r q one two = omega (arith, one, two)

-- a device that was silent for no longer than a bound has an estimate no older than any age that covers the bound
pub age_within : (setting : Setting) (x : Event) (h : List Event) (reference d counter : ℕ) → IsNetwork setting.net
    → IsNextEvent setting (x ∷ h) (event.Ask reference d counter) → (past : Past) → past_in (chronicle setting (x ∷ h)) d ≡ Some past
    → (bound oldest : ℕ) → reference ≤ heard_at (chronicle setting (x ∷ h)) d + bound
    → ((age : ℕ) → low (rates_of setting.net d) age ≤ bound → age ≤ oldest) → counter - (estimate_now past).at ≤ oldest
age_within setting x h reference d counter network comes past there bound oldest by covers =
    let all_timed : AreTimed setting (chronicle setting (event.Ask reference d counter ∷ x ∷ h)) =
    timed setting (event.Ask reference d counter ∷ x ∷ h) (times setting x h (event.Ask reference d counter) comes) in
    let heard_same : heard_at (chronicle setting (x ∷ h)) d ≡ heard_in (chronicle setting (x ∷ h)) d =
    heard_is setting (chronicle setting (x ∷ h)) all_timed.0 d in
    let quiet_ : reference - heard_in (chronicle setting (x ∷ h)) d ≤ bound =
    subst (λ t. reference - t ≤ bound) heard_same
    (within reference (heard_at (chronicle setting (x ∷ h)) d) bound by) in
    let keeps : Keeps (rates_of setting.net d) (reference, counter) (heard_in (chronicle setting (x ∷ h)) d, heard past) =
    honest_reading setting (next_step setting (chronicle setting (x ∷ h)) (event.Ask reference d counter)).seen
    (seen_of (chronicle setting (x ∷ h))) d counter (heard_in (chronicle setting (x ∷ h)) d, heard past) all_timed.1.honest refl refl refl
    (heard_is_reading setting (chronicle setting (x ∷ h)) all_timed.0 d past there) in
    let low_ : low (rates_of setting.net d) (counter - heard past) ≤ reference - heard_in (chronicle setting (x ∷ h)) d =
    timer_low (rates_of setting.net d) (counter - heard past) (counter - heard past) (reference - heard_in (chronicle setting (x ∷ h)) d)
    (rate_is_low setting.net d network) keeps (least (counter - heard past)) in
    let old : counter - heard past ≤ oldest = covers (counter - heard past) (upto_sum _ _ _ low_ quiet_) in
    let order : IsOrdered past _ = in_order setting (x ∷ h) comes.clean.is.0 d past there in
    age_by counter (heard past) (estimate_now past).at oldest old order.estimate
  where
    least : (n : ℕ) → n ≤ n
    least n = omega arith

    within : (r h b : ℕ) → r ≤ h + b → r - h ≤ b
    within r h b le = omega (arith, le)

-- the age half
pub ages_hold : (net : Network) (plan : Plan) → StaysInvariant (alone net plan) → AreSilent (alone net plan) → AgesHold net plan
ages_hold net plan stays silent budget f whole_ [] reference d counter recovers tail past counted there idle far oldest covered = cc
ages_hold net plan stays silent budget f whole_ (x ∷ h) reference d counter recovers tail past counted there idle far oldest covered =
    let setting : Setting = alone net plan in
    let e : Event = event.Ask reference d counter in
    let fair : AreGuarded (alone net plan) =
    record { network = recovers.network; some_plan = omega arith; fit = each_one _ plan recovers.fits; guarded = each_one _ plan recovers.guarded } in
    let clean : IsSteady (alone net plan) (event.Ask reference d counter ∷ x ∷ h) =
    clean_tail (alone net plan) tail (record { is = recovers.is; premises = recovers.premises }) in
    let before : IsSteady (alone net plan) (x ∷ h) = clean_before (alone net plan) (event.Ask reference d counter) (x ∷ h) clean in
    let comes : IsNextEvent (alone net plan) (x ∷ h) (event.Ask reference d counter) = record { fair = fair; clean = clean; before = stays (x ∷ h) fair before } in
    let unstaged : IsUnstaged (seen_of (chronicle (alone net plan) (event.Ask reference d counter ∷ x ∷ h))) =
    unstaged_tail (chronicle (alone net plan) (event.Ask reference d counter ∷ x ∷ h)) (steps_under net plan whole_) (tail_steps (alone net plan) tail)
    (none_staged (seen_of (steps_under net plan whole_)) recovers.unstaged) in
    let unstaged_ : IsUnstaged (seen_of (chronicle (alone net plan) (x ∷ h))) =
    unstaged_before (next_step (alone net plan) (chronicle (alone net plan) (x ∷ h)) (event.Ask reference d counter))
    (chronicle (alone net plan) (x ∷ h)) unstaged in
    let live = counted_member (is_up (seen_of (chronicle (alone net plan) (x ∷ h))) d)
    (is_member (plan_numbered (alone net plan) (era (chronicle (alone net plan) (x ∷ h)))) d)
    (joined_in_window (seen_of (chronicle (alone net plan) (x ∷ h))) d) counted
    (unjoined (seen_of (chronicle (alone net plan) (x ∷ h))) d (no_window (seen_of (chronicle (alone net plan) (x ∷ h))) unstaged_)) in
    let member : is_member (the_plan (alone net plan) 1) d ≡ true =
    subst (λ n. is_member (plan_numbered (alone net plan) n) d ≡ true) (first_era (alone net plan) (x ∷ h) unstaged_) live.1 in
    let outage : OneOutage (alone net plan) (event.Ask reference d counter ∷ x ∷ h) f =
    one_outage net plan f (event.Ask reference d counter ∷ x ∷ h) whole_ tail recovers.failed in
    let by : reference ≤ heard_at (chronicle (alone net plan) (x ∷ h)) d + silence_at_most net plan =
    silent_at_most (alone net plan) silent x h (event.Ask reference d counter) comes unstaged f outage.reference outage.fails_in d live.0 member idle covered.fed
    covered.long (λ hops walked. covered.is_long.greatest hops walked) covered.short_enough in
    age_within (alone net plan) x h reference d counter recovers.network comes past there (silence_at_most net plan) oldest by covered.covers
