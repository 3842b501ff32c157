-- The device of a tick that moves: it has been silent for as long as its wait, twice V at least; it is not new; and when it moves the time to start is
-- over. From the counters, from lemma 18's silence and from the tick premise.
use Rattle.std.specs.Prelude.{◌≡◌, ℕ, ◌+◌, ◌-◌, ◌*◌, ◌<◌, ◌≤◌, Bool, true, false, ◌&&◌, ◌||◌, not, List, [], ◌∷◌, length, nat_eq, nat_le, Some, None, option_map, refl, if◌then◌else◌}
use Rattle.std.specs.List.{list_all}
use Rattle.std.proofs.Common.{arith, sym, ◌∙◌, ap, subst}
use Rattle.std.proofs.lemmas.Bool.{and_parts, and_from, or_left, eqb-true, eq-eqb, leb-true, leb-false, false_from_ne_true, both_ways}
use Rattle.sd_num.specs.Lists.{map_or, same_number, below}
use Rattle.sd_plan.specs.topo.Network.{least_low}
use Rattle.sd_plan.specs.declared.Duty.{Duty}
use Rattle.sd_plan.specs.Plans.{is_member, members}
use Rattle.sd_checker.specs.check_root.Timing.{silence, round_gap}
use Rattle.sd_device.specs.Calls.{Past}
use Rattle.sd_device.specs.Words.{duty_now, epoch_now, is_acting, moves_at}
use Rattle.sd_device.proofs.Reached.{Reached, reached}
use Rattle.sd_sched.specs.declared.Event.{Event}
use Rattle.sd_sched.specs.declared.Event.TheVariants as event
use Rattle.sd_history.specs.World.{Setting, is_untouched, plan_numbered, is_up, has_commit, is_counted, joined_in_window, is_staged_member, latest_reference}
use Rattle.sd_history.specs.Steps.{seen_of, live_answers, answers_in, epoch_in, acts_in}
use Rattle.sd_history.specs.Chronicle.{past_in, chronicle, next_step, answers_by}
use Rattle.sd_history.specs.Premises.{latest_tick, tick_holds, first_reference, is_current_member, ticks_in_time}
use Rattle.sd_history.proofs.Among.{passes}
use Rattle.sd_history.proofs.Clear.{clear}
use Rattle.sd_history.proofs.Bridges.{answers_by_words}
use Rattle.sd_safety.specs.invariant.Guarded.{IsGuarded}
use Rattle.sd_safety.specs.invariant.Bounds.{tick_gap, delay}
use Rattle.sd_safety.specs.invariant.Eras.{era, plan_now, beginning, is_old, is_new, is_blank, is_past, heard_at, silent_for}
use Rattle.sd_safety.specs.invariant.Clauses.{is_beginning, staged_root}
use Rattle.sd_safety.specs.invariant.Invariant.{Invariant, AtEach}
use Rattle.sd_safety.specs.invariant.Silences.{NewHears}
use Rattle.sd_safety.specs.invariant.Coming.{IsNextEvent}
use Rattle.sd_safety.proofs.invariant.Sides.{implied}
use Rattle.sd_safety.proofs.invariant.Staying.{old_is_member}
use Rattle.sd_safety.proofs.invariant.InForce.{in_force_too}
use Rattle.sd_safety.proofs.invariant.Timed.{timed_by}
use Rattle.sd_safety.specs.timers.Times.{heard_in}
use Rattle.sd_safety.specs.timers.Times as times
use Rattle.sd_safety.proofs.timers.NotEarly.{Waited, move_waited}
use Rattle.sd_safety.proofs.timers.Pasts.{of_life, Goes, move_from_primary}
use Rattle.sd_safety.proofs.timers.CalmBeginning.{counts_from_first}
use Rattle.sd_safety.proofs.timers.Periods.{tick_within}
use Rattle.sd_history.proofs.Known.{admitted_named_is_known}
use Rattle.sd_history.proofs.Shared.{among_below}
use Rattle.sd_safety.proofs.timers.Histories.{Timely, timed, before, move_waits}
use Rattle.sd_safety.proofs.waits.SameReferences.{heard_is}
use Rattle.sd_safety.proofs.waits.LeastWaits.{timely_of, waits_are_long}
use Rattle.sd_safety.proofs.waits.Epochs.{IsNumbered, duty_numbered}

-- after some event the invariant holds
pub core_before : (setting : Setting) (history : List Event) (d : ℕ) (p : Past) → past_in (chronicle setting history) d ≡ Some p
    → AtEach (Invariant setting) (chronicle setting history) → Invariant setting (chronicle setting history)
core_before setting [] d p is each = cc
core_before setting (e ∷ history) d p is each = each.1

-- a device that is new is counted
pub counted_when : (up member past joined blank new : Bool) → up ≡ true → new ≡ true → past ≡ false
    → (not (up && not member) || (past || (joined && (blank || new)))) ≡ true → (up && (member || joined)) ≡ true
counted_when true true past joined blank new u n p clause = refl
counted_when true false false true blank new u n p clause = refl
counted_when true false false false blank new u n p clause = cc
counted_when true false true joined blank new u n p clause = cc
counted_when false member past joined blank new u n p clause = cc

pub not_past : (up old new blank : Bool) → new ≡ true → (up && not (old || new || blank)) ≡ false
not_past false old new blank n = refl
not_past true true new blank n = refl
not_past true false true blank n = refl
not_past true false false blank n = cc

one_or_two : (n e : ℕ) → e ≡ 1 → 1 ≤ n → n ≤ e + 1 → nat_eq n e ≡ false → nat_eq n (e + 1) ≡ true
one_or_two n e one low high other = eq-eqb n (e + 1) (by one low high (λ same. both_ways (nat_eq n e) other (eq-eqb n e same)))
  where
    by : e ≡ 1 → 1 ≤ n → n ≤ e + 1 → (n ≡ e → ⊥) → n ≡ e + 1
    by x y z never = pick (nat_le n e) refl
      where
        pick : (b : Bool) → nat_le n e ≡ b → n ≡ e + 1
        pick true is = absurd (never (let le : n ≤ e = leb-true n e is in omega (arith, x, y, le)))
        pick false is = let lt : e < n = leb-false n e is in omega (arith, lt, z)

module _ (setting : Setting) (r d c : ℕ) (history : List Event) (comes : IsNextEvent setting history (event.Tick r d c)) (p : Past)
    (there : past_in (chronicle setting history) d ≡ Some p) where
  pub timely_now : Timely setting (event.Tick r d c ∷ history)
  timely_now = timely_of setting (event.Tick r d c ∷ history) comes.fair comes.clean

  pub timely_then : Timely setting history
  timely_then = before setting (event.Tick r d c) history timely_now

  pub inv : Invariant setting (chronicle setting history)
  inv = core_before setting history d p there comes.before

  pub guarded_then : IsGuarded setting.net (plan_now setting (chronicle setting history))
  guarded_then = in_force_too (IsGuarded setting.net) setting history comes.fair.guarded comes.fair.some_plan comes.clean.is.0

  -- the device is up
  pub live : is_up (seen_of (chronicle setting history)) d ≡ true
  live = up_by (is_up (seen_of (chronicle setting history)) d)
      (clear setting (chronicle setting history) (event.Tick r d c) comes.clean.is.1).device_up
    where
      up_by : (b : Bool) → (true && not b) ≡ false → b ≡ true
      up_by true none = refl
      up_by false none = cc

  pub answers : answers_in (chronicle setting history) d ≡ Some (answers_by p)
  answers = answers_by_words setting history d ∙ ap (option_map answers_by) there

  pub answers_live : live_answers (chronicle setting history) d ≡ Some (answers_by p)
  answers_live = ap (λ b. if b then answers_in (chronicle setting history) d else None) live ∙ answers

  pub epoch_is : epoch_in (chronicle setting history) d ≡ Some (epoch_now p)
  epoch_is = ap (λ o. option_map (λ a. a.epoch) o) answers_live

  pub acts_is : acts_in (chronicle setting history) d ≡ is_acting p
  acts_is = ap (λ o. map_or o false (λ a. a.acts)) answers_live

  pub known : d < length setting.net.devices
  known = admitted_named_is_known setting (chronicle setting history) (event.Tick r d c) d comes.clean.is.1 refl

  pub reached_then : Reached p
  reached_then = of_life Reached reached (chronicle setting history) d p there

  -- a device with a duty is not blank
  pub with_duty_not_blank : (u : Duty) → duty_now p ≡ Some u → is_blank (chronicle setting history) d ≡ false
  with_duty_not_blank u has =
      let numbered : IsNumbered (era (chronicle setting history)) u = duty_numbered setting history d p there u has in
      ap (λ o. same_number o 0) (epoch_is ∙ ap (λ o. Some (map_or o 0 (λ (duty : Duty). duty.epoch))) has) ∙ not_zero u.epoch numbered.0
    where
      not_zero : (n : ℕ) → 1 ≤ n → nat_eq n 0 ≡ false
      not_zero n le = false_from_ne_true (nat_eq n 0) (λ is. let same : n ≡ 0 = eqb-true n 0 is in omega (arith, le, same))

  -- a device that is new is counted
  pub new_is_counted : is_new (chronicle setting history) d ≡ true → is_counted setting (seen_of (chronicle setting history)) d ≡ true
  new_is_counted new =
      counted_when (is_up (seen_of (chronicle setting history)) d) (is_member (plan_now setting (chronicle setting history)) d)
      (is_past (chronicle setting history) d) (joined_in_window (seen_of (chronicle setting history)) d)
      (is_blank (chronicle setting history) d) (is_new (chronicle setting history) d) live new
      (not_past (is_up (seen_of (chronicle setting history)) d) (is_old (chronicle setting history) d) (is_new (chronicle setting history) d)
      (is_blank (chronicle setting history) d) new) (inv.core.census.outsiders d)

  -- no device is new before a commit
  pub new_has_commit : is_new (chronicle setting history) d ≡ true → has_commit (seen_of (chronicle setting history)) ≡ true
  new_has_commit new = by (has_commit (seen_of (chronicle setting history))) (is_new (chronicle setting history) d) (inv.core.uncommitted.devices d) new
    where
      by : (a b : Bool) → (not (not a) || not b) ≡ true → b ≡ true → a ≡ true
      by true b clause is = refl
      by false true clause is = cc
      by false false clause is = cc

  -- the staged root acts once it is new
  pub new_root_acts : is_new (chronicle setting history) d ≡ true → nat_eq d (staged_root setting (chronicle setting history)) ≡ true → is_acting p ≡ true
  new_root_acts new root =
      sym acts_is
      ∙ (sym (ap (λ b. if b then acts_in (chronicle setting history) d else not (acts_in (chronicle setting history) d)) root)
      ∙ implied (has_commit (seen_of (chronicle setting history)) && is_counted setting (seen_of (chronicle setting history)) d) _ (inv.core.committed.acting d)
      (and_from (has_commit (seen_of (chronicle setting history))) (is_counted setting (seen_of (chronicle setting history)) d) (new_has_commit new)
      (new_is_counted new)))

  module _ (goes : moves_at p c ≡ true) where
    pub from_primary : Goes p
    from_primary = move_from_primary p c reached_then goes

    -- it has been silent for as long as its wait
    pub silent_long : 2 * (silence setting.net + tick_gap setting.net) ≤ r - heard_at (chronicle setting history) d
    silent_long =
        let w = move_waited p c goes in
        let long : 2 * (silence setting.net + setting.net.params.tick) ≤ least_low setting.net w.1 =
        waits_are_long setting comes.fair history comes.clean.is.0 d p there w.0 w.2.has w.1 w.2.waits in
        let least : least_low setting.net w.1 ≤ r - heard_in (chronicle setting history) d =
        move_waits setting r d c history p timely_now there w.0 w.1 w.2.has w.2.waits goes in
        subst (λ h. 2 * (silence setting.net + setting.net.params.tick) ≤ r - h)
        (sym (heard_is setting (chronicle setting history) (timed setting history timely_then) d)) (on _ _ _ long least)
      where
        on : (a b m : ℕ) → a ≤ b → b ≤ m → a ≤ m
        on a b m x y = omega (arith, x, y)

    -- it is not new
    pub mover_is_not_new : NewHears setting (chronicle setting history) r → is_new (chronicle setting history) d ≡ false
    mover_is_not_new hears =
        false_from_ne_true (is_new (chronicle setting history) d)
        (λ new. by new (nat_eq d (staged_root setting (chronicle setting history))) refl)
      where
        short : (k h dd pp q s : ℕ) → 1 ≤ q → 2 * ((k + 2) * pp + 4 * (h + 1) * dd + q) ≤ s → s ≤ (k + 1) * pp + h * dd → ⊥
        short k h dd pp q s one long few = omega (arith, one, long, few)

        by : is_new (chronicle setting history) d ≡ true → (b : Bool) → nat_eq d (staged_root setting (chronicle setting history)) ≡ b → ⊥
        by new true root = both_ways (is_acting p) from_primary.acts_not (new_root_acts new root)
        by new false other =
            short setting.net.params.loss setting.net.params.depth (delay setting.net) (round_gap setting.net) setting.net.params.tick
            (silent_for (chronicle setting history) d r) comes.fair.network.tick.0 silent_long (hears d new other)

    -- and the time to start was over before the move
    pub not_beginning : NewHears setting (chronicle setting history) r → is_beginning setting (chronicle setting history) ≡ false
    not_beginning hears =
        false_from_ne_true (is_beginning setting (chronicle setting history))
        (λ begins.
        let parts = and_parts (nat_eq (era (chronicle setting history)) 1)
        (nat_le (latest_reference (seen_of (chronicle setting history))) (beginning (seen_of (chronicle setting history)) + tick_gap setting.net)) begins in
        let one : era (chronicle setting history) ≡ 1 = eqb-true (era (chronicle setting history)) 1 parts.0 in
        let early : latest_reference (seen_of (chronicle setting history)) ≤ beginning (seen_of (chronicle setting history)) + tick_gap setting.net =
        leb-true (latest_reference (seen_of (chronicle setting history))) (beginning (seen_of (chronicle setting history)) + tick_gap setting.net) parts.1 in
        too_late (old_in_first one) early)
      where
        w : (duty : Duty) × (wait : ℕ) × Waited p c duty wait
        w = move_waited p c goes

        numbered : IsNumbered (era (chronicle setting history)) w.0
        numbered = duty_numbered setting history d p there w.0 w.2.has

        number_is : epoch_in (chronicle setting history) d ≡ Some w.0.epoch
        number_is = epoch_is ∙ ap (λ o. Some (map_or o 0 (λ (duty : Duty). duty.epoch))) w.2.has

        old_in_first : era (chronicle setting history) ≡ 1 → is_old (chronicle setting history) d ≡ true
        old_in_first one = go (nat_eq w.0.epoch (era (chronicle setting history))) refl
          where
            go : (b : Bool) → nat_eq w.0.epoch (era (chronicle setting history)) ≡ b → is_old (chronicle setting history) d ≡ true
            go true is = ap (λ o. same_number o (era (chronicle setting history))) number_is ∙ is
            go false is =
                absurd (both_ways (is_new (chronicle setting history) d) (mover_is_not_new hears)
                (ap (λ o. same_number o (era (chronicle setting history) + 1)) number_is
                ∙ one_or_two w.0.epoch (era (chronicle setting history)) one numbered.0 numbered.1 is))

        since_first : (h : List Event) → past_in (chronicle setting h) d ≡ Some p → Timely setting h
            → beginning (seen_of (chronicle setting h)) ≤ heard_in (chronicle setting h) d
        since_first [] is t = cc
        since_first (x ∷ h) is t =
            counts_from_first times.hears setting (next_step setting (chronicle setting h) x) (chronicle setting h) (timed setting (x ∷ h) t) d p is

        in_time : (b n : Bool) → (not b || n) ≡ true → b ≡ true → n ≡ true
        in_time true n h is = h
        in_time false n h is = cc

        too_late : is_old (chronicle setting history) d ≡ true
            → latest_reference (seen_of (chronicle setting history)) ≤ beginning (seen_of (chronicle setting history)) + tick_gap setting.net → ⊥
        too_late old early =
            let steps = chronicle setting history in
            let member : is_member (plan_now setting steps) d ≡ true = old_is_member setting steps d (inv.core.census.outsiders d) old in
            let all = and_parts (tick_holds setting (seen_of steps))
            (ticks_in_time setting (next_step setting steps (event.Tick r d c)).seen (seen_of steps)) timely_now.ticks in
            let tests : ticks_in_time setting (next_step setting steps (event.Tick r d c)).seen (seen_of steps) ≡ true = all.1 in
            let mine : nat_le r (latest_tick (seen_of steps) d + setting.net.params.tick) ≡ true =
            in_time (is_up (seen_of steps) d && is_current_member setting (seen_of steps) d)
            (nat_le r (latest_tick (seen_of steps) d + setting.net.params.tick))
            (passes (λ x. not (is_up (seen_of steps) x && is_current_member setting (seen_of steps) x)
            || nat_le r (latest_tick (seen_of steps) x + setting.net.params.tick)) (among_below (length setting.net.devices) d known)
            (and_parts (list_all (λ x. not (is_up (seen_of steps) x && is_current_member setting (seen_of steps) x)
            || nat_le r (latest_tick (seen_of steps) x + setting.net.params.tick)) (below (length setting.net.devices)))
            (list_all (λ x. not (is_untouched (seen_of steps) x)
            || nat_le r (first_reference (seen_of steps) (next_step setting steps (event.Tick r d c)).seen + setting.net.params.tick))
            (members setting.net (plan_numbered setting 1))) tests).0)
            (and_from (is_up (seen_of steps) d) (is_current_member setting (seen_of steps) d) live
            (or_left (is_member (plan_now setting steps) d) (is_staged_member setting (seen_of steps) d) member)) in
            let due : r ≤ latest_tick (seen_of steps) d + setting.net.params.tick = leb-true r (latest_tick (seen_of steps) d + setting.net.params.tick) mine in
            let latest : latest_tick (seen_of steps) d ≤ latest_reference (seen_of steps) = tick_within setting steps (timed setting history timely_then) d in
            let since : beginning (seen_of steps) ≤ heard_at steps d =
            subst (λ h. beginning (seen_of steps) ≤ h) (sym (heard_is setting steps (timed setting history timely_then) d))
            (since_first history there timely_then) in
            let bounds = timed_by setting.net (plan_now setting steps) comes.fair.network.tick.0 guarded_then.timing in
            far setting.net.params.loss setting.net.params.depth (delay setting.net) (round_gap setting.net) setting.net.params.tick r (heard_at steps d)
            (beginning (seen_of steps)) (latest_tick (seen_of steps) d) (latest_reference (seen_of steps))
            bounds.gap silent_long since due latest early
          where
            far : (k h dd pp q r heard b tick latest : ℕ) → q + 1 ≤ pp → 2 * ((k + 2) * pp + 4 * (h + 1) * dd + q) ≤ r - heard → b ≤ heard → r ≤ tick + q
                → tick ≤ latest → latest ≤ b + q → ⊥
            far k h dd pp q r heard b tick latest gap long since due le early = omega (arith, gap, long, since, due, le, early)
