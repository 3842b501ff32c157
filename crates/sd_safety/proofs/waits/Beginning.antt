-- Calm beginning (C0), in every history over guarded plans in which all premises but start hold: while members of the first plan may start nothing is emitted and
-- nobody moves, and then each of them was started or has failed. From Calm of timers and the tick premise, by induction on the history.
use Rattle.std.specs.Prelude.{◌≡◌, ℕ, ◌+◌, ◌-◌, ◌*◌, ◌<◌, ◌≤◌, Bool, true, false, ◌&&◌, ◌||◌, not, List, [], ◌∷◌, length, nat_eq, nat_le, Option, Some, None, option_map, IsTrue, refl, if◌then◌else◌}
use Rattle.std.proofs.Common.{arith, sym, ◌∙◌, ap, subst, inl, inr}
use Rattle.std.proofs.lemmas.Bool.{and_parts, or_cases, lt-leb, eqb-true, eq-eqb, false_from_ne_true, both_ways}
use Rattle.sd_num.specs.Lists.{map_or}
use Rattle.sd_num.specs.Numbers.{low}
use Rattle.sd_plan.specs.topo.Network.{rates_of, least_low}
use Rattle.sd_plan.specs.declared.topo.Thing.TheVariants as thing
use Rattle.sd_plan.specs.Plans.{is_member}
use Rattle.sd_checker.specs.check_root.Timing.{silence}
use Rattle.sd_safety.specs.invariant.Guarded.{IsGuarded, AreGuarded, IsSteady}
use Rattle.sd_num.proofs.Shared.{same_number-some}
use Rattle.sd_device.specs.Calls as calls
use Rattle.sd_device.specs.Calls.{Transition, Emitted, TookOver, Moved, Past}
use Rattle.sd_device.specs.Words.{after, transition_of, has_moved, is_acting, emits_at, moves_at}
use Rattle.sd_sched.specs.declared.Event.{Event}
use Rattle.sd_sched.specs.Events.{reference_of, device_of}
use Rattle.sd_history.specs.World.{Setting, Seen, plan_numbered, latest_reference, is_up, is_untouched, makes, fails, was_made, has_ever_failed}
use Rattle.sd_history.specs.Steps.{Act, Makes, Calls, Asks, Passes, seen_of, act_by}
use Rattle.sd_history.specs.Chronicle.{new_past, past_in, past_after, chronicle, next_step}
use Rattle.sd_history.specs.Admitted.{IsAdmitted}
use Rattle.sd_history.specs.Premises.{first_reference}
use Rattle.sd_history.proofs.Contained.{admitted_time_goes_on}
use Rattle.sd_safety.specs.invariant.Eras.{plan_now, beginning, has_emission, emission_by, begins_round, moved}
use Rattle.sd_safety.specs.invariant.Clauses.{is_beginning, nothing_emitted, stays}
use Rattle.sd_safety.proofs.invariant.InForce.{in_force_too}
use Rattle.sd_safety.proofs.invariant.Timed.{IsTimed, timed as plan_is_timed}
use Rattle.sd_safety.specs.timers.Times.{counter_at}
use Rattle.sd_safety.proofs.timers.NetworkBounds.{least_is_low, rate_is_low}
use Rattle.sd_safety.proofs.timers.NotEarly.{IsTick, move_waited}
use Rattle.sd_safety.proofs.timers.Pasts.{takeover_from_backup, acting_has_duty}
use Rattle.sd_safety.proofs.timers.Turns.{IsMove, is_move, IsTakeover, is_takeover, IsEmission, is_emission, backup_by_move}
use Rattle.sd_safety.proofs.timers.CalmBeginning.{calm_move, calm_emission}
use Rattle.sd_safety.proofs.timers.Periods.{periods_in}
use Rattle.sd_history.proofs.Known.{admitted_named_is_known}
use Rattle.sd_history.proofs.Given.{some_is}
use Rattle.sd_safety.proofs.timers.Histories.{Timely, timed, before}
use Rattle.sd_safety.proofs.waits.LeastWaits.{waits_are_long, Late, not_late, timely_of, starts_in_time}

-- what is twice as long as V is longer than a tick gap
longer : (s q l : ℕ) → 1 ≤ q → 2 * (s + q) ≤ l → q < l
longer s q l one le = omega (arith, one, le)

later_too : (setting : Setting) (e : Event) (history : List Event) → IsAdmitted setting (e ∷ history) → Late setting (seen_of (chronicle setting history))
    → Late setting (seen_of (chronicle setting (e ∷ history)))
later_too setting e [] is late = absurd (omega (arith, late))
later_too setting e (x ∷ history) is late =
    let on : latest_reference (seen_of (chronicle setting (x ∷ history))) ≤ reference_of e = admitted_time_goes_on setting (chronicle setting (x ∷ history)) e is.1 in
    omega (arith, late, on)

module _ (setting : Setting) (fair : AreGuarded setting) (e : Event) (d c : ℕ) (old : Past) where
  abbrev IsTickOf : List Event → Type 0
  IsTickOf history = act_by setting (chronicle setting history) e ≡ Calls d (calls.Tick c)

  ticker_is_known : (history : List Event) → Timely setting (e ∷ history) → IsTickOf history → d < length setting.net.devices
  ticker_is_known history t act =
      admitted_named_is_known setting (chronicle setting history) e d t.is.1
      (same_number-some (device_of e) d
      ((timed setting (e ∷ history) t).1.fits.named d c (ap (λ a. counter_at a d) act ∙ ap (λ b. if b then Some c else None) (eq-eqb d d refl))))

  tick_of : (history : List Event) → Timely setting (e ∷ history) → IsTickOf history → past_in (chronicle setting history) d ≡ Some old
      → IsTick setting (next_step setting (chronicle setting history) e) (chronicle setting history) d c old
  tick_of history t act is = let all = timed setting (e ∷ history) t in record { before = all.0; now = all.1; act = act; there = is }

  move_late : (history : List Event) → Timely setting (e ∷ history) → IsTickOf history → past_in (chronicle setting history) d ≡ Some old
      → moves_at old c ≡ true → Late setting (seen_of (chronicle setting (e ∷ history)))
  move_late [] t act is goes = cc
  move_late (x ∷ history) t act is goes =
      let w = move_waited old c goes in
      let apart : low (rates_of setting.net d) w.1 ≤ reference_of e - beginning (seen_of (chronicle setting (x ∷ history))) =
      calm_move setting (next_step setting (chronicle setting (x ∷ history)) e) (next_step setting (chronicle setting history) x)
      (chronicle setting history) d c old (rate_is_low setting.net d t.network) (tick_of (x ∷ history) t act is) w.0 w.1 w.2 in
      let least : least_low setting.net w.1 ≤ low (rates_of setting.net d) w.1 = least_is_low setting.net d w.1 (ticker_is_known (x ∷ history) t act) in
      let long : setting.net.params.tick < least_low setting.net w.1 =
      longer (silence setting.net) setting.net.params.tick (least_low setting.net w.1) fair.network.tick.0
      (waits_are_long setting fair (x ∷ history) t.is.0 d old is w.0 w.2.has w.1 w.2.waits) in
      omega (arith, apart, least, long)

  emission_late : (history : List Event) → Timely setting (e ∷ history) → IsTickOf history → past_in (chronicle setting history) d ≡ Some old
      → emits_at old c ≡ true → Late setting (seen_of (chronicle setting (e ∷ history)))
  emission_late [] t act is sends = cc
  emission_late (x ∷ history) t act is sends =
      let duty = acting_has_duty (chronicle setting (x ∷ history)) d old is (and_parts (is_acting old) _ sends).0 in
      let period : duty.0.period ≡ setting.net.params.period =
      (periods_in setting (chronicle setting (x ∷ history)) (tick_of (x ∷ history) t act is).before d old is).duty duty.0 duty.1 in
      let apart : low (rates_of setting.net d) duty.0.period ≤ reference_of e - beginning (seen_of (chronicle setting (x ∷ history))) =
      calm_emission setting (next_step setting (chronicle setting (x ∷ history)) e) (next_step setting (chronicle setting history) x)
      (chronicle setting history) d c old (rate_is_low setting.net d t.network) (tick_of (x ∷ history) t act is) duty.0 duty.1 sends in
      let least : least_low setting.net duty.0.period ≤ low (rates_of setting.net d) duty.0.period =
      least_is_low setting.net d duty.0.period (ticker_is_known (x ∷ history) t act) in
      let guarded : IsGuarded setting.net (plan_now setting (chronicle setting (x ∷ history))) =
      in_force_too (IsGuarded setting.net) setting (x ∷ history) fair.guarded fair.some_plan t.is.0 in
      let plan : IsTimed setting.net (plan_now setting (chronicle setting (x ∷ history))) =
      plan_is_timed setting.net (plan_now setting (chronicle setting (x ∷ history))) guarded.timing in
      let long : setting.net.params.tick < least_low setting.net duty.0.period =
      subst (λ p. setting.net.params.tick < least_low setting.net p) (sym period)
      (drop_first (2 * (setting.net.params.depth + 1) * _) setting.net.params.tick (least_low setting.net setting.net.params.period) plan.period) in
      omega (arith, apart, least, long)
    where
      drop_first : (a q l : ℕ) → a + q < l → q < l
      drop_first a q l lt = omega (arith, lt)

-- Nobody who moved did so early.

module _ (setting : Setting) (fair : AreGuarded setting) where
  moved_case : (e : Event) (history : List Event) → Timely setting (e ∷ history) → (d : ℕ) (act : Act) → act_by setting (chronicle setting history) e ≡ act
      → ((old : Past) → past_in (chronicle setting history) d ≡ Some old → has_moved old ≡ true → Late setting (seen_of (chronicle setting history)))
      → (past : Past) → past_after act d (past_in (chronicle setting history) d) ≡ Some past → has_moved past ≡ true
      → Late setting (seen_of (chronicle setting (e ∷ history)))
  moved_case e history t d (Makes m making) is rest past there' put = go (nat_eq m d) there'
    where
      not_new : has_moved (new_past making) ≡ has_moved past → has_moved past ≡ true → Late setting (seen_of (chronicle setting (e ∷ history)))
      not_new same put' = cc

      go : (b : Bool) → (if b then Some (new_past making) else past_in (chronicle setting history) d) ≡ Some past
          → Late setting (seen_of (chronicle setting (e ∷ history)))
      go true h = not_new (ap has_moved (some_is h)) put
      go false h = later_too setting e history t.is (rest past h put)
  moved_case e history t d (Calls m call) is rest past there' put = go (nat_eq m d) refl (past_in (chronicle setting history) d) refl there'
    where
      by_move : (old : Past) → past_in (chronicle setting history) d ≡ Some old → nat_eq m d ≡ true → (b : Bool) → has_moved old ≡ b
          → has_moved (after old call) ≡ true → Late setting (seen_of (chronicle setting (e ∷ history)))
      by_move old was same true eb now = later_too setting e history t.is (rest old was eb)
      by_move old was same false eb now =
          let move : IsMove old call = is_move old call (backup_by_move old call eb now) in
          move_late setting fair e d move.counter old history t (is ∙ ap (λ n. Calls n call) (eqb-true m d same) ∙ ap (Calls d) move.tick) was move.moves

      go : (b : Bool) → nat_eq m d ≡ b → (p : Option Past) → past_in (chronicle setting history) d ≡ p
          → (if b then option_map (λ x. after x call) p else p) ≡ Some past → Late setting (seen_of (chronicle setting (e ∷ history)))
      go true eb None ep h = cc
      go true eb (Some old) ep h = by_move old ep eb (has_moved old) refl (ap has_moved (some_is h) ∙ put)
      go false eb p ep h = later_too setting e history t.is (rest past (ep ∙ h) put)
  moved_case e history t d (Asks m counter) is rest past there' put = later_too setting e history t.is (rest past there' put)
  moved_case e history t d Passes is rest past there' put = later_too setting e history t.is (rest past there' put)

  pub moved_late : (history : List Event) → Timely setting history → (d : ℕ) (past : Past) → past_in (chronicle setting history) d ≡ Some past
      → has_moved past ≡ true → Late setting (seen_of (chronicle setting history))
  moved_late [] t d past is put = cc
  moved_late (e ∷ history) t d past is put =
      moved_case e history t d (act_by setting (chronicle setting history) e) refl (moved_late history (before setting e history t) d) past is put

  -- Nobody who emitted did so early.

  emitted_case : (e : Event) (history : List Event) → Timely setting (e ∷ history) → (act : Act) → act_by setting (chronicle setting history) e ≡ act
      → emission_by (chronicle setting history) act ≡ true → Late setting (seen_of (chronicle setting (e ∷ history)))
  emitted_case e history t (Calls m call) is emits = go (nat_eq m m) (past_in (chronicle setting history) m) refl emits
    where
      by_transition : (old : Past) → past_in (chronicle setting history) m ≡ Some old → (transition : Transition) → transition_of old call ≡ transition
          → begins_round (record { call = call; transition = transition }) ≡ true → Late setting (seen_of (chronicle setting (e ∷ history)))
      by_transition old was Emitted ed h =
          let emission : IsEmission old call = is_emission old call ed in
          emission_late setting fair e m emission.counter old history t (is ∙ ap (Calls m) emission.tick) was emission.emits
      by_transition old was TookOver ed h =
          let takeover : IsTakeover old call = is_takeover old call ed in
          later_too setting e history t.is
          (moved_late history (before setting e history t) m old was (takeover_from_backup old takeover.counter takeover.takes).moved)
      by_transition old was (calls.Entered duty edge) ed h = cc
      by_transition old was (calls.Committed duty) ed h = cc
      by_transition old was (calls.Recommitted duty) ed h = cc
      by_transition old was (calls.Accepted edge) ed h = cc
      by_transition old was Moved ed h = cc
      by_transition old was calls.Nothing ed h = cc

      go : (b : Bool) (p : Option Past) → past_in (chronicle setting history) m ≡ p
          → map_or (if b then option_map (λ past. record { call = call; transition = transition_of past call }) p else None) false begins_round ≡ true
          → Late setting (seen_of (chronicle setting (e ∷ history)))
      go true None ep h = cc
      go true (Some old) ep h = by_transition old ep (transition_of old call) refl h
      go false p ep h = cc
  emitted_case e history t _ is emits = cc

  pub emitted_late : (history : List Event) → Timely setting history → has_emission (chronicle setting history) ≡ true
      → Late setting (seen_of (chronicle setting history))
  emitted_late [] t emits = cc
  emitted_late (e ∷ history) t emits =
      elim (or_cases (emission_by (chronicle setting history) (act_by setting (chronicle setting history) e))
      (has_emission (chronicle setting history)) emits) [
        | inl now ↦ emitted_case e history t (act_by setting (chronicle setting history) e) refl now
        | inr rest ↦ later_too setting e history t.is (emitted_late history (before setting e history t) rest)
      ]

-- The clauses

implies : (a b : Bool) → (a ≡ true → b ≡ true → ⊥) → IsTrue (not a || not b)
implies true true never = absurd (never refl refl)
implies true false never = refl
implies false b never = refl

-- nothing is emitted in the beginning
pub quiet : (setting : Setting) (history : List Event) → AreGuarded setting → IsSteady setting history → IsTrue (nothing_emitted setting (chronicle setting history))
quiet setting history fair clean =
    implies (is_beginning setting (chronicle setting history)) (has_emission (chronicle setting history))
    (λ begins emits. not_late setting (chronicle setting history) begins (emitted_late setting fair history (timely_of setting history fair clean) emits))

moved_past : (b : Bool) (p : Option Past) → map_or (if b then p else None) false has_moved ≡ true → (past : Past) × (p ≡ Some past) × (has_moved past ≡ true)
moved_past true None h = cc
moved_past true (Some past) h = (past, refl, h)
moved_past false p h = cc

-- and nobody moves
pub still : (setting : Setting) (history : List Event) → AreGuarded setting → IsSteady setting history → (d : ℕ)
    → IsTrue (stays setting (chronicle setting history) d)
still setting history fair clean d =
    implies (is_beginning setting (chronicle setting history)) (moved (chronicle setting history) d)
    (λ begins put.
    let past = moved_past (is_up (seen_of (chronicle setting history)) d) (past_in (chronicle setting history) d) put in
    not_late setting (chronicle setting history) begins (moved_late setting fair history (timely_of setting history fair clean) d past.0 past.1 past.2))

-- and then each member of the first plan was started, or has failed

untouched_before : (m f was ever : Bool) → (not (m || was) && not (f || ever)) ≡ true → (not was && not ever) ≡ true
untouched_before false false was ever h = h
untouched_before true f was ever h = cc
untouched_before false true false ever h = cc
untouched_before false true true ever h = cc

pub touched : (setting : Setting) (history : List Event) → Timely setting history → (d : ℕ) → d < length setting.net.devices
    → is_member (plan_numbered setting 1) d ≡ true → Late setting (seen_of (chronicle setting history))
    → is_untouched (seen_of (chronicle setting history)) d ≡ false
touched setting [] t d known member late = absurd (omega (arith, late))
touched setting (e ∷ history) t d known member late =
    false_from_ne_true (is_untouched (seen_of (chronicle setting (e ∷ history))) d)
    (λ untouched. both_ways (is_untouched (seen_of (chronicle setting history)) d)
    (in_time (is_untouched (seen_of (chronicle setting history)) d) (nat_le (reference_of e) starts)
    (starts_in_time setting s (seen_of (chronicle setting history)) d known member (and_parts _ _ t.ticks).1) (lt-leb (reference_of e) starts late))
    (untouched_before (makes d e) (fails (thing.Device d) e) (was_made (seen_of (chronicle setting history)) d)
    (has_ever_failed (seen_of (chronicle setting history)) d) untouched))
  where
    s : Seen
    s = (next_step setting (chronicle setting history) e).seen

    starts : ℕ
    starts = first_reference (seen_of (chronicle setting history)) s + setting.net.params.tick

    in_time : (u n : Bool) → (not u || n) ≡ true → n ≡ false → u ≡ false
    in_time false n h k = refl
    in_time true n h k = absurd (both_ways n k h)
