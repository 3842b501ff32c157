-- Not early, and emissions apart: a move, a takeover and an emission come no sooner than Low of the wait or the period after the reference that they
-- count from. From timer low, since what they count from is a reading.
use Rattle.std.specs.Prelude.{◌≡◌, ℕ, ◌-◌, ◌≤◌, Bool, true, false, ◌&&◌, not, List, max, nat_le, Option, Some, None, option_and_then, refl, if◌then◌else◌}
use Rattle.std.proofs.Common.{arith, ◌∙◌, ap, subst}
use Rattle.std.proofs.lemmas.Bool.{and_parts, leb-true, eq-eqb}
use Rattle.sd_num.specs.Lists.{map_or}
use Rattle.sd_num.specs.Numbers.{low}
use Rattle.sd_plan.specs.topo.Network.{rates_of}
use Rattle.sd_plan.specs.declared.Duty.{Duty}
use Rattle.sd_plan.specs.declared.Edge.{Edge}
use Rattle.sd_device.specs.Calls.{Tick, Transition, Entered, Committed, Recommitted, Accepted, Moved, TookOver, Emitted, Nothing, Past}
use Rattle.sd_device.specs.Words.{duty_now, heard, moved_at, sent_at, has_moved, is_acting, is_sealed, may_move, wait_to_move, emits, emits_at, takes_over_at, moves_at, is_backup_root_now, is_move, accepted_over, counter_of as counter_of_call}
use Rattle.sd_sched.specs.Events.{reference_of}
use Rattle.sd_history.specs.World.{Setting}
use Rattle.sd_history.specs.Steps.{Calls, Step, seen_of}
use Rattle.sd_history.specs.Chronicle.{past_in}
use Rattle.sd_history.specs.Premises.{readings}
use Rattle.sd_history.proofs.Among.{Among}
use Rattle.sd_safety.specs.timers.Times.{IsTimed, AreTimed, counter_at, makes_device, hears, moves, heard_in, moved_in, sent_in}
use Rattle.sd_safety.proofs.timers.Spans.{timer_low}
use Rattle.sd_safety.proofs.timers.Readings.{Keeps}
use Rattle.sd_safety.proofs.timers.Marks.{TellsCounters, mark_is_reading, act_keeps}
use Rattle.sd_safety.proofs.timers.Pasts.{takeover_from_backup, moved_counter}

-- What is counted from is a reading.

hears_counters : TellsCounters hears
hears_counters x c same = go (accepted_over x.transition) same
  where
    go : (o : Option Edge) → option_and_then (λ edge. counter_of_call x.call) o ≡ Some c → counter_of_call x.call ≡ Some c
    go None same' = cc
    go (Some edge) same' = same'

moves_counters : TellsCounters moves
moves_counters x c same = go (is_move x.transition) same
  where
    go : (b : Bool) → (if b then counter_of_call x.call else None) ≡ Some c → counter_of_call x.call ≡ Some c
    go true same' = same'
    go false same' = cc

emits_counters : TellsCounters emits
emits_counters x c same = go x.transition same
  where
    go : (transition : Transition) → emits (record { call = x.call; transition = transition }) ≡ Some c → counter_of_call x.call ≡ Some c
    go (Committed duty) same' = same'
    go TookOver same' = same'
    go Emitted same' = same'
    go (Entered duty edge) same' = cc
    go (Recommitted duty) same' = cc
    go (Accepted edge) same' = cc
    go Moved same' = cc
    go Nothing same' = cc

pub heard_is_reading : (setting : Setting) (steps : List Step) → AreTimed setting steps → (d : ℕ) (past : Past) → past_in steps d ≡ Some past
    → Among {A = ℕ × ℕ} (heard_in steps d, heard past) (readings (seen_of steps) d)
heard_is_reading setting steps timed d past is = mark_is_reading hears hears_counters setting steps timed d past is

pub sent_is_reading : (setting : Setting) (steps : List Step) → AreTimed setting steps → (d : ℕ) (past : Past) → past_in steps d ≡ Some past
    → Among {A = ℕ × ℕ} (sent_in steps d, sent_at past) (readings (seen_of steps) d)
sent_is_reading setting steps timed d past is = mark_is_reading emits emits_counters setting steps timed d past is

pub move_is_reading : (setting : Setting) (steps : List Step) → AreTimed setting steps → (d : ℕ) (past : Past) → past_in steps d ≡ Some past
    → has_moved past ≡ true
    → Among {A = ℕ × ℕ} (moved_in steps d, moved_at past) (readings (seen_of steps) d)
move_is_reading setting steps timed d past is moved =
    subst (λ c. Among {A = ℕ × ℕ} (moved_in steps d, c) (readings (seen_of steps) d)) (moved_counter steps d past is moved)
    (mark_is_reading moves moves_counters setting steps timed d past is)

-- A call of the device at this step reads its counter.

pub record IsTick (setting : Setting) (s : Step) (earlier : List Step) (d c : ℕ) (past : Past) : Type 0 where
  pub before : AreTimed setting earlier
  pub now : IsTimed setting s earlier
  pub act : s.act ≡ Calls d (Tick c)
  pub there : past_in earlier d ≡ Some past

-- the tick's counter keeps the rates with each reading before it
pub tick_keeps : (setting : Setting) (s : Step) (earlier : List Step) (d c : ℕ) (past : Past) → IsTick setting s earlier d c past → (x : ℕ × ℕ)
    → Among x (readings (seen_of earlier) d)
    → Keeps (rates_of setting.net d) (reference_of s.seen.event, c) x
tick_keeps setting s earlier d c past tick x a =
    act_keeps setting s earlier d c x tick.now
    (ap (λ act. counter_at act d) tick.act ∙ ap (λ b. if b then Some c else None) (eq-eqb d d refl))
    (ap (λ act. makes_device act d) tick.act) a

-- What a tick shows.

pub record Waited (past : Past) (c : ℕ) (duty : Duty) (wait : ℕ) : Type 0 where
  pub has : duty_now past ≡ Some duty
  pub waits : wait_to_move duty ≡ Some wait
  pub long : wait ≤ c - heard past

pub last_of_four : (a b c d : Bool) → (a && b && c && d) ≡ true → d ≡ true
last_of_four true true true d h = h
last_of_four true true false d h = cc
last_of_four true false c d h = cc
last_of_four false b c d h = cc

-- who moves waited
pub move_waited : (past : Past) (c : ℕ) → moves_at past c ≡ true → (duty : Duty) × (wait : ℕ) × Waited past c duty wait
move_waited past c moves' =
    go (duty_now past) refl
    (last_of_four (may_move past) (not (has_moved past)) (is_sealed past)
    (map_or (option_and_then wait_to_move (duty_now past)) false (λ wait. nat_le wait (c - heard past))) moves')
  where
    of_wait : (duty : Duty) (o : Option ℕ) → duty_now past ≡ Some duty → wait_to_move duty ≡ o → map_or o false (λ wait. nat_le wait (c - heard past)) ≡ true
        → (duty : Duty) × (wait : ℕ) × Waited past c duty wait
    of_wait duty None has waits h = cc
    of_wait duty (Some wait) has waits h = (duty, wait, record { has = has; waits = waits; long = leb-true wait (c - heard past) h })

    go : (u : Option Duty) → duty_now past ≡ u → map_or (option_and_then wait_to_move u) false (λ wait. nat_le wait (c - heard past)) ≡ true
        → (duty : Duty) × (wait : ℕ) × Waited past c duty wait
    go None has h = cc
    go (Some duty) has h = of_wait duty (wait_to_move duty) has refl h

of_duty : (u : Option Duty) (duty : Duty) (test : Duty → Bool) → u ≡ Some duty → map_or u false test ≡ true → test duty ≡ true
of_duty u duty test has h = subst (λ o. map_or o false test ≡ true) has h

takeover_waited : (past : Past) (c : ℕ) (duty : Duty) → duty_now past ≡ Some duty → takes_over_at past c ≡ true
    → duty.wait_second ≤ c - max (heard past) (moved_at past)
takeover_waited past c duty has takes =
    leb-true duty.wait_second (c - max (heard past) (moved_at past))
    (of_duty (duty_now past) duty (λ u. nat_le u.wait_second (c - max (heard past) (moved_at past))) has
    (last_of_four (is_backup_root_now past) (has_moved past) (not (is_acting past))
    (map_or (duty_now past) false (λ u. nat_le u.wait_second (c - max (heard past) (moved_at past)))) takes))

emission_waited : (past : Past) (c : ℕ) (duty : Duty) → duty_now past ≡ Some duty → emits_at past c ≡ true → duty.period ≤ c - sent_at past
emission_waited past c duty has sends =
    leb-true duty.period (c - sent_at past)
    (of_duty (duty_now past) duty (λ u. nat_le u.period (c - sent_at past)) has
    ((and_parts (is_acting past) (map_or (duty_now past) false (λ u. nat_le u.period (c - sent_at past))) sends).1))

-- Not early

module _ (setting : Setting) (s : Step) (earlier : List Step) (d c : ℕ) (past : Past) (ppm : (rates_of setting.net d).ppm ≤ 1000000)
    (tick : IsTick setting s earlier d c past) where
  low_since : (x : ℕ) (r' c' : ℕ) → Among {A = ℕ × ℕ} (r', c') (readings (seen_of earlier) d) → x ≤ c - c'
      → low (rates_of setting.net d) x ≤ reference_of s.seen.event - r'
  low_since x r' c' a le =
      timer_low (rates_of setting.net d) x (c - c') (reference_of s.seen.event - r') ppm (tick_keeps setting s earlier d c past tick (r', c') a) le

  -- at a move the silence is at least Low of the wait
  pub move_not_early : (duty : Duty) (wait : ℕ) → Waited past c duty wait → low (rates_of setting.net d) wait ≤ reference_of s.seen.event - heard_in earlier d
  move_not_early duty wait w = low_since wait (heard_in earlier d) (heard past) (heard_is_reading setting earlier tick.before d past tick.there) w.long

  -- at a takeover the rest is at least Low of the second wait
  pub takeover_not_early : (duty : Duty) → duty_now past ≡ Some duty → takes_over_at past c ≡ true
      → low (rates_of setting.net d) duty.wait_second ≤ reference_of s.seen.event - max (heard_in earlier d) (moved_in earlier d)
  takeover_not_early duty has takes =
      let long : duty.wait_second ≤ c - max (heard past) (moved_at past) = takeover_waited past c duty has takes in
      let first : low (rates_of setting.net d) duty.wait_second ≤ reference_of s.seen.event - heard_in earlier d =
      low_since duty.wait_second (heard_in earlier d) (heard past) (heard_is_reading setting earlier tick.before d past tick.there) (omega (arith, long)) in
      let second : low (rates_of setting.net d) duty.wait_second ≤ reference_of s.seen.event - moved_in earlier d =
      low_since duty.wait_second (moved_in earlier d) (moved_at past)
      (move_is_reading setting earlier tick.before d past tick.there (takeover_from_backup past c takes).moved) (omega (arith, long)) in
      later_of (low (rates_of setting.net d) duty.wait_second) (reference_of s.seen.event) (heard_in earlier d) (moved_in earlier d) first second
    where
      later_of : (l r h m : ℕ) → l ≤ r - h → l ≤ r - m → l ≤ r - max h m
      later_of l r h m a b = omega (arith, a, b)

  -- an emission comes at least Low of the period after the one before, or after it began to act
  pub emission_not_early : (duty : Duty) → duty_now past ≡ Some duty → emits_at past c ≡ true
      → low (rates_of setting.net d) duty.period ≤ reference_of s.seen.event - sent_in earlier d
  emission_not_early duty has sends =
      low_since duty.period (sent_in earlier d) (sent_at past) (sent_is_reading setting earlier tick.before d past tick.there)
      (emission_waited past c duty has sends)
