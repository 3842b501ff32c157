-- Deadlines: at each event a device on its primary, the backup root on its backup and a device that acts have waited for no longer than Up of their
-- wait or period and one tick gap. From what the latest tick says of the waits, by induction on the steps, and the tick premise at the event.
use Rattle.std.specs.Prelude.{◌≡◌, ℕ, ◌+◌, ◌≤◌, Bool, true, false, ◌&&◌, ◌||◌, not, List, [], ◌∷◌, length, max, nat_eq, nat_le, Option, Some, None, option_map, refl, if◌then◌else◌}
use Rattle.std.proofs.Common.{arith, sym, ◌∙◌, ap, subst}
use Rattle.std.proofs.lemmas.Bool.{and_parts, leb-true, eqb-true}
use Rattle.sd_num.specs.Lists.{map_or, same_number}
use Rattle.sd_num.specs.Numbers.{up}
use Rattle.sd_num.specs.declared.Rates.{Rates}
use Rattle.sd_plan.specs.topo.Network.{rates_of}
use Rattle.sd_plan.specs.declared.Duty.{Duty}
use Rattle.sd_device.specs.Calls.{Making, Call, Tick, Past}
use Rattle.sd_device.specs.Words.{after, duty_now, heard, moved_at, sent_at, emits, has_moved, is_acting, is_backup_root_now, wait_to_move}
use Rattle.sd_sched.specs.Events.{reference_of, ticked}
use Rattle.sd_history.specs.World.{Setting, Seen, makes, is_up, latest_reference}
use Rattle.sd_history.specs.Steps.{Act, Makes, Calls, Asks, Passes, Step, seen_of}
use Rattle.sd_history.specs.Chronicle.{past_in, past_after, new_past}
use Rattle.sd_history.specs.Premises.{latest_tick, is_current_member}
use Rattle.sd_history.proofs.Among.{passes}
use Rattle.sd_history.proofs.Given.{some_is}
use Rattle.sd_history.proofs.Shared.{among_below}
use Rattle.sd_safety.specs.timers.Times.{IsTimed, AreTimed, did_by, hears, moves, is_tick, ticks_device, makes_device, reference_after, seal_after, seal_with, heard_in, moved_in, sent_in, sealed_in}
use Rattle.sd_safety.specs.timers.Dues.{Times, Due, times_with, times_made, times_in, AtEvent}
use Rattle.sd_safety.proofs.timers.NotEarly.{IsTick, tick_keeps, heard_is_reading, move_is_reading, sent_is_reading}
use Rattle.sd_safety.proofs.timers.Onward.{KeepsAll, due_made, due_after}
use Rattle.sd_safety.proofs.timers.Pasts.{acting_has_duty}
use Rattle.sd_safety.proofs.timers.Periods.{periods_in, tick_within}

-- the times after an act
abbrev after_times : ℕ → Act → ℕ → Option Past → Times → Times
after_times r act d p t =
    record {
      tick = map_or (if ticks_device act d || makes_device act d then Some r else None) t.tick (λ x. x);
      heard = reference_after hears r act d p t.heard;
      moved = reference_after moves r act d p t.moved;
      sent = reference_after emits r act d p t.sent;
      seal = seal_after r act d p t.seal;
    }

times_are : (setting : Setting) (s : Step) (earlier : List Step) (d : ℕ) → IsTimed setting s earlier
    → after_times (reference_of s.seen.event) s.act d (past_in earlier d) (times_in earlier d) ≡ times_in (s ∷ earlier) d
times_are setting s earlier d timed =
    ap (λ b.
    record {
      tick = map_or (if b then Some (reference_of s.seen.event) else None) (latest_tick (seen_of earlier) d) (λ x. x);
      heard = heard_in (s ∷ earlier) d;
      moved = moved_in (s ∷ earlier) d;
      sent = sent_in (s ∷ earlier) d;
      seal = sealed_in (s ∷ earlier) d;
    }) (sym flags)
  where
    flags : (same_number (ticked s.seen.event) d || makes d s.seen.event) ≡ (ticks_device s.act d || makes_device s.act d)
    flags = rw (timed.fits.ticks_it d, timed.fits.makes_it d) refl

tick_is : (b : Bool) (r x : ℕ) → (if b then r else x) ≡ map_or (if b || false then Some r else None) x (λ y. y)
tick_is true r x = refl
tick_is false r x = refl

module _ (rates : Rates) (period : ℕ) (r d : ℕ) (t : Times) (p : Option Past) (old : (past : Past) → p ≡ Some past → Due rates period past t) where
  made : (making : Making) (b : Bool) (past : Past) → (if b then Some (new_past making) else p) ≡ Some past
      → Due rates period past
      (record {
        tick = map_or (if false || b then Some r else None) t.tick (λ x. x);
        heard = if b then r else t.heard;
        moved = if b then r else t.moved;
        sent = if b then r else t.sent;
        seal = if b then Some r else t.seal;
      })
  made making true past same = subst (λ q. Due rates period q (times_made r)) (some_is same) (due_made rates period making r)
  made making false past same = old past same

  called : (call : Call) (q : Option Past) (b : Bool) (past : Past) → p ≡ q → (if b then option_map (λ x. after x call) q else q) ≡ Some past
      → (b ≡ true → (x : Past) → q ≡ Some x → Due rates period (after x call) (times_with r (did_by x call) t))
      → Due rates period past
      (record {
        tick = map_or (if (b && is_tick call) || false then Some r else None) t.tick (λ x. x);
        heard = if b then map_or q t.heard (λ x. map_or (hears (did_by x call)) t.heard (λ c. r)) else t.heard;
        moved = if b then map_or q t.moved (λ x. map_or (moves (did_by x call)) t.moved (λ c. r)) else t.moved;
        sent = if b then map_or q t.sent (λ x. map_or (emits (did_by x call)) t.sent (λ c. r)) else t.sent;
        seal = if b then map_or q t.seal (λ x. seal_with r (did_by x call) t.seal) else t.seal;
      })
  called call None true past is same next = cc
  called call (Some x) true past is same next =
      subst (λ y.
      Due rates period y
      (record {
        tick = map_or (if is_tick call || false then Some r else None) t.tick (λ z. z);
        heard = map_or (hears (did_by x call)) t.heard (λ c. r);
        moved = map_or (moves (did_by x call)) t.moved (λ c. r);
        sent = map_or (emits (did_by x call)) t.sent (λ c. r);
        seal = seal_with r (did_by x call) t.seal;
      })) (some_is same)
      (subst (λ n.
      Due rates period (after x call)
      (record {
        tick = n;
        heard = map_or (hears (did_by x call)) t.heard (λ c. r);
        moved = map_or (moves (did_by x call)) t.moved (λ c. r);
        sent = map_or (emits (did_by x call)) t.sent (λ c. r);
        seal = seal_with r (did_by x call) t.seal;
      })) (tick_is (is_tick call) r t.tick) (next refl x refl))
  called call q false past is same next = old past (is ∙ same)

  by_act : (act : Act) (past : Past) → past_after act d p ≡ Some past
      → ((call : Call) → act ≡ Calls d call → (x : Past) → p ≡ Some x → Due rates period (after x call) (times_with r (did_by x call) t))
      → Due rates period past (after_times r act d p t)
  by_act (Makes m making) past same next = made making (nat_eq m d) past same
  by_act (Calls m call) past same next = called call p (nat_eq m d) past refl same (λ e x is. next call (ap (λ n. Calls n call) (eqb-true m d e)) x is)
  by_act (Asks m counter) past same next = old past same
  by_act Passes past same next = old past same

-- what the latest tick says of each device
pub due_in : (setting : Setting) (steps : List Step) → AreTimed setting steps → (d : ℕ) (past : Past) → past_in steps d ≡ Some past
    → Due (rates_of setting.net d) setting.net.params.period past (times_in steps d)
due_in setting [] timed d past is = cc
due_in setting (s ∷ earlier) timed d past is =
    subst (Due (rates_of setting.net d) setting.net.params.period past) (times_are setting s earlier d timed.1)
    (by_act (rates_of setting.net d) setting.net.params.period (reference_of s.seen.event) d (times_in earlier d) (past_in earlier d)
    (due_in setting earlier timed.0 d) s.act past is
    (λ call act x there.
    due_after (rates_of setting.net d) setting.net.params.period x (reference_of s.seen.event) (times_in earlier d) (due_in setting earlier timed.0 d x there)
    (before (tick_within setting earlier timed.0 d) timed.1.goes_on)
    (acting_has_duty earlier d x there) (λ duty has. (periods_in setting earlier timed.0 d x there).duty duty has) call
    (λ c ticks. keeps x there c (act ∙ ap (Calls d) ticks))))
  where
    before : latest_tick (seen_of earlier) d ≤ latest_reference (seen_of earlier) → latest_reference (seen_of earlier) ≤ reference_of s.seen.event
        → latest_tick (seen_of earlier) d ≤ reference_of s.seen.event
    before a b = omega (arith, a, b)

    keeps : (x : Past) → past_in earlier d ≡ Some x → (c : ℕ) → s.act ≡ Calls d (Tick c)
        → KeepsAll (rates_of setting.net d) x (reference_of s.seen.event) (times_in earlier d) c
    keeps x there c act =
        let tick : IsTick setting s earlier d c x = record { before = timed.0; now = timed.1; act = act; there = there } in
        record {
          heard = tick_keeps setting s earlier d c x tick (heard_in earlier d, heard x) (heard_is_reading setting earlier timed.0 d x there);
          moved = λ moved. tick_keeps setting s earlier d c x tick (moved_in earlier d, moved_at x) (move_is_reading setting earlier timed.0 d x there moved);
          sent = tick_keeps setting s earlier d c x tick (sent_in earlier d, sent_at x) (sent_is_reading setting earlier timed.0 d x there);
        }

-- The tick premise at an event

-- its latest tick, start or join is at most one gap ago
pub ticked_lately : (setting : Setting) (s : Seen) (earlier : List Step) (d : ℕ) → AtEvent setting s earlier d
    → reference_of s.event ≤ latest_tick (seen_of earlier) d + setting.net.params.tick
ticked_lately setting s earlier d at =
    leb-true (reference_of s.event) (latest_tick (seen_of earlier) d + setting.net.params.tick)
    (in_time (is_up (seen_of earlier) d) (is_current_member setting (seen_of earlier) d) _ at.up at.member
    (passes (λ e. not (is_up (seen_of earlier) e && is_current_member setting (seen_of earlier) e)
    || nat_le (reference_of s.event) (latest_tick (seen_of earlier) e + setting.net.params.tick))
    (among_below (length setting.net.devices) d at.known) ((and_parts _ _ at.ticks).0)))
  where
    in_time : (u m x : Bool) → u ≡ true → m ≡ true → (not (u && m) || x) ≡ true → x ≡ true
    in_time true true x a b h = h
    in_time true false x a b h = cc
    in_time false m x a b h = cc

module _ (setting : Setting) (s : Seen) (earlier : List Step) (d : ℕ) (past : Past) (at : AtEvent setting s earlier d)
    (is : past_in earlier d ≡ Some past) where
  -- on its primary
  pub primary_deadline : (duty : Duty) (wait q : ℕ) → duty_now past ≡ Some duty → wait_to_move duty ≡ Some wait → has_moved past ≡ false
      → is_acting past ≡ false → sealed_in earlier d ≡ Some q
      → reference_of s.event ≤ max (heard_in earlier d + up (rates_of setting.net d) wait) q + setting.net.params.tick
  primary_deadline duty wait q has waits still acts seal =
      let due : latest_tick (seen_of earlier) d ≤ max (heard_in earlier d + up (rates_of setting.net d) wait) q =
      (due_in setting earlier at.timed d past is).primary duty wait q has waits still acts seal in
      let gap : reference_of s.event ≤ latest_tick (seen_of earlier) d + setting.net.params.tick = ticked_lately setting s earlier d at in
      omega (arith, due, gap)

  -- the backup root on its backup
  pub rested_at_most : (duty : Duty) → duty_now past ≡ Some duty → is_backup_root_now past ≡ true → has_moved past ≡ true → is_acting past ≡ false
      → reference_of s.event ≤ max (heard_in earlier d) (moved_in earlier d) + up (rates_of setting.net d) duty.wait_second + setting.net.params.tick
  rested_at_most duty has backup moved acts =
      let due : latest_tick (seen_of earlier) d ≤ max (heard_in earlier d) (moved_in earlier d) + up (rates_of setting.net d) duty.wait_second =
      (due_in setting earlier at.timed d past is).backup duty has backup moved acts in
      let gap : reference_of s.event ≤ latest_tick (seen_of earlier) d + setting.net.params.tick = ticked_lately setting s earlier d at in
      omega (arith, due, gap)

  -- who acts sent, or began to act
  pub sent_lately : is_acting past ≡ true
      → reference_of s.event ≤ sent_in earlier d + up (rates_of setting.net d) setting.net.params.period + setting.net.params.tick
  sent_lately acts =
      let due : latest_tick (seen_of earlier) d ≤ sent_in earlier d + up (rates_of setting.net d) setting.net.params.period =
      (due_in setting earlier at.timed d past is).acting acts in
      let gap : reference_of s.event ≤ latest_tick (seen_of earlier) d + setting.net.params.tick = ticked_lately setting s earlier d at in
      omega (arith, due, gap)
