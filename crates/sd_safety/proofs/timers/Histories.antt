-- The laws of timers for every history of which the drift and tick premises hold, with the network's Low and Up, and the greatest gap between two rounds.
-- Each is the law over steps, at the event that is the newest.
use Rattle.std.specs.Prelude.{◌≡◌, ℕ, ◌+◌, ◌-◌, ◌<◌, ◌≤◌, true, false, List, ◌∷◌, length, max, Some, refl}
use Rattle.std.proofs.Common.{arith, sym, ◌∙◌, ap, subst}
use Rattle.std.proofs.lemmas.Bool.{and_parts}
use Rattle.sd_num.specs.Numbers.{low, up}
use Rattle.sd_plan.specs.topo.Network.{rates_of, least_low, greatest_up}
use Rattle.sd_plan.specs.topo.Limits.{IsNetwork}
use Rattle.sd_plan.specs.declared.Duty.{Duty}
use Rattle.sd_checker.specs.check_root.Timing.{round_gap}
use Rattle.sd_device.specs.Calls.{Past}
use Rattle.sd_device.specs.Words.{duty_now, has_moved, is_acting, is_backup_root_now, wait_to_move, takes_over_at, moves_at}
use Rattle.sd_sched.specs.declared.Event.{Event}
use Rattle.sd_sched.specs.declared.Event.TheVariants as event
use Rattle.sd_sched.specs.Events.{reference_of}
use Rattle.sd_history.specs.World.{Setting, is_up}
use Rattle.sd_history.specs.Steps.{seen_of}
use Rattle.sd_history.specs.Chronicle.{past_in, chronicle, next_step}
use Rattle.sd_history.specs.Admitted.{IsAdmitted}
use Rattle.sd_history.specs.Premises.{drift_holds, tick_holds, is_current_member}
use Rattle.sd_safety.specs.invariant.Guarded.{all_but_start_hold}
use Rattle.sd_safety.specs.timers.Times.{AreTimed, heard_in, moved_in, sent_in, sealed_in}
use Rattle.sd_safety.specs.timers.Dues.{AtEvent}
use Rattle.sd_safety.proofs.timers.NetworkBounds.{least_is_low, up_is_within, rate_is_low}
use Rattle.sd_safety.proofs.timers.Fitting.{history_is_timed}
use Rattle.sd_safety.proofs.timers.NotEarly.{IsTick, move_waited, move_not_early, takeover_not_early}
use Rattle.sd_safety.proofs.timers.Deadlines.{primary_deadline, rested_at_most, sent_lately}
use Rattle.sd_history.proofs.Known.{admitted_up_is_known, admitted_named_is_known}
use Rattle.sd_history.proofs.Given.{some_is}
use Rattle.sd_safety.proofs.invariant.Parts.{premises_of}

-- what the laws need of the premises
pub record Timely (setting : Setting) (history : List Event) : Type 0 where
  pub network : IsNetwork setting.net
  pub is : IsAdmitted setting history
  pub drift : drift_holds setting (seen_of (chronicle setting history)) ≡ true
  pub ticks : tick_holds setting (seen_of (chronicle setting history)) ≡ true

-- where all premises but start hold, these do
pub timely : (setting : Setting) (history : List Event) → IsNetwork setting.net → IsAdmitted setting history
    → all_but_start_hold setting (seen_of (chronicle setting history)) ≡ true → Timely setting history
timely setting history network is hold =
    let premises = premises_of setting (seen_of (chronicle setting history)) hold in
    record { network = network; is = is; drift = premises.drift; ticks = premises.tick }

pub timed : (setting : Setting) (history : List Event) → Timely setting history → AreTimed setting (chronicle setting history)
timed setting history t = history_is_timed setting history t.is t.drift

-- so they do of the history before
pub before : (setting : Setting) (e : Event) (earlier : List Event) → Timely setting (e ∷ earlier) → Timely setting earlier
before setting e earlier t = record { network = t.network; is = t.is.0; drift = (and_parts _ _ t.drift).0; ticks = (and_parts _ _ t.ticks).0 }

-- a device that is up and a current member, at the newest event
pub at_event : (setting : Setting) (e : Event) (earlier : List Event) (d : ℕ) → Timely setting (e ∷ earlier)
    → is_up (seen_of (chronicle setting earlier)) d ≡ true → is_current_member setting (seen_of (chronicle setting earlier)) d ≡ true
    → AtEvent setting (next_step setting (chronicle setting earlier) e).seen (chronicle setting earlier) d
at_event setting e earlier d t is_up_ member =
    record {
      timed = timed setting earlier (before setting e earlier t);
      ticks = (and_parts _ _ t.ticks).1;
      known = admitted_up_is_known setting earlier t.is.0 d is_up_;
      up = is_up_;
      member = member;
    }

-- Deadlines, with the state before the newest event

module _ (setting : Setting) (e : Event) (earlier : List Event) (d : ℕ) (past : Past) (t : Timely setting (e ∷ earlier))
    (live : is_up (seen_of (chronicle setting earlier)) d ≡ true)
    (member : is_current_member setting (seen_of (chronicle setting earlier)) d ≡ true) (is : past_in (chronicle setting earlier) d ≡ Some past) where
  -- on its primary, and sealed before the wait was over: silent for no longer than Up of the wait and a gap
  pub silence_ends : (duty : Duty) (wait q : ℕ) → duty_now past ≡ Some duty → wait_to_move duty ≡ Some wait → has_moved past ≡ false → is_acting past ≡ false
      → sealed_in (chronicle setting earlier) d ≡ Some q
      → q ≤ heard_in (chronicle setting earlier) d + greatest_up setting.net wait
      → reference_of e ≤ heard_in (chronicle setting earlier) d + greatest_up setting.net wait + setting.net.params.tick
  silence_ends duty wait q has waits still acts seal by =
      let at : AtEvent setting (next_step setting (chronicle setting earlier) e).seen (chronicle setting earlier) d =
      at_event setting e earlier d t live member in
      let line : reference_of e ≤ max (heard_in (chronicle setting earlier) d + up (rates_of setting.net d) wait) q + setting.net.params.tick =
      primary_deadline setting (next_step setting (chronicle setting earlier) e).seen
      (chronicle setting earlier) d past at is duty wait q has waits still acts seal in
      let own : up (rates_of setting.net d) wait ≤ greatest_up setting.net wait = up_is_within setting.net d wait at.known in
      omega (arith, line, own, by)

  -- the backup root on its backup: it rested for no longer than Up of the second wait and a gap
  pub rest_ends : (duty : Duty) → duty_now past ≡ Some duty → is_backup_root_now past ≡ true → has_moved past ≡ true → is_acting past ≡ false
      → reference_of e ≤ max (heard_in (chronicle setting earlier) d)
      (moved_in (chronicle setting earlier) d) + greatest_up setting.net duty.wait_second + setting.net.params.tick
  rest_ends duty has backup moved acts =
      let at : AtEvent setting (next_step setting (chronicle setting earlier) e).seen (chronicle setting earlier) d =
      at_event setting e earlier d t live member in
      let line : reference_of e ≤ max (heard_in (chronicle setting earlier) d) (moved_in (chronicle setting earlier) d) + up
      (rates_of setting.net d) duty.wait_second + setting.net.params.tick =
      rested_at_most setting (next_step setting (chronicle setting earlier) e).seen (chronicle setting earlier) d past at is duty has backup moved acts in
      let own : up (rates_of setting.net d) duty.wait_second ≤ greatest_up setting.net duty.wait_second =
      up_is_within setting.net d duty.wait_second at.known in
      omega (arith, line, own)

  -- who acts sent, or began to act, at most a round's gap ago
  pub sends_soon : is_acting past ≡ true → reference_of e ≤ sent_in (chronicle setting earlier) d + round_gap setting.net
  sends_soon acts =
      let at : AtEvent setting (next_step setting (chronicle setting earlier) e).seen (chronicle setting earlier) d =
      at_event setting e earlier d t live member in
      let line : reference_of e ≤ sent_in (chronicle setting earlier) d + up (rates_of setting.net d) setting.net.params.period + setting.net.params.tick =
      sent_lately setting (next_step setting (chronicle setting earlier) e).seen (chronicle setting earlier) d past at is acts in
      let own : up (rates_of setting.net d) setting.net.params.period ≤ greatest_up setting.net setting.net.params.period =
      up_is_within setting.net d setting.net.params.period at.known in
      omega (arith, line, own)

-- Not early, where the newest event is a tick

module _ (setting : Setting) (r d c : ℕ) (earlier : List Event) (past : Past) (t : Timely setting (event.Tick r d c ∷ earlier))
    (is : past_in (chronicle setting earlier) d ≡ Some past) where
  the_tick : IsTick setting (next_step setting (chronicle setting earlier) (event.Tick r d c)) (chronicle setting earlier) d c past
  the_tick = let all = timed setting (event.Tick r d c ∷ earlier) t in record { before = all.0; now = all.1; act = refl; there = is }

  ppm : (rates_of setting.net d).ppm ≤ 1000000
  ppm = rate_is_low setting.net d t.network

  known : d < length setting.net.devices
  known = admitted_named_is_known setting (chronicle setting earlier) (event.Tick r d c) d t.is.1 refl

  pub move_waits : (duty : Duty) (wait : ℕ) → duty_now past ≡ Some duty → wait_to_move duty ≡ Some wait → moves_at past c ≡ true
      → least_low setting.net wait ≤ r - heard_in (chronicle setting earlier) d
  move_waits duty wait has waits goes =
      let w = move_waited past c goes in
      let same : w.0 ≡ duty = some_is (sym w.2.has ∙ has) in
      let wait_is : w.1 ≡ wait = some_is (sym w.2.waits ∙ ap wait_to_move same ∙ waits) in
      let low_ : low (rates_of setting.net d) w.1 ≤ r - heard_in (chronicle setting earlier) d =
      move_not_early setting (next_step setting (chronicle setting earlier) (event.Tick r d c))
      (chronicle setting earlier) d c past ppm the_tick w.0 w.1 w.2 in
      let least : least_low setting.net w.1 ≤ low (rates_of setting.net d) w.1 = least_is_low setting.net d w.1 known in
      subst (λ n. least_low setting.net n ≤ r - heard_in (chronicle setting earlier) d) wait_is (omega (arith, low_, least))

  pub takeover_waits : (duty : Duty) → duty_now past ≡ Some duty → takes_over_at past c ≡ true
      → least_low setting.net duty.wait_second ≤ r - max (heard_in (chronicle setting earlier) d) (moved_in (chronicle setting earlier) d)
  takeover_waits duty has takes =
      let low_ : low (rates_of setting.net d) duty.wait_second ≤ r - max (heard_in (chronicle setting earlier) d) (moved_in (chronicle setting earlier) d) =
      takeover_not_early setting (next_step setting (chronicle setting earlier) (event.Tick r d c))
      (chronicle setting earlier) d c past ppm the_tick duty has takes in
      let least : least_low setting.net duty.wait_second ≤ low (rates_of setting.net d) duty.wait_second = least_is_low setting.net d duty.wait_second known in
      omega (arith, low_, least)
