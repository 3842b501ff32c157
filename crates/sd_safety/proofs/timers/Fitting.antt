-- In a history of honest clocks each step has its own act, is not earlier than those before it, and reads honestly. By the sixteen kinds of event.
use Rattle.std.specs.Prelude.{◌≡◌, ℕ, Bool, true, false, List, [], ◌∷◌, nat_eq, Option, Some, None, refl, if◌then◌else◌}
use Rattle.std.proofs.Common.{ap, sym}
use Rattle.std.proofs.lemmas.Bool.{and_parts}
use Rattle.sd_num.specs.Lists.{map_or, same_number}
use Rattle.sd_plan.specs.declared.Plan.{Plan}
use Rattle.sd_plan.specs.declared.Duty.{Duty}
use Rattle.sd_plan.specs.Duties.{duty_of}
use Rattle.sd_plan.proofs.Forest.{or_none}
use Rattle.sd_num.proofs.Shared.{and_false, and_true}
use Rattle.sd_device.specs.declared.msg.Flight.{Flight}
use Rattle.sd_device.specs.Calls as calls
use Rattle.sd_device.specs.Words.{counter_of as counter_of_call}
use Rattle.sd_sched.specs.declared.Event.{Event}
use Rattle.sd_sched.specs.declared.Event.TheVariants as event
use Rattle.sd_sched.specs.Events.{device_of, counter_of, ticked}
use Rattle.sd_history.specs.World.{Setting, makes, staged, staged_epoch, in_force, epoch_in_force}
use Rattle.sd_history.specs.Steps.{Act, Calls, Passes, Step, seen_of, act_by, flight_numbered}
use Rattle.sd_history.specs.Chronicle.{chronicle, next_step}
use Rattle.sd_history.specs.Admitted.{IsAdmitted}
use Rattle.sd_history.specs.Premises.{drift_holds, reads_honestly}
use Rattle.sd_history.proofs.Contained.{admitted_time_goes_on}
use Rattle.sd_safety.specs.timers.Times.{Fits, AreTimed, is_tick, gives_duty}
use Rattle.sd_history.proofs.Given.{some_is}

guarded : (b : Bool) (c' : Option ℕ) (c : ℕ) → (if b then c' else None) ≡ Some c → b ≡ true
guarded true c' c same = refl
guarded false c' c same = cc

guarded_is : (b : Bool) (c' : Option ℕ) (c : ℕ) → (if b then c' else None) ≡ Some c → c' ≡ Some c
guarded_is true c' c same = same
guarded_is false c' c same = cc

-- an act that leaves all devices alone
passing : (e : Event) → ((d : ℕ) → makes d e ≡ false) → ((d : ℕ) → same_number (ticked e) d ≡ false) → Fits e Passes
passing e none still = record { makes_it = none; ticks_it = still; named = λ d c same. cc; read = λ d c same. cc }

-- a call that is no tick
calling : (e : Event) (m : ℕ) (call : calls.Call) → device_of e ≡ Some m → counter_of e ≡ counter_of_call call → is_tick call ≡ false
    → ((d : ℕ) → makes d e ≡ false) → ((d : ℕ) → same_number (ticked e) d ≡ false) → Fits e (Calls m call)
calling e m call device counter quiet none still =
    record {
      makes_it = none;
      ticks_it = λ d. rw (quiet, and_false (nat_eq m d)) (still d);
      named = λ d c same. rw device (guarded (nat_eq m d) (counter_of_call call) c same);
      read = λ d c same. rw counter (guarded_is (nat_eq m d) (counter_of_call call) c same);
    }

receiving : (setting : Setting) (r m c n : ℕ) (o : Option Flight)
    → Fits (event.Recv r m c n) (map_or o Passes (λ f. Calls m (calls.Receive f.link f.message c)))
receiving setting r m c n None = passing (event.Recv r m c n) (λ d. refl) (λ d. refl)
receiving setting r m c n (Some f) = calling (event.Recv r m c n) m (calls.Receive f.link f.message c) refl refl refl (λ d. refl) (λ d. refl)

giving : (setting : Setting) (r m epoch : ℕ) (o : Option Plan)
    → Fits (event.Give r m) (map_or o Passes (λ plan. Calls m (calls.Give (duty_of setting.net plan epoch m))))
giving setting r m epoch None = passing (event.Give r m) (λ d. refl) (λ d. refl)
giving setting r m epoch (Some plan) = calling (event.Give r m) m (calls.Give (duty_of setting.net plan epoch m)) refl refl refl (λ d. refl) (λ d. refl)

pub act_fits : (setting : Setting) (steps : List Step) (e : Event) → Fits e (act_by setting steps e)
act_fits setting steps (event.Start r m c clock eps) =
    record {
      makes_it = λ d. or_none (nat_eq m d);
      ticks_it = λ d. refl;
      named = λ d x same. guarded (nat_eq m d) (Some c) x same;
      read = λ d x same. guarded_is (nat_eq m d) (Some c) x same;
    }
act_fits setting steps (event.Join r m c clock eps) =
    record {
      makes_it = λ d. refl;
      ticks_it = λ d. refl;
      named = λ d x same. guarded (nat_eq m d) (Some c) x same;
      read = λ d x same. guarded_is (nat_eq m d) (Some c) x same;
    }
act_fits setting steps (event.Tick r m c) =
    record {
      makes_it = λ d. refl;
      ticks_it = λ d. rw (and_true (nat_eq m d)) refl;
      named = λ d x same. guarded (nat_eq m d) (Some c) x same;
      read = λ d x same. guarded_is (nat_eq m d) (Some c) x same;
    }
act_fits setting steps (event.Recv r m c n) = receiving setting r m c n (flight_numbered steps n)
act_fits setting steps (event.Lose r n) = passing (event.Lose r n) (λ d. refl) (λ d. refl)
act_fits setting steps (event.FailDevice r m) = passing (event.FailDevice r m) (λ d. refl) (λ d. refl)
act_fits setting steps (event.FailLink r l) = passing (event.FailLink r l) (λ d. refl) (λ d. refl)
act_fits setting steps (event.Fix r m c clock eps) = calling (event.Fix r m c clock eps) m (calls.Fix c clock eps) refl refl refl (λ d. refl) (λ d. refl)
act_fits setting steps (event.Ask r m c) = record { makes_it = λ d. refl; ticks_it = λ d. refl; named = λ d x same. cc; read = λ d x same. cc }
act_fits setting steps (event.Stage r) = passing (event.Stage r) (λ d. refl) (λ d. refl)
act_fits setting steps (event.Give r m) = giving setting r m (staged_epoch (seen_of steps)) (staged setting (seen_of steps))
act_fits setting steps (event.Commit r m c) = calling (event.Commit r m c) m (calls.Commit c) refl refl refl (λ d. refl) (λ d. refl)
act_fits setting steps (event.Seal r m) = calling (event.Seal r m) m calls.Seal refl refl refl (λ d. refl) (λ d. refl)
act_fits setting steps (event.MendDevice r m) = passing (event.MendDevice r m) (λ d. refl) (λ d. refl)
act_fits setting steps (event.MendLink r l) = passing (event.MendLink r l) (λ d. refl) (λ d. refl)
act_fits setting steps (event.End r) = passing (event.End r) (λ d. refl) (λ d. refl)

-- the duties of a history have the network's period
OfPeriod : Setting → Act → Type 0
OfPeriod setting act = (duty : Duty) → gives_duty act ≡ Some duty → duty.period ≡ setting.net.params.period

own_period : (setting : Setting) (plan : Plan) (epoch d : ℕ) (duty : Duty) → Some (duty_of setting.net plan epoch d) ≡ Some duty
    → duty.period ≡ setting.net.params.period
own_period setting plan epoch d duty same = sym (ap (λ (u : Duty). u.period) (some_is same))

received_period : (setting : Setting) (m c : ℕ) (o : Option Flight) → OfPeriod setting (map_or o Passes (λ f. Calls m (calls.Receive f.link f.message c)))
unfolding OfPeriod
received_period setting m c None = λ duty same. cc
received_period setting m c (Some f) = λ duty same. cc

given_period : (setting : Setting) (m epoch : ℕ) (o : Option Plan)
    → OfPeriod setting (map_or o Passes (λ plan. Calls m (calls.Give (duty_of setting.net plan epoch m))))
unfolding OfPeriod
given_period setting m epoch None = λ duty same. cc
given_period setting m epoch (Some plan) = λ duty same. own_period setting plan epoch m duty same

act_period : (setting : Setting) (steps : List Step) (e : Event) → OfPeriod setting (act_by setting steps e)
unfolding OfPeriod
act_period setting steps (event.Start r m c clock eps) =
    λ duty same. own_period setting (in_force setting (seen_of steps)) (epoch_in_force (seen_of steps)) m duty same
act_period setting steps (event.Recv r m c n) = unfold OfPeriod in received_period setting m c (flight_numbered steps n)
act_period setting steps (event.Give r m) = unfold OfPeriod in given_period setting m (staged_epoch (seen_of steps)) (staged setting (seen_of steps))
act_period setting steps _ = λ duty same. cc

-- every history of honest clocks is timed
pub history_is_timed : (setting : Setting) (history : List Event) → IsAdmitted setting history → drift_holds setting (seen_of (chronicle setting history)) ≡ true
    → AreTimed setting (chronicle setting history)
unfolding OfPeriod
history_is_timed setting [] is honest = tt
history_is_timed setting (e ∷ earlier) is honest =
    let parts = and_parts (drift_holds setting (seen_of (chronicle setting earlier)))
    (reads_honestly setting (next_step setting (chronicle setting earlier) e).seen (seen_of (chronicle setting earlier))) honest in (
      history_is_timed setting earlier is.0 parts.0,
      record {
        fits = act_fits setting (chronicle setting earlier) e;
        period = act_period setting (chronicle setting earlier) e;
        goes_on = admitted_time_goes_on setting (chronicle setting earlier) e is.1;
        honest = parts.1;
      },
    )
