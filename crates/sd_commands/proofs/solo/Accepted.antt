-- What is known of an event that is accepted, and how the registers then go on standing for the history.
use Rattle.std.proofs.Common.{◌≡◌, ℕ, ◌^◌, ◌<◌, ◌≤◌, Bool, true, false, not, ◌&&◌, [], ◌∷◌, None, refl}
use Rattle.std.specs.Prelude.{nat_le, nat_lt, nat_eq, is_some}
use Rattle.std.proofs.lemmas.Bool.{ltb-false, leb-false}
use Rattle.sd_num.specs.Lists.{map_or}
use Rattle.sd_sched.specs.declared.Event.{Event}
use Rattle.sd_sched.specs.declared.Event.TheVariants as event
use Rattle.sd_sched.specs.Events.{reference_of, device_of, counter_of}
use Rattle.sd_commands.specs.declared.solo.SoloFault.TheVariants as fault
use Rattle.sd_commands.specs.solo.Histories.{Situation, refusal_in, first_cause, is_start}

-- no cause holds where there is no first
record NoneHolds (a b c d e f g : Bool) : Type 0 where
  device : a ≡ false
  time : b ≡ false
  counter : c ≡ false
  started : d ≡ false
  twice : e ≡ false
  ended : f ≡ false
  many : g ≡ false

none_holds : (a b c d e f g : Bool)
    → first_cause
    ((fault.UnknownDevice, a) ∷ (fault.TimeFalls, b) ∷ (fault.CounterFalls, c) ∷ (fault.NotStarted, d) ∷ (fault.StartedTwice, e) ∷ (fault.AfterEnd, f) ∷ (fault.TooManyEvents, g) ∷ []) ≡ None
    → NoneHolds a b c d e f g
none_holds true b c d e f g same = cc
none_holds false true c d e f g same = cc
none_holds false false true d e f g same = cc
none_holds false false false true e f g same = cc
none_holds false false false false true f g same = cc
none_holds false false false false false true g same = cc
none_holds false false false false false false true same = cc
none_holds false false false false false false false same =
    record { device = refl; time = refl; counter = refl; started = refl; twice = refl; ended = refl; many = refl }

-- no cause to refuse this event holds
no_cause : (past : Situation) (e : Event) → refusal_in past e ≡ None
    → NoneHolds (map_or (device_of e) false (λ d. not (nat_eq d 0))) (nat_lt (reference_of e) past.reference)
    (not (is_start e) && map_or (counter_of e) false (λ c. nat_lt c past.counter))
    (not (is_start e) && is_some (device_of e) && not past.started) (is_start e && past.started) past.ended (nat_le (2 ^ 26) past.count)
unfolding refusal_in
no_cause past e accepted =
    none_holds (map_or (device_of e) false (λ d. not (nat_eq d 0))) (nat_lt (reference_of e) past.reference)
    (not (is_start e) && map_or (counter_of e) false (λ c. nat_lt c past.counter))
    (not (is_start e) && is_some (device_of e) && not past.started) (is_start e && past.started) past.ended (nat_le (2 ^ 26) past.count) accepted

-- this many events were not accepted yet
pub not_too_many : (past : Situation) (e : Event) → refusal_in past e ≡ None → past.count < 2 ^ 26
not_too_many past e accepted = leb-false (2 ^ 26) past.count (no_cause past e accepted).many

-- the reference does not fall
pub reference_goes_on : (past : Situation) (e : Event) → refusal_in past e ≡ None → past.reference ≤ reference_of e
reference_goes_on past e accepted = ltb-false (reference_of e) past.reference (no_cause past e accepted).time

-- the counter of an ask does not fall
pub counter_goes_on : (past : Situation) (reference device counter : ℕ) → refusal_in past (event.Ask reference device counter) ≡ None → past.counter ≤ counter
counter_goes_on past reference device counter accepted = ltb-false counter past.counter (no_cause past (event.Ask reference device counter) accepted).counter

-- the device was started, where an event that is no start names it
pub started_before : (past : Situation) (e : Event) → refusal_in past e ≡ None → (not (is_start e) && is_some (device_of e) && not past.started) ≡ false
started_before past e accepted = (no_cause past e accepted).started
