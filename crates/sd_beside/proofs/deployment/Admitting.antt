-- The rules admit each moment of a deployed fleet: no cause of a refusal holds.
use Rattle.std.specs.Prelude.{◌≡◌, ℕ, ◌+◌, ◌≤◌, Bool, true, false, ◌&&◌, ◌||◌, not, List, [], ◌∷◌, Option, Some, None, nat_eq, nat_lt, max, refl}
use Rattle.std.proofs.Common.{arith, sym, ◌∙◌, ap, inl, inr}
use Rattle.std.proofs.lemmas.Bool.{and_from, or_from, eqb-true, eq-eqb, ltb-false, le-ltb, ne_eqb}
use Rattle.sd_num.proofs.Firsts.{find_passes}
use Rattle.sd_num.specs.Lists.{map_or}
use Rattle.sd_sched.specs.declared.Event.{Event}
use Rattle.sd_sched.specs.declared.Event.TheVariants as event
use Rattle.sd_sched.specs.Events.{reference_of, is_end_event}
use Rattle.sd_device.specs.declared.msg.Flight.{Flight}
use Rattle.sd_device.specs.declared.registers.Registers.{Registers}
use Rattle.sd_history.specs.declared.ApplyFault.{ApplyFault}
use Rattle.sd_history.specs.declared.ApplyFault.TheVariants as fault
use Rattle.sd_history.specs.World.{Setting, latest_reference}
use Rattle.sd_history.specs.Steps.{Act, Answers, Told, Step, seen_of, changed, act_by, flights, flight_count, flights_by, flights_of, step_of}
use Rattle.sd_history.specs.Refusals.{unknown_message, spent_message, wrong_device, after_end, too_many, time_falls, is_spent, was_used, was_swept}
use Rattle.sd_history.specs.Admitted.{is_count, Admits}
use Rattle.sd_history.specs.flights.Flights.{AreNumberedOn}
use Rattle.sd_history.proofs.Among.{Among, either_side, found}
use Rattle.sd_history.proofs.flights.Sending.{numbered_by, counted}
use Rattle.sd_history.proofs.flights.Finds.{within}
use Rattle.sd_beside.specs.deployment.Deployment.{Moment, steps_of, IsDelivered, IsCallOf, MayCome, IsDeployment}

-- Numbers of flights

-- the flights of a step are numbered on
numbered : (setting : Setting) (steps : List Step) (r : ℕ) (act : Act) (told : Told)
    → AreNumberedOn (flight_count steps + 1) (flights_of setting steps r act told)
numbered setting steps r act told = by (changed act) told.answers
  where
    by : (o : Option ℕ) (a : Option Answers)
        → AreNumberedOn (flight_count steps + 1) (map_or o [] (λ d. map_or a [] (λ b. flights_by setting steps r d b.epoch told.effect)))
    by None a = tt
    by (Some d) None = tt
    by (Some d) (Some b) = numbered_by setting steps r d b.epoch told.effect

-- each flight has a number from 1 to how many there are
among_sent : {S : Type 0} (setting : Setting) (run : List (Moment S)) (f : Flight) → Among f (flights (steps_of setting run))
    → (1 ≤ f.number) × (f.number ≤ flight_count (steps_of setting run))
among_sent setting [] f a = elim a [ ]
among_sent setting (x ∷ earlier) f a =
    let steps = steps_of setting earlier in
    let sent = flights_of setting steps (reference_of x.event) (act_by setting steps x.event) x.told in
    let all = counted (step_of setting steps x.event x.told) steps in
    elim (either_side sent (flights steps) a) [
      | inl here ↦
          (let bounds = within (flight_count steps + 1) sent f (numbered setting steps (reference_of x.event) (act_by setting steps x.event) x.told) here in
          (omega (arith, bounds.0), omega (arith, bounds.1, all)))
      | inr before ↦ (let bounds = among_sent setting earlier f before in (bounds.0, omega (arith, bounds.1, all)))
    ]

-- What is received was sent, is on its way and is for this device

module _ {S : Type 0} (setting : Setting) (run : List (Moment S)) (r d c n : ℕ) (act : Act) (is : IsDelivered (steps_of setting run) r d c n act) where
  abbrev steps : List Step
  steps = steps_of setting run

  number_is : is.flight.number ≡ n
  number_is = eqb-true is.flight.number n (find_passes (λ f. nat_eq f.number n) (flights steps) is.flight is.sent)

  is_known : unknown_message steps (event.Recv r d c n) ≡ false
  is_known =
      let bounds = among_sent setting run is.flight (found (λ f. nat_eq f.number n) is.flight (flights steps) is.sent) in
      let number = number_is in
      or_from (nat_eq n 0) (nat_lt (flight_count steps) n) (ne_eqb n 0 (λ none. omega (arith, bounds.0, number, none)))
      (le-ltb (flight_count steps) n (omega (arith, bounds.1, number)))

  is_current : time_falls (seen_of steps) (event.Recv r d c n) ≡ false → spent_message steps (event.Recv r d c n) ≡ false
  is_current goes =
      ap (λ o. map_or o false (is_spent steps r)) is.sent
      ∙ or_from (was_used steps is.flight.number || was_swept steps is.flight || nat_lt is.flight.last (max r (latest_reference (seen_of steps))))
      (not is.flight.reaches)
      (or_from (was_used steps is.flight.number || was_swept steps is.flight) (nat_lt is.flight.last (max r (latest_reference (seen_of steps))))
      (or_from (was_used steps is.flight.number) (was_swept steps is.flight) (ap (was_used steps) number_is ∙ is.once) is.unbroken)
      (le-ltb is.flight.last (max r (latest_reference (seen_of steps))) late))
      (ap not is.up)
    where
      after : latest_reference (seen_of steps) ≤ r
      after = ltb-false r (latest_reference (seen_of steps)) goes

      soon : r ≤ is.flight.last
      soon = is.soon

      late : max r (latest_reference (seen_of steps)) ≤ is.flight.last
      late = omega (arith, after, soon)

  is_for_it : wrong_device steps (event.Recv r d c n) ≡ false
  is_for_it =
      ap (λ o. map_or o false (λ f. not (nat_eq d f.receiver))) is.sent
      ∙ ap not (eq-eqb d is.flight.receiver (sym is.end))

-- no receipt of another kind
pub record IsCarried (steps : List Step) (e : Event) : Type 0 where
  pub known : unknown_message steps e ≡ false
  pub current : spent_message steps e ≡ false
  pub right : wrong_device steps e ≡ false

carried : {S : Type 0} (setting : Setting) (run : List (Moment S)) (e : Event) (act : Act) → IsCallOf setting (steps_of setting run) e act
    → time_falls (seen_of (steps_of setting run)) e ≡ false → IsCarried (steps_of setting run) e
carried setting run (event.Recv r d c n) act is goes =
    record {
      known = is_known setting run r d c n act is;
      current = is_current setting run r d c n act is goes;
      right = is_for_it setting run r d c n act is;
    }
carried setting run (event.Lose r n) act is goes = absurd is
carried setting run _ act is goes = record { known = refl; current = refl; right = refl }

-- No moment is the end of a schedule

no_end : (setting : Setting) (steps : List Step) (e : Event) (act : Act) → IsCallOf setting steps e act → is_end_event e ≡ false
no_end setting earlier (event.End r) act is = absurd is
no_end setting earlier _ act is = refl

never_ends : {S : Type 0} (Holds : S → Registers → Type 0) (setting : Setting) (run : List (Moment S)) → IsDeployment Holds setting run
    → after_end (seen_of (steps_of setting run)) ≡ false
never_ends Holds setting [] is = refl
never_ends Holds setting (x ∷ earlier) is =
    ap (λ b. b || after_end (seen_of (steps_of setting earlier))) (no_end setting (steps_of setting earlier) x.event x.act is.1.call)
    ∙ never_ends Holds setting earlier is.0

-- All causes

rules_out : (cause : ApplyFault) (b : Bool) → b ≡ false → (not b || is_count cause) ≡ true
rules_out cause b none = ap (λ c. not c || is_count cause) none

next : (cause : ApplyFault) (b rest : Bool) → b ≡ false → rest ≡ true → ((not b || is_count cause) && rest) ≡ true
next cause b rest none more = and_from (not b || is_count cause) rest (rules_out cause b none) more

pub admits : {S : Type 0} (Holds : S → Registers → Type 0) (setting : Setting) (earlier : List (Moment S)) (x : Moment S)
    → IsDeployment Holds setting earlier → MayCome Holds setting earlier x → Admits setting (steps_of setting earlier) x.event
admits Holds setting earlier x is may =
    let o = may.orderly in
    let c = carried setting earlier x.event x.act may.call o.time in
    next fault.UnknownDevice _ _ o.device
    (next fault.UnknownLink _ _ o.link
    (next fault.DeadDevice _ _ o.device_works
    (next fault.DeadLink _ _ o.link_works
    (next fault.UnknownMessage _ _ c.known
    (next fault.SpentMessage _ _ c.current
    (next fault.WrongDevice _ _ c.right
    (next fault.TimeFalls _ _ o.time
    (next fault.CounterFalls _ _ o.counter
    (next fault.NotStarted _ _ o.started
    (next fault.StartedTwice _ _ o.once
    (next fault.NoPlanLeft _ _ o.plan
    (next fault.WindowOrder _ _ o.window
    (next fault.AfterEnd _ _ (never_ends Holds setting earlier is)
    (next fault.NotFailed _ _ o.failed
    (next fault.NotMember _ _ o.member counts)))))))))))))))
  where
    counts : ((not (too_many (seen_of (steps_of setting earlier))) || true) && true) ≡ true
    counts = by (too_many (seen_of (steps_of setting earlier)))
      where
        by : (b : Bool) → ((not b || true) && true) ≡ true
        by true = refl
        by false = refl
