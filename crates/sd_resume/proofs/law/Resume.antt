-- The result: after an opening all later events are as after the history that it opens.
use Rattle.std.specs.Prelude.{◌≡◌, ℕ, suc, ◌+◌, ◌<◌, ◌≤◌, Bool, true, false, ◌||◌, List, [], ◌∷◌, ◌++◌, length, map, filter, nat_eq, Option, Some, None, option_and_then, refl}
use Rattle.std.proofs.Common.{arith, sym, ◌∙◌, ap, subst, inl, inr}
use Rattle.std.proofs.lemmas.Bool.{eqb-true, eq-eqb}
use Rattle.sd_num.specs.Lists.{map_or, same_number}
use Rattle.sd_plan.specs.topo.Network.{Network}
use Rattle.sd_plan.specs.declared.Plan.{Plan}
use Rattle.sd_device.specs.declared.registers.Registers.{Registers}
use Rattle.sd_device.specs.declared.msg.Flight.{Flight}
use Rattle.sd_sched.specs.declared.Event.{Event}
use Rattle.sd_sched.specs.Events.{message_of, received}
use Rattle.sd_history.specs.World.{Setting, setting_over}
use Rattle.sd_history.specs.Steps.{Step, seen_of, events_of, flights, flight_count, flight_numbered}
use Rattle.sd_history.specs.Refusals.{was_used}
use Rattle.sd_history.specs.Accepted.{AreSteps}
use Rattle.sd_history.specs.Premises.{reaching_flights, was_received}
use Rattle.sd_history.specs.Chronicle.{next_step, chronicle, IsHistory}
use Rattle.sd_history.specs.Nodes.{NodeStep, steps_of}
use Rattle.sd_history.specs.Admitted.{IsAdmitted}
use Rattle.sd_history.proofs.Admitted.{accepted_is_admitted, run_is_admitted}
use Rattle.sd_history.proofs.Accepting.{run_is_accepted}
use Rattle.sd_history.proofs.Among.{Among, either_side}
use Rattle.sd_history.proofs.Contained.{time_goes_on}
use Rattle.sd_history.proofs.Filters.{kept_among}
use Rattle.sd_history.proofs.Parts.{AllHold, premises_of}
use Rattle.sd_history.proofs.Shared.{received_message}
use Rattle.sd_device.specs.contracts.device.DeviceNode.TheImpl.{ghosts as device}
use Rattle.sd_history.proofs.flights.Finds.{found_number}
use Rattle.sd_history.proofs.flights.Leaving.{unused}
use Rattle.sd_history.proofs.flights.Sending.{counted}
use Rattle.sd_resume.specs.law.Shifts.{Shift, raised_event}
use Rattle.sd_resume.specs.law.Law.{whole, HistoriesAgree, AllMayFollow, SaysAlike, BreaksNoMore, LeavesBroken}
use Rattle.sd_resume.specs.law.Cuts.{IsOpening, NoneOnItsWay, IsHonestOpening}
use Rattle.sd_resume.specs.law.Premised.{PremisesAgree}
use Rattle.sd_resume.specs.law.Losses.{ArePast, LossesAgree}
use Rattle.sd_resume.specs.law.Composed.{StandsForWhole}
use Rattle.sd_resume.proofs.law.Standing.{no_more_breaks, stays_broken}
use Rattle.sd_resume.proofs.law.Losing.{past_after}
use Rattle.sd_resume.proofs.law.Openings.{opening_histories_agree}
use Rattle.sd_resume.proofs.law.Spent.{lowered_event, raised_again, stays_spent, names_later}
use Rattle.sd_resume.proofs.law.Laws.{run_is, resumed, resumed_back}

-- an opening that sent nothing has no flight
none_reach : (setting : Setting) (steps_ : List Step) → AreSteps setting steps_ → flight_count steps_ ≡ 0 → (f : Flight)
    → Among f (reaching_flights (seen_of steps_)) → ⊥
none_reach setting [] are none f among = elim among [ ]
none_reach setting (s ∷ earlier) are none f among = elim (either_side s.seen.sent (reaching_flights (seen_of earlier)) among) [
  | inl here ↦ empty s.sent (none_now (length s.sent) (flight_count earlier) (sym (counted s earlier) ∙ none)) f
      (kept_among (λ g. g.reaches) s.sent f (subst (Among f) sent_is here))
  | inr before ↦ none_reach setting earlier are.0 (none_before (length s.sent) (flight_count earlier) (sym (counted s earlier) ∙ none)) f before
]
  where
    none_now : (a b : ℕ) → a + b ≡ 0 → a ≡ 0
    none_now a b same = omega (arith, same)

    none_before : (a b : ℕ) → a + b ≡ 0 → b ≡ 0
    none_before a b same = omega (arith, same)

    empty : (fs : List Flight) → length fs ≡ 0 → (f : Flight) → Among f fs → ⊥
    empty [] none' f' a = elim a [ ]
    empty (g ∷ fs) none' f' a = absurd (never (length fs) none')
      where
        never : (n : ℕ) → suc n ≡ 0 → ⊥
        never n same = omega (arith, same)

    sent_is : s.seen.sent ≡ filter (λ g. g.reaches) s.sent
    sent_is = ap (λ (x : Step). x.seen.sent) are.2 ∙ sym (ap (λ (x : Step). filter (λ (g : Flight). g.reaches) x.sent) are.2)

-- a message that was received was used
received_was_used : (setting : Setting) (steps_ : List Step) (n : ℕ) → AreSteps setting steps_ → was_received (seen_of steps_) n ≡ true → was_used steps_ n ≡ true
received_was_used setting [] n are got = cc
received_was_used setting (s ∷ earlier) n are got =
    go (map_or s.seen.taken false (λ f. nat_eq f.number n)) refl got (received_was_used setting earlier n are.0)
  where
    or_right : (a b : Bool) → b ≡ true → (a || b) ≡ true
    or_right true b is = refl
    or_right false b is = is

    or_left : (a b : Bool) → a ≡ true → (a || b) ≡ true
    or_left true b is = refl
    or_left false b is = cc

    by : (o : Option ℕ) → received s.seen.event ≡ o → map_or (option_and_then (flight_numbered earlier) o) false (λ f. nat_eq f.number n) ≡ true
        → same_number (message_of s.seen.event) n ≡ true
    by None is taken = cc
    by (Some m) is taken = found_by (flight_numbered earlier m) refl taken
      where
        found_by : (o : Option Flight) → flight_numbered earlier m ≡ o → map_or o false (λ f. nat_eq f.number n) ≡ true → same_number (message_of s.seen.event) n ≡ true
        found_by None found taken' = cc
        found_by (Some f) found taken' =
            let same : m ≡ n = sym (found_number m (flights earlier) f found) ∙ eqb-true f.number n taken' in
            ap (λ o. same_number o n) (received_message s.seen.event m is) ∙ eq-eqb m n same

    go : (b : Bool) → map_or s.seen.taken false (λ f. nat_eq f.number n) ≡ b → (b || was_received (seen_of earlier) n) ≡ true
        → (was_received (seen_of earlier) n ≡ true → was_used earlier n ≡ true) → was_used (s ∷ earlier) n ≡ true
    go true is any rest =
        or_left (same_number (message_of s.seen.event) n) (was_used earlier n)
        (by (received s.seen.event) refl (sym (ap (λ (x : Step). map_or x.seen.taken false (λ (f : Flight). nat_eq f.number n)) are.2) ∙ is))
    go false is any rest = or_right (same_number (message_of s.seen.event) n) (was_used earlier n) (rest any)

unreceived : (setting : Setting) (steps_ : List Step) (n : ℕ) → AreSteps setting steps_ → flight_count steps_ < n → was_received (seen_of steps_) n ≡ false
unreceived setting steps_ n are past = go (was_received (seen_of steps_) n) refl
  where
    go : (b : Bool) → was_received (seen_of steps_) n ≡ b → b ≡ false
    go false is = refl
    go true is =
        let used : was_used steps_ n ≡ true = received_was_used setting steps_ n are is in
        let none : was_used steps_ n ≡ false = unused setting steps_ n are past in
        cc

all_past : (setting : Setting) (steps_ : List Step) → AreSteps setting steps_ → ArePast (seen_of steps_)
all_past setting [] are = refl
all_past setting (s ∷ earlier) are = past_after s.seen (seen_of earlier) (time_goes_on setting earlier s.seen.event are.1) (all_past setting earlier are.0)

module _ (shift : Shift) (net : Network) (front plans : List Plan) (first second : List (NodeStep Registers))
    (is : IsOpening shift net front plans first second) where
  abbrev one : List Event
  one = events_of (steps_of first)

  abbrev other : List Event
  other = events_of (steps_of second)

  agree : HistoriesAgree shift net front plans one other
  agree = opening_histories_agree shift net front plans first second is

  first_is : steps_of first ≡ chronicle (whole net front plans) one
  first_is = run_is (whole net front plans) first one (run_is_admitted device (whole net front plans) first is.first_runs) refl

  second_is : steps_of second ≡ chronicle (setting_over net plans) other
  second_is = run_is (setting_over net plans) second other (run_is_admitted device (setting_over net plans) second is.second_runs) refl

  -- The rules admit the same events after both.
  pub admits_the_same : (later : List Event) → AllMayFollow (setting_over net plans) other later
      → (IsAdmitted (setting_over net plans) (later ++ other) → IsAdmitted (whole net front plans) (map (raised_event shift) later ++ one))
      × (IsAdmitted (whole net front plans) (map (raised_event shift) later ++ one) → IsAdmitted (setting_over net plans) (later ++ other))
  admits_the_same later may = (
    λ admitted. (resumed shift net front plans one other agree later may admitted).admitted,
    λ admitted. resumed_back shift net front plans one other agree later may admitted,
  )

  -- Each of them has the same alarms and the same report.
  pub says_the_same : (later : List Event) → AllMayFollow (setting_over net plans) other later → IsAdmitted (setting_over net plans) (later ++ other)
      → SaysAlike shift (whole net front plans) (setting_over net plans) one other later
  says_the_same later may admitted = (resumed shift net front plans one other agree later may admitted).says

  -- Where no message of before is on its way, each event that is accepted after the first is a raised one.
  module _ (spent : NoneOnItsWay shift.messages (steps_of first)) where
    record StaysSpent (later : List Event) : Type 0 where
      are : AreSteps (whole net front plans) (chronicle (whole net front plans) (later ++ one))
      sent : shift.messages ≤ flight_count (chronicle (whole net front plans) (later ++ one))
      none : NoneOnItsWay shift.messages (chronicle (whole net front plans) (later ++ one))

    behind_first : (later : List Event) → IsHistory (whole net front plans) (later ++ one) → StaysSpent later
    behind_first [] history =
        record {
          are = subst (AreSteps (whole net front plans)) first_is (run_is_accepted device (whole net front plans) first is.first_runs);
          sent = subst (λ steps_. shift.messages ≤ flight_count steps_) first_is (same (flight_count (steps_of first)) shift.messages is.sent);
          none = subst (NoneOnItsWay shift.messages) first_is spent;
        }
      where
        same : (a b : ℕ) → a ≡ b → b ≤ a
        same a b equal = omega (arith, equal)
    behind_first (e ∷ later) history =
        let before : StaysSpent later = behind_first later history.0 in
        let steps_ : List Step = chronicle (whole net front plans) (later ++ one) in
        let now : AreSteps (whole net front plans) (next_step (whole net front plans) steps_ e ∷ steps_) = (before.are, history.1, refl) in
        record {
          are = now;
          sent = more (length (next_step (whole net front plans) steps_ e).sent) (flight_count steps_) (flight_count (next_step (whole net front plans) steps_ e ∷ steps_))
              (counted (next_step (whole net front plans) steps_ e) steps_) before.sent;
          none = stays_spent (whole net front plans) shift.messages (next_step (whole net front plans) steps_ e) steps_ now before.sent before.none;
        }
      where
        more : (a b c : ℕ) → c ≡ a + b → shift.messages ≤ b → shift.messages ≤ c
        more a b c equal le = omega (arith, equal, le)

    pub nothing_else_comes : (later : List Event) → IsHistory (whole net front plans) (later ++ one) → map (raised_event shift) (map (lowered_event shift) later) ≡ later
    nothing_else_comes [] history = refl
    nothing_else_comes (e ∷ later) history =
        let before : StaysSpent later = behind_first later history.0 in
        let steps_ : List Step = chronicle (whole net front plans) (later ++ one) in
        ap (λ x. x ∷ map (raised_event shift) (map (lowered_event shift) later))
        (raised_again shift e (λ n named. at_least shift.messages n
        (names_later (whole net front plans) steps_ shift.messages before.none before.are before.sent e
        (accepted_is_admitted (whole net front plans) steps_ e history.1) n named)))
        ∙ ap (λ xs. e ∷ xs) (nothing_else_comes later history.0)
      where
        at_least : (a b : ℕ) → a < b → a ≤ b
        at_least a b less = omega (arith, less)

  module _ (honest : IsHonestOpening (setting_over net plans) (seen_of (steps_of first)) (seen_of (steps_of second))) where
    premises : PremisesAgree (whole net front plans) (setting_over net plans) (seen_of (steps_of first)) (seen_of (steps_of second))
    premises =
        let all : AllHold (setting_over net plans) (seen_of (steps_of second)) = premises_of (setting_over net plans) (seen_of (steps_of second)) honest.holds in
        record {
          start = λ h. all.start;
          drift = λ h. all.drift;
          delay = λ h. all.delay;
          tick = λ h. all.tick;
          domain = λ h. all.domain;
          renew = λ h. all.renew;
          readings = honest.readings;
          ticks = honest.ticks;
          members = honest.members;
          untouched = honest.untouched;
          failures = honest.failures;
        }

    losses : LossesAgree shift (seen_of (steps_of first)) (seen_of (steps_of second))
    losses =
        record {
          flights = λ f among. absurd (none_reach (setting_over net plans) (steps_of second) second_steps is.sent_none f among);
          received = λ n some.
              unreceived (whole net front plans) (steps_of first) (n + shift.messages) first_steps (beyond n (flight_count (steps_of first)) shift.messages is.sent some)
              ∙ sym (unreceived (setting_over net plans) (steps_of second) n second_steps (above n (flight_count (steps_of second)) is.sent_none some));
          past = all_past (whole net front plans) (steps_of first) first_steps;
          past_other = all_past (setting_over net plans) (steps_of second) second_steps;
        }
      where
        first_steps : AreSteps (whole net front plans) (steps_of first)
        first_steps = run_is_accepted device (whole net front plans) first is.first_runs

        second_steps : AreSteps (setting_over net plans) (steps_of second)
        second_steps = run_is_accepted device (setting_over net plans) second is.second_runs

        beyond : (n count messages : ℕ) → count ≡ messages → 1 ≤ n → count < n + messages
        beyond n count messages same some = omega (arith, same, some)

        above : (n count : ℕ) → count ≡ 0 → 1 ≤ n → count < n
        above n count none some = omega (arith, none, some)

    -- So the opening stands for the whole.
    pub stands : StandsForWhole shift net front plans one other
    stands =
        record {
          agree = agree;
          premises = subst (λ s. PremisesAgree (whole net front plans) (setting_over net plans) (seen_of s) (seen_of (chronicle (setting_over net plans) other)))
              first_is
              (subst (λ s. PremisesAgree (whole net front plans) (setting_over net plans) (seen_of (steps_of first)) (seen_of s)) second_is premises);
          losses = subst (λ s. LossesAgree shift (seen_of s) (seen_of (chronicle (setting_over net plans) other))) first_is
              (subst (λ s. LossesAgree shift (seen_of (steps_of first)) (seen_of s)) second_is losses);
        }

    -- What breaks after the opening breaks in the whole.
    pub breaks_no_more : BreaksNoMore shift (whole net front plans) (setting_over net plans) one other
    breaks_no_more = no_more_breaks shift net front plans one other stands

    -- A later event that breaks a premise after the opening leaves it broken in the whole.
    pub leaves_broken : LeavesBroken shift (whole net front plans) (setting_over net plans) one other
    leaves_broken = stays_broken shift net front plans one other stands
