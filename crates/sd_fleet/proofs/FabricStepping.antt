-- A step makes a fabric stand for one step more of the history.
use Rattle.std.specs.Prelude.{◌≡◌, ℕ, ◌<◌, Bool, true, false, ◌&&◌, nat_le, not, List, ◌∷◌, ◌++◌, length, filter, Option, Some, None, is_some, option_map, IfSome, IfNone, IsSome, refl, if◌then◌else◌}
use Rattle.std.proofs.Common.{arith, sym, ◌∙◌, ap, subst}
use Rattle.std.proofs.lemmas.Bool.{and_parts, or_parts, leb-false, both_ways}
use Rattle.sd_num.proofs.Shared.{none_if_not_some}
use Rattle.sd_device.specs.declared.msg.Flight.{Flight}
use Rattle.sd_device.specs.msg.Books.{is_current}
use Rattle.sd_sched.specs.declared.Event.{Event}
use Rattle.sd_sched.specs.declared.Event.TheVariants as event
use Rattle.sd_sched.specs.Events.{reference_of, device_of, message_of, is_stage}
use Rattle.sd_history.specs.Things.{failure_of}
use Rattle.sd_history.specs.World.{Setting, window_is_open, epoch_in_force}
use Rattle.sd_history.specs.Steps.{Answers, Told, Step, seen_of, changed, act_by, flight_count, first_step, can_close, step_of}
use Rattle.sd_history.specs.Refusals.{no_plan_left, window_order}
use Rattle.sd_history.specs.Open.{unspent}
use Rattle.sd_history.specs.Accepted.{AreSteps}
use Rattle.sd_history.proofs.Clear.{accepted_is_clear}
use Rattle.sd_history.specs.flights.Flights.{without_taken, without_swept}
use Rattle.sd_history.proofs.flights.Sending.{counted}
use Rattle.sd_history.proofs.flights.Booking.{booked}
use Rattle.sd_history.proofs.flights.Places.{changed_named}
use Rattle.sd_world.specs.declared.world.window.Window.{Window}
use Rattle.sd_world.specs.declared.world.window.Window.TheVariants.{Closed, Preparing, Committed}
use Rattle.sd_world.specs.world.Registers.{is_open, is_committed}
use Rattle.sd_world.specs.membership.Memberships as memberships
use Rattle.sd_world.specs.membership.Memberships.{registers_closed, can_close_in}
use Rattle.sd_world.specs.membership.Standing as standing
use Rattle.sd_world.specs.membership.Standing.{IsTold, summary}
use Rattle.sd_world.proofs.membership.Queries.{plan_count}
use Rattle.sd_world.proofs.membership.Closing.{can_close_is}
use Rattle.sd_world.proofs.membership.Going.{stands_observed, stands_shut}
use Rattle.sd_fleet.specs.declared.Reply.{Reply}
use Rattle.sd_fleet.specs.Registers.{Registers}
use Rattle.sd_fleet.specs.Causes.{refusal_in}
use Rattle.sd_fleet.specs.Doing.{MatchesTold, IsReplyTo, changes}
use Rattle.sd_fleet.specs.Sending.{sent_in}
use Rattle.sd_fleet.specs.FabricStanding.{Stands}
use Rattle.sd_fleet.specs.Stepping.{membership_after, flights_after, IsAfter}
use Rattle.sd_fleet.proofs.FabricActing.{accepts, changed_is, unchanged_is}
use Rattle.sd_fleet.proofs.Sends.{sent_is}

-- an event that makes or calls a device names it
pub changing_named : (e : Event) → changes e ≡ true → is_some (device_of e) ≡ true
changing_named (event.Start ref d c clock eps) is = refl
changing_named (event.Join ref d c clock eps) is = refl
changing_named (event.Tick ref d c) is = refl
changing_named (event.Recv ref d c n) is = refl
changing_named (event.Fix ref d c clock eps) is = refl
changing_named (event.Give ref d) is = refl
changing_named (event.Commit ref d c) is = refl
changing_named (event.Seal ref d) is = refl
changing_named _ is = cc

-- the step, where the window closes with it or not
abbrev closing_when : Bool → Step → Step
closing_when b s = record s { seen = record s.seen { closed = b } }

is_open_by : (w : Window) → is_committed w ≡ true → is_open w ≡ true
is_open_by Closed committed = cc
is_open_by Preparing committed = refl
is_open_by Committed committed = refl

module _ (setting : Setting) (old : Registers) (steps : List Step) (stands : Stands old setting steps)
    (e : Event) (reply : Reply) (told : Told) (accepted : refusal_in old e ≡ None) (says : MatchesTold reply told) (tells : IsReplyTo e reply) where
  -- the step before it is known who enters the staged plan, and whether the window closes
  abbrev begun : Step
  begun = first_step setting steps e told

  abbrev next : Step
  next = step_of setting steps e told

  abbrev middle : memberships.Registers
  middle = membership_after old e reply

  -- the membership is told what the device of the event answers
  is_told : (s : Step) → s.act ≡ act_by setting steps e → s.seen.event ≡ e → s.told ≡ told → IsTold s reply.answers
  is_told s acts happens says_ =
      record {
        changed_named = subst (λ act. IfSome (changed act) (λ d. device_of s.seen.event ≡ Some d)) (sym acts)
            (subst (λ x. IfSome (changed (act_by setting steps e)) (λ d. device_of x ≡ Some d)) (sym happens) (named (changed (act_by setting steps e)) refl));
        changed_answers = subst (λ act. IfSome (changed act) (λ d. IsSome s.told.answers)) (sym acts)
            (subst (λ t. IfSome (changed (act_by setting steps e)) (λ d. IsSome t.answers)) (sym says_)
            (answers_there (changed (act_by setting steps e)) refl));
        changed_told = subst (λ act. IfSome (changed act) (λ d. reply.answers ≡ option_map summary s.told.answers)) (sym acts)
            (subst (λ t. IfSome (changed (act_by setting steps e)) (λ d. reply.answers ≡ option_map summary t.answers)) (sym says_)
            (told_there (changed (act_by setting steps e))));
        others = subst (λ act. IfNone (changed act) (reply.answers ≡ None)) (sym acts) (untold (changed (act_by setting steps e)) refl);
      }
    where
      named : (o : Option ℕ) → changed (act_by setting steps e) ≡ o → IfSome o (λ d. device_of e ≡ Some d)
      named None is = tt
      named (Some d) is = changed_named setting steps e d is

      -- an event that changes a device is told what this answers
      does : (d : ℕ) → changed (act_by setting steps e) ≡ Some d → (b : Bool) → changes e ≡ b → b ≡ true
      does d is true changing = refl
      does d is false changing = let none : changed (act_by setting steps e) ≡ None = unchanged_is setting old steps stands e changing in cc

      mapped : (o : Option Answers) → is_some (option_map summary o) ≡ true → is_some o ≡ true
      mapped None some = some
      mapped (Some a) some = refl

      answers_there : (o : Option ℕ) → changed (act_by setting steps e) ≡ o → IfSome o (λ d. IsSome told.answers)
      answers_there None is = tt
      answers_there (Some d) is = mapped told.answers (sym (ap is_some says.answers) ∙ tells.answers ∙ does d is (changes e) refl)

      told_there : (o : Option ℕ) → IfSome o (λ d. reply.answers ≡ option_map summary told.answers)
      told_there None = tt
      told_there (Some d) = says.answers

      untold : (o : Option ℕ) → changed (act_by setting steps e) ≡ o → IfNone o (reply.answers ≡ None)
      untold (Some d) is = tt
      untold None is = none_if_not_some reply.answers (tells.answers ∙ quiet (changes e) refl)
        where
          quiet : (b : Bool) → changes e ≡ b → b ≡ false
          quiet false changing = refl
          quiet true changing =
              let none : device_of e ≡ None = sym (changed_is setting old steps stands e accepted changing) ∙ is in
              absurd (both_ways (is_some (device_of e)) (ap is_some none) (changing_named e changing))

  -- a stage has a plan left
  plan_left : is_stage e ≡ true → old.membership.world.epoch < length old.membership.plans
  plan_left stage =
      let some : no_plan_left setting (seen_of steps) e ≡ false =
      (accepted_is_clear setting steps e (accepts setting old steps stands e accepted)).plan_left in
      let ordered : window_order setting steps e ≡ false =
      (accepted_is_clear setting steps e (accepts setting old steps stands e accepted)).in_window in
      let shut : (is_stage e && window_is_open (seen_of steps)) ≡ false = (or_parts _ _ (or_parts _ _ (or_parts _ _ (or_parts _ _ ordered).0).0).0).0 in
      let count : length old.membership.plans ≡ length setting.plans = plan_count old.membership setting steps stands.membership in
      let less : epoch_in_force (seen_of steps) < length setting.plans =
      leb-false (length setting.plans) (epoch_in_force (seen_of steps)) (by (is_stage e) (window_is_open (seen_of steps)) stage shut some) in
      omega (arith, count, less, stands.membership.world.epoch)
    where
      by : (s o : Bool) → s ≡ true → (s && o) ≡ false → (s && not o && nat_le (length setting.plans) (epoch_in_force (seen_of steps))) ≡ false
          → nat_le (length setting.plans) (epoch_in_force (seen_of steps)) ≡ false
      by true false is closed left = left
      by true true is closed left = cc
      by false o is closed left = cc

  -- it stands for the step before its window closes
  pub stands_open : (s : Step) → s.act ≡ act_by setting steps e → s.seen.event ≡ e → s.told ≡ told → s.seen.closed ≡ false
      → standing.Stands middle setting (s ∷ steps)
  stands_open s acts happens says_ open_ =
      subst (λ x. standing.Stands (memberships.registers_after old.membership x reply.answers) setting (s ∷ steps)) happens
      (stands_observed old.membership setting steps s reply.answers (λ stage. plan_left (sym (ap is_stage happens) ∙ stage)) open_
      (is_told s acts happens says_) stands.membership)

  -- whether the window closes
  pub closes_is : can_close_in middle ≡ can_close setting (begun ∷ steps)
  closes_is = can_close_is middle setting (begun ∷ steps) (stands_open begun refl refl refl refl)

  membership_stands : (b : Bool) → can_close_in middle ≡ b
      → standing.Stands (if b then registers_closed middle else middle) setting (closing_when b next ∷ steps)
  membership_stands true closes_ =
      let committed : is_committed middle.world.window ≡ true = (and_parts _ _ (and_parts _ _ closes_).0).0 in
      stands_shut middle setting steps (closing_when false next) (is_open_by middle.world.window committed) refl
      (stands_open (closing_when false next) refl refl refl refl)
  membership_stands false open_ = stands_open (closing_when false next) refl refl refl refl

  module _ (new : Registers) (after : IsAfter old e reply new) where
    accepted_steps : AreSteps setting (next ∷ steps)
    accepted_steps = (stands.accepted, accepts setting old steps stands e accepted, refl)

    sent_are : sent_in old e reply ≡ next.sent
    sent_are = sent_is setting old steps stands e reply told accepted says tells

    membership_is : standing.Stands new.membership setting (next ∷ steps)
    membership_is =
        subst (λ r. standing.Stands r setting (next ∷ steps)) (sym after.membership)
        (subst (λ b. standing.Stands (if can_close_in middle then registers_closed middle else middle) setting (closing_when b next ∷ steps)) closes_is
        (membership_stands (can_close_in middle) refl))

    flights_are : flights_after old e reply ≡ unspent (next ∷ steps) 0
    flights_are =
        ap (λ fs. without_swept (failure_of e) (without_taken (message_of e) (filter (is_current (reference_of e)) fs)
        ++ filter (λ (f : Flight). f.reaches) (sent_in old e reply))) stands.flights
        ∙ ap (λ fs. without_swept (failure_of e) (without_taken (message_of e) (filter (is_current (reference_of e)) (unspent steps 0))
        ++ filter (λ (f : Flight). f.reaches) fs)) sent_are
        ∙ booked setting next steps accepted_steps

    count_is : new.book.last ≡ flight_count (next ∷ steps)
    count_is =
        let sent : length (sent_in old e reply) ≡ length next.sent = ap length sent_are in
        let all = counted next steps in
        omega (arith, after.last, stands.sent, sent, all)

    -- the fabric stands for the step
    pub stands_next : Stands new setting (next ∷ steps)
    stands_next =
        record {
          accepted = accepted_steps;
          net = after.net ∙ stands.net;
          membership = membership_is;
          flights = after.flights ∙ flights_are;
          sent = count_is;
        }
