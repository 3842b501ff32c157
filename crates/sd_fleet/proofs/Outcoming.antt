-- What comes of an event by what is kept is what comes of its step.
use Rattle.std.specs.Prelude.{◌≡◌, ℕ, ◌<◌, Bool, true, false, ◌&&◌, not, List, [], ◌∷◌, length, Option, Some, None, is_some, option_map, refl, if◌then◌else◌}
use Rattle.std.specs.Result.{result_ok}
use Rattle.std.proofs.Common.{sym, ◌∙◌, ap}
use Rattle.sd_num.specs.Lists.{map_or, same_number}
use Rattle.sd_num.specs.declared.clock.Report.{Report}
use Rattle.sd_sched.specs.declared.Event.{Event}
use Rattle.sd_sched.specs.declared.Event.TheVariants as event
use Rattle.sd_sched.specs.Events.{device_of, is_stage}
use Rattle.sd_history.specs.World.{Setting, Seen, window, window_is_open, staged_epoch}
use Rattle.sd_history.specs.Steps.{Told, Step, seen_of, epoch_in, acts_in, taken_by, acted_by, activated_by, has_turned, first_step, step_of}
use Rattle.sd_history.specs.Lines.{asked_report}
use Rattle.sd_world.specs.membership.Memberships as memberships
use Rattle.sd_world.specs.membership.Memberships.{staged_number, is_of, acts_at}
use Rattle.sd_world.specs.membership.Standing as standing
use Rattle.sd_world.proofs.membership.Queries.{is_of_is, acts_is, staged_number_is}
use Rattle.sd_fleet.specs.declared.Reply.{Reply}
use Rattle.sd_fleet.specs.declared.Outcome.{Outcome}
use Rattle.sd_fleet.specs.Registers.{Registers}
use Rattle.sd_fleet.specs.Causes.{refusal_in}
use Rattle.sd_fleet.specs.Doing.{MatchesTold, IsReplyTo}
use Rattle.sd_fleet.specs.FabricStanding.{Stands}
use Rattle.sd_fleet.specs.Outcomes.{first_number, outcome_of}
use Rattle.sd_fleet.specs.Stepping.{membership_after, is_new_at, entered_in, taken_in, report_in, outcome_in}
use Rattle.sd_fleet.proofs.FabricActing.{device_within, flight_there}
use Rattle.sd_fleet.proofs.Sends.{sent_is}
use Rattle.sd_fleet.proofs.FabricStepping.{stands_open, closes_is}

-- the report of an ask
report_is : (setting : Setting) (steps : List Step) (e : Event) (reply : Reply) (told : Told) → reply.report ≡ told.report
    → report_in e reply ≡ asked_report (step_of setting steps e told)
report_is setting steps (event.Ask ref d c) reply told says = ap (option_map (λ (report : Report). (d, report))) says
report_is setting steps _ reply told says = refl

-- an event that names a device stages nothing
stages_none : (e : Event) (d : ℕ) → device_of e ≡ Some d → is_stage e ≡ false
stages_none (event.Stage ref) d named = cc
stages_none _ d named = refl

turned : (open_ now before : Bool) → ((open_ && now) && not (open_ && before)) ≡ (open_ && now && not before)
turned true now before = refl
turned false now before = refl

-- a window stays as it was where nothing is staged
kept_open : (w : Option (List Seen)) (s : Seen) → is_some (option_map (λ x. s ∷ x) w) ≡ is_some w
kept_open None s = refl
kept_open (Some x) s = refl

pub same_outcome : (a b : Outcome) → a.report ≡ b.report → a.taken ≡ b.taken → a.first_sent ≡ b.first_sent → a.sent ≡ b.sent → a.activated ≡ b.activated
    → a.acted ≡ b.acted → a.closed ≡ b.closed → a.ended ≡ b.ended → a ≡ b
same_outcome a b report taken first_sent sent activated acted closed ended =
    ap (λ x. record a { report = x }) report
    ∙ ap (λ x. record a { report = b.report; taken = x }) taken
    ∙ ap (λ x. record a { report = b.report; taken = b.taken; first_sent = x }) first_sent
    ∙ ap (λ x. record a { report = b.report; taken = b.taken; first_sent = b.first_sent; sent = x }) sent
    ∙ ap (λ x. record b { activated = x; acted = a.acted; closed = a.closed; ended = a.ended }) activated
    ∙ ap (λ x. record b { acted = x; closed = a.closed; ended = a.ended }) acted
    ∙ ap (λ x. record b { closed = x; ended = a.ended }) closed
    ∙ ap (λ x. record b { ended = x }) ended

-- the flight that is received
taken_is : (setting : Setting) (r : Registers) (steps : List Step) (stands : Stands r setting steps) (e : Event) → refusal_in r e ≡ None
    → taken_in r e ≡ taken_by steps e
taken_is setting r steps stands (event.Recv ref d c n) accepted =
    let it = flight_there setting r steps stands (event.Recv ref d c n) accepted n refl in
    ap result_ok it.1 ∙ sym it.2
taken_is setting r steps stands _ accepted = refl

module _ (setting : Setting) (old : Registers) (steps : List Step) (stands : Stands old setting steps)
    (e : Event) (reply : Reply) (told : Told) (accepted : refusal_in old e ≡ None) (says : MatchesTold reply told) (tells : IsReplyTo e reply) where
  abbrev first : Step
  first = first_step setting steps e told

  abbrev middle : memberships.Registers
  middle = membership_after old e reply

  abbrev seen : List Seen
  seen = seen_of steps

  open_stands : standing.Stands middle setting (first ∷ steps)
  open_stands = stands_open setting old steps stands e reply told accepted says tells first refl refl refl refl

  -- whether the device acted as root
  acted_is : map_or (device_of e) false (acts_at old.membership) ≡ acted_by steps e
  acted_is = go (device_of e) refl
    where
      go : (o : Option ℕ) → device_of e ≡ o → map_or o false (acts_at old.membership) ≡ map_or o false (acts_in steps)
      go None named = refl
      go (Some d) named = acts_is old.membership setting steps stands.membership d (device_within setting old steps stands e accepted d named)

  -- that a device is of the staged plan, before the event and after it
  new_before : (d : ℕ) → d < length setting.net.devices
      → is_new_at old.membership d ≡ (window_is_open seen && same_number (epoch_in steps d) (staged_epoch seen))
  new_before d within =
      ap (λ b. b && is_of old.membership (staged_number old.membership) d) stands.membership.world.open_window
      ∙ ap (λ b. window_is_open seen && b)
      (is_of_is old.membership setting steps stands.membership (staged_number old.membership) d within
      ∙ ap (same_number (epoch_in steps d)) (staged_number_is old.membership setting steps stands.membership))

  new_after : (d : ℕ) → d < length setting.net.devices → device_of e ≡ Some d
      → is_new_at middle d ≡ (window_is_open seen && same_number (epoch_in (first ∷ steps) d) (staged_epoch seen))
  new_after d within named =
      ap (λ b. b && is_of middle (staged_number middle) d)
      (open_stands.world.open_window
      ∙ ap (λ b. is_some (if b then Some [] else option_map (λ w. first.seen ∷ w) (window seen))) (stages_none e d named)
      ∙ kept_open (window seen) first.seen)
      ∙ ap (λ b. window_is_open seen && b)
      (is_of_is middle setting (first ∷ steps) open_stands (staged_number middle) d within
      ∙ ap (same_number (epoch_in (first ∷ steps) d)) (staged_number_is old.membership setting steps stands.membership))

  -- the device that enters it
  entered_is : entered_in old.membership middle e ≡ activated_by steps first
  entered_is = go (device_of e) refl
    where
      go : (o : Option ℕ) → device_of e ≡ o
          → map_or o None (λ d. if is_new_at middle d && not (is_new_at old.membership d) then Some d else None)
          ≡ map_or o None (λ d. if has_turned steps first d then Some d else None)
      go None named = refl
      go (Some d) named =
          let within : d < length setting.net.devices = device_within setting old steps stands e accepted d named in
          ap (λ b. if b then Some d else None)
          (ap (λ b. b && not (is_new_at old.membership d)) (new_after d within named)
          ∙ ap (λ b. (window_is_open seen && same_number (epoch_in (first ∷ steps) d) (staged_epoch seen)) && not b) (new_before d within)
          ∙ turned (window_is_open seen) (same_number (epoch_in (first ∷ steps) d) (staged_epoch seen)) (same_number (epoch_in steps d) (staged_epoch seen)))

  -- all that comes of the event
  pub outcome_is : outcome_in old e reply ≡ outcome_of (step_of setting steps e told)
  outcome_is =
      let sent = sent_is setting old steps stands e reply told accepted says tells in
      same_outcome (outcome_in old e reply) (outcome_of (step_of setting steps e told))
      (report_is setting steps e reply told says.report)
      (taken_is setting old steps stands e accepted)
      (ap first_number sent)
      (ap length sent)
      entered_is
      acted_is
      (closes_is setting old steps stands e reply told accepted says tells)
      refl
