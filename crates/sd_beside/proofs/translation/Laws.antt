-- The laws: where a clock begins changes counters and times, and nothing else.
use Rattle.std.specs.Prelude.{Bool, [], ◌∷◌, find, ◌≡◌, ℕ, ◌+◌, List, map, Some, None, Option, option_map, refl}
use Rattle.std.proofs.Common.{sym, ◌∙◌, ap, subst}
use Rattle.std.proofs.lemmas.List.{map-id}
use mathlib.Core.Path.{fun_ext}
use Rattle.std.proofs.Common.{add-zero}
use Rattle.sd_num.specs.declared.clock.Report.{Report}
use Rattle.sd_device.specs.declared.msg.Flight.{Flight}
use Rattle.sd_device.specs.declared.msg.Message.{Message}
use Rattle.sd_device.specs.msg.Observed.{ReportAt}
use Rattle.sd_device.specs.declared.Effect.{Effect}
use Rattle.sd_device.specs.declared.Effect.TheVariants.{Quiet, Send}
use Rattle.sd_sched.specs.declared.Event.{Event}
use Rattle.sd_sched.specs.declared.Event.TheVariants as event
use Rattle.sd_num.specs.Lists.{map_or}
use Rattle.sd_sched.specs.Events.{device_of}
use Rattle.sd_history.specs.declared.ApplyFault.{ApplyFault}
use Rattle.sd_history.specs.World.{Setting}
use Rattle.sd_history.specs.Steps.{Step, Told, seen_of, flights}
use Rattle.sd_history.specs.Refusals.{counter_falls, refusal}
use Rattle.sd_history.specs.Chronicle.{chronicle, IsHistory}
use Rattle.sd_history.specs.Admitted.{Admits, IsAdmitted}
use Rattle.sd_history.specs.Premises.{broken_in}
use Rattle.sd_history.specs.Lines.{Line, Reported, IntervalAlarm, lines_of, reports}
use Rattle.sd_beside.specs.translation.Counters.{life_of, number_of, counter_moved, counters_moved}
use Rattle.sd_beside.specs.translation.Times.{time_moved, times_moved}
use Rattle.sd_beside.specs.translation.Moves.{moved_event, moved_events, moved_report, moved_message, moved_flight, moved_effect, moved_told, moved_step, moved_line, moved_report_at}
use Rattle.sd_beside.specs.translation.Laws.{SaysTheSame, SaysTheSameLater, CountersChangeNothing, TimesChangeTimes, MovesChangeTimes, RefusedAlike}
use Rattle.sd_beside.proofs.translation.Lists.{map_mapped}
use Rattle.sd_beside.proofs.translation.Views.{Marked, plain, moved}
use Rattle.sd_beside.proofs.translation.Steps.{moved_steps_seen, plain_steps_seen, flights_moved, marked, plain_is, are_of_lives, number_before, chronicle_moved}
use Rattle.sd_beside.proofs.translation.Readings.{falls_of_device}
use Rattle.sd_beside.proofs.translation.Refused.{causes_but, causes_are, admits_moved, admits_unmoved, accepts_moved, accepts_unmoved}
use Rattle.sd_beside.proofs.translation.Judged.{broken_same}
use Rattle.sd_beside.proofs.translation.Told.{lines_moved, reports_moved}

told_of_moved : (time : ℕ) (xs : List Marked) → map (λ s. s.told) (moved time xs) ≡ map (moved_told time) (map (λ s. s.told) (plain xs))
told_of_moved time xs =
    map_mapped (λ (x : Marked). moved_step time x.by x.step) (λ s. s.told) (λ x. moved_told time x.step.told) (λ x. refl) xs
    ∙ sym (map_mapped (λ (x : Marked). x.step.told) (moved_told time) (λ x. moved_told time x.step.told) (λ x. refl) xs)
    ∙ ap (map (moved_told time)) (sym (map_mapped (λ (x : Marked). x.step) (λ s. s.told) (λ x. x.step.told) (λ x. refl) xs))

module _ (setting : Setting) (time : ℕ) (lives : ℕ → ℕ → ℕ) where
  abbrev steps : List Event → List Marked
  steps events = marked setting lives events

  abbrev later : (e : Event) (earlier : List Event) → Event
  later e earlier = moved_event time (number_of lives (e ∷ earlier)) e

  admitted_moved : (events : List Event) → IsAdmitted setting events → IsAdmitted setting (moved_events time lives events)
  admitted_moved [] all = tt
  admitted_moved (e ∷ earlier) all = (
    admitted_moved earlier all.0,
    subst (λ (s : List Step). Admits setting s (later e earlier)) (sym (chronicle_moved time lives setting earlier))
        (admits_moved time lives setting (steps earlier) (are_of_lives setting lives earlier) (number_of lives (e ∷ earlier)) e (number_before setting lives e earlier)
        (subst (λ (s : List Step). Admits setting s e) (sym (plain_is setting lives earlier)) all.1)),
  )

  admitted_unmoved : (events : List Event) → IsAdmitted setting (moved_events time lives events) → IsAdmitted setting events
  admitted_unmoved [] all = tt
  admitted_unmoved (e ∷ earlier) all = (
    admitted_unmoved earlier all.0,
    subst (λ (s : List Step). Admits setting s e) (plain_is setting lives earlier)
        (admits_unmoved time lives setting (steps earlier) (are_of_lives setting lives earlier) (number_of lives (e ∷ earlier)) e (number_before setting lives e earlier)
        (subst (λ (s : List Step). Admits setting s (later e earlier)) (chronicle_moved time lives setting earlier) all.1)),
  )

  history_moved : (events : List Event) → IsHistory setting events → IsHistory setting (moved_events time lives events)
  history_moved [] all = tt
  history_moved (e ∷ earlier) all = (
    history_moved earlier all.0,
    ap (λ s. refusal setting s (later e earlier)) (chronicle_moved time lives setting earlier)
        ∙ accepts_moved time lives setting (steps earlier) (are_of_lives setting lives earlier) (number_of lives (e ∷ earlier)) e (number_before setting lives e earlier)
        (ap (λ s. refusal setting s e) (plain_is setting lives earlier) ∙ all.1),
  )

  history_unmoved : (events : List Event) → IsHistory setting (moved_events time lives events) → IsHistory setting events
  history_unmoved [] all = tt
  history_unmoved (e ∷ earlier) all = (
    history_unmoved earlier all.0,
    ap (λ s. refusal setting s e) (sym (plain_is setting lives earlier))
        ∙ accepts_unmoved time lives setting (steps earlier) (are_of_lives setting lives earlier) (number_of lives (e ∷ earlier)) e (number_before setting lives e earlier)
        (ap (λ s. refusal setting s (later e earlier)) (sym (chronicle_moved time lives setting earlier)) ∙ all.1),
  )

  broken_moved : (events : List Event)
      → broken_in setting (seen_of (moved time (steps events))) ≡ broken_in setting (seen_of (plain (steps events)))
  broken_moved events =
      ap (broken_in setting) (moved_steps_seen time (steps events)) ∙ broken_same time lives setting (steps events) (are_of_lives setting lives events)
      ∙ ap (broken_in setting) (sym (plain_steps_seen time (steps events)))

-- counters and times
pub moves_change_times : (setting : Setting) → MovesChangeTimes setting
moves_change_times setting time lives events =
    let after : chronicle setting (moved_events time lives events) ≡ moved time (marked setting lives events) = chronicle_moved time lives setting events in
    let before : plain (marked setting lives events) ≡ chronicle setting events = plain_is setting lives events in
    record {
      admitted = (admitted_unmoved setting time lives events, admitted_moved setting time lives events);
      accepted = (history_unmoved setting time lives events, history_moved setting time lives events);
      told =
          ap (map (λ (s : Step). s.told)) after ∙ told_of_moved time (marked setting lives events)
          ∙ ap (λ steps. map (moved_told time) (map (λ (s : Step). s.told) steps)) before;
      flights = ap flights after ∙ flights_moved time (marked setting lives events) ∙ ap (λ steps. map (moved_flight time) (flights steps)) before;
      lines =
          ap (lines_of setting) after ∙ lines_moved time setting lives (marked setting lives events) (are_of_lives setting lives events)
          ∙ ap (λ steps. map (moved_line time) (lines_of setting steps)) before;
      reports = ap reports after ∙ reports_moved time (marked setting lives events) ∙ ap (λ steps. map (moved_report_at time) (reports steps)) before;
      broken = ap (λ steps. broken_in setting (seen_of steps)) after ∙ broken_moved setting time lives events ∙ ap (λ steps. broken_in setting (seen_of steps)) before;
    }

-- where each device has one number, a refusal has the same cause
pub refused_alike : (setting : Setting) → RefusedAlike setting
refused_alike setting time by earlier e =
    ap (λ steps. refusal setting steps later_event) (chronicle_moved time (λ d life. by d) setting earlier)
    ∙ ap first_cause (causes_are time xs setting (map_or (device_of e) 0 by) e ∙ ap (causes_but time xs setting e) falls)
    ∙ ap (λ steps. refusal setting steps e) (plain_is setting (λ d life. by d) earlier)
  where
    later_event : Event
    later_event = moved_event time (map_or (device_of e) 0 by) e

    xs : List Marked
    xs = marked setting (λ d life. by d) earlier

    first_cause : List (ApplyFault × Bool) → Option ApplyFault
    first_cause cs = option_map (λ cause. cause.0) (find (λ cause. cause.1) cs)

    falls : counter_falls (seen_of (moved time xs)) (moved_event time (map_or (device_of e) 0 by) e) ≡ counter_falls (seen_of (plain xs)) e
    falls =
        ap (λ seen. counter_falls seen later_event) (moved_steps_seen time xs)
        ∙ falls_of_device time by xs (are_of_lives setting (λ d life. by d) earlier) e
        ∙ ap (λ seen. counter_falls seen e) (sym (plain_steps_seen time xs))

-- times alone

time_is : (by : ℕ) (e : Event) → time_moved by e ≡ moved_event by 0 e
time_is by (event.Start reference device counter clock eps) = λ i. event.Start (reference + by) device (sym (add-zero counter) i) (clock + by) eps
time_is by (event.Tick reference device counter) = λ i. event.Tick (reference + by) device (sym (add-zero counter) i)
time_is by (event.Recv reference device counter message) = λ i. event.Recv (reference + by) device (sym (add-zero counter) i) message
time_is by (event.Fix reference device counter clock eps) = λ i. event.Fix (reference + by) device (sym (add-zero counter) i) (clock + by) eps
time_is by (event.Ask reference device counter) = λ i. event.Ask (reference + by) device (sym (add-zero counter) i)
time_is by (event.Commit reference device counter) = λ i. event.Commit (reference + by) device (sym (add-zero counter) i)
time_is by (event.Join reference device counter clock eps) = λ i. event.Join (reference + by) device (sym (add-zero counter) i) (clock + by) eps
time_is by _ = refl

-- no counter is moved
abbrev unmoved : ℕ → ℕ → ℕ
unmoved d life = 0

no_number : (e : Event) (earlier : List Event) → number_of unmoved (e ∷ earlier) ≡ 0
no_number e earlier = go (device_of e)
  where
    go : (o : Option ℕ) → map_or o 0 (λ d. unmoved d (life_of (e ∷ earlier) d)) ≡ 0
    go None = refl
    go (Some d) = refl

times_are : (time : ℕ) (events : List Event) → times_moved time events ≡ moved_events time unmoved events
times_are time [] = refl
times_are time (e ∷ earlier) = λ i. (time_is time e ∙ ap (λ by. moved_event time by e) (sym (no_number e earlier))) i ∷ times_are time earlier i

pub times_moved_change_times : (setting : Setting) → TimesChangeTimes setting
times_moved_change_times setting time events =
    subst (λ (later : List Event). SaysTheSameLater time setting later events) (sym (times_are time events)) (moves_change_times setting time unmoved events)

-- counters alone

counter_is : (by : ℕ) (e : Event) → counter_moved by e ≡ moved_event 0 by e
counter_is by (event.Start reference device counter clock eps) =
    λ i. event.Start (sym (add-zero reference) i) device (counter + by) (sym (add-zero clock) i) eps
counter_is by (event.Tick reference device counter) = λ i. event.Tick (sym (add-zero reference) i) device (counter + by)
counter_is by (event.Recv reference device counter message) = λ i. event.Recv (sym (add-zero reference) i) device (counter + by) message
counter_is by (event.Lose reference message) = λ i. event.Lose (sym (add-zero reference) i) message
counter_is by (event.FailDevice reference device) = λ i. event.FailDevice (sym (add-zero reference) i) device
counter_is by (event.FailLink reference link) = λ i. event.FailLink (sym (add-zero reference) i) link
counter_is by (event.Fix reference device counter clock eps) =
    λ i. event.Fix (sym (add-zero reference) i) device (counter + by) (sym (add-zero clock) i) eps
counter_is by (event.Ask reference device counter) = λ i. event.Ask (sym (add-zero reference) i) device (counter + by)
counter_is by (event.Stage reference) = λ i. event.Stage (sym (add-zero reference) i)
counter_is by (event.Give reference device) = λ i. event.Give (sym (add-zero reference) i) device
counter_is by (event.Commit reference device counter) = λ i. event.Commit (sym (add-zero reference) i) device (counter + by)
counter_is by (event.Seal reference device) = λ i. event.Seal (sym (add-zero reference) i) device
counter_is by (event.Join reference device counter clock eps) =
    λ i. event.Join (sym (add-zero reference) i) device (counter + by) (sym (add-zero clock) i) eps
counter_is by (event.MendDevice reference device) = λ i. event.MendDevice (sym (add-zero reference) i) device
counter_is by (event.MendLink reference link) = λ i. event.MendLink (sym (add-zero reference) i) link
counter_is by (event.End reference) = λ i. event.End (sym (add-zero reference) i)

counters_are : (by : ℕ → ℕ → ℕ) (events : List Event) → counters_moved by events ≡ moved_events 0 by events
counters_are by [] = refl
counters_are by (e ∷ earlier) = λ i. counter_is (number_of by (e ∷ earlier)) e i ∷ counters_are by earlier i

-- what is moved by 0 stays

report_stays : (report : Report) → moved_report 0 report ≡ report
report_stays report = λ i. record { clock = add-zero report.clock i; eps = report.eps }

message_stays : (message : Message) → moved_message 0 message ≡ message
message_stays message = λ i. record { epoch = message.epoch; stamp = message.stamp; clock = add-zero message.clock i; eps = message.eps }

effect_stays : (effect : Effect) → moved_effect 0 effect ≡ effect
effect_stays Quiet = refl
effect_stays (Send message) = ap Send (message_stays message)

told_stays : (told : Told) → moved_told 0 told ≡ told
told_stays told = λ i. record { effect = effect_stays told.effect i; answers = told.answers; report = go told.report i }
  where
    go : (o : Option Report) → option_map (moved_report 0) o ≡ o
    go None = refl
    go (Some report) = ap Some (report_stays report)

flight_stays : (f : Flight) → moved_flight 0 f ≡ f
flight_stays f =
    λ i. record {
      number = f.number;
      link = f.link;
      sender = f.sender;
      receiver = f.receiver;
      sent_at = add-zero f.sent_at i;
      due = add-zero f.due i;
      last = add-zero f.last i;
      reaches = f.reaches;
      message = message_stays f.message i;
    }

line_stays : (line : Line) → moved_line 0 line ≡ line
line_stays (Reported device report) = ap (Reported device) (report_stays report)
line_stays (IntervalAlarm device reference) = ap (IntervalAlarm device) (add-zero reference)
line_stays _ = refl

report_at_stays : (x : ReportAt) → moved_report_at 0 x ≡ x
report_at_stays x = λ i. record { line = x.line; device = x.device; reference = add-zero x.reference i; report = report_stays x.report i }

all_stay : {A : Type 0} (f : A → A) → ((x : A) → f x ≡ x) → (xs : List A) → map f xs ≡ xs
all_stay {A = A} f stays xs = ap (λ (g : A → A). map g xs) (fun_ext stays) ∙ map-id xs

pub counters_moved_change_nothing : (setting : Setting) → CountersChangeNothing setting
counters_moved_change_nothing setting by events =
    subst (λ (one : List Event). SaysTheSame setting one events) (sym (counters_are by events)) (now (moves_change_times setting 0 by events))
  where
    now : {one : List Event} → SaysTheSameLater 0 setting one events → SaysTheSame setting one events
    now h =
        record {
          admitted = h.admitted;
          accepted = h.accepted;
          told = h.told ∙ all_stay (moved_told 0) told_stays (map (λ s. s.told) (chronicle setting events));
          flights = h.flights ∙ all_stay (moved_flight 0) flight_stays (flights (chronicle setting events));
          lines = h.lines ∙ all_stay (moved_line 0) line_stays (lines_of setting (chronicle setting events));
          reports = h.reports ∙ all_stay (moved_report_at 0) report_at_stays (reports (chronicle setting events));
          broken = h.broken;
        }
