-- The law of two histories that agree: after both the rules admit the same events, with the same alarms and reports, and both go on agreeing.
use Rattle.std.specs.Prelude.{◌≡◌, ℕ, ◌+◌, ◌≤◌, Option, None, Bool, true, false, ◌||◌, not, nat_eq, Some, List, [], ◌∷◌, ◌++◌, map, refl}
use Rattle.std.proofs.Common.{arith, sym, ◌∙◌, ap, subst}
use Rattle.sd_plan.specs.topo.Network.{Network}
use Rattle.sd_plan.specs.declared.Plan.{Plan}
use Rattle.sd_device.specs.declared.registers.Registers.{Registers}
use Rattle.sd_sched.specs.declared.Event.{Event}
use Rattle.std.proofs.lemmas.Bool.{eq-eqb}
use Rattle.sd_sched.specs.declared.Event.TheVariants as event
use Rattle.sd_sched.specs.Events.{reference_of, device_of, counter_of}
use Rattle.sd_history.specs.World.{Setting, setting_over, Seen, makes, is_up, latest_reference}
use Rattle.sd_history.specs.Steps.{Answers, Step, seen_of, events_of, changed, flight_count, flights_to, ends_at, flights_by, flights_of, act_by}
use Rattle.sd_history.specs.Refusals.{not_started}
use Rattle.sd_history.specs.Chronicle.{told_by, next_step, chronicle}
use Rattle.sd_history.specs.Nodes.{NodeStep, steps_of}
use Rattle.sd_history.specs.Admitted.{Admits, IsAdmitted, IsAdmittedRun}
use Rattle.sd_num.specs.Lists.{map_or}
use Rattle.sd_plan.specs.declared.End.{End}
use Rattle.sd_device.specs.declared.msg.Message.{Message}
use Rattle.sd_device.specs.declared.msg.Flight.{Flight}
use Rattle.sd_device.specs.declared.Effect.{Effect}
use Rattle.sd_device.specs.declared.Effect.TheVariants.{Quiet, Send}
use Rattle.sd_history.proofs.Among.{Among, first as first_, later as later_}
use Rattle.sd_history.proofs.Filters.{kept_among}
use Rattle.sd_history.proofs.Contained.{admitted_time_goes_on}
use Rattle.sd_history.proofs.Clear.{clear}
use Rattle.sd_history.proofs.Given.{some_is}
use Rattle.sd_device.specs.contracts.device.DeviceNode.TheImpl.{ghosts as device}
use Rattle.sd_history.proofs.Devices.{admitted_devices_run, admitted_devices_have_history}
use Rattle.sd_history.proofs.Readings.{admitted_goes_forward}
use Rattle.sd_resume.specs.law.Shifts.{Shift, raised_event, raised_seen}
use Rattle.sd_resume.specs.law.Agreement.{MayFollow}
use Rattle.sd_resume.specs.law.Law.{whole, NamesSome, alarms_and_report, HistoriesAgree, AllMayFollow, SaysAlike}
use Rattle.sd_resume.specs.law.Views.{LooksAlike}
use Rattle.sd_resume.specs.law.Premised.{PremisesAgree}
use Rattle.sd_resume.proofs.law.Stepping.{step_agrees}
use Rattle.sd_resume.specs.law.Losses.{LossesAgree}
use Rattle.sd_resume.proofs.law.Judging.{premises_agree_after}
use Rattle.sd_resume.proofs.law.Losing.{losses_agree_after}
use Rattle.sd_resume.proofs.law.Accepted.{admitted_same}
use Rattle.sd_resume.proofs.law.Lines.{lines_same}
use Rattle.sd_resume.proofs.law.Running.{GoesOn, goes_on}

-- a run of devices is the chronicle of its events
pub run_is : (setting : Setting) (run : List (NodeStep Registers)) (events : List Event) → IsAdmittedRun device setting run → events_of (steps_of run) ≡ events
    → steps_of run ≡ chronicle setting events
run_is setting run events runs happened = admitted_devices_run setting run runs ∙ ap (chronicle setting) happened

-- the first step, else another
abbrev pub first_of : Step → List Step → Step
first_of other [] = other
first_of other (s ∷ steps) = s

-- an accepted reading is of a device that is up, or that it makes
up_at_reading : (seen : List Seen) (e : Event) (d c : ℕ) → not_started seen e ≡ false → device_of e ≡ Some d → counter_of e ≡ Some c → makes d e ≡ false
    → is_up seen d ≡ true
up_at_reading seen e d c rule named reads unmade = go e rule named reads unmade
  where
    up : (m : ℕ) (b : Bool) → is_up seen m ≡ b → not b ≡ false → Some m ≡ Some d → is_up seen d ≡ true
    up m true is rest same = subst (λ x. is_up seen x ≡ true) (some_is same) is
    up m false is rest same = cc

    made : (m : ℕ) → Some m ≡ Some d → nat_eq m d ≡ true
    made m same = eq-eqb m d (some_is same)

    both : (b : Bool) → b ≡ true → (b || false) ≡ false → is_up seen d ≡ true
    both true made_ unmade_ = cc
    both false made_ unmade_ = cc

    go : (e : Event) → not_started seen e ≡ false → device_of e ≡ Some d → counter_of e ≡ Some c → makes d e ≡ false → is_up seen d ≡ true
    go (event.Start reference m counter clock eps) rule' named' reads' unmade' = both (nat_eq m d) (made m named') unmade'
    go (event.Join reference m counter clock eps) rule' named' reads' unmade' =
        let made_ : nat_eq m d ≡ true = made m named' in let unmade_ : nat_eq m d ≡ false = unmade' in cc
    go (event.Tick reference m counter) rule' named' reads' unmade' = up m (is_up seen m) refl rule' named'
    go (event.Recv reference m counter message) rule' named' reads' unmade' = up m (is_up seen m) refl rule' named'
    go (event.Fix reference m counter clock eps) rule' named' reads' unmade' = up m (is_up seen m) refl rule' named'
    go (event.Ask reference m counter) rule' named' reads' unmade' = up m (is_up seen m) refl rule' named'
    go (event.Commit reference m counter) rule' named' reads' unmade' = up m (is_up seen m) refl rule' named'
    go _ rule' named' reads' unmade' = cc

-- what is sent has a number, and is due no earlier
to_facts : (setting : Setting) (steps : List Step) (r d : ℕ) (m : Message) (n : ℕ) (ends : List End) (f : Flight) → 1 ≤ n
    → Among f (flights_to setting steps r d m n ends) → (1 ≤ f.number) × (r ≤ f.due)
to_facts setting steps r d m n [] f some among = elim among [ ]
to_facts setting steps r d m n (e ∷ ends) f some first_ = (some, omega arith)
to_facts setting steps r d m n (e ∷ ends) f some (later_ among) = to_facts setting steps r d m (n + 1) ends f (omega arith) among

sent_facts : (setting : Setting) (steps : List Step) (e : Event) (f : Flight) → Among f (next_step setting steps e).seen.sent
    → (1 ≤ f.number) × (reference_of e ≤ f.due)
sent_facts setting steps e f among =
    by (changed (act_by setting steps e)) (told_by steps (act_by setting steps e)).answers (told_by steps (act_by setting steps e)).effect
    (kept_among (λ g. g.reaches) (flights_of setting steps (reference_of e) (act_by setting steps e) (told_by steps (act_by setting steps e))) f among)
  where
    sends : (d epoch : ℕ) (effect : Effect) → Among f (flights_by setting steps (reference_of e) d epoch effect) → (1 ≤ f.number) × (reference_of e ≤ f.due)
    sends d epoch Quiet a = elim a [ ]
    sends d epoch (Send m) a =
        to_facts setting steps (reference_of e) d m (flight_count steps + 1) (ends_at setting steps epoch d) f (omega arith) a

    by : (o : Option ℕ) (a : Option Answers) (effect : Effect)
        → Among f (map_or o [] (λ d. map_or a [] (λ x. flights_by setting steps (reference_of e) d x.epoch effect))) → (1 ≤ f.number) × (reference_of e ≤ f.due)
    by None a effect among' = elim among' [ ]
    by (Some d) None effect among' = elim among' [ ]
    by (Some d) (Some x) effect among' = sends d x.epoch effect among'

module _ (shift : Shift) (net : Network) (front plans : List Plan) where
  -- what one event does
  pub record OneMore (one other : List Event) (e : Event) : Type 0 where
    pub agree : HistoriesAgree shift net front plans (raised_event shift e ∷ one) (e ∷ other)
    pub says : alarms_and_report (whole net front plans) (chronicle (whole net front plans) (raised_event shift e ∷ one))
        ≡ alarms_and_report (setting_over net plans) (chronicle (setting_over net plans) (e ∷ other))
    pub seen : (next_step (whole net front plans) (chronicle (whole net front plans) one) (raised_event shift e)).seen
        ≡ raised_seen shift (next_step (setting_over net plans) (chronicle (setting_over net plans) other) e).seen

  one_more : (one other : List Event) (e : Event) → HistoriesAgree shift net front plans one other → NamesSome e
      → MayFollow (chronicle (setting_over net plans) other) e
      → Admits (setting_over net plans) (chronicle (setting_over net plans) other) e → OneMore one other e
  one_more one other e h some may admits =
      record {
        agree = record {
          behind = h.behind;
          first = on.first ∷ h.first;
          second = on.second ∷ h.second;
          first_runs = first_runs;
          second_runs = second_runs;
          first_happened = first_happened;
          second_happened = second_happened;
          agree = on.agree;
        };
        says =
            ap (alarms_and_report (whole net front plans))
            (sym (run_is (whole net front plans) (on.first ∷ h.first) (raised_event shift e ∷ one) first_runs first_happened) ∙ ap (λ s. s ∷ steps_of h.first) on.first_is)
            ∙ lines_same shift net front plans h.behind (steps_of h.first) (steps_of h.second) h.agree.steps e some on.told
            ∙ ap (alarms_and_report (setting_over net plans))
            (ap (λ s. s ∷ steps_of h.second) (sym on.second_is)
            ∙ run_is (setting_over net plans) (on.second ∷ h.second) (e ∷ other) second_runs second_happened);
        seen =
            ap (λ (s : Step). s.seen)
            (sym (ap (first_of on.first.step) (run_is (whole net front plans) (on.first ∷ h.first) (raised_event shift e ∷ one) first_runs first_happened)) ∙ on.first_is)
            ∙ (step_agrees shift net front plans h.behind (steps_of h.first) (steps_of h.second) h.agree.steps e some on.told).seen
            ∙ ap (λ (s : Step). raised_seen shift s.seen)
            (sym on.second_is
            ∙ ap (first_of on.second.step) (run_is (setting_over net plans) (on.second ∷ h.second) (e ∷ other) second_runs second_happened));
      }
    where
      is : chronicle (setting_over net plans) other ≡ steps_of h.second
      is = sym (run_is (setting_over net plans) h.second other h.second_runs h.second_happened)

      here : Admits (setting_over net plans) (steps_of h.second) e
      here = subst (λ s. Admits (setting_over net plans) s e) is admits

      there : Admits (whole net front plans) (steps_of h.first) (raised_event shift e)
      there = admitted_same shift net front plans h.behind (steps_of h.first) (steps_of h.second) h.agree.steps e some may.start ∙ here

      on : GoesOn shift (whole net front plans) (setting_over net plans) h.first h.second e
      on = goes_on shift net front plans h.behind h.first h.second h.second_runs h.agree e (subst (λ s. MayFollow s e) is may) here

      first_event : on.first.step.seen.event ≡ raised_event shift e
      first_event = ap (λ (s : Step). s.seen.event) on.first_is

      second_event : on.second.step.seen.event ≡ e
      second_event = ap (λ (s : Step). s.seen.event) on.second_is

      first_runs : IsAdmittedRun device (whole net front plans) (on.first ∷ h.first)
      first_runs = (h.first_runs, subst (Admits (whole net front plans) (steps_of h.first)) (sym first_event) there, on.first_follows)

      second_runs : IsAdmittedRun device (setting_over net plans) (on.second ∷ h.second)
      second_runs = (h.second_runs, subst (Admits (setting_over net plans) (steps_of h.second)) (sym second_event) here, on.second_follows)

      first_happened : on.first.step.seen.event ∷ events_of (steps_of h.first) ≡ raised_event shift e ∷ one
      first_happened = ap (λ x. x ∷ events_of (steps_of h.first)) first_event ∙ ap (λ xs. raised_event shift e ∷ xs) h.first_happened

      second_happened : on.second.step.seen.event ∷ events_of (steps_of h.second) ≡ e ∷ other
      second_happened = ap (λ x. x ∷ events_of (steps_of h.second)) second_event ∙ ap (λ xs. e ∷ xs) h.second_happened

  -- what any later events do
  pub record GoOn (one other later : List Event) : Type 0 where
    pub admitted : IsAdmitted (whole net front plans) (map (raised_event shift) later ++ one)
    pub agree : HistoriesAgree shift net front plans (map (raised_event shift) later ++ one) (later ++ other)
    pub says : SaysAlike shift (whole net front plans) (setting_over net plans) one other later

  history_of : (setting : Setting) (run : List (NodeStep Registers)) (events : List Event) → IsAdmittedRun device setting run → events_of (steps_of run) ≡ events
      → IsAdmitted setting events
  history_of setting run events runs happened = subst (IsAdmitted setting) happened (admitted_devices_have_history setting run runs)

  -- The law. What the rules admit after the second they admit after the first, with the same alarms and reports, and the two go on agreeing.
  pub resumed : (one other : List Event) → HistoriesAgree shift net front plans one other → (later : List Event)
      → AllMayFollow (setting_over net plans) other later → IsAdmitted (setting_over net plans) (later ++ other) → GoOn one other later
  resumed one other h [] may is =
      record { admitted = history_of (whole net front plans) h.first one h.first_runs h.first_happened; agree = h; says = tt }
  resumed one other h (e ∷ later) may is =
      let before : GoOn one other later = resumed one other h later may.0 is.0 in
      let now : OneMore (map (raised_event shift) later ++ one) (later ++ other) e =
      one_more (map (raised_event shift) later ++ one) (later ++ other) e before.agree may.1 may.2 is.1 in
      record {
        admitted = history_of (whole net front plans) now.agree.first (raised_event shift e ∷ (map (raised_event shift) later ++ one)) now.agree.first_runs
            now.agree.first_happened;
        agree = now.agree;
        says = (before.says, now.says);
      }

  -- And what they admit after the first they admit after the second.
  pub resumed_back : (one other : List Event) → HistoriesAgree shift net front plans one other → (later : List Event)
      → AllMayFollow (setting_over net plans) other later → IsAdmitted (whole net front plans) (map (raised_event shift) later ++ one)
      → IsAdmitted (setting_over net plans) (later ++ other)
  resumed_back one other h [] may is = history_of (setting_over net plans) h.second other h.second_runs h.second_happened
  resumed_back one other h (e ∷ later) may is =
      let before : IsAdmitted (setting_over net plans) (later ++ other) = resumed_back one other h later may.0 is.0 in
      let on : GoOn one other later = resumed one other h later may.0 before in
      let first_is : chronicle (whole net front plans) (map (raised_event shift) later ++ one) ≡ steps_of on.agree.first =
      sym (run_is (whole net front plans) on.agree.first (map (raised_event shift) later ++ one) on.agree.first_runs on.agree.first_happened) in
      let second_is : chronicle (setting_over net plans) (later ++ other) ≡ steps_of on.agree.second =
      sym (run_is (setting_over net plans) on.agree.second (later ++ other) on.agree.second_runs on.agree.second_happened) in (
        before,
        subst (λ s. Admits (setting_over net plans) s e) (sym second_is)
            (sym (admitted_same shift net front plans on.agree.behind (steps_of on.agree.first) (steps_of on.agree.second) on.agree.agree.steps e may.1 may.2.start)
            ∙ subst (λ s. Admits (whole net front plans) s (raised_event shift e)) first_is is.1),
      )

  -- What breaks after the second breaks after the first, of the premises but loss.
  pub breaks_in_both : (one other : List Event) → HistoriesAgree shift net front plans one other
      → PremisesAgree (whole net front plans) (setting_over net plans) (seen_of (chronicle (whole net front plans) one))
      (seen_of (chronicle (setting_over net plans) other))
      → (later : List Event) → AllMayFollow (setting_over net plans) other later → IsAdmitted (setting_over net plans) (later ++ other)
      → PremisesAgree (whole net front plans) (setting_over net plans)
      (seen_of (chronicle (whole net front plans) (map (raised_event shift) later ++ one))) (seen_of (chronicle (setting_over net plans) (later ++ other)))
  breaks_in_both one other h premises [] may is = premises
  breaks_in_both one other h premises (e ∷ later) may is =
      let steps_one : List Step = chronicle (whole net front plans) (map (raised_event shift) later ++ one) in
      let steps_other : List Step = chronicle (setting_over net plans) (later ++ other) in
      let before : PremisesAgree (whole net front plans) (setting_over net plans) (seen_of steps_one) (seen_of steps_other) =
      breaks_in_both one other h premises later may.0 is.0 in
      let on : GoOn one other later = resumed one other h later may.0 is.0 in
      let now : OneMore (map (raised_event shift) later ++ one) (later ++ other) e =
      one_more (map (raised_event shift) later ++ one) (later ++ other) e on.agree may.1 may.2 is.1 in
      let first_is : steps_of on.agree.first ≡ steps_one =
      run_is (whole net front plans) on.agree.first (map (raised_event shift) later ++ one) on.agree.first_runs on.agree.first_happened in
      let second_is : steps_of on.agree.second ≡ steps_other =
      run_is (setting_over net plans) on.agree.second (later ++ other) on.agree.second_runs on.agree.second_happened in
      let looks : LooksAlike shift (seen_of steps_one) (seen_of steps_other) =
      subst (λ s. LooksAlike shift (seen_of s) (seen_of steps_other)) first_is
      (subst (λ s. LooksAlike shift (seen_of (steps_of on.agree.first)) (seen_of s)) second_is on.agree.agree.steps.seen) in
      let rule : not_started (seen_of steps_other) e ≡ false =
      (clear (setting_over net plans) steps_other e is.1).device_up in
      subst (λ s. PremisesAgree (whole net front plans) (setting_over net plans) (s ∷ seen_of steps_one)
      ((next_step (setting_over net plans) steps_other e).seen ∷ seen_of steps_other)) (sym now.seen)
      (premises_agree_after shift net front plans on.agree.behind (seen_of steps_one) (seen_of steps_other) looks before
      (next_step (setting_over net plans) steps_other e).seen may.2.start
      (λ d c named reads unmade. up_at_reading (seen_of steps_other) e d c rule named reads unmade)
      (admitted_time_goes_on (setting_over net plans) steps_other e is.1) (admitted_goes_forward (setting_over net plans) steps_other e is.1))

  -- And of lost rounds.
  pub loses_in_both : (one other : List Event) → HistoriesAgree shift net front plans one other
      → LossesAgree shift (seen_of (chronicle (whole net front plans) one)) (seen_of (chronicle (setting_over net plans) other))
      → (later : List Event) → AllMayFollow (setting_over net plans) other later → IsAdmitted (setting_over net plans) (later ++ other)
      → LossesAgree shift (seen_of (chronicle (whole net front plans) (map (raised_event shift) later ++ one)))
      (seen_of (chronicle (setting_over net plans) (later ++ other)))
  loses_in_both one other h losses [] may is = losses
  loses_in_both one other h losses (e ∷ later) may is =
      let steps_one : List Step = chronicle (whole net front plans) (map (raised_event shift) later ++ one) in
      let steps_other : List Step = chronicle (setting_over net plans) (later ++ other) in
      let before : LossesAgree shift (seen_of steps_one) (seen_of steps_other) = loses_in_both one other h losses later may.0 is.0 in
      let on : GoOn one other later = resumed one other h later may.0 is.0 in
      let now : OneMore (map (raised_event shift) later ++ one) (later ++ other) e =
      one_more (map (raised_event shift) later ++ one) (later ++ other) e on.agree may.1 may.2 is.1 in
      let first_is : steps_of on.agree.first ≡ steps_one =
      run_is (whole net front plans) on.agree.first (map (raised_event shift) later ++ one) on.agree.first_runs on.agree.first_happened in
      let second_is : steps_of on.agree.second ≡ steps_other =
      run_is (setting_over net plans) on.agree.second (later ++ other) on.agree.second_runs on.agree.second_happened in
      let time : latest_reference (seen_of steps_one) ≡ latest_reference (seen_of steps_other) =
      subst (λ s. latest_reference (seen_of s) ≡ latest_reference (seen_of steps_other)) first_is
      (subst (λ s. latest_reference (seen_of (steps_of on.agree.first)) ≡ latest_reference (seen_of s)) second_is on.agree.agree.steps.seen.time) in
      let goes : latest_reference (seen_of steps_other) ≤ reference_of e = admitted_time_goes_on (setting_over net plans) steps_other e is.1 in
      subst (λ s. LossesAgree shift (s ∷ seen_of steps_one) ((next_step (setting_over net plans) steps_other e).seen ∷ seen_of steps_other)) (sym now.seen)
      (losses_agree_after shift (next_step (setting_over net plans) steps_other e).seen (seen_of steps_one) (seen_of steps_other) before
      (subst (λ t. t ≤ reference_of e) (sym time) goes) goes
      (λ f among. sent_facts (setting_over net plans) steps_other e f among))
