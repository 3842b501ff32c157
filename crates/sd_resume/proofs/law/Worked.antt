-- The worked opening is one: what is asked of it is computed.
use Rattle.std.specs.Prelude.{◌≡◌, ℕ, zero, suc, ◌+◌, ◌<◌, ◌≤◌, Bool, true, false, ◌&&◌, ◌||◌, not, List, [], ◌∷◌, map, find, nat_eq, Option, Some, None, is_none, is_some, option_map, refl, if◌then◌else◌}
use Rattle.std.specs.List.{list_all}
use Rattle.std.proofs.Common.{arith, sym, ◌∙◌, ap, subst, inl, inr, lit≤}
use Rattle.std.proofs.lemmas.Bool.{and_parts, cases_lt, false_from_ne_true}
use Rattle.std.proofs.lemmas.Option.{same_Some}
use Rattle.sd_plan.specs.topo.Network.{rates_of}
use Rattle.sd_plan.specs.Examples.{triangle, triangle_plan}
use Rattle.sd_device.specs.declared.registers.Registers.{Registers}
use Rattle.sd_device.specs.declared.registers.Mode.{Mode}
use Rattle.sd_device.specs.declared.registers.Mode.TheVariants.{Primary, Acting}
use Rattle.sd_plan.specs.declared.Duty.{Duty}
use Rattle.sd_plan.specs.declared.Edge.{Edge}
use Rattle.sd_plan.specs.declared.Role.{Role}
use Rattle.sd_plan.specs.declared.Role.TheVariants.{Root, BackupRoot, Ordinary}
use Rattle.sd_num.specs.declared.Rates.{Rates}
use Rattle.sd_device.specs.msg.Stamps.{stamp}
use Rattle.sd_num.specs.declared.clock.Estimate.{Estimate}
use Rattle.sd_device.specs.declared.msg.Flight.{Flight}
use Rattle.sd_sched.specs.declared.Event.{Event}
use Rattle.std.specs.List.{list_any}
use Rattle.sd_plan.specs.declared.topo.Thing.{Thing}
use Rattle.sd_plan.specs.domain.Things.{same_thing}
use Rattle.sd_sched.specs.Honesty.{keeps_reading}
use Rattle.sd_history.specs.World.{Setting, Seen, is_up, has_failed, latest_reading, is_untouched, latest_reference, window, epoch_in_force}
use Rattle.sd_history.specs.Steps.{Step, seen_of, events_of, answers_in, flights, flight_count}
use Rattle.sd_history.specs.Refusals.{refusal, is_spent, after_end}
use Rattle.sd_history.specs.Premises.{all_hold, readings, latest_tick, failures_since_closing}
use Rattle.sd_history.specs.Chronicle.{past_in, chronicle, IsHistory}
use Rattle.sd_history.specs.Nodes.{answers_of, NodeStep, steps_of, node_in, IsRun}
use Rattle.sd_history.proofs.Base.{one_plan}
use Rattle.sd_history.proofs.Admitted.{run_is_admitted, history_is_admitted}
use Rattle.sd_history.proofs.Known.{admitted_up_is_known}
use Rattle.sd_history.proofs.Bridges.{past_of_life}
use Rattle.sd_history.proofs.Exactness.{Lives, run_goes}
use Rattle.sd_device.proofs.Exactness.{device_is_exact}
use Rattle.sd_device.specs.Lives.{past_of}
use Rattle.sd_device.specs.Standing.{StandsFor, registers_of}
use Rattle.sd_device.specs.contracts.device.DeviceNode.TheImpl.{ghosts as device}
use Rattle.sd_history.specs.Lives.{life_in}
use Rattle.sd_history.proofs.Happening.{HasRun, history_has_run}
use Rattle.sd_num.proofs.clock.Advance.{advance_reports}
use Rattle.sd_resume.specs.law.Shifts.{raised_seen}
use Rattle.sd_resume.specs.law.Likeness.{IsAlike, AreAlike}
use Rattle.sd_resume.specs.law.Views.{LooksAlike}
use Rattle.sd_resume.specs.law.Cuts.{IsOpening, NoneOnItsWay, IsHonestOpening}
use Rattle.sd_resume.specs.law.Worked.{whole_events, opening_events, worked_shift, IsWorked}
use Rattle.sd_resume.proofs.law.Running.{answers_are_nodes}

-- Histories that compute

are_accepted : Setting → List Event → Bool
are_accepted setting [] = true
are_accepted setting (e ∷ earlier) = are_accepted setting earlier && is_none (refusal setting (chronicle setting earlier) e)

is_history : (setting : Setting) (history : List Event) → are_accepted setting history ≡ true → IsHistory setting history
unfolding are_accepted
is_history setting [] accepted = tt
is_history setting (e ∷ earlier) accepted =
    let both : (are_accepted setting earlier ≡ true) × (is_none (refusal setting (chronicle setting earlier) e) ≡ true) =
    and_parts (are_accepted setting earlier) (is_none (refusal setting (chronicle setting earlier) e)) accepted in
    (is_history setting earlier both.0, none (refusal setting (chronicle setting earlier) e) both.1)
  where
    none : {A : Type 0} (o : Option A) → is_none o ≡ true → o ≡ None
    none None is = refl
    none (Some x) is = cc

whole_accepted : are_accepted one_plan whole_events ≡ true
unfolding are_accepted
whole_accepted = refl

opening_accepted : are_accepted one_plan opening_events ≡ true
unfolding are_accepted
opening_accepted = refl

abbrev whole_steps : List Step
whole_steps = chronicle one_plan whole_events

abbrev opening_steps : List Step
opening_steps = chronicle one_plan opening_events

whole_happens : IsHistory one_plan whole_events
whole_happens = is_history one_plan whole_events whole_accepted

opening_happens : IsHistory one_plan opening_events
opening_happens = is_history one_plan opening_events opening_accepted

-- The registers of a device of a run are those of its past.

node_is : (setting : Setting) (run : List (NodeStep Registers)) (d : ℕ) (r : Registers) → IsRun device setting run
    → is_some (answers_in (steps_of run) d) ≡ true → option_map registers_of (past_in (steps_of run) d) ≡ Some r → node_in run d ≡ Some r
node_is setting run d r runs answers is = go (node_in run d) refl
  where
    go : (o : Option Registers) → node_in run d ≡ o → o ≡ Some r
    go None none =
        let told : false ≡ true =
        sym (ap is_some (answers_are_nodes setting run (run_is_admitted device setting run runs) d ∙ ap (option_map (answers_of device)) none)) ∙ answers in
        cc
    go (Some x) here =
        let lives : Lives StandsFor (life_in (steps_of run) d) x =
        (run_goes device StandsFor device_is_exact setting run (run_is_admitted device setting run runs)).live d x here in
        ap Some lives.stands.are ∙ sym (ap (option_map registers_of) (past_of_life (steps_of run) d ∙ ap (option_map past_of) lives.is)) ∙ is

-- Of three devices

-- a device that is up is one of the three
known : (events : List Event) → IsHistory one_plan events → (d : ℕ) → is_up (seen_of (chronicle one_plan events)) d ≡ true → d < 3
known events happens d up = admitted_up_is_known one_plan events (history_is_admitted one_plan events happens) d up

of_three : (P : ℕ → Type 0) → P 0 → P 1 → P 2 → (d : ℕ) → d < 3 → P d
of_three P a b c zero few = a
of_three P a b c (suc zero) few = b
of_three P a b c (suc (suc zero)) few = c
of_three P a b c (suc (suc (suc d))) few = absurd (never d few)
  where
    never : (n : ℕ) → suc (suc (suc n)) < 3 → ⊥
    never n few' = omega (arith, few')

-- The registers of the three

abbrev rates : Rates
rates = rates_of triangle 0

abbrev edge : (parent link : ℕ) → Edge
edge parent link = record { parent = parent; link = link; bounds = record { mid = 700000; half = 300000 } }

abbrev waiting : Role → Option Edge → Option Edge → Duty
waiting role primary backup =
    record {
      epoch = 1;
      role = role;
      primary = primary;
      backup = backup;
      period = 100000000;
      wait_first = 1345000000;
      wait_second = 1345000000;
      wait = 6730000000;
      rates = rates;
    }

abbrev duty_r : Duty
duty_r = waiting Root None None

abbrev duty_b : Duty
duty_b = waiting BackupRoot (Some (edge 0 0)) (Some (edge 2 2))

abbrev duty_x : Duty
duty_x = waiting Ordinary (Some (edge 0 1)) (Some (edge 1 2))

-- those of a device that was given nothing, in this round
abbrev kept : Duty → Mode → (round last sent : ℕ) → Estimate → Registers
kept duty mode round last sent estimate =
    record {
      duty = Some duty;
      given = None;
      mode = mode;
      sealed = true;
      stamp = stamp 0 round;
      last = last;
      sent = sent;
      estimate = estimate;
      rates = rates;
    }

abbrev estimate : (clock base at : ℕ) → Estimate
estimate clock base at = record { clock = clock; base = base; at = at }

whole_r : option_map registers_of (past_in whole_steps 0) ≡ Some (kept duty_r Acting 1 0 110000000 (estimate 0 500 0))
whole_r = refl

whole_b : option_map registers_of (past_in whole_steps 1) ≡ Some (kept duty_b Primary 1 110700000 0 (estimate 110700000 323500 110700000))
whole_b = refl

whole_x : option_map registers_of (past_in whole_steps 2) ≡ Some (kept duty_x Primary 1 111000000 0 (estimate 110700000 323500 111000000))
whole_x = refl

opening_r : option_map registers_of (past_in opening_steps 0) ≡ Some (kept duty_r Acting 0 110000000 110000000 (estimate 110000000 22500 110000000))
opening_r = refl

opening_b : option_map registers_of (past_in opening_steps 1) ≡ Some (kept duty_b Primary 0 110700000 110700000 (estimate 110700000 323500 110700000))
opening_b = refl

opening_x : option_map registers_of (past_in opening_steps 2) ≡ Some (kept duty_x Primary 0 111000000 111000000 (estimate 110700000 323500 111000000))
opening_x = refl

-- where both are known, and alike at the latest reading
alike_at : (run other : List (NodeStep Registers)) (d : ℕ) (one two : Registers) → node_in run d ≡ Some one → node_in other d ≡ Some two
    → (now : ℕ) → IsAlike worked_shift now one two → AreAlike worked_shift now (node_in run d) (node_in other d)
alike_at run other d one two is is' now alike =
    subst (λ (o : Option Registers). AreAlike worked_shift now o (node_in other d)) (sym is)
    (subst (λ (o : Option Registers). AreAlike worked_shift now (Some one) o) (sym is') alike)

-- the root reports as before: 110 microseconds are whole
root_alike :
    IsAlike worked_shift 110000000 (kept duty_r Acting 1 0 110000000 (estimate 0 500 0))
    (kept duty_r Acting 0 110000000 110000000 (estimate 110000000 22500 110000000))
root_alike =
    record {
      last = 0;
      sent = 110000000;
      stamp = stamp 0 1;
      estimate = estimate 0 500 0;
      kept = refl;
      waited = λ waits. cc;
      emitted = λ acts. refl;
      stamps = refl;
      reports = λ counter due. sym (advance_reports rates (estimate 0 500 0) 110000000 22000 counter refl due);
    }

-- a device that waits since the same counter, with the same estimate
waiting_alike : (role : Role) (primary backup : Option Edge) (now last sent other : ℕ) (e : Estimate)
    → IsAlike worked_shift now (kept (waiting role primary backup) Primary 1 last sent e) (kept (waiting role primary backup) Primary 0 last other e)
waiting_alike role primary backup now last sent other e =
    record {
      last = last;
      sent = sent;
      stamp = stamp 0 1;
      estimate = e;
      kept = refl;
      waited = λ waits. refl;
      emitted = λ acts. cc;
      stamps = refl;
      reports = λ counter due. refl;
    }

-- What is seen

abbrev seen : List Seen
seen = seen_of whole_steps

abbrev seen_other : List Seen
seen_other = seen_of opening_steps

up_same : (d : ℕ) → is_up seen d ≡ is_up seen_other d
up_same d =
    elim (cases_lt d 3) [
      | inl few ↦ of_three (λ d. is_up seen d ≡ true) refl refl refl d few ∙ sym (of_three (λ d. is_up seen_other d ≡ true) refl refl refl d few)
      | inr many ↦ false_from_ne_true (is_up seen d) (λ up. never d (known whole_events whole_happens d up) many)
          ∙ sym (false_from_ne_true (is_up seen_other d) (λ up. never d (known opening_events opening_happens d up) many))
    ]
  where
    never : (d : ℕ) → d < 3 → 3 ≤ d → ⊥
    never d few many = omega (arith, few, many)

none_failed : (x : Thing) → has_failed seen x ≡ false
none_failed x = refl

none_failed_other : (x : Thing) → has_failed seen_other x ≡ false
none_failed_other x = refl

reading_of : ℕ → ℕ
reading_of zero = 110000000
reading_of (suc zero) = 111700000
reading_of (suc (suc d)) = 111400000

reading_is : (d : ℕ) → d < 3 → latest_reading seen d ≡ reading_of d
unfolding reading_of
reading_is = of_three (λ d. latest_reading seen d ≡ reading_of d) refl refl refl

reading_is_other : (d : ℕ) → d < 3 → latest_reading seen_other d ≡ reading_of d
unfolding reading_of
reading_is_other = of_three (λ d. latest_reading seen_other d ≡ reading_of d) refl refl refl

no_window : window seen ≡ None
no_window = refl

no_window_other : window seen_other ≡ None
no_window_other = refl

looks : LooksAlike worked_shift seen seen_other
looks =
    record {
      up = up_same;
      failed = λ x. none_failed x ∙ sym (none_failed_other x);
      time = time ∙ sym time_other;
      reading = λ d up. let few : d < 3 = known opening_events opening_happens d up in reading_is d few ∙ sym (reading_is_other d few);
      window = no_window ∙ sym (ap (option_map (map (raised_seen worked_shift))) no_window_other);
      epoch = epoch ∙ sym (ap (λ n. n + 0) epoch_other);
      ended = ended ∙ sym ended_other;
    }
  where
    time : latest_reference seen ≡ 111700000
    time = refl

    time_other : latest_reference seen_other ≡ 111700000
    time_other = refl

    epoch : epoch_in_force seen ≡ 1
    epoch = refl

    epoch_other : epoch_in_force seen_other ≡ 1
    epoch_other = refl

    ended : after_end seen ≡ false
    ended = refl

    ended_other : after_end seen_other ≡ false
    ended_other = refl

-- The runs

whole_run : HasRun one_plan whole_events
whole_run = history_has_run one_plan whole_events whole_happens

opening_run : HasRun one_plan opening_events
opening_run = history_has_run one_plan opening_events opening_happens

-- a device of a run with a chronicle that computes
node_of : (events : List Event) (has : HasRun one_plan events) (d : ℕ) (r : Registers)
    → is_some (answers_in (chronicle one_plan events) d) ≡ true → option_map registers_of (past_in (chronicle one_plan events) d) ≡ Some r
    → node_in has.run d ≡ Some r
node_of events has d r answers is =
    node_is one_plan has.run d r has.runs (subst (λ (s : List Step). is_some (answers_in s d) ≡ true) (sym has.steps) answers)
    (subst (λ (s : List Step). option_map registers_of (past_in s d) ≡ Some r) (sym has.steps) is)

devices_alike : (d : ℕ) → d < 3 → AreAlike worked_shift (reading_of d) (node_in whole_run.run d) (node_in opening_run.run d)
unfolding reading_of
devices_alike =
    of_three (λ d. AreAlike worked_shift (reading_of d) (node_in whole_run.run d) (node_in opening_run.run d))
    (alike_at whole_run.run opening_run.run 0 _ _ (node_of whole_events whole_run 0 _ refl whole_r) (node_of opening_events opening_run 0 _ refl opening_r)
    110000000 root_alike)
    (alike_at whole_run.run opening_run.run 1 _ _ (node_of whole_events whole_run 1 _ refl whole_b) (node_of opening_events opening_run 1 _ refl opening_b)
    111700000 (waiting_alike BackupRoot (Some (edge 0 0)) (Some (edge 2 2)) 111700000 110700000 0 110700000 (estimate 110700000 323500 110700000)))
    (alike_at whole_run.run opening_run.run 2 _ _ (node_of whole_events whole_run 2 _ refl whole_x) (node_of opening_events opening_run 2 _ refl opening_x)
    111400000 (waiting_alike Ordinary (Some (edge 0 1)) (Some (edge 1 2)) 111400000 111000000 0 111000000 (estimate 110700000 323500 111000000)))

worked_opening : IsOpening worked_shift triangle [] (triangle_plan ∷ []) whole_run.run opening_run.run
worked_opening =
    record {
      behind = refl;
      first_runs = whole_run.runs;
      second_runs = opening_run.runs;
      sent = ap flight_count whole_run.steps ∙ count;
      sent_none = ap flight_count opening_run.steps ∙ count_other;
      seen = subst (λ (s : List Step). LooksAlike worked_shift (seen_of s) (seen_of (steps_of opening_run.run))) (sym whole_run.steps)
          (subst (λ (s : List Step). LooksAlike worked_shift seen (seen_of s)) (sym opening_run.steps) looks);
      devices = λ d up.
          let few : d < 3 = known opening_events opening_happens d (subst (λ (s : List Step). is_up (seen_of s) d ≡ true) opening_run.steps up) in
          subst (λ (n : ℕ). AreAlike worked_shift n (node_in whole_run.run d) (node_in opening_run.run d))
          (sym (ap (λ (s : List Step). latest_reading (seen_of s) d) opening_run.steps ∙ reading_is_other d few)) (devices_alike d few);
    }
  where
    count : flight_count whole_steps ≡ 4
    count = refl

    count_other : flight_count opening_steps ≡ 0
    count_other = refl

-- Nothing is on its way

all_spent : list_all (λ f. is_spent whole_steps 0 f) (flights whole_steps) ≡ true
all_spent = refl

spent_among : (n : ℕ) (f : Flight) (fs : List Flight) → list_all (λ g. is_spent whole_steps 0 g) fs ≡ true → find (λ g. nat_eq g.number n) fs ≡ Some f
    → is_spent whole_steps 0 f ≡ true
spent_among n f [] all found = cc
spent_among n f (g ∷ fs) all found =
    go (nat_eq g.number n) (and_parts (is_spent whole_steps 0 g) (list_all (λ x. is_spent whole_steps 0 x) fs) all) found (spent_among n f fs)
  where
    go : (b : Bool) → (is_spent whole_steps 0 g ≡ true) × (list_all (λ x. is_spent whole_steps 0 x) fs ≡ true)
        → (if b then Some g else find (λ x. nat_eq x.number n) fs) ≡ Some f
        → (list_all (λ x. is_spent whole_steps 0 x) fs ≡ true → find (λ x. nat_eq x.number n) fs ≡ Some f → is_spent whole_steps 0 f ≡ true)
        → is_spent whole_steps 0 f ≡ true
    go true both here rest = subst (λ (x : Flight). is_spent whole_steps 0 x ≡ true) (same_Some g f here) both.0
    go false both later rest = rest both.1 later

quiet : NoneOnItsWay 4 whole_steps
quiet n f small found = spent_among n f (flights whole_steps) all_spent found

-- Honesty

holds : all_hold one_plan seen_other ≡ true
holds = refl

-- each reading of the opening is one of the whole
readings_of : (d : ℕ) → d < 3 → (test : ℕ × ℕ → Bool) → list_all test (readings seen d) ≡ true → list_all test (readings seen_other d) ≡ true
readings_of =
    of_three (λ d. (test : ℕ × ℕ → Bool) → list_all test (readings seen d) ≡ true → list_all test (readings seen_other d) ≡ true)
    (λ test all. first_one (test (110000000, 110000000)) (test (90000000, 90000000)) (test (0, 0)) all)
    (λ test all. first_two (test (111700000, 111700000)) (test (110700000, 110700000)) (test (90000000, 90000000)) (test (0, 0)) all)
    (λ test all. first_two (test (111400000, 111400000)) (test (111000000, 111000000)) (test (90000000, 90000000)) (test (0, 0)) all)
  where
    first_one : (a b c : Bool) → (a && (b && (c && true))) ≡ true → (a && true) ≡ true
    first_one true b c all = refl
    first_one false b c all = cc

    first_two : (a b c d : Bool) → (a && (b && (c && (d && true)))) ≡ true → (a && (b && true)) ≡ true
    first_two true true c d all = refl
    first_two true false c d all = cc
    first_two false b c d all = cc

ticks_of : (d : ℕ) → d < 3 → latest_tick seen d ≤ latest_tick seen_other d
ticks_of = of_three (λ d. latest_tick seen d ≤ latest_tick seen_other d) (lit≤ tt) (lit≤ tt) (lit≤ tt)

-- whether the device is one that started, or has ever failed
abbrev is_fresh : ℕ → Bool
is_fresh d = not ((nat_eq 2 d || false) || ((nat_eq 1 d || false) || ((nat_eq 0 d || false) || false))) && not false

fresh_is : (d : ℕ) → is_untouched seen d ≡ is_fresh d
fresh_is d = refl

fresh_is_other : (d : ℕ) → is_untouched seen_other d ≡ is_fresh d
fresh_is_other d = refl

honest : IsHonestOpening one_plan seen seen_other
honest =
    record {
      holds = holds;
      readings = λ d reference counter up later further. readings_of d (known opening_events opening_happens d up)
          (keeps_reading (rates_of triangle d) (reference, counter));
      ticks = λ d up. ticks_of d (known opening_events opening_happens d up);
      members = refl;
      untouched = λ d is. fresh_is d ∙ sym (fresh_is_other d) ∙ is;
      failures = λ x. ap (list_any (same_thing x)) (none ∙ sym none_other);
    }
  where
    none : failures_since_closing seen ≡ []
    none = refl

    none_other : failures_since_closing seen_other ≡ []
    none_other = refl

-- The worked opening is an honest opening for the worked history, of which no message is on its way.
pub worked : IsWorked
worked =
    record {
      first = whole_run.run;
      second = opening_run.run;
      first_happened = ap events_of whole_run.steps ∙ refl;
      second_happened = ap events_of opening_run.steps ∙ refl;
      opening = worked_opening;
      quiet = subst (NoneOnItsWay 4) (sym whole_run.steps) quiet;
      honest = subst (λ (s : List Step). IsHonestOpening one_plan (seen_of s) (seen_of (steps_of opening_run.run))) (sym whole_run.steps)
          (subst (λ (s : List Step). IsHonestOpening one_plan seen (seen_of s)) (sym opening_run.steps) honest);
    }
