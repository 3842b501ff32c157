-- Standing composes: what stands for a history that stands for a longer one stands for the longer one.
use Rattle.std.specs.Prelude.{◌≡◌, ℕ, ◌+◌, ◌≤◌, List, [], ◌∷◌, ◌++◌, length, map, Option, Some, None, option_map, IfSome, refl}
use Rattle.std.proofs.Common.{arith, sym, ◌∙◌, ap, subst, append_assoc}
use Rattle.sd_num.specs.declared.Rates.{Rates}
use Rattle.sd_num.specs.declared.clock.Estimate.{Estimate}
use Rattle.sd_num.specs.clock.Estimates.{report_of}
use Rattle.sd_plan.specs.topo.Network.{Network}
use Rattle.sd_plan.specs.declared.Duty.{Duty}
use Rattle.sd_plan.specs.declared.Plan.{Plan}
use Rattle.sd_device.specs.declared.msg.Flight.{Flight}
use Rattle.sd_device.specs.declared.registers.Registers.{Registers}
use Rattle.sd_device.specs.declared.registers.Mode.{Mode}
use Rattle.sd_device.specs.declared.registers.Mode.TheVariants.{Primary, Backup, Acting, Idle}
use Rattle.sd_device.specs.Rules.{is_acting_mode}
use Rattle.sd_device.specs.Rebases.{waits_in}
use Rattle.sd_device.specs.contracts.device.DeviceNode.TheImpl.{ghosts as device}
use Rattle.sd_sched.specs.declared.Event.{Event}
use Rattle.sd_history.specs.World.{Seen, setting_over, latest_reading}
use Rattle.sd_history.specs.Steps.{Step, seen_of, live_answers, flight_count, flight_numbered}
use Rattle.sd_history.specs.Refusals.{was_used, was_swept}
use Rattle.sd_history.specs.Chronicle.{chronicle}
use Rattle.sd_history.specs.Premises.{reaching_flights, was_received, is_overdue, was_interrupted, spoils}
use Rattle.sd_history.specs.Nodes.{NodeStep, steps_of, node_in}
use Rattle.sd_history.specs.Admitted.{IsAdmittedRun}
use Rattle.sd_history.proofs.Among.{Among}
use Rattle.sd_resume.specs.law.Shifts.{Shift, raised_duty, raised_stamp, raised_flight, raised_registers, raised_seen}
use Rattle.sd_resume.specs.law.Likeness.{IsAlike, AreAlike}
use Rattle.sd_resume.specs.law.Views.{LooksAlike}
use Rattle.sd_resume.specs.law.Agreement.{raised_answers, StepsAgree, Agree}
use Rattle.sd_resume.specs.law.Law.{whole}
use Rattle.sd_resume.specs.law.Premised.{PremisesAgree}
use Rattle.sd_resume.specs.law.Losses.{FlightAgrees, LossesAgree}
use Rattle.sd_resume.specs.law.Composed.{joined_shift, StandsForWhole}
use Rattle.sd_resume.proofs.law.Joining.{sum, options_joined, lists_joined, stamp_joined, flight_joined, seen_joined, answers_joined, registers_joined}
use Rattle.sd_resume.proofs.law.Same.{same_nodes}
use Rattle.sd_resume.proofs.law.Laws.{run_is}

module _ (outer inner : Shift) where
  abbrev joined : Shift
  joined = joined_shift outer inner

  some_more : (n a : ℕ) → 1 ≤ n → 1 ≤ n + a
  some_more n a some = omega (arith, some)

  -- What is seen

  looks_joined : (one two three : List Seen) → LooksAlike outer one two → LooksAlike inner two three → LooksAlike joined one three
  looks_joined one two three o i =
      record {
        up = λ d. o.up d ∙ i.up d;
        failed = λ x. o.failed x ∙ i.failed x;
        time = o.time ∙ i.time;
        reading = λ d up. o.reading d (i.up d ∙ up) ∙ i.reading d up;
        window = o.window ∙ ap (option_map (map (raised_seen outer))) i.window
            ∙ sym (options_joined (map (raised_seen joined)) (map (raised_seen outer)) (map (raised_seen inner))
            (lists_joined (raised_seen joined) (raised_seen outer) (raised_seen inner) (seen_joined outer inner)) _);
        epoch = o.epoch ∙ ap (λ n. n + outer.plans) i.epoch ∙ sym (sum _ inner.plans outer.plans);
        ended = o.ended ∙ i.ended;
      }

  -- Steps

  steps_joined : (one two three : List Step) → StepsAgree outer one two → StepsAgree inner two three → StepsAgree joined one three
  steps_joined one two three o i =
      record {
        seen = looks_joined (seen_of one) (seen_of two) (seen_of three) o.seen i.seen;
        answers = λ d.
            o.answers d ∙ ap (option_map (raised_answers outer)) (i.answers d)
            ∙ sym (options_joined (raised_answers joined) (raised_answers outer) (raised_answers inner) (answers_joined outer inner) (live_answers three d));
        count = o.count ∙ ap (λ n. n + outer.messages) i.count ∙ sym (sum (flight_count three) inner.messages outer.messages);
        numbered = λ n some.
            ap (flight_numbered one) (sum n inner.messages outer.messages) ∙ o.numbered (n + inner.messages) (some_more n inner.messages some)
            ∙ ap (option_map (raised_flight outer)) (i.numbered n some)
            ∙ sym (options_joined (raised_flight joined) (raised_flight outer) (raised_flight inner) (flight_joined outer inner) (flight_numbered three n));
        used = λ n some.
            ap (was_used one) (sum n inner.messages outer.messages) ∙ o.used (n + inner.messages) (some_more n inner.messages some) ∙ i.used n some;
        swept = λ n f some found.
            ap (was_swept one) (flight_joined outer inner f)
            ∙ o.swept (n + inner.messages) (raised_flight inner f) (some_more n inner.messages some)
            (i.numbered n some ∙ ap (option_map (raised_flight inner)) found)
            ∙ i.swept n f some found;
      }

  -- Devices

  waits_raised : (r : Registers) (last sent : ℕ) (stamp : _) (estimate : Estimate) → waits_in (raised_registers inner r last sent stamp estimate) ≡ waits_in r
  waits_raised r last sent stamp estimate = by r.mode r.duty
    where
      by : (m : Mode) (o : Option Duty) → waits_in (record r { mode = m; duty = option_map (raised_duty inner) o }) ≡ waits_in (record r { mode = m; duty = o })
      by Primary None = refl
      by Primary (Some duty) = refl
      by Backup None = refl
      by Backup (Some duty) = refl
      by Acting o = refl
      by Idle o = refl

  alike_joined : (now : ℕ) (one two three : Registers) → IsAlike outer now one two → IsAlike inner now two three → IsAlike joined now one three
  alike_joined now one two three o i =
      record {
        last = o.last;
        sent = o.sent;
        stamp = o.stamp;
        estimate = o.estimate;
        kept = o.kept ∙ ap (λ (r : Registers). raised_registers outer r o.last o.sent o.stamp o.estimate) i.kept
            ∙ registers_joined outer inner three o.last o.sent i.last i.sent o.stamp i.stamp o.estimate i.estimate;
        waited = λ waits.
            o.waited (ap waits_in i.kept ∙ waits_raised three i.last i.sent i.stamp i.estimate ∙ waits) ∙ ap (λ (r : Registers). r.last) i.kept ∙ i.waited waits;
        emitted = λ acts.
            o.emitted (ap (λ (r : Registers). is_acting_mode r.mode) i.kept ∙ acts) ∙ ap (λ (r : Registers). r.sent) i.kept ∙ i.emitted acts;
        stamps = stamps three.duty refl;
        reports = λ counter due.
            ap (λ (rates : Rates). report_of rates o.estimate counter) (sym rates)
            ∙ o.reports counter due
            ∙ ap (λ (rates : Rates). report_of rates two.estimate counter) rates
            ∙ ap (λ (r : Registers). report_of three.rates r.estimate counter) i.kept
            ∙ i.reports counter due;
      }
    where
      rates : two.rates ≡ three.rates
      rates = ap (λ (r : Registers). r.rates) i.kept

      of_some : (P : Type 0) (k : Option Duty) (duty : Duty) → k ≡ Some duty → IfSome k (λ other. P) → P
      of_some P None duty is h = cc
      of_some P (Some other) duty is h = h

      stamps : (k : Option Duty) → three.duty ≡ k → IfSome k (λ duty. o.stamp ≡ raised_stamp joined three.stamp)
      stamps None is = tt
      stamps (Some duty) is =
          of_some (o.stamp ≡ raised_stamp outer two.stamp) two.duty (raised_duty inner duty) (ap (λ (r : Registers). r.duty) i.kept ∙ ap (option_map (raised_duty inner)) is) o.stamps
          ∙ ap (raised_stamp outer) (ap (λ (r : Registers). r.stamp) i.kept ∙ of_some (i.stamp ≡ raised_stamp inner three.stamp) three.duty duty is i.stamps)
          ∙ sym (stamp_joined outer inner three.stamp)

  nodes_joined : (now : ℕ) (one two three : Option Registers) → AreAlike outer now one two → AreAlike inner now two three → AreAlike joined now one three
  nodes_joined now (Some one) (Some two) (Some three) o i = alike_joined now one two three o i
  nodes_joined now (Some one) (Some two) None o i = absurd i
  nodes_joined now (Some one) None three o i = absurd o
  nodes_joined now None two three o i = absurd o

  -- Runs

  runs_joined : (one two two' three : List (NodeStep Registers)) → steps_of two ≡ steps_of two' → ((d : ℕ) → node_in two d ≡ node_in two' d)
      → Agree outer one two → Agree inner two' three → Agree joined one three
  runs_joined one two two' three same nodes o i =
      let steps : StepsAgree inner (steps_of two) (steps_of three) = subst (λ s. StepsAgree inner s (steps_of three)) (sym same) i.steps in
      record {
        steps = steps_joined (steps_of one) (steps_of two) (steps_of three) o.steps steps;
        devices = λ d up.
            nodes_joined (latest_reading (seen_of (steps_of three)) d) (node_in one d) (node_in two d) (node_in three d)
            (subst (λ n. AreAlike outer n (node_in one d) (node_in two d)) (steps.seen.reading d up) (o.devices d (steps.seen.up d ∙ up)))
            (subst (λ x. AreAlike inner (latest_reading (seen_of (steps_of three)) d) x (node_in three d)) (sym (nodes d)) (i.devices d up));
      }

  -- Premises

  premises_joined : (net : Network) (front middle plans : List Plan) (one two three : List Seen) → LooksAlike inner two three
      → PremisesAgree (whole net front (middle ++ plans)) (setting_over net (middle ++ plans)) one two
      → PremisesAgree (setting_over net (middle ++ plans)) (setting_over net plans) two three
      → PremisesAgree (whole net front (middle ++ plans)) (setting_over net plans) one three
  premises_joined net front middle plans one two three looks o i =
      record {
        start = λ h. i.start (o.start h);
        drift = λ h. i.drift (o.drift h);
        delay = λ h. i.delay (o.delay h);
        tick = λ h. i.tick (o.tick h);
        domain = λ h. i.domain (o.domain h);
        renew = λ h. i.renew (o.renew h);
        readings = λ d reference counter up late more kept.
            i.readings d reference counter up late more
            (o.readings d reference counter (looks.up d ∙ up) (subst (λ n. n ≤ reference) (sym looks.time) late)
            (subst (λ n. n ≤ counter) (sym (looks.reading d up)) more) kept);
        ticks = λ d up. least (o.ticks d (looks.up d ∙ up)) (i.ticks d up);
        members = i.members;
        untouched = λ d un. o.untouched d (i.untouched d un);
        failures = λ x. o.failures x ∙ i.failures x;
      }
    where
      least : {a b c : ℕ} → a ≤ b → b ≤ c → a ≤ c
      least a b = omega (arith, a, b)

  -- Lost rounds

  losses_joined : (one two three : List Seen) → LossesAgree outer one two → LossesAgree inner two three → LossesAgree joined one three
  losses_joined one two three o i =
      record {
        flights = λ f among. flight f (i.flights f among);
        received = λ n some.
            ap (was_received one) (sum n inner.messages outer.messages) ∙ o.received (n + inner.messages) (some_more n inner.messages some)
            ∙ i.received n some;
        past = o.past;
        past_other = i.past_other;
      }
    where
      flight : (f : Flight) → FlightAgrees inner two three f → FlightAgrees joined one three f
      flight f h =
          let up : FlightAgrees outer one two (raised_flight inner f) = o.flights (raised_flight inner f) h.there in
          record {
            there = subst (λ g. Among g (reaching_flights one)) (sym (flight_joined outer inner f)) up.there;
            number = h.number;
            overdue = ap (is_overdue one) (flight_joined outer inner f) ∙ up.overdue ∙ h.overdue;
            interrupted = ap (was_interrupted one) (flight_joined outer inner f) ∙ up.interrupted ∙ h.interrupted;
            spoilt = ap (spoils one) (flight_joined outer inner f) ∙ up.spoilt ∙ h.spoilt;
          }

  -- Histories

  module _ (net : Network) (front middle plans : List Plan) (one two three : List Event)
      (o : StandsForWhole outer net front (middle ++ plans) one two) (i : StandsForWhole inner net middle plans two three) where
    whole_is : whole net front (middle ++ plans) ≡ whole net (front ++ middle) plans
    whole_is = ap (setting_over net) (plans_are front)
      where
        plans_are : (xs : List Plan) → xs ++ (middle ++ plans) ≡ xs ++ middle ++ plans
        plans_are xs = simp append_assoc

    two_is : steps_of o.agree.second ≡ steps_of i.agree.first
    two_is =
        run_is (setting_over net (middle ++ plans)) o.agree.second two o.agree.second_runs o.agree.second_happened
        ∙ sym (run_is (setting_over net (middle ++ plans)) i.agree.first two i.agree.first_runs i.agree.first_happened)

    looks : LooksAlike inner (seen_of (chronicle (setting_over net (middle ++ plans)) two)) (seen_of (chronicle (setting_over net plans) three))
    looks =
        subst (λ steps. LooksAlike inner (seen_of steps) (seen_of (chronicle (setting_over net plans) three)))
        (run_is (setting_over net (middle ++ plans)) i.agree.first two i.agree.first_runs i.agree.first_happened)
        (subst (λ steps. LooksAlike inner (seen_of (steps_of i.agree.first)) (seen_of steps))
        (run_is (setting_over net plans) i.agree.second three i.agree.second_runs i.agree.second_happened) i.agree.agree.steps.seen)

    pub standing_joined : StandsForWhole joined net (front ++ middle) plans one three
    standing_joined =
        record {
          agree = record {
            behind = ap (λ n. n + outer.plans) i.agree.behind ∙ ap (λ n. length middle + n) o.agree.behind ∙ lengths front;
            first = o.agree.first;
            second = i.agree.second;
            first_runs = subst (λ setting. IsAdmittedRun device setting o.agree.first) whole_is o.agree.first_runs;
            second_runs = i.agree.second_runs;
            first_happened = o.agree.first_happened;
            second_happened = i.agree.second_happened;
            agree = runs_joined o.agree.first o.agree.second i.agree.first i.agree.second two_is
                (same_nodes (setting_over net (middle ++ plans)) o.agree.second i.agree.first o.agree.second_runs i.agree.first_runs two_is) o.agree.agree
                i.agree.agree;
          };
          premises = subst (λ setting. PremisesAgree setting (setting_over net plans) (seen_of (chronicle setting one))
              (seen_of (chronicle (setting_over net plans) three))) whole_is
              (premises_joined net front middle plans (seen_of (chronicle (whole net front (middle ++ plans)) one))
              (seen_of (chronicle (setting_over net (middle ++ plans)) two)) (seen_of (chronicle (setting_over net plans) three)) looks o.premises i.premises);
          losses = subst (λ setting. LossesAgree joined (seen_of (chronicle setting one)) (seen_of (chronicle (setting_over net plans) three))) whole_is
              (losses_joined (seen_of (chronicle (whole net front (middle ++ plans)) one)) (seen_of (chronicle (setting_over net (middle ++ plans)) two))
              (seen_of (chronicle (setting_over net plans) three)) o.losses i.losses);
        }
      where
        lengths : (xs : List Plan) → length middle + length xs ≡ length (xs ++ middle)
        lengths [] = omega arith
        lengths (x ∷ xs) = let more : length middle + length xs ≡ length (xs ++ middle) = lengths xs in omega (arith, more)
