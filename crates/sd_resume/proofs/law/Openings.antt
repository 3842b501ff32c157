-- An opening agrees with the history that it opens: all that a definition of agreement has beside follows, since the opening has sent no message.
use Rattle.std.specs.Prelude.{◌≡◌, ℕ, ◌+◌, ◌<◌, ◌≤◌, Bool, true, false, List, Option, Some, None, option_map, refl, if◌then◌else◌}
use Rattle.std.proofs.Common.{arith, sym, ◌∙◌, ap}
use Rattle.std.proofs.lemmas.Bool.Decides.{nat_tests}
use Rattle.sd_plan.specs.topo.Network.{Network}
use Rattle.sd_plan.specs.declared.Plan.{Plan}
use Rattle.sd_device.specs.declared.registers.Registers.{Registers}
use Rattle.sd_device.specs.msg.Books.{is_given}
use Rattle.sd_history.specs.World.{setting_over, is_up, latest_reading}
use Rattle.sd_history.specs.Steps.{seen_of, events_of, answers_in, live_answers, flight_count, flight_numbered}
use Rattle.sd_history.specs.Accepted.{AreSteps}
use Rattle.sd_history.specs.Nodes.{answers_of, NodeStep, steps_of, node_in}
use Rattle.sd_history.proofs.Accepting.{run_is_accepted}
use Rattle.sd_history.proofs.Admitted.{run_is_admitted}
use Rattle.sd_device.specs.contracts.device.DeviceNode.TheImpl.{ghosts as device}
use Rattle.sd_history.proofs.flights.Leaving.{unused}
use Rattle.sd_history.proofs.flights.Numbers.{numbered_none}
use Rattle.sd_resume.specs.law.Shifts.{Shift, raised_flight}
use Rattle.sd_resume.specs.law.Likeness.{AreAlike}
use Rattle.sd_resume.specs.law.Agreement.{raised_answers, Agree}
use Rattle.sd_resume.specs.law.Law.{whole, HistoriesAgree}
use Rattle.sd_resume.specs.law.Cuts.{IsOpening}
use Rattle.sd_resume.proofs.law.Running.{answers_alike, answers_are_nodes}

not_given : (count n : ℕ) → count < n → is_given count n ≡ false
not_given count n past = grind (arith, nat_tests, past)

module _ (shift : Shift) (net : Network) (front plans : List Plan) (run other : List (NodeStep Registers)) (is : IsOpening shift net front plans run other) where
  first_steps : AreSteps (whole net front plans) (steps_of run)
  first_steps = run_is_accepted device (whole net front plans) run is.first_runs

  second_steps : AreSteps (setting_over net plans) (steps_of other)
  second_steps = run_is_accepted device (setting_over net plans) other is.second_runs

  beyond : (n : ℕ) → 1 ≤ n → flight_count (steps_of run) < n + shift.messages
  beyond n some = by n (flight_count (steps_of run)) shift.messages is.sent some
    where
      by : (n count messages : ℕ) → count ≡ messages → 1 ≤ n → count < n + messages
      by n count messages same least = omega (arith, same, least)

  none_sent : (n : ℕ) → 1 ≤ n → flight_count (steps_of other) < n
  none_sent n some = by n (flight_count (steps_of other)) is.sent_none some
    where
      by : (n count : ℕ) → count ≡ 0 → 1 ≤ n → count < n
      by n count none least = omega (arith, none, least)

  no_flight : (n : ℕ) → 1 ≤ n → flight_numbered (steps_of other) n ≡ None
  no_flight n some =
      numbered_none (setting_over net plans) (steps_of other) n second_steps (not_given (flight_count (steps_of other)) n (none_sent n some))

  answers_same : (d : ℕ) → live_answers (steps_of run) d ≡ option_map (raised_answers shift) (live_answers (steps_of other) d)
  answers_same d =
      ap (λ b. if b then answers_in (steps_of run) d else None) (is.seen.up d) ∙ go (is_up (seen_of (steps_of other)) d) refl
    where
      by : (o p : Option Registers) → AreAlike shift (latest_reading (seen_of (steps_of other)) d) o p
          → option_map (answers_of device) o ≡ option_map (raised_answers shift) (option_map (answers_of device) p)
      by (Some s) (Some r) alike = ap Some (answers_alike shift (latest_reading (seen_of (steps_of other)) d) s r alike)
      by (Some s) None alike = absurd alike
      by None (Some r) alike = absurd alike
      by None None alike = absurd alike

      go : (b : Bool) → is_up (seen_of (steps_of other)) d ≡ b
          → (if b then answers_in (steps_of run) d else None) ≡ option_map (raised_answers shift) (if b then answers_in (steps_of other) d else None)
      go true up =
          answers_are_nodes (whole net front plans) run (run_is_admitted device (whole net front plans) run is.first_runs) d
          ∙ by (node_in run d) (node_in other d) (is.devices d up)
          ∙ ap (option_map (raised_answers shift))
          (sym (answers_are_nodes (setting_over net plans) other (run_is_admitted device (setting_over net plans) other is.second_runs) d))
      go false down = refl

  -- an opening agrees
  pub opening_agrees : Agree shift run other
  opening_agrees =
      record {
        steps = record {
          seen = is.seen;
          answers = answers_same;
          count = is.sent ∙ sum (flight_count (steps_of other)) shift.messages is.sent_none;
          numbered = λ n some.
              numbered_none (whole net front plans) (steps_of run) (n + shift.messages) first_steps
              (not_given (flight_count (steps_of run)) (n + shift.messages) (beyond n some))
              ∙ sym (ap (option_map (raised_flight shift)) (no_flight n some));
          used = λ n some.
              unused (whole net front plans) (steps_of run) (n + shift.messages) first_steps (beyond n some)
              ∙ sym (unused (setting_over net plans) (steps_of other) n second_steps (none_sent n some));
          swept = λ n f some found. let none_found : None ≡ Some f = sym (no_flight n some) ∙ found in cc;
        };
        devices = is.devices;
      }
    where
      sum : (count messages : ℕ) → count ≡ 0 → messages ≡ count + messages
      sum count messages none = omega (arith, none)

  -- and so do the histories
  pub opening_histories_agree : HistoriesAgree shift net front plans (events_of (steps_of run)) (events_of (steps_of other))
  opening_histories_agree =
      record {
        behind = is.behind;
        first = run;
        second = other;
        first_runs = run_is_admitted device (whole net front plans) run is.first_runs;
        second_runs = run_is_admitted device (setting_over net plans) other is.second_runs;
        first_happened = refl;
        second_happened = refl;
        agree = opening_agrees;
      }
