-- The lineage of a report: from which clock its estimate descends, who held it meanwhile, and over which hops it came.
use Rattle.std.specs.Prelude.{ℕ, ◌+◌, Bool, false, ◌&&◌, List, [], ◌∷◌, find, length, nat_eq, nat_le, Option, Some, None, is_some, option_map, option_and_then, if◌then◌else◌}
use Rattle.std.specs.Option.{option_or}
use Rattle.sd_num.specs.Lists.{map_or, same_number}
use Rattle.sd_num.specs.Numbers.{distance}
use Rattle.sd_plan.specs.topo.Network.{rates_of}
use Rattle.sd_device.specs.declared.msg.Flight.{Flight}
use Rattle.sd_device.specs.msg.Observed.{ReportAt}
use Rattle.sd_device.specs.Calls.{Receive}
use Rattle.sd_device.specs.Words.{transition_of, accepted_over}
use Rattle.sd_sched.specs.declared.Event.{Event}
use Rattle.sd_sched.specs.declared.Event.TheVariants as event
use Rattle.sd_sched.specs.Events.{reference_of, device_of}
use Rattle.sd_sched.specs.Honesty.{keeps_reading}
use Rattle.sd_history.specs.World.{Setting}
use Rattle.sd_history.specs.Steps.{Step, flight_numbered}
use Rattle.sd_history.specs.Chronicle.{past_in}
use Rattle.sd_history.specs.Premises.{is_in_time}
use Rattle.sd_history.specs.Lines.{asked_report}

-- where an estimate comes from, the latest first
pub data Lineage : Type 0 where
  -- a start, a join or a fix set this clock, with its uncertainty
  Set : (reference clock eps : ℕ) → Lineage
  -- the device held it from one reading of its counter to another, each with its reference, and then sent or reported it
  Held : (device : ℕ) → (from to : ℕ × ℕ) → Lineage → Lineage
  -- it came with the flight, which was received at the reference
  Came : Flight → (reference : ℕ) → Lineage → Lineage

-- the lineage is honest: the clock was set within its uncertainty, each device that held it kept the rates of its oscillator meanwhile, and each flight came
-- within the bounds of its link
abbrev pub is_honest_lineage : Setting → Lineage → Bool
is_honest_lineage setting (Set reference clock eps) = nat_le (distance clock reference) eps
is_honest_lineage setting (Held d from to before) = is_honest_lineage setting before && keeps_reading (rates_of setting.net d) to from
is_honest_lineage setting (Came f reference before) = is_honest_lineage setting before && is_in_time setting reference f

-- of the estimate of a device: the reading at which it was set, its reference and its counter, and where it came from
pub record Descent : Type 0 where
  pub at : ℕ × ℕ
  pub from : Lineage

-- after some events: how the estimate of each device descends, and where what each flight carries came from, by its number
pub record Lineages : Type 0 where
  pub of_device : ℕ → Option Descent
  pub of_flight : ℕ → Option Lineage

-- a clock that was set while the counter was read
abbrev pub set_at : (reference counter clock eps : ℕ) → Descent
set_at reference counter clock eps = record { at = (reference, counter); from = Set reference clock eps }

-- an estimate that came with a flight
abbrev pub come_at : (reference counter : ℕ) → Flight → Lineage → Descent
come_at reference counter f before = record { at = (reference, counter); from = Came f reference before }

-- what was set is held up to a reading
abbrev pub held_to : (device : ℕ) → (to : ℕ × ℕ) → Descent → Lineage
held_to d to descent = Held d descent.at to descent.from

-- the device accepts the flight at the counter, and so sets its estimate by it
abbrev pub accepts : List Step → ℕ → Flight → ℕ → Bool
accepts steps d f counter =
    map_or (past_in steps d) false (λ past. is_some (accepted_over (transition_of past (Receive f.link f.message counter))))

-- how the estimate that the event sets descends, if it sets one
abbrev pub descent_set : List Step → Lineages → Event → Option Descent
descent_set steps before (event.Start r d c clock eps) = Some (set_at r c clock eps)
descent_set steps before (event.Join r d c clock eps) = Some (set_at r c clock eps)
descent_set steps before (event.Fix r d c clock eps) = Some (set_at r c clock eps)
descent_set steps before (event.Recv r d c n) =
    option_and_then (λ f. if accepts steps d f c then option_map (come_at r c f) (before.of_flight n) else None) (flight_numbered steps n)
descent_set steps before _ = None

-- of each device after the event
abbrev pub descent_after : List Step → Lineages → Event → ℕ → Option Descent
descent_after steps before e d =
    if same_number (device_of e) d then option_or (descent_set steps before e) (before.of_device d) else before.of_device d

-- where what the event sends comes from: a root sends at a tick what it holds at that counter, a relay at a receipt what it has just set
abbrev pub lineage_sent : (ℕ → Option Descent) → Event → Option Lineage
lineage_sent of_device (event.Tick r d c) = option_map (held_to d (r, c)) (of_device d)
lineage_sent of_device (event.Recv r d c n) = option_map (λ descent. descent.from) (of_device d)
lineage_sent of_device _ = None

-- after a step that follows these
abbrev pub lineages_after : List Step → Step → Lineages → Lineages
lineages_after steps s before =
    record {
      of_device = descent_after steps before s.seen.event;
      of_flight = λ n.
          if is_some (find (λ f. nat_eq f.number n) s.sent) then lineage_sent (descent_after steps before s.seen.event) s.seen.event
          else before.of_flight n;
    }

-- after these steps
abbrev pub lineages : List Step → Lineages
lineages [] = record { of_device = λ d. None; of_flight = λ n. None }
lineages (s ∷ earlier) = lineages_after earlier s (lineages earlier)

-- the lineage of the report of the latest event, if it asks for one
abbrev pub report_lineage : List Step → Option Lineage
report_lineage [] = None
report_lineage (s ∷ earlier) = elim s.seen.event [
  | event.Ask r d c ↦ option_map (held_to d (r, c)) ((lineages earlier).of_device d)
  | _ ↦ None
]

-- that report, as an observer sees it
abbrev pub latest_report : List Step → Option ReportAt
latest_report [] = None
latest_report (s ∷ earlier) =
    option_map (λ told. record { line = length earlier + 1; device = told.0; reference = reference_of s.seen.event; report = told.1 }) (asked_report s)
