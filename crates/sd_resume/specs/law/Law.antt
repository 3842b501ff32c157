-- The law: what holds of every later event where two histories agree.
use Rattle.std.specs.Prelude.{◌≡◌, ℕ, ◌≤◌, true, List, [], ◌∷◌, ◌++◌, length, map, Some}
use Rattle.sd_num.specs.Lists.{map_or}
use Rattle.sd_plan.specs.topo.Network.{Network}
use Rattle.sd_plan.specs.declared.Plan.{Plan}
use Rattle.sd_device.specs.declared.registers.Registers.{Registers}
use Rattle.sd_device.specs.contracts.device.DeviceNode.TheImpl.{ghosts}
use Rattle.sd_sched.specs.declared.Event.{Event}
use Rattle.sd_sched.specs.Events.{reference_of, message_of}
use Rattle.sd_history.specs.World.{Setting, Seen, setting_over}
use Rattle.sd_history.specs.Steps.{Step, events_of, seen_of}
use Rattle.sd_history.specs.Chronicle.{chronicle}
use Rattle.sd_history.specs.Nodes.{NodeStep, steps_of}
use Rattle.sd_history.specs.Admitted.{IsAdmittedRun, IsAdmitted}
use Rattle.sd_history.specs.declared.BrokenSet.{BrokenSet}
use Rattle.sd_history.specs.Premises.{start_holds, drift_holds, delay_holds, tick_holds, loss_holds, domain_holds, renew_holds, all_hold, broken_in, breaks}
use Rattle.sd_history.specs.Lines.{Line, first_on_loop, roots, asked_report, loop_lines, root_lines, report_lines}
use Rattle.sd_replay.specs.Calm.{IsCalm}
use Rattle.sd_resume.specs.law.Shifts.{Shift, raised_event}
use Rattle.sd_resume.specs.law.Agreement.{MayFollow, Agree}

-- the setting of the first, whose plans begin with some more than those of the second
abbrev pub whole : Network → (front plans : List Plan) → Setting
whole net front plans = setting_over net (front ++ plans)

-- the event names no message with the number 0, which no message has
abbrev pub NamesSome : Event → Type 0
NamesSome e = (n : ℕ) → message_of e ≡ Some n → 1 ≤ n

-- the alarms and the report of the latest event: all of its lines but those that name a broken premise
abbrev pub alarms_and_report : Setting → List Step → List Line
alarms_and_report setting [] = []
alarms_and_report setting (s ∷ earlier) =
    loop_lines (first_on_loop setting earlier) (first_on_loop setting (s ∷ earlier))
    ++ root_lines (roots setting earlier) (roots setting (s ∷ earlier))
    ++ map_or (asked_report s) [] (report_lines (reference_of s.seen.event))

-- Two histories agree, of any length: runs of devices that have these events do. The second leaves out the plans at the front.
pub record HistoriesAgree (shift : Shift) (net : Network) (front plans : List Plan) (one other : List Event) : Type 0 where
  pub behind : shift.plans ≡ length front
  pub first : List (NodeStep Registers)
  pub second : List (NodeStep Registers)
  pub first_runs : IsAdmittedRun ghosts (whole net front plans) first
  pub second_runs : IsAdmittedRun ghosts (setting_over net plans) second
  pub first_happened : events_of (steps_of first) ≡ one
  pub second_happened : events_of (steps_of second) ≡ other
  pub agree : Agree shift first second

-- each of the later events, the newest first, may come after both, after those before it
abbrev pub AllMayFollow : Setting → (other later : List Event) → Type 0
AllMayFollow part other [] = Unit {0}
AllMayFollow part other (e ∷ later) = AllMayFollow part other later × NamesSome e × MayFollow (chronicle part (later ++ other)) e

-- each later event has the same alarms and report after both
abbrev pub SaysAlike : Shift → (whole part : Setting) → (one other later : List Event) → Type 0
SaysAlike shift whole part one other [] = Unit {0}
SaysAlike shift whole part one other (e ∷ later) =
    SaysAlike shift whole part one other later
    × (alarms_and_report whole (chronicle whole (raised_event shift e ∷ (map (raised_event shift) later ++ one)))
    ≡ alarms_and_report part (chronicle part (e ∷ (later ++ other))))

-- each premise that holds of what was seen of the first holds of the second
pub record NoMoreBroken (whole part : Setting) (one other : List Seen) : Type 0 where
  pub start : start_holds one ≡ true → start_holds other ≡ true
  pub drift : drift_holds whole one ≡ true → drift_holds part other ≡ true
  pub delay : delay_holds whole one ≡ true → delay_holds part other ≡ true
  pub tick : tick_holds whole one ≡ true → tick_holds part other ≡ true
  pub loss : loss_holds whole one ≡ true → loss_holds part other ≡ true
  pub domain : domain_holds whole one ≡ true → domain_holds part other ≡ true
  pub renew : renew_holds whole one ≡ true → renew_holds part other ≡ true

-- after the second no premise is broken that holds after the first
abbrev pub BreaksNoMore : Shift → (whole part : Setting) → (one other : List Event) → Type 0
BreaksNoMore shift whole part one other =
    (later : List Event) → AllMayFollow part other later → IsAdmitted part (later ++ other)
    → NoMoreBroken whole part (seen_of (chronicle whole (map (raised_event shift) later ++ one))) (seen_of (chronicle part (later ++ other)))

-- each premise of the one set is in the other
pub record AreAmong (some all : BrokenSet) : Type 0 where
  pub start : some.start ≡ true → all.start ≡ true
  pub drift : some.drift ≡ true → all.drift ≡ true
  pub delay : some.delay ≡ true → all.delay ≡ true
  pub tick : some.tick ≡ true → all.tick ≡ true
  pub loss : some.loss ≡ true → all.loss ≡ true
  pub domain : some.domain ≡ true → all.domain ≡ true
  pub renew : some.renew ≡ true → all.renew ≡ true

-- each premise that a later event breaks after the second is broken after the first too: with that event, or before it
abbrev pub LeavesBroken : Shift → (whole part : Setting) → (one other : List Event) → Type 0
LeavesBroken shift whole part one other =
    (e : Event) (later : List Event) → AllMayFollow part other (e ∷ later) → IsAdmitted part (e ∷ (later ++ other))
    → AreAmong (breaks part (seen_of (chronicle part (e ∷ (later ++ other)))))
    (broken_in whole (seen_of (chronicle whole (raised_event shift e ∷ (map (raised_event shift) later ++ one)))))

-- while no premise is broken after the second, each later event leaves the first calm too: no loop of parents, at most one acting root, and no alarm
abbrev pub StaysCalm : Shift → (whole part : Setting) → (one other : List Event) → Type 0
StaysCalm shift whole part one other =
    (e : Event) (later : List Event) → AllMayFollow part other (e ∷ later) → IsAdmitted part (e ∷ (later ++ other))
    → all_hold part (seen_of (chronicle part (e ∷ (later ++ other)))) ≡ true
    → IsCalm whole (chronicle whole (raised_event shift e ∷ (map (raised_event shift) later ++ one)))

-- What holds of all later events: the rules admit the same, each has the same alarms and the same report, and each premise that breaks after the second is
-- broken after the first. While none is broken after the second, the first is calm.
pub record GoesOnAs (shift : Shift) (net : Network) (front plans : List Plan) (one other : List Event) : Type 0 where
  pub admitted : (later : List Event) → AllMayFollow (setting_over net plans) other later → IsAdmitted (setting_over net plans) (later ++ other)
      → IsAdmitted (whole net front plans) (map (raised_event shift) later ++ one)
  pub admitted_back : (later : List Event) → AllMayFollow (setting_over net plans) other later
      → IsAdmitted (whole net front plans) (map (raised_event shift) later ++ one) → IsAdmitted (setting_over net plans) (later ++ other)
  pub says : (later : List Event) → AllMayFollow (setting_over net plans) other later → IsAdmitted (setting_over net plans) (later ++ other)
      → SaysAlike shift (whole net front plans) (setting_over net plans) one other later
  pub breaks : BreaksNoMore shift (whole net front plans) (setting_over net plans) one other
  pub leaves : LeavesBroken shift (whole net front plans) (setting_over net plans) one other
  pub calm : StaysCalm shift (whole net front plans) (setting_over net plans) one other
