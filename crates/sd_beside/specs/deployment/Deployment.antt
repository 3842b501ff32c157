-- A deployed fleet: devices that call the exports of the C library, a network between them, and what whoever runs them owes. Read it beside
-- include/sundial_device.h. The newest comes first.
--
-- A struct may be of any kind: `Holds` says which registers it holds. For the struct of the C library that is `Holds` of sd_device_c. What is asked of a call
-- is what the contract of its export says where the answer is 0: both are definitions of sd_exports. Any other answer changes nothing, and is no moment.
-- Between two moments structs may be restored and rebased.
use Rattle.std.specs.Prelude.{◌≡◌, ◌⊎◌, ℕ, ◌+◌, ◌-◌, ◌≤◌, true, false, List, [], ◌∷◌, nat_eq, Option, Some, None, IfSome, if◌then◌else◌}
use Rattle.sd_num.specs.Lists.{same_number}
use Rattle.sd_sched.specs.declared.Event.{Event}
use Rattle.sd_sched.specs.declared.Event.TheVariants as event
use Rattle.sd_num.specs.declared.clock.Report.{Report}
use Rattle.sd_device.specs.declared.msg.Flight.{Flight}
use Rattle.sd_device.specs.declared.Effect.{Effect}
use Rattle.sd_device.specs.Calls as calls
use Rattle.sd_device.specs.declared.registers.Registers.{Registers}
use Rattle.sd_device.specs.Calls.{Making, Call}
use Rattle.sd_device.specs.Words.{counter_of, report_at, parent_now, is_acting, epoch_now}
use Rattle.sd_device.specs.Rules.{parent_in, acts_in, epoch_in, report_in}
use Rattle.sd_device.specs.Rebases.{call_lowered}
use Rattle.sd_exports.specs.Exports as exports
use Rattle.sd_exports.specs.Exports.{IsToldOf}
use Rattle.sd_history.specs.World.{Setting}
use Rattle.sd_history.specs.Steps.{Act, Makes, Calls, Asks, Passes, Answers, Told, tells_nothing, tells_made, tells_called, Step, seen_of, changed, act_by, step_of, flight_numbered}
use Rattle.sd_history.specs.Lives.{tells_report}
use Rattle.sd_history.specs.Refusals.{was_used, was_swept, unknown_device, unknown_link, dead_device, dead_link, time_falls, counter_falls, not_started, started_twice, no_plan_left, window_order, not_failed, not_member}

-- A struct, with what its host keeps beside it: by how much the counter that the calls are given was lowered in all since the start or join, and what the
-- device's own counter, which is never lowered, showed when that was last.
pub record Kept (S : Type 0) : Type 0 where
  pub struct : S
  pub lowered : ℕ
  pub since : ℕ

-- the struct of a device was restored or rebased, which is no event
pub record Tended (S : Type 0) : Type 0 where
  pub device : ℕ
  pub left : Kept S

-- What happened at one moment: the event, the call of an export with its arguments, the struct that the call left, and what the device told: what it
-- sent, and what it answers of itself from then on; or its report. Counters are the device's own. Before it, and after the moment before, structs were tended.
pub record Moment (S : Type 0) : Type 0 where
  pub event : Event
  pub act : Act
  pub told : Told
  pub left : Option (Kept S)
  pub tended : List (Tended S)

-- The moments as the steps of a history. What a device sends goes over each link to a device that has it as primary or backup parent in the plan that
-- it then follows.
abbrev pub steps_of : {S : Type 0} → Setting → List (Moment S) → List Step
steps_of setting [] = []
steps_of setting (x ∷ earlier) = let steps = steps_of setting earlier in step_of setting steps x.event x.told ∷ steps

-- The structs

-- the struct of a device where these were tended since
abbrev pub with_tended : {S : Type 0} → (ℕ → Option (Kept S)) → List (Tended S) → ℕ → Option (Kept S)
with_tended structs [] d = structs d
with_tended structs (x ∷ earlier) d = if nat_eq x.device d then Some x.left else with_tended structs earlier d

-- the struct of a device: the one that its latest call left, or what was made of it since
abbrev pub struct_in : {S : Type 0} → List (Moment S) → ℕ → Option (Kept S)
struct_in [] d = None
struct_in (x ∷ earlier) d = if same_number (changed x.act) d then x.left else with_tended (struct_in earlier) x.tended d

module _ {S : Type 0} (Holds : S → Registers → Type 0) where
  -- a restore: the struct holds what the latest one held, as a copy does. So does what a receipt that does not count made of it.
  pub record IsRestored (old new : Kept S) : Type 0 where
    pub holds : (r : Registers) → Holds old.struct r → Holds new.struct r
    pub lowered : new.lowered ≡ old.lowered
    pub since : new.since ≡ old.since

  -- a rebase while the lowered counter showed this, alone or with ports. The device's own counter has not fallen since the rebase before.
  pub record IsRebased (old new : Kept S) : Type 0 where
    pub counter : ℕ
    pub by : ℕ
    pub rebased : exports.IsRebased Holds old.struct counter new.struct by
    pub lowered : new.lowered ≡ old.lowered + by
    pub since : new.since ≡ counter + old.lowered
    pub later : old.since ≤ new.since

  -- the structs were tended one after another
  abbrev pub AreTended : (ℕ → Option (Kept S)) → List (Tended S) → Type 0
  AreTended structs [] = Unit {0}
  AreTended structs (x ∷ earlier) =
      AreTended structs earlier
      × ((old : Kept S) × (with_tended structs earlier x.device ≡ Some old) × (IsRestored old x.left ⊎ IsRebased old x.left))

  -- The exports

  -- what a struct answers: to the calls for its parent, whether it acts and its epoch; and what it holds of a given duty and a seal
  pub record IsAnswered (struct : S) (answers : Answers) : Type 0 where
    pub parent : IsToldOf Holds struct parent_in parent_now answers.parent
    pub acts : IsToldOf Holds struct acts_in is_acting answers.acts
    pub epoch : IsToldOf Holds struct epoch_in epoch_now answers.epoch
    pub given : (r : Registers) → Holds struct r → answers.given ≡ r.given
    pub sealed : (r : Registers) → Holds struct r → answers.sealed ≡ r.sealed

  -- a start or a join: the counter is lowered by nothing yet
  pub record IsMade (making : Making) (told : Told) (left : Option (Kept S)) : Type 0 where
    pub struct : S
    pub answers : Answers
    pub made : exports.IsMade Holds making struct
    pub answered : IsAnswered struct answers
    pub tells : told ≡ tells_made answers
    pub leaves : left ≡ Some (record { struct = struct; lowered = 0; since = 0 })

  -- a tick, a receipt, a fix, a give, a commit or a seal, at the counter less what was lowered. It is not below that of the latest rebase
  pub record IsCalled (before : Option (Kept S)) (call : Call) (told : Told) (left : Option (Kept S)) : Type 0 where
    pub kept : Kept S
    pub struct : S
    pub effect : Effect
    pub answers : Answers
    pub there : before ≡ Some kept
    pub due : IfSome (counter_of call) (λ counter. kept.since ≤ counter)
    pub called : exports.IsCalled Holds kept.struct (call_lowered kept.lowered call) struct effect
    pub answered : IsAnswered struct answers
    pub tells : told ≡ tells_called effect answers
    pub leaves : left ≡ Some (record { struct = struct; lowered = kept.lowered; since = kept.since })

  -- a report, at such a counter
  pub record IsAsked (before : Option (Kept S)) (counter : ℕ) (told : Told) : Type 0 where
    pub kept : Kept S
    pub report : Report
    pub there : before ≡ Some kept
    pub due : kept.since ≤ counter
    pub reported : let at = counter - kept.lowered in IsToldOf Holds kept.struct (λ r. report_in r at) (λ past. report_at past at) report
    pub tells : told ≡ tells_report report

  -- what the export of an act does with the struct that was there
  abbrev pub Exports : (ℕ → Option (Kept S)) → Act → Told → Option (Kept S) → Type 0
  Exports structs (Makes d making) told left = IsMade making told left
  Exports structs (Calls d call) told left = IsCalled (structs d) call told left
  Exports structs (Asks d counter) told left = IsAsked (structs d) counter told
  Exports structs Passes told left = told ≡ tells_nothing

-- The network

-- A message is brought once, to the end that it was sent to, as it was sent, over the link that it was sent over: this link and this device were up when it
-- was sent and have not failed since, and that was no longer ago than twice the greatest delay of the link.
pub record IsDelivered (steps : List Step) (reference device counter number : ℕ) (act : Act) : Type 0 where
  pub flight : Flight
  pub sent : flight_numbered steps number ≡ Some flight
  pub same : act ≡ Calls device (calls.Receive flight.link flight.message counter)
  pub end : flight.receiver ≡ device
  pub once : was_used steps number ≡ false
  pub up : flight.reaches ≡ true
  pub unbroken : was_swept steps flight ≡ false
  pub soon : reference ≤ flight.last

-- The call of an event. A start has the duty of the plan in force and a give that of the staged plan, as the plans say it of the device. What is received
-- was delivered. The two words that are no moment of a fleet are those of a lost message, which nobody sees, and of the end of a schedule.
abbrev pub IsCallOf : Setting → List Step → Event → Act → Type 0
IsCallOf setting steps (event.Recv reference device counter number) act = IsDelivered steps reference device counter number act
IsCallOf setting steps (event.Lose reference number) act = ⊥
IsCallOf setting steps (event.End reference) act = ⊥
IsCallOf setting steps e act = act ≡ act_by setting steps e

-- Those who run the fabric

-- Each clause rules out one cause for which a schedule is refused.
pub record IsOrderly (setting : Setting) (steps : List Step) (e : Event) : Type 0 where
  -- the fabric has the device and the link
  pub device : unknown_device setting e ≡ false
  pub link : unknown_link setting e ≡ false
  -- moments come in the order of the reference time, and no device's counter falls
  pub time : time_falls (seen_of steps) e ≡ false
  pub counter : counter_falls (seen_of steps) e ≡ false
  -- what has failed does nothing until it is mended, and what is mended had failed
  pub device_works : dead_device (seen_of steps) e ≡ false
  pub link_works : dead_link (seen_of steps) e ≡ false
  pub failed : not_failed (seen_of steps) e ≡ false
  -- a device is called once it has started or joined, and starts once
  pub started : not_started (seen_of steps) e ≡ false
  pub once : started_twice setting (seen_of steps) e ≡ false
  -- plans come in turn, each in the order of a renewal, and concern their members
  pub plan : no_plan_left setting (seen_of steps) e ≡ false
  pub window : window_order setting steps e ≡ false
  pub member : not_member setting (seen_of steps) e ≡ false

-- Together

-- the moment may come after these
pub record MayCome {S : Type 0} (Holds : S → Registers → Type 0) (setting : Setting) (earlier : List (Moment S)) (x : Moment S) : Type 0 where
  pub tended : AreTended Holds (struct_in earlier) x.tended
  pub export : Exports Holds (with_tended (struct_in earlier) x.tended) x.act x.told x.left
  pub call : IsCallOf setting (steps_of setting earlier) x.event x.act
  pub orderly : IsOrderly setting (steps_of setting earlier) x.event

-- a run of a deployed fleet
abbrev pub IsDeployment : {S : Type 0} → (S → Registers → Type 0) → Setting → List (Moment S) → Type 0
IsDeployment Holds setting [] = Unit {0}
IsDeployment Holds setting (x ∷ earlier) = IsDeployment Holds setting earlier × MayCome Holds setting earlier x
