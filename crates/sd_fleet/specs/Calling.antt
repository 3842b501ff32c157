-- What a node owes and is owed where it is made or called: bounds of its numbers, and the duty that was given to it.
use Rattle.std.specs.Prelude.{◌≡◌, ◌⊎◌, ℕ, ◌*◌, ◌^◌, ◌≤◌, ◌<◌, Option, Some, None, option_map}
use Rattle.sd_plan.specs.topo.Limits.{IsRates}
use Rattle.sd_plan.specs.declared.Duty.{Duty}
use Rattle.sd_plan.specs.declared.Role.TheVariants as role
use Rattle.sd_num.specs.declared.clock.Report.{Report}
use Rattle.sd_device.specs.declared.msg.Message.{Message}
use Rattle.sd_device.specs.declared.Effect.{Effect}
use Rattle.sd_device.specs.declared.Effect.TheVariants.{Quiet}
use Rattle.sd_device.specs.declared.node.Node.{Ghosts}
use Rattle.sd_device.specs.Limits.{IsDuty}
use Rattle.sd_device.specs.Calls.{Making}
use Rattle.sd_device.specs.Calls as calls
use Rattle.sd_device.specs.Calls.{Call}

-- each event raises clocks and uncertainties by less than this
abbrev pub rise : ℕ
rise = 2 ^ 62

-- so with 2 ^ 26 events at most, what is reported stays below 2 ^ 93
pub record IsLimited (report : Report) : Type 0 where
  pub clock : report.clock < 2 ^ 93
  pub eps : report.eps < 2 ^ 93

-- a message after this many events
pub record IsMessage (events : ℕ) (message : Message) : Type 0 where
  pub clock : message.clock ≤ events * rise
  pub eps : message.eps ≤ events * rise
  pub term : message.stamp.term ≤ events
  pub round : message.stamp.round ≤ events

-- a node after this many events, whose latest reading is this
pub record IsNode {N : Type 0} (g : Ghosts N) (events reading : ℕ) (n : N) : Type 0 where
  pub floor : g.floor n ≤ reading
  pub ceiling : g.ceiling n ≤ events * rise
  pub height : g.height n ≤ events

-- a counter and an estimate within the limits of a schedule's fields
pub record IsEstimate (counter clock eps : ℕ) : Type 0 where
  pub counter_fits : counter ≤ 2 ^ 60
  pub clock_fits : clock ≤ 2 ^ 60
  pub eps_fits : eps ≤ 2 ^ 60

-- what a making asks of its numbers
abbrev pub CanMake : Making → Type 0
CanMake (calls.Started duty counter clock eps) = IsDuty duty × IsEstimate counter clock eps
CanMake (calls.Joined rates counter clock eps) = IsRates rates × IsEstimate counter clock eps

-- what a node's latest reading is, once it is called
abbrev pub reading_after : Call → ℕ → ℕ
reading_after (calls.Tick counter) reading = counter
reading_after (calls.Receive link message counter) reading = counter
reading_after (calls.Fix counter clock eps) reading = counter
reading_after (calls.Give duty) reading = reading
reading_after (calls.Commit counter) reading = counter
reading_after calls.Seal reading = reading

-- what a call asks of its numbers and of a node whose latest reading is this, after this many events
abbrev pub CanCall : {N : Type 0} (g : Ghosts N) → ℕ → ℕ → N → Call → Type 0
CanCall g events reading n (calls.Tick counter) = (reading ≤ counter) × (counter ≤ 2 ^ 60)
CanCall g events reading n (calls.Receive link message counter) = (reading ≤ counter) × (counter ≤ 2 ^ 60) × IsMessage events message
CanCall g events reading n (calls.Fix counter clock eps) = (reading ≤ counter) × IsEstimate counter clock eps
CanCall g events reading n (calls.Give duty) = IsDuty duty
CanCall g events reading n (calls.Commit counter) = (reading ≤ counter) × (counter ≤ 2 ^ 60)
    × (option_map (λ (duty : Duty). duty.role) (g.given n) ≡ Some role.Root)
CanCall g events reading n calls.Seal = Unit {0}

-- the duty that is held as given after a call: a give's own, and else the same as before or none
abbrev pub GivenAfter : Call → Option Duty → Option Duty → Type 0
GivenAfter (calls.Give duty) before after = after ≡ Some duty
GivenAfter _ before after = (after ≡ before) ⊎ (after ≡ None)

-- what a call sends: nothing, but for a tick or a message
abbrev pub MaySend : Call → Effect → Type 0
MaySend (calls.Tick counter) effect = Unit {0}
MaySend (calls.Receive link message counter) effect = Unit {0}
MaySend _ effect = effect ≡ Quiet
