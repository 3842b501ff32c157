-- For which settings and lists the monitor of loss stands.
use Rattle.std.specs.Prelude.{◌≡◌, ℕ, ◌-◌, true, List, length, min, Option}
use Rattle.sd_plan.specs.declared.topo.Thing.{Thing}
use Rattle.sd_device.specs.declared.msg.Flight.{Flight}
use Rattle.sd_sched.specs.Events.{reference_of}
use Rattle.sd_history.specs.Things.{failure_of}
use Rattle.sd_history.specs.World.{Setting, Seen}
use Rattle.sd_history.specs.Premises.{loss_holds}
use Rattle.sd_history.specs.Rounds.{is_spoiled}
use Rattle.sd_monitors.specs.loss.rounds.Order.{last_sent, IsInOrder}
use Rattle.sd_monitors.specs.loss.rounds.Loss.{number_taken, AreWaiting, mark_in}
use Rattle.sd_monitors.specs.loss.flights.RunsView.{has_round, room_of as room_of_runs}
use Rattle.sd_monitors.specs.loss.flights.WaitingView.{waiting_at, count_of, room_for}
use Rattle.sd_monitors.specs.loss.flights.InterruptionsView.{mark_of, last_number, device_places, link_places}
use Rattle.sd_monitors.specs.declared.loss.rounds.Rounds.{Rounds}

-- what is kept of the list
pub record Keeps (rounds : Rounds) (setting : Setting) (seen : List Seen) : Type 0 where
  pub devices : device_places rounds.interruptions ≡ length setting.net.devices
  pub links : link_places rounds.interruptions ≡ length setting.net.links
  pub waiting : AreWaiting seen (waiting_at rounds.waiting)
  pub last : last_number rounds.interruptions ≡ last_sent seen
  pub marks : (x : Thing) → mark_of rounds.interruptions x ≡ mark_in seen x
  pub spoiled : (term round : ℕ) → has_round rounds.runs term round ≡ is_spoiled seen term round

-- it stands for the list, whose events came in order; once the premise is broken, the rest need not be kept
pub record StandsFor (rounds : Rounds) (setting : Setting) (seen : List Seen) : Type 0 where
  pub order : IsInOrder setting seen
  pub limit : rounds.limit ≡ setting.net.params.loss
  pub holds : rounds.holds ≡ loss_holds setting seen
  pub kept : rounds.holds ≡ true → Keeps rounds setting seen

-- what is seen is an event at a reference that fails one thing or nothing, receives this number or none and sends these flights
pub record IsShown (at : ℕ) (fails : Option Thing) (received : Option ℕ) (flights : List Flight) (s : Seen) : Type 0 where
  pub reference : reference_of s.event ≡ at
  pub failed : failure_of s.event ≡ fails
  pub taken : number_taken s ≡ received
  pub sent : s.sent ≡ flights

-- for how many more flights there is room: each that waits may spoil a round
abbrev pub room_of : Rounds → ℕ
room_of rounds = min (room_for rounds.waiting) (room_of_runs rounds.runs - count_of rounds.waiting)
