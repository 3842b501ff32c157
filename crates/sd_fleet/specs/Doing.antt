-- What an event does to the device that it names, by what a fabric keeps.
use Rattle.std.specs.Prelude.{◌≡◌, ℕ, Bool, true, false, Option, Some, None, is_some, option_map, option_and_then, Result, Ok, Err}
use Rattle.sd_num.specs.Lists.{map_or}
use Rattle.sd_plan.specs.topo.Network.{rates_of}
use Rattle.sd_plan.specs.declared.Duty.{Duty}
use Rattle.sd_device.specs.declared.msg.Flight.{Flight}
use Rattle.sd_device.specs.declared.msg.TakeFault.{TakeFault}
use Rattle.sd_device.specs.declared.Effect.{Effect}
use Rattle.sd_device.specs.declared.Effect.TheVariants.{Quiet}
use Rattle.sd_device.specs.Calls as calls
use Rattle.sd_sched.specs.declared.Event.{Event}
use Rattle.sd_sched.specs.declared.Event.TheVariants as event
use Rattle.sd_history.specs.Steps as steps
use Rattle.sd_history.specs.Steps.{Makes, Calls, Asks, Passes}
use Rattle.sd_fleet.specs.declared.Call.{Call}
use Rattle.sd_fleet.specs.declared.Call.TheVariants as call
use Rattle.sd_world.specs.declared.membership.AnswerSummary.{AnswerSummary}
use Rattle.sd_world.specs.membership.Standing.{summary}
use Rattle.sd_fleet.specs.declared.Reply.{Reply}
use Rattle.sd_world.specs.membership.Plans.{row_numbered}
use Rattle.sd_fleet.specs.Registers.{Registers}
use Rattle.sd_sched.specs.Events.{device_of, is_ask}
use Rattle.sd_world.specs.membership.Memberships.{staged_number, live_at}
use Rattle.sd_fleet.specs.Causes.{flight_at}

-- a call, in the words of histories
abbrev pub call_seen : Call → calls.Call
call_seen (call.Tick counter) = calls.Tick counter
call_seen (call.Receive link message counter) = calls.Receive link message.now counter
call_seen (call.Fix counter clock eps) = calls.Fix counter clock eps
call_seen (call.Give duty) = calls.Give duty.now
call_seen (call.Commit counter) = calls.Commit counter
call_seen call.Seal = calls.Seal

-- the reply says what the device told
pub record MatchesTold (reply : Reply) (told : steps.Told) : Type 0 where
  pub effect : reply.effect ≡ told.effect
  pub answers : reply.answers ≡ option_map summary told.answers
  pub report : reply.report ≡ told.report

-- the reply of a device that was called, and did and answers this
abbrev pub replied : Effect → AnswerSummary → Reply
replied effect answers = record { effect = effect; answers = Some answers; report = None }

-- What an event wants to be told

-- a tick or a receipt: nothing else makes a device send
abbrev pub may_send : Event → Bool
may_send (event.Tick reference device counter) = true
may_send (event.Recv reference device counter message) = true
may_send _ = false

-- the event makes or calls its device
abbrev pub changes : Event → Bool
changes (event.Start reference device counter clock eps) = true
changes (event.Join reference device counter clock eps) = true
changes (event.Tick reference device counter) = true
changes (event.Recv reference device counter message) = true
changes (event.Fix reference device counter clock eps) = true
changes (event.Give reference device) = true
changes (event.Commit reference device counter) = true
changes (event.Seal reference device) = true
changes _ = false

-- the reply has what the event wants to be told, and no more
pub record IsReplyTo (e : Event) (reply : Reply) : Type 0 where
  pub effect : may_send e ≡ false → reply.effect ≡ Quiet
  pub answers : is_some reply.answers ≡ changes e
  pub report : is_some reply.report ≡ is_ask e

-- the number of the plan whose duty the named device holds as given
abbrev pub given_in : Registers → Event → Option ℕ
given_in r e = option_and_then (λ d. option_and_then (λ a. a.given) (live_at r.membership d)) (device_of e)

-- what an event does, by what is kept

-- the duty of a member in the plan with a number
abbrev pub with_duty : Registers → ℕ → ℕ → (Duty → steps.Act) → steps.Act
with_duty r epoch d f = map_or (row_numbered r.membership.plans epoch d) Passes (λ row. f row.duty)

-- the call by which a device receives the flight that was found
abbrev pub receipt : Result Flight TakeFault → ℕ → ℕ → steps.Act
receipt (Ok f) d counter = Calls d (calls.Receive f.link f.message counter)
receipt (Err e) d counter = Passes

-- what an event does to its device
abbrev pub act_in : Registers → Event → steps.Act
act_in r (event.Start reference device counter clock eps) =
    with_duty r r.membership.world.epoch device (λ duty. Makes device (calls.Started duty counter clock eps))
act_in r (event.Join reference device counter clock eps) = Makes device (calls.Joined (rates_of r.net device) counter clock eps)
act_in r (event.Tick reference device counter) = Calls device (calls.Tick counter)
act_in r (event.Recv reference device counter message) = receipt (flight_at r message) device counter
act_in r (event.Fix reference device counter clock eps) = Calls device (calls.Fix counter clock eps)
act_in r (event.Give reference device) = with_duty r (staged_number r.membership) device (λ duty. Calls device (calls.Give duty))
act_in r (event.Commit reference device counter) = Calls device (calls.Commit counter)
act_in r (event.Seal reference device) = Calls device calls.Seal
act_in r (event.Ask reference device counter) = Asks device counter
act_in r _ = Passes
