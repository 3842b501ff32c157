-- How numbers of two histories correspond of which the second begins in the middle of the first: plans, messages, terms and rounds have lower
-- numbers in it. What bears a number of the second is raised to what it is in the first.
use Rattle.std.specs.Prelude.{ℕ, zero, suc, ◌+◌, map, option_map}
use Rattle.sd_plan.specs.declared.Duty.{Duty}
use Rattle.sd_num.specs.declared.clock.Estimate.{Estimate}
use Rattle.sd_device.specs.declared.msg.Stamp.{Stamp}
use Rattle.sd_device.specs.declared.msg.Message.{Message}
use Rattle.sd_device.specs.declared.msg.Flight.{Flight}
use Rattle.sd_device.specs.msg.Stamps.{stamp}
use Rattle.sd_device.specs.declared.Effect.{Effect}
use Rattle.sd_device.specs.declared.Effect.TheVariants.{Quiet, Send}
use Rattle.sd_device.specs.declared.registers.Registers.{Registers}
use Rattle.sd_device.specs.Calls.{Making, Started, Joined, Call, Receive, Give}
use Rattle.sd_sched.specs.declared.Event.{Event}
use Rattle.sd_sched.specs.declared.Event.TheVariants as event
use Rattle.sd_history.specs.World.{Seen}

-- by how much numbers differ: how many plans of the first the second leaves out, how many messages it did not send, and which term and
-- round of the first its first round, round 0 of term 0, stands for
pub record Shift : Type 0 where
  pub plans : ℕ
  pub messages : ℕ
  pub term : ℕ
  pub round : ℕ

-- the number of a plan: 0 stands for no plan in both
abbrev pub raised_epoch : Shift → ℕ → ℕ
raised_epoch shift zero = zero
raised_epoch shift (suc epoch) = suc epoch + shift.plans

-- the stamp of a round of a term: in term 0 the rounds are counted on, and in later ones they are the same
abbrev pub raised_round : Shift → (term round : ℕ) → Stamp
raised_round shift zero round = stamp shift.term (round + shift.round)
raised_round shift (suc term) round = stamp (suc term + shift.term) round

-- the stamp
abbrev pub raised_stamp : Shift → Stamp → Stamp
raised_stamp shift x = raised_round shift x.term x.round

-- the message
abbrev pub raised_message : Shift → Message → Message
raised_message shift m =
    record { epoch = raised_epoch shift m.epoch; stamp = raised_stamp shift m.stamp; clock = m.clock; eps = m.eps }

-- the flight
abbrev pub raised_flight : Shift → Flight → Flight
raised_flight shift f =
    record {
      number = f.number + shift.messages;
      link = f.link;
      sender = f.sender;
      receiver = f.receiver;
      sent_at = f.sent_at;
      due = f.due;
      last = f.last;
      reaches = f.reaches;
      message = raised_message shift f.message;
    }

-- what a plan tells a device
abbrev pub raised_duty : Shift → Duty → Duty
raised_duty shift duty = record duty { epoch = raised_epoch shift duty.epoch }

-- what a call sends
abbrev pub raised_effect : Shift → Effect → Effect
raised_effect shift Quiet = Quiet
raised_effect shift (Send message) = Send (raised_message shift message)

-- how a device is made
abbrev pub raised_making : Shift → Making → Making
raised_making shift (Started duty counter clock eps) = Started (raised_duty shift duty) counter clock eps
raised_making shift (Joined rates counter clock eps) = Joined rates counter clock eps

-- a call of a device
abbrev pub raised_call : Shift → Call → Call
raised_call shift (Receive link message counter) = Receive link (raised_message shift message) counter
raised_call shift (Give duty) = Give (raised_duty shift duty)
raised_call shift call = call

-- the registers of a device, with other counters, and another stamp and estimate
abbrev pub raised_registers : Shift → Registers → (last sent : ℕ) → Stamp → Estimate → Registers
raised_registers shift r last sent other estimate =
    record {
      duty = option_map (raised_duty shift) r.duty;
      given = option_map (raised_duty shift) r.given;
      mode = r.mode;
      sealed = r.sealed;
      stamp = other;
      last = last;
      sent = sent;
      estimate = estimate;
      rates = r.rates;
    }

-- an event: the number of the message that it names
abbrev pub raised_event : Shift → Event → Event
raised_event shift (event.Recv reference device counter message) = event.Recv reference device counter (message + shift.messages)
raised_event shift (event.Lose reference message) = event.Lose reference (message + shift.messages)
raised_event shift e = e

-- what is seen of an event
abbrev pub raised_seen : Shift → Seen → Seen
raised_seen shift s =
    record {
      event = raised_event shift s.event;
      taken = option_map (raised_flight shift) s.taken;
      sent = map (raised_flight shift) s.sent;
      activated = s.activated;
      acted = s.acted;
      closed = s.closed;
    }
