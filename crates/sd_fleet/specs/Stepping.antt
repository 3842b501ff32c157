-- What a step makes of a fabric, and what comes of it, by what is kept. A step is taken in two parts: the event happens, and then the window
-- may close with it.
use Rattle.std.specs.Prelude.{◌≡◌, ℕ, ◌+◌, ◌≤◌, Bool, false, ◌&&◌, not, List, ◌++◌, length, filter, Option, Some, None, option_map, IsOkAnd, if◌then◌else◌}
use Rattle.std.specs.Result.{result_ok}
use Rattle.sd_num.specs.Lists.{map_or}
use Rattle.sd_num.specs.declared.clock.Report.{Report}
use Rattle.sd_device.specs.declared.msg.Flight.{Flight}
use Rattle.sd_device.specs.msg.Books.{Book, found, without, is_current}
use Rattle.sd_sched.specs.declared.Event.{Event}
use Rattle.sd_sched.specs.declared.Event.TheVariants as event
use Rattle.sd_sched.specs.Events.{reference_of, device_of, message_of, is_end_event}
use Rattle.sd_history.specs.Things.{failure_of}
use Rattle.sd_history.specs.flights.Flights.{without_taken, without_swept}
use Rattle.sd_world.specs.world.Registers.{is_open}
use Rattle.sd_world.specs.membership.Memberships as memberships
use Rattle.sd_world.specs.membership.Memberships.{staged_number, is_of, acts_at, registers_after, registers_closed, can_close_in}
use Rattle.sd_fleet.specs.declared.Reply.{Reply}
use Rattle.sd_fleet.specs.declared.Outcome.{Outcome}
use Rattle.sd_fleet.specs.Registers.{Registers}
use Rattle.sd_fleet.specs.Sending.{sent_in}
use Rattle.sd_fleet.specs.Outcomes.{first_number}

-- the flight of the event's message is on its way: it has not ended, and is for the named device where this receives it
abbrev pub CanDeliver : Book → Event → Type 0
CanDeliver book (event.Recv reference device counter message) =
    IsOkAnd (found book.last book.flights message) (λ f. (reference ≤ f.last) × (f.receiver ≡ device))
CanDeliver book (event.Lose reference message) = IsOkAnd (found book.last book.flights message) (λ f. reference ≤ f.last)
CanDeliver book _ = Unit {0}

-- the flights once what ended is left out, and the event's own is taken or lost
abbrev pub delivered : Event → List Flight → List Flight
delivered e flights = without_taken (message_of e) (filter (is_current (reference_of e)) flights)

-- the membership once the event has happened, before its window closes
abbrev pub membership_after : Registers → Event → Reply → memberships.Registers
membership_after r e reply = registers_after r.membership e reply.answers

-- the flights once the event has happened: what ended is left out, its own flight is taken or lost, what it sends is added, and what it
-- fails is swept
abbrev pub flights_after : Registers → Event → Reply → List Flight
flights_after r e reply = without_swept (failure_of e) (delivered e r.book.flights ++ filter (λ f. f.reaches) (sent_in r e reply))

-- the membership, with the window closed where this can close
abbrev pub closed_if_can : memberships.Registers → memberships.Registers
closed_if_can r = if can_close_in r then registers_closed r else r

-- a fabric that the step left
pub record IsAfter (old : Registers) (e : Event) (reply : Reply) (new : Registers) : Type 0 where
  pub net : new.net ≡ old.net
  pub membership : new.membership ≡ closed_if_can (membership_after old e reply)
  pub flights : new.book.flights ≡ flights_after old e reply
  pub last : new.book.last ≡ old.book.last + length (sent_in old e reply)
  pub size : new.book.size ≡ old.book.size

-- What comes of it

-- a window is open, and the device follows the staged plan
abbrev pub is_new_at : memberships.Registers → ℕ → Bool
is_new_at r d = is_open r.world.window && is_of r (staged_number r) d

-- the device that enters the staged plan
abbrev pub entered_in : memberships.Registers → memberships.Registers → Event → Option ℕ
entered_in before after e = map_or (device_of e) None (λ d. if is_new_at after d && not (is_new_at before d) then Some d else None)

-- the flight that the event receives
abbrev pub taken_from : Book → Event → Option Flight
taken_from book (event.Recv reference device counter message) = result_ok (found book.last book.flights message)
taken_from book _ = None

-- the flight that the event receives, by what is kept
abbrev pub taken_in : Registers → Event → Option Flight
taken_in r e = taken_from r.book e

-- whether the named device acts as root, and whether it is of the staged plan
abbrev pub acts_named : memberships.Registers → Option ℕ → Bool
acts_named r device = map_or device false (acts_at r)

-- the named device is of the staged plan
abbrev pub is_new_named : memberships.Registers → Option ℕ → Bool
is_new_named r device = map_or device false (is_new_at r)

-- the report of an ask, with the device that was asked
abbrev pub report_in : Event → Reply → Option (ℕ × Report)
report_in (event.Ask reference device counter) reply = option_map (λ report. (device, report)) reply.report
report_in _ reply = None

-- the outcome of an event, by what is kept and what the device replied
abbrev pub outcome_in : Registers → Event → Reply → Outcome
outcome_in r e reply =
    record {
      report = report_in e reply;
      taken = taken_in r e;
      first_sent = first_number (sent_in r e reply);
      sent = length (sent_in r e reply);
      activated = entered_in r.membership (membership_after r e reply) e;
      acted = acts_named r.membership (device_of e);
      closed = can_close_in (membership_after r e reply);
      ended = is_end_event e;
    }

-- what comes of a tick at which its device rests
abbrev pub outcome_resting : Registers → ℕ → Outcome
outcome_resting r d =
    record {
      report = None;
      taken = None;
      first_sent = 0;
      sent = 0;
      activated = None;
      acted = acts_at r.membership d;
      closed = false;
      ended = false;
    }

-- the flight with this number was taken away, and nothing else but room changed
pub record IsWithout (number : ℕ) (old new : Registers) : Type 0 where
  pub net : new.net ≡ old.net
  pub membership : new.membership ≡ old.membership
  pub flights : new.book.flights ≡ without number old.book.flights
  pub last : new.book.last ≡ old.book.last
  pub size : new.book.size ≡ old.book.size
  pub room : old.book.room ≤ new.book.room

-- nothing but the room for flights changed, and this did not fall
pub record OnlyRoomGrew (old new : Registers) : Type 0 where
  pub net : new.net ≡ old.net
  pub membership : new.membership ≡ old.membership
  pub flights : new.book.flights ≡ old.book.flights
  pub last : new.book.last ≡ old.book.last
  pub size : new.book.size ≡ old.book.size
  pub room : old.book.room ≤ new.book.room
