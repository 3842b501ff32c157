-- What is recorded of an entry: first the losses that it shows, then its event, unless one of these is refused.
use Rattle.std.specs.Prelude.{ℕ, Bool, true, false, zero, suc, ◌-◌, ◌^◌, List, ◌∷◌, Option, Some, None, Result, Ok, Err}
use Rattle.sd_sched.specs.declared.Event.{Event}
use Rattle.sd_sched.specs.declared.Event.TheVariants.{Lose}
use Rattle.sd_history.specs.World.{Setting}
use Rattle.sd_history.specs.Chronicle.{chronicle}
use Rattle.sd_history.specs.Refusals.{refusal}
use Rattle.sd_history.specs.declared.ApplyFault.{ApplyFault}
use Rattle.sd_history.specs.declared.ApplyFault.TheVariants.{Memory}
use Rattle.sd_record.specs.logs.Entries.{reference_in}
use Rattle.sd_record.specs.declared.logs.Entry.{Entry}
use Rattle.sd_record.specs.Losing.{next_lost}
use Rattle.sd_record.specs.Naming.{event_in}
use Rattle.sd_record.specs.declared.endings.Ending.{Ending}

-- the event is refused, and not out of memory
abbrev pub is_refusal : ApplyFault → Bool
is_refusal Memory = false
is_refusal _ = true

-- the events that have happened, the newest first, or why the next one is refused
abbrev pub Events : Type 0
Events = Result (List Event) ApplyFault

-- go on where nothing was refused
abbrev pub go_on : Events → (List Event → Events) → Events
go_on (Ok events) next = next events
go_on (Err why) next = Err why

-- the event is one more, unless it is refused
abbrev pub add_unless : Option ApplyFault → Event → List Event → Events
add_unless None e events = Ok (e ∷ events)
add_unless (Some why) e events = Err why

module _ (setting : Setting) where
  -- the event happens after these
  abbrev pub add : Event → List Event → Events
  add e events = add_unless (refusal setting (chronicle setting events) e) e events

  -- a message is lost at its last moment, if there is one to be lost
  abbrev pub lose_next : Option Ending → (List Event → Events) → List Event → Events
  lose_next None next events = Ok events
  lose_next (Some ending) next events = go_on (add (Lose ending.last ending.number) events) next

  -- at most n messages are lost, one after the other, each that can be received no more at this reference
  unfoldable pub lose_up_to : (reference n : ℕ) → List Event → Events
  lose_up_to reference zero events = Ok events
  lose_up_to reference (suc n) events = lose_next (next_lost reference (chronicle setting events)) (lose_up_to reference n) events

  -- all of them: there are fewer than 2^64, since a history sends fewer messages
  abbrev pub lose_all : (reference : ℕ) → List Event → Events
  lose_all reference events = lose_up_to reference (2 ^ 64 - 1) events

  -- an entry is recorded: what it shows to be lost, and then its event
  abbrev pub record_entry : Entry → List Event → Events
  record_entry entry events = go_on (lose_all (reference_in entry) events) (λ before. add (event_in (chronicle setting before) entry) before)
