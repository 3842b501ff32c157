-- The references at which a device was made, ticked, heard, moved, sent and was sealed, in a list of steps: its words on counters (heard,
-- moved_at, sent_at) seen from outside. And what each step of a history of honest clocks owes the steps before it.
use Rattle.std.specs.Prelude.{◌≡◌, ℕ, ◌≤◌, Bool, true, false, ◌&&◌, List, [], ◌∷◌, nat_eq, Option, Some, None, is_some, option_and_then, if◌then◌else◌}
use Rattle.sd_num.specs.Lists.{map_or, same_number}
use Rattle.sd_plan.specs.declared.Duty.{Duty}
use Rattle.sd_device.specs.Calls.{Call, Tick, CallDone, Past}
use Rattle.sd_device.specs.Words.{transition_of, accepted_over, is_move, emits, takes_up, is_seal, making_counter, first_duty, duty_given, counter_of as counter_of_call}
use Rattle.sd_sched.specs.declared.Event.{Event}
use Rattle.sd_sched.specs.Events.{reference_of, device_of, counter_of, ticked}
use Rattle.sd_history.specs.World.{Setting, makes, latest_reference}
use Rattle.sd_history.specs.Steps.{Act, Makes, Calls, Asks, Passes, Step, seen_of}
use Rattle.sd_history.specs.Chronicle.{past_in}
use Rattle.sd_history.specs.Premises.{reads_honestly}

-- a call with what it did
abbrev pub did_by : Past → Call → CallDone
did_by past call = record { call = call; transition = transition_of past call }

-- the counter of an accepted receipt, of a move
abbrev pub hears : CallDone → Option ℕ
hears x = option_and_then (λ edge. counter_of_call x.call) (accepted_over x.transition)

-- the counter of a move
abbrev pub moves : CallDone → Option ℕ
moves x = if is_move x.transition then counter_of_call x.call else None

-- the reference where the act makes the device, or its call is one of which f tells something; else the one before
abbrev pub reference_after : (CallDone → Option ℕ) → ℕ → Act → ℕ → Option Past → ℕ → ℕ
reference_after f r (Makes m making) d past before = if nat_eq m d then r else before
reference_after f r (Calls m call) d past before =
    if nat_eq m d then map_or past before (λ p. map_or (f (did_by p call)) before (λ c. r)) else before
reference_after f r (Asks m counter) d past before = before
reference_after f r Passes d past before = before

-- the reference of the latest making or call of which f tells something
abbrev pub reference_by : (CallDone → Option ℕ) → List Step → ℕ → ℕ
reference_by f [] d = 0
reference_by f (s ∷ earlier) d = reference_after f (reference_of s.seen.event) s.act d (past_in earlier d) (reference_by f earlier d)

-- h(d): where the device last heard, its making included
abbrev pub heard_in : List Step → ℕ → ℕ
heard_in steps d = reference_by hears steps d

-- m(d): where it last moved, or was made
abbrev pub moved_in : List Step → ℕ → ℕ
moved_in steps d = reference_by moves steps d

-- where it last sent as the acting root, or began to act
abbrev pub sent_in : List Step → ℕ → ℕ
sent_in steps d = reference_by emits steps d

-- the first seal since the entry; an entry that is a making is sealed at once
abbrev pub seal_with : ℕ → CallDone → Option ℕ → Option ℕ
seal_with r x before = if takes_up x then None else if is_some before then before else if is_seal x.call then Some r else None

-- the first seal since the entry of a device, after an act
abbrev pub seal_after : ℕ → Act → ℕ → Option Past → Option ℕ → Option ℕ
seal_after r (Makes m making) d past before = if nat_eq m d then Some r else before
seal_after r (Calls m call) d past before = if nat_eq m d then map_or past before (λ p. seal_with r (did_by p call) before) else before
seal_after r (Asks m counter) d past before = before
seal_after r Passes d past before = before

-- since when the device is sealed
abbrev pub sealed_in : List Step → ℕ → Option ℕ
sealed_in [] d = None
sealed_in (s ∷ earlier) d = seal_after (reference_of s.seen.event) s.act d (past_in earlier d) (sealed_in earlier d)

-- What a step owes the steps before it

-- the act makes the device
abbrev pub makes_device : Act → ℕ → Bool
makes_device (Makes m making) d = nat_eq m d
makes_device (Calls m call) d = false
makes_device (Asks m counter) d = false
makes_device Passes d = false

-- the call is a tick
abbrev pub is_tick : Call → Bool
is_tick (Tick counter) = true
is_tick _ = false

-- the act is a tick of the device
abbrev pub ticks_device : Act → ℕ → Bool
ticks_device (Makes m making) d = false
ticks_device (Calls m call) d = nat_eq m d && is_tick call
ticks_device (Asks m counter) d = false
ticks_device Passes d = false

-- the counter that the act brings the device
abbrev pub counter_at : Act → ℕ → Option ℕ
counter_at (Makes m making) d = if nat_eq m d then Some (making_counter making) else None
counter_at (Calls m call) d = if nat_eq m d then counter_of_call call else None
counter_at (Asks m counter) d = None
counter_at Passes d = None

-- an act is the event's: they agree on which device is made, which ticks, and on counters
pub record Fits (e : Event) (act : Act) : Type 0 where
  pub makes_it : (d : ℕ) → makes d e ≡ makes_device act d
  pub ticks_it : (d : ℕ) → same_number (ticked e) d ≡ ticks_device act d
  pub named : (d c : ℕ) → counter_at act d ≡ Some c → same_number (device_of e) d ≡ true
  pub read : (d c : ℕ) → counter_at act d ≡ Some c → counter_of e ≡ Some c

-- the duty that an act gives
abbrev pub gives_duty : Act → Option Duty
gives_duty (Makes m making) = first_duty making
gives_duty (Calls m call) = duty_given call
gives_duty (Asks m counter) = None
gives_duty Passes = None

-- a step with its own act, not earlier than those before it, whose reading keeps the rates, and whose duty has the network's period
pub record IsTimed (setting : Setting) (s : Step) (earlier : List Step) : Type 0 where
  pub fits : Fits s.seen.event s.act
  pub period : (duty : Duty) → gives_duty s.act ≡ Some duty → duty.period ≡ setting.net.params.period
  pub goes_on : latest_reference (seen_of earlier) ≤ reference_of s.seen.event
  pub honest : reads_honestly setting s.seen (seen_of earlier) ≡ true

-- each step is such
abbrev pub AreTimed : Setting → List Step → Type 0
AreTimed setting [] = Unit {0}
AreTimed setting (s ∷ earlier) = AreTimed setting earlier × IsTimed setting s earlier
