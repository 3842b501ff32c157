-- A fleet that is worked out: its structs are the registers of its devices, and each call does with them what the rules say.
use Rattle.std.specs.Prelude.{ℕ, ◌+◌, ◌-◌, ◌%◌, List, [], ◌∷◌, nat_eq, Option, Some, None, option_map, if◌then◌else◌}
use Rattle.sd_num.specs.Lists.{map_or}
use Rattle.sd_sched.specs.declared.Event.{Event}
use Rattle.sd_sched.specs.declared.Event.TheVariants as event
use Rattle.sd_device.specs.declared.Effect.{Effect}
use Rattle.sd_device.specs.declared.registers.Registers.{Registers}
use Rattle.sd_device.specs.Calls.{Call}
use Rattle.sd_device.specs.Rules.{made, called, report_in, parent_in, acts_in, epoch_in}
use Rattle.sd_device.specs.Rebases.{call_lowered, rebased, lowering}
use Rattle.sd_history.specs.World.{Setting}
use Rattle.sd_history.specs.Steps.{Act, Makes, Calls, Asks, Passes, Answers, Told, tells_nothing, tells_made, tells_called, act_by}
use Rattle.sd_history.specs.Lives.{tells_report}
use Rattle.sd_beside.specs.deployment.Deployment.{Kept, Tended, Moment, steps_of, with_tended, struct_in}

-- the structs of a fleet
abbrev pub Structs : Type 0
Structs = ℕ → Option (Kept Registers)

-- the registers after a rebase while the device's own counter shows this
abbrev pub rebase : Kept Registers → ℕ → Kept Registers
rebase kept counter =
    let now = counter - kept.lowered in
    record { struct = rebased kept.struct now; lowered = kept.lowered + lowering kept.struct now; since = counter }

-- a rebase of a device, where it has registers
abbrev pub is_rebased_at : ℕ → ℕ → Structs → List (Tended Registers)
is_rebased_at d counter structs = map_or (structs d) [] (λ kept. record { device = d; left = rebase kept counter } ∷ [])

-- each device is rebased before each of its ticks that comes at a multiple of 240 us
abbrev pub tended_before : Structs → Event → List (Tended Registers)
tended_before structs (event.Tick reference d counter) = if nat_eq (reference % 240000000) 0 then is_rebased_at d counter structs else []
tended_before structs _ = []

-- what the registers answer
abbrev pub answers_in : Registers → Answers
answers_in r = record { parent = parent_in r; acts = acts_in r; epoch = epoch_in r; given = r.given; sealed = r.sealed }

-- what a call makes of the registers, and what it sends
unfoldable pub after_call : Kept Registers → Call → Registers × Effect
after_call kept call = called kept.struct (call_lowered kept.lowered call)

-- what the device of an act tells
abbrev pub tells_by : Structs → Act → Told
tells_by structs (Makes d making) = tells_made (answers_in (made making))
tells_by structs (Calls d call) =
    map_or (structs d) tells_nothing (λ kept. tells_called (after_call kept call).1 (answers_in (after_call kept call).0))
tells_by structs (Asks d counter) = map_or (structs d) tells_nothing (λ kept. tells_report (report_in kept.struct (counter - kept.lowered)))
tells_by structs Passes = tells_nothing

-- the struct that an act leaves
abbrev pub left_by : Structs → Act → Option (Kept Registers)
left_by structs (Makes d making) = Some (record { struct = made making; lowered = 0; since = 0 })
left_by structs (Calls d call) =
    option_map (λ kept. record { struct = (after_call kept call).0; lowered = kept.lowered; since = kept.since }) (structs d)
left_by structs _ = None

-- the moment of an event after these
abbrev pub moment_of : Setting → List (Moment Registers) → Event → Moment Registers
moment_of setting earlier e =
    let tended = tended_before (struct_in earlier) e in
    let structs = with_tended (struct_in earlier) tended in
    let act = act_by setting (steps_of setting earlier) e in
    record { event = e; act = act; told = tells_by structs act; left = left_by structs act; tended = tended }

-- the run of these events
abbrev pub run_of : Setting → List Event → List (Moment Registers)
run_of setting [] = []
run_of setting (e ∷ earlier) = let run = run_of setting earlier in moment_of setting run e ∷ run
