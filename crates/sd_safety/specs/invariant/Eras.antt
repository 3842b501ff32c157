-- The words of an era, of the state after steps: what failed in it, which plan a device follows, where it stands, whom a failure hits, and
-- when a device last heard, moved or sent. Steps have the newest first, and an era is what came behind the latest closing.
use Rattle.std.specs.Prelude.{ℕ, ◌+◌, ◌-◌, Bool, true, false, ◌&&◌, ◌||◌, not, List, [], ◌∷◌, filter, length, max, nat_eq, nat_lt, Option, Some, None, is_some, option_map, if◌then◌else◌}
use Rattle.std.specs.List.{list_any}
use Rattle.std.specs.Option.{option_or}
use Rattle.sd_num.specs.Lists.{map_or, same_number}
use Rattle.sd_plan.specs.topo.Network.{Network}
use Rattle.sd_plan.specs.declared.topo.Thing.{Thing}
use Rattle.sd_plan.specs.declared.topo.Thing.TheVariants as thing
use Rattle.sd_plan.specs.domain.Things.{same_thing}
use Rattle.sd_plan.specs.declared.Plan.{Plan}
use Rattle.sd_plan.specs.Plans.{is_member, is_root, is_backup_root}
use Rattle.sd_plan.specs.Walks.{path, epath, on_walk}
use Rattle.sd_device.specs.Calls.{CallDone, Past, Emitted, TookOver}
use Rattle.sd_device.specs.Words.{transition_of, accepted_over, is_move, has_moved, emits}
use Rattle.sd_sched.specs.Events.{reference_of}
use Rattle.sd_history.specs.World.{Setting, Seen, makes, fails, is_up, window, epoch_in_force, staged_epoch, in_force, is_staged_member}
use Rattle.sd_history.specs.Steps.{Act, Makes, Calls, Asks, Passes, Step, seen_of, acts_in, epoch_in}
use Rattle.sd_history.specs.Chronicle.{past_in}
use Rattle.sd_history.specs.Premises.{failures_since_closing, first_reference}
use Rattle.sd_safety.specs.invariant.Bounds.{tick_gap}

-- Eras

-- the number of the era is that of the plan in force
abbrev pub era : List Step → ℕ
era steps = epoch_in_force (seen_of steps)

-- the plan of the era
abbrev pub plan_now : Setting → List Step → Plan
plan_now setting steps = in_force setting (seen_of steps)

-- what failed in the era (S)
abbrev pub failed_now : List Step → List Thing
failed_now steps = failures_since_closing (seen_of steps)

-- the thing is among these
abbrev pub is_among : List Thing → Thing → Bool
is_among things x = list_any (same_thing x) things

-- the device failed in the era
abbrev pub device_failed_now : List Step → ℕ → Bool
device_failed_now steps d = is_among (failed_now steps) (thing.Device d)

-- the link failed in the era
abbrev pub link_failed_now : List Step → ℕ → Bool
link_failed_now steps l = is_among (failed_now steps) (thing.Link l)

-- some of the failed is among the things
abbrev pub touches : List Thing → List Thing → Bool
touches failed things = list_any (is_among failed) things

-- the reference of the first event, 0 before it
abbrev pub beginning : List Seen → ℕ
beginning [] = 0
beginning (s ∷ earlier) = first_reference earlier s

-- in the first era members may start until this reference (r0 + Q)
abbrev pub all_started : Setting → List Step → ℕ
all_started setting steps = beginning (seen_of steps) + tick_gap setting.net

-- a reference, or in the first era the one by which all have started where that is later
abbrev pub late : Setting → List Step → ℕ → ℕ
late setting steps reference = if nat_eq (era steps) 1 then max reference (all_started setting steps) else reference

-- the reference at which one of the things failed first in the era, if one did
abbrev pub first_failure : List Thing → List Seen → Option ℕ
first_failure things [] = None
first_failure things (s ∷ earlier) =
    if s.closed then None
    else option_or (first_failure things earlier) (if list_any (λ x. fails x s.event) things then Some (reference_of s.event) else None)

-- Devices

-- a device that is up is old where it follows the plan in force, new where it follows the staged one, blank without a plan, and else past
abbrev pub is_old : List Step → ℕ → Bool
is_old steps d = same_number (epoch_in steps d) (era steps)

-- the device is up and follows the staged plan
abbrev pub is_new : List Step → ℕ → Bool
is_new steps d = same_number (epoch_in steps d) (staged_epoch (seen_of steps))

-- the device is up and follows no plan
abbrev pub is_blank : List Step → ℕ → Bool
is_blank steps d = same_number (epoch_in steps d) 0

-- the device is up and neither old, new nor blank
abbrev pub is_past : List Step → ℕ → Bool
is_past steps d = is_up (seen_of steps) d && not (is_old steps d || is_new steps d || is_blank steps d)

-- the past of a device that is up
abbrev pub live_past : List Step → ℕ → Option Past
live_past steps d = if is_up (seen_of steps) d then past_in steps d else None

-- it moved since its entry
abbrev pub moved : List Step → ℕ → Bool
moved steps d = map_or (live_past steps d) false has_moved

-- a device of a plan is on its primary, on its backup, or acts
abbrev pub on_primary : List Step → ℕ → Bool
on_primary steps d = is_some (live_past steps d) && not (moved steps d) && not (acts_in steps d)

-- the device has moved to its backup, and does not act
abbrev pub on_backup : List Step → ℕ → Bool
on_backup steps d = moved steps d && not (acts_in steps d)

-- a device of the network that the plan does not leave out
abbrev pub belongs : Network → Plan → ℕ → Bool
belongs net plan d = nat_lt d (length net.devices) && is_member plan d

-- one that the staged plan does not leave out, where there is such a plan
abbrev pub will_belong : Setting → List Step → ℕ → Bool
will_belong setting steps d = nat_lt d (length setting.net.devices) && is_staged_member setting (seen_of steps) d

-- a member that is neither root nor backup root
abbrev pub is_ordinary : Plan → ℕ → Bool
is_ordinary plan d = is_member plan d && not (is_root plan d) && not (is_backup_root plan d)

-- a member other than the backup root whose walk leads over it (T(B))
abbrev pub is_behind : Network → Plan → ℕ → Bool
is_behind net plan d = is_member plan d && not (is_backup_root plan d) && on_walk net plan d plan.backup_root

-- Hits

-- a thing of the device's cut path failed in the era
abbrev pub hit : Setting → List Step → ℕ → Bool
hit setting steps d = touches (failed_now steps) (epath setting.net (plan_now setting steps) d)

-- what failed besides the root
abbrev pub failed_besides_root : Setting → List Step → List Thing
failed_besides_root setting steps = filter (λ x. not (same_thing (thing.Device (plan_now setting steps).root) x)) (failed_now steps)

-- a thing other than the root of the device's cut path failed in the era
abbrev pub hit_otherwise : Setting → List Step → ℕ → Bool
hit_otherwise setting steps d = touches (failed_besides_root setting steps) (epath setting.net (plan_now setting steps) d)

-- a thing of the device's whole path failed in the era
abbrev pub path_hit : Setting → List Step → ℕ → Bool
path_hit setting steps d = touches (failed_now steps) (path setting.net (plan_now setting steps) d)

-- the root failed in the era
abbrev pub root_failed : Setting → List Step → Bool
root_failed setting steps = device_failed_now steps (plan_now setting steps).root

-- the root is up and did not fail in the era
abbrev pub root_lives : Setting → List Step → Bool
root_lives setting steps = is_up (seen_of steps) (plan_now setting steps).root && not (root_failed setting steps)

-- When a device did what

-- what an act made the device do
abbrev pub did_by : List Step → Act → ℕ → Option CallDone
did_by earlier (Calls e call) d =
    if nat_eq e d then option_map (λ past. record { call = call; transition = transition_of past call }) (past_in earlier d) else None
did_by earlier (Makes e making) d = None
did_by earlier (Asks e counter) d = None
did_by earlier Passes d = None

-- the step made the device do what the test asks for
abbrev pub does : (CallDone → Bool) → List Step → Step → ℕ → Bool
does test earlier s d = map_or (did_by earlier s.act d) false test

-- the reference of the latest step that made the device or made it do such a thing, and 0 before it was made
abbrev pub latest_such : (CallDone → Bool) → List Step → ℕ → ℕ
latest_such test [] d = 0
latest_such test (s ∷ earlier) d = if makes d s.seen.event || does test earlier s d then reference_of s.seen.event else latest_such test earlier d

-- the call accepted a message
abbrev pub hears : CallDone → Bool
hears x = is_some (accepted_over x.transition)

-- the call was a move
abbrev pub moves : CallDone → Bool
moves x = is_move x.transition

-- it sends or begins to act
abbrev pub sends : CallDone → Bool
sends x = is_some (emits x)

-- it sends a round of its own
abbrev pub begins_round : CallDone → Bool
begins_round x = elim x.transition [ Emitted ↦ true | TookOver ↦ true | _ ↦ false ]

-- the reference at which the device was made or last heard (h)
abbrev pub heard_at : List Step → ℕ → ℕ
heard_at steps d = latest_such hears steps d

-- that of its latest move (m), while it is on its backup
abbrev pub moved_at : List Step → ℕ → ℕ
moved_at steps d = latest_such moves steps d

-- that of its latest emission, or of its beginning to act
abbrev pub sent_at : List Step → ℕ → ℕ
sent_at steps d = latest_such sends steps d

-- the latest thing of that kind was a receipt, and not the making
abbrev pub heard_since_made : List Step → ℕ → Bool
heard_since_made [] d = false
heard_since_made (s ∷ earlier) d = if makes d s.seen.event then false else does hears earlier s d || heard_since_made earlier d

-- for how long the device has heard nothing, at an event with this reference that comes after these steps (sil)
abbrev pub silent_for : List Step → ℕ → ℕ → ℕ
silent_for steps d reference = reference - heard_at steps d

-- for how long it has neither heard nor moved (rest)
abbrev pub rests_for : List Step → ℕ → ℕ → ℕ
rests_for steps d reference = reference - max (heard_at steps d) (moved_at steps d)

-- some device began a round before
abbrev pub emission_by : List Step → Act → Bool
emission_by earlier (Calls e call) = map_or (did_by earlier (Calls e call) e) false begins_round
emission_by earlier (Makes e making) = false
emission_by earlier (Asks e counter) = false
emission_by earlier Passes = false

-- some step was an emission
abbrev pub has_emission : List Step → Bool
has_emission [] = false
has_emission (s ∷ earlier) = emission_by earlier s.act || has_emission earlier

-- Windows

-- no event that passes the second test comes after one that passes the first
abbrev pub none_after : (Seen → Bool) → (Seen → Bool) → List Seen → Bool
none_after first second [] = true
none_after first second (s ∷ earlier) = none_after first second earlier && not (second s && list_any first earlier)

-- the same of the open window, where there is one
abbrev pub none_after_in_window : (Seen → Bool) → (Seen → Bool) → List Seen → Bool
none_after_in_window first second seen = map_or (window seen) true (none_after first second)
