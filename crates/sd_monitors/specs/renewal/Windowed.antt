-- What an event says of the open window: true where something came about in it, false where that is undone, none where it says nothing of it.
use Rattle.std.specs.Prelude.{ℕ, Bool, true, false, List, Option, Some, None, is_some, if◌then◌else◌}
use Rattle.sd_num.specs.Lists.{map_or, same_number, find_map_or}
use Rattle.sd_sched.specs.Events.{joined, given, is_seal}
use Rattle.sd_history.specs.Things.{mended}
use Rattle.sd_history.specs.World.{Seen, window, makes}

-- what the latest event of the open window that says anything of it says, and false where none does
abbrev pub came_about : (Seen → Option Bool) → List Seen → Bool
came_about tells seen = map_or (window seen) false (λ w. find_map_or tells w false)

-- where it came, true; else nothing
abbrev pub so_if : Bool → Option Bool
so_if came = if came then Some true else None

-- something is mended
abbrev pub tells_mended : Seen → Option Bool
tells_mended s = so_if (is_some (mended s.event))

-- some device is sealed
abbrev pub tells_sealed : Seen → Option Bool
tells_sealed s = so_if (is_seal s.event)

-- the device is given its duty; once it joins, it has to be given it again
abbrev pub tells_given : ℕ → Seen → Option Bool
tells_given d s = if same_number (joined s.event) d then Some false else so_if (same_number (given s.event) d)

-- the device enters the staged plan; one that is made has not
abbrev pub tells_entered : ℕ → Seen → Option Bool
tells_entered d s = if same_number s.activated d then Some true else if makes d s.event then Some false else None
