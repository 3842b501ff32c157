-- What is printed for all events of one device.
use Rattle.std.specs.Prelude.{ℕ, List, ◌∷◌, ◌++◌, []}
use Rattle.sd_sched.specs.declared.Event.{Event}
use Rattle.sd_commands.specs.solo.Histories.{bytes_of}

-- what is printed for all events
unfoldable pub all_bytes : List Event → List ℕ
all_bytes [] = []
all_bytes (e ∷ earlier) = all_bytes earlier ++ bytes_of earlier e
