-- For which lists the monitor of starts stands.
use Rattle.std.specs.Prelude.{◌≡◌, Bool, List}
use Rattle.sd_history.specs.World.{Seen}
use Rattle.sd_history.specs.Premises.{start_holds}

-- what it keeps is whether the premise holds
pub record StartStands (keeps : Bool) (seen : List Seen) : Type 0 where
  pub holds : keeps ≡ start_holds seen
