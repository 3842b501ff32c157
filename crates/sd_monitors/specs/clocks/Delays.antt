-- For which lists the monitor of delays stands.
use Rattle.std.specs.Prelude.{◌≡◌, Bool, List}
use Rattle.sd_history.specs.World.{Setting, Seen}
use Rattle.sd_history.specs.Premises.{delay_holds}

-- what it keeps is whether the premise holds
pub record DelayStands (setting : Setting) (keeps : Bool) (seen : List Seen) : Type 0 where
  pub holds : keeps ≡ delay_holds setting seen
