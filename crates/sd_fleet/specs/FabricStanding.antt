-- For which steps of a history a fabric stands.
use Rattle.std.specs.Prelude.{◌≡◌, List}
use Rattle.sd_history.specs.World.{Setting}
use Rattle.sd_history.specs.Steps.{Step, flight_count}
use Rattle.sd_history.specs.Open.{unspent}
use Rattle.sd_history.specs.Accepted.{AreSteps}
use Rattle.sd_world.specs.membership.Standing as membership
use Rattle.sd_fleet.specs.Registers.{Registers}

-- The fabric keeps what the words on histories say of these steps: the network, devices and plans, and the flights that are not spent.
-- Each of the steps was accepted after those before it.
pub record Stands (r : Registers) (setting : Setting) (steps : List Step) : Type 0 where
  pub accepted : AreSteps setting steps
  pub net : r.net ≡ setting.net
  pub membership : membership.Stands r.membership setting steps
  pub flights : r.book.flights ≡ unspent steps 0
  pub sent : r.book.last ≡ flight_count steps
