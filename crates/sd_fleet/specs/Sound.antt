-- What is always true of what a fabric keeps, whatever happened.
use Rattle.std.specs.Prelude.{◌≡◌, ◌*◌, ◌^◌, ◌≤◌, length}
use Rattle.sd_plan.specs.topo.Limits.{IsNetwork}
use Rattle.sd_device.specs.msg.Books.{AreGiven}
use Rattle.sd_world.specs.membership.Plans.{AreTables}
use Rattle.sd_world.specs.membership.Memberships as memberships
use Rattle.sd_fleet.specs.Registers.{Registers, size_of}

-- what is kept is sound
pub record IsSound (r : Registers) : Type 0 where
  pub net : IsNetwork r.net
  pub tables : AreTables r.net r.membership.plans
  pub membership : memberships.IsSound r.membership
  pub answers : length r.membership.answers ≡ length r.net.devices
  pub links : length r.membership.world.failed_links ≡ length r.net.links
  pub events : r.membership.world.events ≤ 2 ^ 26
  -- an event sends over each link at most once
  pub sent : r.book.last ≤ r.membership.world.events * 2 ^ 15
  pub given : AreGiven r.book
  pub size : r.book.size ≡ size_of r.net
