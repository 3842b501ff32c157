-- What a fabric keeps.
use Rattle.std.specs.Prelude.{length}
use Rattle.sd_plan.specs.topo.Network.{Network}
use Rattle.sd_device.specs.msg.Books.{Book, Size}
use Rattle.sd_world.specs.membership.Memberships as memberships

-- the network, the membership and the book
pub record Registers : Type 0 where
  pub net : Network
  pub membership : memberships.Registers
  pub book : Book

-- of these parts
abbrev pub kept : Network → memberships.Registers → Book → Registers
kept net membership book = record { net = net; membership = membership; book = book }

-- how many devices and links the network has
abbrev pub size_of : Network → Size
size_of net = record { devices = length net.devices; links = length net.links }
