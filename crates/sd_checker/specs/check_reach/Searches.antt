-- What is known of who is cut off under a domain.
use Rattle.std.specs.Prelude.{◌≡◌, true, length, Some}
use Rattle.sd_plan.specs.topo.Network.{Network}
use Rattle.sd_plan.specs.declared.domain.DomainId.{DomainId}
use Rattle.sd_plan.specs.declared.Plan.{Plan}
use Rattle.sd_checker.specs.check_reach.Homes.{IsHome}
use Rattle.sd_checker.specs.check_reach.Reached.{BackupReaches, IsDry}
use Rattle.sd_checker.specs.declared.check_reach.search.Search.{Search}

-- there is room for each device
pub record HasRoom (net : Network) (search : Search) : Type 0 where
  pub devices : search.visited.bound ≡ length net.devices
  pub home : search.home.joined.bound ≡ length net.devices

-- what the search has visited is cut off under the domain, what it knows of the acting end is right, and so is its trust in the backup root
pub record IsSearchOf (net : Network) (plan : Plan) (domain : DomainId) (search : Search) : Type 0 where
  pub dry : IsDry net plan domain search.visited.numbers
  pub home : IsHome net plan domain search.home
  pub trusted : search.trusted ≡ Some true → BackupReaches net plan domain
