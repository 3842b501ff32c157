use Rattle.sd_fleet.proofs.Devices.{nodes_keep_chronicle}
use Rattle.sd_fleet.proofs.exact.keeps_chronicle.Goals as goal

pub returns : goal.returns
returns g c = nodes_keep_chronicle c.exact.ensures
