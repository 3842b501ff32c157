-- A fleet of exact nodes, as devices are, stands for the chronicle of its events.
use Rattle.sd_device.specs.declared.node.Node.{Ghosts}
use Rattle.sd_device.specs.Living.{Life}
use Rattle.sd_device.specs.Exact.{IsExact}
use Rattle.sd_history.proofs.Exactness.{exact_run, exact_history}
use Rattle.sd_fleet.specs.Devices.{NodesKeepChronicle}

pub nodes_keep_chronicle : {N : Type 0} {g : Ghosts N} {stands : N → Life → Type 0} → IsExact g stands → NodesKeepChronicle g
nodes_keep_chronicle exact fleet setting run stands =
    record { history = exact_history exact setting run stands.is_run; chronicle = exact_run exact setting run stands.is_run }
