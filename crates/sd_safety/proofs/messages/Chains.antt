-- The places of a trace: this many hops before its end stands a device with its moment, to which the rest of the trace leads, and from which
-- the end is this many hops away. Each hop lasts at least the least delay of its direction.
use Rattle.std.specs.Prelude.{ℕ, zero, suc, ◌+◌, ◌*◌, ◌≤◌}
use Rattle.std.proofs.Common.{arith}
use Rattle.sd_plan.specs.topo.Network.{greatest_delay}
use Rattle.sd_device.specs.declared.msg.Stamp.{Stamp}
use Rattle.sd_history.specs.World.{Setting}
use Rattle.sd_safety.specs.messages.Moments.{Moment, when}
use Rattle.sd_safety.specs.messages.Traces.{Chain, stands, hops_on}
use Rattle.sd_safety.proofs.messages.Overlap.{hop_time, one_more}

-- how long this many hops last at most
pub chain_time : (setting : Setting) (stamp : Stamp) (epoch : ℕ) (q : Moment) (y k : ℕ) (p : Moment) (d : ℕ) → Chain setting stamp epoch q y k p d
    → when p ≤ when q + k * greatest_delay setting.net
chain_time setting stamp epoch q y zero p d stands = omega arith
chain_time setting stamp epoch q y (suc k) p d (hops_on {from = from} {x = x} chain hop) =
    one_more (when q) (when from) (when p) k (greatest_delay setting.net) (chain_time setting stamp epoch q y k from x chain)
    (hop_time setting stamp epoch from p x d hop)
