-- The number of a healthy fabric, for each device: it speaks of the root's uncertainty, the halves of the device's path, and how long a device with a whole
-- path hears nothing.
use Rattle.std.specs.Prelude.{◌≡◌, ℕ, ◌+◌, ◌*◌, ◌^◌, ◌<◌, ◌≤◌, List, length, slice_index_or}
use Rattle.sd_plan.specs.topo.Network.{Network, rates_of, greatest_delay}
use Rattle.sd_plan.specs.declared.Plan.{Plan}
use Rattle.sd_plan.specs.Walks.{walk}
use Rattle.sd_checker.specs.check_root.Timing.{round_gap}
use Rattle.sd_drill.specs.ages.Ages.{IsOldest, ageing}
use Rattle.sd_drill.specs.recovery.Walks.{halves}
use Rattle.sd_drill.specs.Tight.{next_rounds}
use Rattle.sd_drill.specs.declared.Budget.{Budget}
use Rattle.sd_drill.specs.declared.calm.CalmTimes.{CalmTimes}

-- for how long a device is silent at most while nothing of its path has failed
abbrev pub lag : Network → ℕ
lag net = next_rounds net + round_gap net + net.params.depth * greatest_delay net

-- w is the calm number of device d
pub record IsCalm (net : Network) (plan : Plan) (budget : Budget) (d w : ℕ) : Type 0 where
  pub oldest : ℕ
  pub is_oldest : IsOldest (rates_of net d) (lag net) oldest
  pub sum : w
      ≡ budget.base + ageing (rates_of net plan.root) budget.hold + halves net d (walk net plan d) + ageing (rates_of net d) oldest

-- these are the calm numbers of the devices of the network
pub record AreCalm (net : Network) (plan : Plan) (budget : Budget) (numbers : List ℕ) : Type 0 where
  pub each : length numbers ≡ length net.devices
  pub listed : (d : ℕ) → d < length net.devices → IsCalm net plan budget d (slice_index_or numbers d 0)

-- the times of a plan, and how great they are
pub record AreCalmTimes (net : Network) (plan : Plan) (times : CalmTimes) : Type 0 where
  pub sent : times.sent ≡ times.budget.base + ageing (rates_of net plan.root) times.budget.hold
  pub silence : times.silence ≡ lag net
  pub sent_bound : times.sent ≤ 2 ^ 62
  pub silence_bound : times.silence ≤ 2 ^ 96
