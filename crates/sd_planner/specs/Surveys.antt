-- The words on a survey: all that is asked of while backups are chosen.
use Rattle.std.specs.Prelude.{◌≡◌, ℕ, ◌<◌, Bool, false, ◌&&◌, not, List, length}
use Rattle.sd_plan.specs.topo.Network.{Network}
use Rattle.sd_plan.specs.domain.Domains.{holds_device}
use Rattle.sd_plan.specs.declared.domain.DomainId.TheVariants.{Listed}
use Rattle.sd_plan.specs.declared.Absent.{Absent}
use Rattle.sd_plan.specs.declared.Hop.{Hop}
use Rattle.sd_planner.specs.Views as present
use Rattle.sd_planner.specs.declared.placement.Placed.{Placed}
use Rattle.sd_planner.specs.Placing.{placed}
use Rattle.sd_planner.specs.Serving.{hits_hop}
use Rattle.sd_planner.specs.Flags.{is_set}
use Rattle.sd_planner.specs.declared.backups.survey.Survey.{Survey}

-- the network and the absent list
abbrev pub net_in : Survey → Network
net_in survey = present.net_of survey.present.now

-- the absent list
abbrev pub absent_in : Survey → Absent
absent_in survey = present.left_out survey.present.now

-- the placed devices
abbrev pub order_of : Survey → List Placed
order_of survey = placed (net_in survey) survey.root (absent_in survey)

-- there is a flag for each listed domain, and none is set
pub record AreClear (net : Network) (flags : List Bool) : Type 0 where
  pub size : length flags ≡ length net.domains
  pub each : (k : ℕ) → is_set flags k ≡ false

-- the flags of those listed domains are set that have the primary hop's link or parent and leave the device out
pub record AreJoining (net : Network) (d : ℕ) (primary : Hop) (flags : List Bool) : Type 0 where
  pub size : length flags ≡ length net.domains
  pub each : (k : ℕ) → k < length net.domains → is_set flags k ≡ (not (holds_device net (Listed k) d) && hits_hop net (Listed k) primary)
