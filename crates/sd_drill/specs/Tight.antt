-- A tighter number of a drill: the halves of the ways of the backup root count once, and a device is silent no longer than it takes others to move and a
-- round to come down.
use Rattle.std.specs.Prelude.{◌≡◌, ℕ, ◌+◌, ◌*◌, ◌^◌, ◌<◌, ◌≤◌, List, length, max, Option, Some, None}
use Rattle.sd_num.specs.declared.Rates.{Rates}
use Rattle.sd_plan.specs.topo.Network.{Network, rates_of, greatest_up, greatest_delay}
use Rattle.sd_plan.specs.declared.domain.DomainId.{DomainId}
use Rattle.sd_plan.specs.declared.Plan.{Plan}
use Rattle.sd_checker.specs.check_hit.Outages.{HasRoom as HasImpactRoom}
use Rattle.sd_checker.specs.check_reach.Reach.{Fed}
use Rattle.sd_checker.specs.check_root.Timing.{round_gap}
use Rattle.sd_drill.specs.ages.Ages.{IsOldest, ageing}
use Rattle.sd_drill.specs.recovery.Searches.{HasRoom as HasRecoveryRoom}
use Rattle.sd_drill.specs.recovery.Walks.{halves, IsGreatestOfWalks}
use Rattle.sd_drill.specs.Bounds.{bound_at}
use Rattle.sd_drill.specs.Drill.{source}
use Rattle.sd_drill.specs.declared.Budget.{Budget}
use Rattle.sd_drill.specs.declared.tight.TightDrill.{TightDrill}
use Rattle.sd_drill.specs.declared.tight.TightTimes.{TightTimes}

-- within this time after a round is emitted the loss + 1 next ones are
abbrev pub next_rounds : Network → ℕ
next_rounds net = (net.params.loss + 1) * round_gap net

-- for how long devices may wait before they move: while the backup root takes over, or while they move to their backups
abbrev pub moving : Network → Plan → ℕ
moving net plan =
    max (greatest_up net plan.wait_first + greatest_up net plan.wait_second + 2 * net.params.tick + (net.params.depth + 1) * greatest_delay net)
    (greatest_up net plan.wait + net.params.tick + (2 * (net.params.depth + 1) + 1) * greatest_delay net)

-- for how long a device is silent at most: before the failures, until all had time to move, and until a round came down
abbrev pub longest_silence : Network → Plan → ℕ
longest_silence net plan =
    next_rounds net + round_gap net + net.params.depth * greatest_delay net + moving net plan
    + (next_rounds net + 2 * (net.params.depth + 1) * greatest_delay net)

-- w is the tight number of device d when things of f fail: as IsWorst, with a shorter silence, and without the halves of the backup root's ways beside the
-- source
pub record IsTight (net : Network) (plan : Plan) (budget : Budget) (f : DomainId) (d w : ℕ) : Type 0 where
  pub fed : Fed net plan f d
  pub far : ℕ
  pub is_far : IsGreatestOfWalks net plan f d (halves net d) far
  pub long : ℕ
  pub is_long : IsGreatestOfWalks net plan f d length long
  pub short_enough : long ≤ net.params.depth + 1
  pub oldest : ℕ
  pub is_oldest : IsOldest (rates_of net d) (longest_silence net plan) oldest
  pub sum : w ≡ source net plan budget + far + ageing (rates_of net d) oldest

-- what is listed for a device: its tight number, and nothing where it has none
abbrev pub IsTightListed : Network → Plan → Budget → DomainId → ℕ → Option ℕ → Type 0
IsTightListed net plan budget f d (Some w) = IsTight net plan budget f d w
IsTightListed net plan budget f d None = (w : ℕ) → ¬ IsTight net plan budget f d w

-- what is listed for each device of the network when things of the domain fail
pub record AreTight (net : Network) (plan : Plan) (budget : Budget) (f : DomainId) (numbers : List (Option ℕ)) : Type 0 where
  pub each : length numbers ≡ length net.devices
  pub listed : (d : ℕ) → d < length net.devices → IsTightListed net plan budget f d (bound_at numbers d)

-- how much the estimate of a device with these rates has grown that was held while s of the reference passed
pub record IsGrown (rates : Rates) (s growth : ℕ) : Type 0 where
  pub oldest : ℕ
  pub is_oldest : IsOldest rates s oldest
  pub grown : growth ≡ ageing rates oldest
  pub bound : growth ≤ 2 ^ 98

-- the times of a plan, and how great they are
pub record AreTightTimes (net : Network) (plan : Plan) (times : TightTimes) : Type 0 where
  pub source : times.source ≡ source net plan times.budget
  pub silence : times.silence ≡ longest_silence net plan
  pub source_bound : times.source ≤ 2 ^ 64
  pub silence_bound : times.silence ≤ 2 ^ 96

-- a drill of this plan, with room for each of its devices
pub record IsTightDrillOf (net : Network) (plan : Plan) (drill : TightDrill) : Type 0 where
  pub times : AreTightTimes net plan drill.times
  pub impact : HasImpactRoom net drill.impact
  pub room : HasRecoveryRoom net drill.recoveries
