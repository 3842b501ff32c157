-- What the bounds of all domains share, and a drill that is ready.
use Rattle.std.specs.Prelude.{◌≡◌, ℕ, ◌+◌, ◌^◌, ◌≤◌, List, length, slice_index_or, Option, Some, None}
use Rattle.sd_plan.specs.topo.Network.{Network, rates_of}
use Rattle.sd_plan.specs.declared.Plan.{Plan}
use Rattle.sd_checker.specs.check_root.Timing.{silence}
use Rattle.sd_checker.specs.check_hit.Outages.{HasRoom as HasImpactRoom}
use Rattle.sd_drill.specs.recovery.Searches.{HasRoom as HasRecoveryRoom}
use Rattle.sd_drill.specs.ages.Ages.{IsOldest, ageing}
use Rattle.sd_drill.specs.declared.recovery.reach.Reach.{Reach}
use Rattle.sd_drill.specs.Drill.{root_halves, settling, quiet, source}
use Rattle.sd_drill.specs.Spared.{AreSparedBounds}
use Rattle.sd_drill.specs.declared.Budget.{Budget}
use Rattle.sd_drill.specs.declared.drill.Drill.{Drill}
use Rattle.sd_drill.specs.declared.drill.BoundCache.{BoundCache}
use Rattle.sd_drill.specs.declared.growths.Growth.{Growth}
use Rattle.sd_drill.specs.declared.growths.GrowthCache.{GrowthCache}
use Rattle.sd_drill.specs.declared.times.Times.{Times}

-- the times of a plan, and how great they are
pub record AreTimes (net : Network) (plan : Plan) (times : Times) : Type 0 where
  pub sent : times.sent ≡ source net plan times.budget + root_halves net plan
  pub settling : times.settling ≡ settling net plan
  pub silence : times.silence ≡ silence net
  pub sent_bound : times.sent ≤ 2 ^ 64
  pub settling_bound : times.settling ≤ 2 ^ 84
  pub silence_bound : times.silence ≤ 2 ^ 80

-- how much the estimate of a device has grown that comes to hear again over walks of n hops at most
pub record IsGrowth (net : Network) (plan : Plan) (d n growth : ℕ) : Type 0 where
  pub oldest : ℕ
  pub is_oldest : IsOldest (rates_of net d) (quiet net plan n) oldest
  pub grown : growth ≡ ageing (rates_of net d) oldest
  pub bound : growth ≤ 2 ^ 98

-- the bound of a device that comes to hear again, by what its walks reach
pub record IsBoundOf (net : Network) (plan : Plan) (times : Times) (d : ℕ) (reach : Reach) (w : ℕ) : Type 0 where
  pub growth : ℕ
  pub is_growth : IsGrowth net plan d reach.long growth
  pub sum : w ≡ source net plan times.budget + root_halves net plan + reach.far + growth

-- what is known of a device's growth, if anything is
abbrev pub IsKnown : Network → Plan → ℕ → Option Growth → Type 0
IsKnown net plan d None = Unit {0}
IsKnown net plan d (Some known) = IsGrowth net plan d known.long known.growth

-- what is known of the growth of a device
abbrev pub known_at : List (Option Growth) → ℕ → Option Growth
known_at known d = slice_index_or known d None

-- there is an entry for each device, and what is known is right
pub record AreGrowths (net : Network) (plan : Plan) (growths : GrowthCache) : Type 0 where
  pub size : length growths.known.items ≡ length net.devices
  pub each : (d : ℕ) → IsKnown net plan d (known_at growths.known.items d)

-- what is known of the devices is right, and there is room for how each recovers
pub record AreKnown (net : Network) (plan : Plan) (budget : Budget) (known : BoundCache) : Type 0 where
  pub growths : AreGrowths net plan known.growths
  pub spared : AreSparedBounds net plan budget known.spared.known.items
  pub room : HasRecoveryRoom net known.recoveries

-- a drill of this plan, with room for each of its devices
pub record IsDrillOf (net : Network) (plan : Plan) (drill : Drill) : Type 0 where
  pub times : AreTimes net plan drill.times
  pub impact : HasImpactRoom net drill.impact
  pub known : AreKnown net plan drill.times.budget drill.known
