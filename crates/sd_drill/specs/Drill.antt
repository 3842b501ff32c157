-- The greatest epsilon that a device can report when the things of one domain fail at once.
use Rattle.std.specs.Prelude.{◌≡◌, ℕ, ◌+◌, ◌*◌, ◌≤◌, ◌∷◌, length, max, Option, Some, None}
use Rattle.sd_num.specs.Lists.{map_or}
use Rattle.sd_plan.specs.topo.Network.{Network, rates_of, greatest_up}
use Rattle.sd_plan.specs.declared.domain.DomainId.{DomainId}
use Rattle.sd_plan.specs.declared.Plan.{Plan}
use Rattle.sd_plan.specs.Plans.{backup_of}
use Rattle.sd_plan.specs.Walks.{walk}
use Rattle.sd_checker.specs.check_root.Timing.{silence}
use Rattle.sd_checker.specs.check_reach.Reach.{Fed}
use Rattle.sd_drill.specs.ages.Ages.{IsOldest, ageing}
use Rattle.sd_drill.specs.recovery.Walks.{halves, IsGreatestOfWalks}
use Rattle.sd_drill.specs.declared.Budget.{Budget}

-- the greatest sum of halves from the backup root to the root, over its primary or its backup parent
abbrev pub root_halves : Network → Plan → ℕ
root_halves net plan =
    max (halves net plan.backup_root (walk net plan plan.backup_root))
    (map_or (backup_of plan plan.backup_root) 0 (λ hop. halves net plan.backup_root (hop ∷ walk net plan hop.parent)))

-- for how long an acting end may be silent to all, while it takes over or devices move to where it is heard
abbrev pub settling : Network → Plan → ℕ
settling net plan =
    max (greatest_up net plan.wait_first + greatest_up net plan.wait_second + 6 * (silence net + net.params.tick))
    (greatest_up net plan.wait + net.params.tick + silence net)

-- for how long a device whose walks have n hops at most may have heard nothing new
abbrev pub quiet : Network → Plan → ℕ → ℕ
quiet net plan n = settling net plan + 2 * silence net * (n + 1)

-- the uncertainty of what an acting root sends
abbrev pub source : Network → Plan → Budget → ℕ
source net plan budget =
    budget.base + root_halves net plan + ageing (rates_of net plan.root) budget.hold + ageing (rates_of net plan.backup_root) budget.hold

-- w is the bound of device d when things of f fail: d comes to hear again, over walks of at most depth + 1 hops
pub record IsWorst (net : Network) (plan : Plan) (budget : Budget) (f : DomainId) (d w : ℕ) : Type 0 where
  pub fed : Fed net plan f d
  pub far : ℕ
  pub is_far : IsGreatestOfWalks net plan f d (halves net d) far
  pub long : ℕ
  pub is_long : IsGreatestOfWalks net plan f d length long
  pub short_enough : long ≤ net.params.depth + 1
  pub oldest : ℕ
  pub is_oldest : IsOldest (rates_of net d) (quiet net plan long) oldest
  pub sum : w ≡ source net plan budget + root_halves net plan + far + ageing (rates_of net d) oldest

-- what is listed for a device: its bound, and nothing where it has none
abbrev pub IsListed : Network → Plan → Budget → DomainId → ℕ → Option ℕ → Type 0
IsListed net plan budget f d (Some w) = IsWorst net plan budget f d w
IsListed net plan budget f d None = (w : ℕ) → ¬ IsWorst net plan budget f d w
