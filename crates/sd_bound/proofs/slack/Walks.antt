-- Where two topologies agree on what walks read, a device has the same walks over both, and where it has a bound over the one it has one over the other.
use Rattle.std.specs.Prelude.{◌≡◌, ℕ, suc, ◌+◌, ◌≤◌, List, length}
use Rattle.std.proofs.Common.{arith, refl, sym, ◌∙◌, subst}
use Rattle.sd_plan.specs.topo.Network.{Network, rates_of}
use Rattle.sd_plan.specs.declared.domain.DomainId.{DomainId}
use Rattle.sd_plan.specs.declared.Hop.{Hop}
use Rattle.sd_plan.specs.declared.Plan.{Plan}
use Rattle.sd_drill.specs.ages.Ages.{IsOldest, ageing}
use Rattle.sd_drill.specs.recovery.Walks.{IsWalk, IsGreatestOf}
use Rattle.sd_drill.specs.Drill.{root_halves, quiet, source, IsWorst}
use Rattle.sd_drill.specs.declared.Budget.{Budget}
use Rattle.sd_bound.proofs.slack.Alike.{HasShape, HasThings, is_walk_same, fed_kept}
use Rattle.sd_bound.proofs.slack.Sums.{HasFewer, GreatestFrom, greatest_sum}

module _ (a : Network) (f : DomainId) (b : Network) (g : DomainId) (shape : HasShape a b) (same : HasThings a f b g) (plan : Plan) (d : ℕ) where
  pub forth : (hs : List Hop) → IsWalk a plan f d hs → IsWalk b plan g d hs
  forth hs walked = sym (is_walk_same a f b g shape same plan d hs) ∙ walked

  pub back : (hs : List Hop) → IsWalk b plan g d hs → IsWalk a plan f d hs
  back hs walked = is_walk_same a f b g shape same plan d hs ∙ walked

  longest : (n : ℕ) → IsGreatestOf (IsWalk a plan f d) length n → IsGreatestOf (IsWalk b plan g d) length n
  longest n is =
      record { hops = is.hops; has = forth is.hops is.has; reached = is.reached; greatest = λ others walked. is.greatest others (back others walked) }

  -- the greatest length is the same
  pub same_long : (m n : ℕ) → IsGreatestOf (IsWalk a plan f d) length m → IsGreatestOf (IsWalk b plan g d) length n → n ≡ m
  same_long m n was is =
      let most : length is.hops ≤ m = was.greatest is.hops (back is.hops is.has) in
      let least : length was.hops ≤ n = is.greatest was.hops (forth was.hops was.has) in
      omega (arith, most, least, was.reached, is.reached)

  -- and there is a bound over the second, where there is an oldest age
  module _ (budget : Budget) (w : ℕ) (was : IsWorst a plan budget f d w) where
    fewer : HasFewer b plan g (suc was.long) d
    fewer hs walked = let few : length hs ≤ was.long = was.is_long.greatest hs (back hs walked) in omega (arith, few)

    sums : GreatestFrom b plan g d
    sums = greatest_sum b plan g (suc was.long) d fewer

    pub bound_over : (x : ℕ) × IsOldest (rates_of b d) (quiet b plan was.long) x → (v : ℕ) × IsWorst b plan budget g d v
    bound_over (oldest, is_oldest) = (
      source b plan budget + root_halves b plan + sums.0 + ageing (rates_of b d) oldest,
      record {
        fed = fed_kept a f b g shape same plan was.fed;
        far = sums.0;
        is_far = sums.1;
        long = was.long;
        is_long = longest was.long was.is_long;
        short_enough = subst (λ (n : ℕ). was.long ≤ n + 1) shape.depth was.short_enough;
        oldest = oldest;
        is_oldest = is_oldest;
        sum = refl;
      },
    )
