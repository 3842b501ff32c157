-- The cut path of a device begins with its primary hop, and goes on with the cut path of the device to which that leads, where this is neither root nor backup
-- root. So where the domain does not hit the one, it has neither that hop nor hits the other.
use Rattle.std.specs.Prelude.{◌≡◌, ℕ, ◌<◌, Bool, true, false, ◌||◌, List, [], ◌∷◌, length, Some}
use Rattle.std.proofs.Common.{ap, ◌∙◌, subst}
use Rattle.std.proofs.lemmas.Bool.{or_parts}
use Rattle.sd_plan.specs.topo.Network.{Network}
use Rattle.sd_plan.specs.domain.Domains.{holds_device, holds_link, hits}
use Rattle.sd_plan.specs.declared.domain.DomainId.{DomainId}
use Rattle.sd_plan.specs.declared.Hop.{Hop}
use Rattle.sd_plan.specs.declared.Plan.{Plan}
use Rattle.sd_plan.specs.Plans.{primary_of}
use Rattle.sd_plan.specs.Walks.{walk, things_of, ends_walks, is_hit}
use Rattle.sd_plan.proofs.CutOff.{cut_off, epath_is}
use Rattle.sd_plan.proofs.Forest.{IsStep, IsForest, forest_of}
use Rattle.sd_safety.proofs.invariant.Facts.{IsSound}

-- what a device that is not hit follows
pub record FollowsUnhit (net : Network) (plan : Plan) (f : DomainId) (hop : Hop) : Type 0 where
  pub link : holds_link net f hop.link ≡ false
  pub parent : holds_device net f hop.parent ≡ false
  pub unhit : ends_walks plan hop.parent ≡ false → is_hit net plan f hop.parent ≡ false

pub follows_unhit : (net : Network) (plan : Plan) → IsSound net plan → (f : DomainId) (y : ℕ) (hop : Hop) → y < length net.devices
    → primary_of plan y ≡ Some hop → is_hit net plan f y ≡ false → FollowsUnhit net plan f hop
follows_unhit net plan fine f y hop known primary none =
    let forest : IsForest net plan = forest_of net plan fine.fits fine.guarded.structure in
    let up : IsStep net plan y hop = forest.up y hop known primary in
    let free : hits net f
    (things_of (hop ∷ (elim (ends_walks plan hop.parent) as (λ (b : Bool). List Hop) [ true ↦ [] | false ↦ cut_off plan (walk net plan hop.parent) ])))
    ≡ false =
    subst (λ l. hits net f l ≡ false) (epath_is plan net y ∙ ap (λ l. things_of (cut_off plan l)) up.walk) none in
    let one = or_parts (holds_link net f hop.link) (holds_device net f hop.parent
    || hits net f (things_of (elim (ends_walks plan hop.parent) as (λ (b : Bool). List Hop) [ true ↦ [] | false ↦ cut_off plan (walk net plan hop.parent) ])))
    free in
    let two = or_parts (holds_device net f hop.parent)
    (hits net f (things_of (elim (ends_walks plan hop.parent) as (λ (b : Bool). List Hop) [ true ↦ [] | false ↦ cut_off plan (walk net plan hop.parent) ])))
    one.1 in
    record {
      link = one.0;
      parent = two.0;
      unhit = λ open_. ap (hits net f) (epath_is plan net hop.parent)
          ∙ subst (λ b. hits net f (things_of (elim b as (λ (c : Bool). List Hop) [ true ↦ [] | false ↦ cut_off plan (walk net plan hop.parent) ])) ≡ false)
          open_ two.1;
    }
