-- A plan that is accepted is accepted with less slack, too.
use Rattle.std.specs.List.{Contains}
use Rattle.std.proofs.Common.{sym, ◌∙◌}
use Rattle.sd_plan.specs.topo.Network.{Network}
use Rattle.sd_plan.specs.domain.Domains.{domains}
use Rattle.sd_plan.specs.declared.domain.DomainId.{DomainId}
use Rattle.sd_plan.specs.declared.Plan.{Plan}
use Rattle.sd_checker.specs.check_loop.Loops.{HasNoCycle}
use Rattle.sd_checker.specs.check_reach.Reach.{DomainHolds, ReachHolds}
use Rattle.sd_checker.specs.Conditions.{OfEachDomain, RootHolds, IsAccepted}
use Rattle.sd_bound.specs.slack.Tighter.{IsTighter}
use Rattle.sd_bound.specs.slack.Slack.{StaysAccepted}
use Rattle.sd_bound.proofs.slack.Alike.{HasShape, HasThings, structure_same, ancestor_same, root_same, no_cycle_kept, domain_kept, reach_kept}
use Rattle.sd_bound.proofs.slack.Matching.{each_from, one_of, shape_of, things_of, was_there}
use Rattle.sd_bound.proofs.slack.Waits.{timing_kept}

module _ (before after : Network) (tighter : IsTighter before after) where
  abbrev shape : HasShape before after
  shape = shape_of before after tighter

  -- what is kept from each domain to the same one is kept of all
  of_each : (P Q : DomainId → Type 0) → ((f g : DomainId) → HasThings before f after g → P f → Q g) → OfEachDomain before P → OfEachDomain after Q
  of_each P Q kept holds = each_from Q (domains after) by
    where
      by : (g : DomainId) → Contains (domains after) g → Q g
      by g some =
          let (f, among, same) = was_there before after tighter g some in
          kept f g (things_of before after tighter f g same) (one_of P (domains before) f holds among)

  module _ (plan : Plan) where
    root_kept : OfEachDomain before (RootHolds before plan) → OfEachDomain after (RootHolds after plan)
    root_kept = of_each (RootHolds before plan) (RootHolds after plan) (λ f g same none. sym (root_same before f after g shape same plan) ∙ none)

    loop_kept : OfEachDomain before (HasNoCycle before plan) → OfEachDomain after (HasNoCycle after plan)
    loop_kept = of_each (HasNoCycle before plan) (HasNoCycle after plan) (λ f g same none. no_cycle_kept before f after g shape same plan none)

    domains_kept : OfEachDomain before (DomainHolds before plan) → OfEachDomain after (DomainHolds after plan)
    domains_kept = of_each (DomainHolds before plan) (DomainHolds after plan) (λ f g same held. domain_kept before f after g shape same plan held)

    reaches_kept : OfEachDomain before (ReachHolds before plan) → OfEachDomain after (ReachHolds after plan)
    reaches_kept = of_each (ReachHolds before plan) (ReachHolds after plan) (λ f g same held. reach_kept before f after g shape same plan held)

    pub accepted_kept : IsAccepted before plan → IsAccepted after plan
    accepted_kept accepted =
        record {
          structure = sym (structure_same before after shape plan) ∙ accepted.structure;
          ancestor = sym (ancestor_same before after shape plan) ∙ accepted.ancestor;
          timing = timing_kept before after tighter plan accepted.timing;
          root = root_kept accepted.root;
          loop = loop_kept accepted.loop;
          domain = domains_kept accepted.domain;
          reach = reaches_kept accepted.reach;
        }

-- the theorem
pub stays_accepted : (before after : Network) → StaysAccepted before after
stays_accepted before after tighter plan accepted = accepted_kept before after tighter plan accepted
