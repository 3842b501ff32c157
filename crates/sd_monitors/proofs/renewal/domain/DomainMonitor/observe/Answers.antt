use Rattle.std.proofs.Common.{◌≤◌, ◌∷◌, length, Option, sym, ap, ◌∙◌, subst}
use Rattle.sd_plan.specs.topo.Network.{Network}
use Rattle.sd_plan.specs.topo.Topologies.{network}
use Rattle.sd_plan.specs.declared.topo.Thing.{Thing}
use Rattle.sd_history.specs.Things as things
use Rattle.sd_monitors.specs.clocks.Sights.{sight_of}
use Rattle.sd_monitors.specs.renewal.Domains.{DomainKept, with_failure, if_closed, DomainStands}
use Rattle.sd_monitors.proofs.renewal.Failing.{domain_stands}
use Rattle.sd_monitors.proofs.renewal.domain.DomainMonitor.observe.Goals as goal

pub returns-clause-stands : goal.returns-clause-stands
returns-clause-stands c setting earlier net stands =
    subst (λ (kept : DomainKept). DomainStands setting kept (sight_of c.args.seen.now ∷ earlier))
    (sym (c.close_if.ensures
    ∙ ap (if_closed c.args.seen.now.closed)
    (c.fail.ensures
    ∙ ap (λ (o : Option Thing). with_failure (network c.args.topo.now) o c.args.self.now) c.failure_of.ensures
    ∙ ap (λ (n : Network). with_failure n (things.failure_of c.args.seen.now.event) c.args.self.now) (sym net))))
    (domain_stands setting c.args.self.now (sight_of c.args.seen.now) earlier
    (subst (λ (n : Network). 1 ≤ length n.devices) (sym net) c.args.topo.now.is_network.devices.0) stands)

pub returns-clause-holds : goal.returns-clause-holds
returns-clause-holds c setting earlier net stands = ap (λ (kept : DomainKept). kept.holds) c.self.view_is
    ∙ (returns-clause-stands c setting earlier net stands).holds
