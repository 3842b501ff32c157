-- Under no domain of a network do the hops of an accepted plan lead in a circle.
use Rattle.std.specs.Prelude.{ℕ, ◌<◌, List, ◌++◌, length, map}
use Rattle.std.specs.List.{Contains}
use Rattle.std.proofs.Common.{get_or, ap, ◌∙◌, subst}
use Rattle.std.proofs.lemmas.List.{length-map, get_or-map}
use Rattle.std.proofs.lemmas.List.Elements.{Contains-append_left, Contains-append_right}
use Rattle.std.proofs.lemmas.Option.{slice_get-get_or}
use Rattle.sd_num.specs.Lists.{below}
use Rattle.sd_plan.specs.topo.Network.{Network, Each, device_numbers, link_numbers}
use Rattle.sd_plan.specs.domain.Domains.{domains, listed_domains}
use Rattle.sd_plan.specs.domain.Lone.{IsDomain}
use Rattle.sd_plan.specs.declared.domain.DomainId.{DomainId}
use Rattle.sd_plan.specs.declared.domain.DomainId.TheVariants as domain
use Rattle.sd_plan.specs.declared.Plan.{Plan}
use Rattle.sd_plan.proofs.Numbered.{length-below, get_or-below}
use Rattle.sd_checker.specs.check_loop.Loops.{HasNoCycle}
use Rattle.sd_checker.specs.Conditions.{IsAccepted}

-- what is made of each number below a bound
pub named : {X : Type 0} (g : ℕ → X) (n k : ℕ) → k < n → Contains (map g (below n)) (g k)
named g n k within =
    (k, rw (length-map (below n) g, length-below n) within, get_or-map g (below n) k 0 (g k) (rw (length-below n) within) ∙ ap g (get_or-below n k 0 within))

abbrev devices : Network → List DomainId
devices net = map domain.Device (device_numbers net)

abbrev links : Network → List DomainId
links net = map domain.Link (link_numbers net)

-- each domain is among the domains
has_domain : (net : Network) (f : DomainId) → IsDomain net f → Contains (domains net) f
has_domain net (domain.Listed k) is =
    Contains-append_left (listed_domains net ++ devices net) (links net) (domain.Listed k)
    (Contains-append_left (listed_domains net) (devices net) (domain.Listed k) (named domain.Listed (length net.domains) k is))
has_domain net (domain.Device d) is =
    Contains-append_left (listed_domains net ++ devices net) (links net) (domain.Device d)
    (Contains-append_right (listed_domains net) (devices net) (domain.Device d) (named domain.Device (length net.devices) d is))
has_domain net (domain.Link l) is = Contains-append_right (listed_domains net ++ devices net) (links net) (domain.Link l) (named domain.Link (length net.links) l is)

-- so what holds of each of them holds of it
each_domain : (net : Network) (P : DomainId → Type 0) (f : DomainId) → Each P (domains net) → IsDomain net f → P f
each_domain net P f each is =
    let place = has_domain net f is in
    subst P place.2 (each place.0 (get_or (domains net) place.0 f) (slice_get-get_or (domains net) place.0 f place.1))

pub no_circle : (net : Network) (plan : Plan) (f : DomainId) → IsAccepted net plan → IsDomain net f → HasNoCycle net plan f
no_circle net plan f accepted is = each_domain net (HasNoCycle net plan) f accepted.loop is
