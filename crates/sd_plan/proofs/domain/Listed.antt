-- The first domain that has some things, by its kind.
use Rattle.std.proofs.Common.{◌≡◌, Bool, List, length, map, find, ap, ◌∙◌, append_assoc}
use Rattle.std.specs.List.{list_all}
use Rattle.std.specs.Option.{option_map, option_or}
use Rattle.std.proofs.lemmas.List.Folds.{find-append}
use Rattle.sd_num.specs.Lists.{below}
use Rattle.sd_num.proofs.Firsts.{find-map}
use Rattle.sd_plan.specs.topo.Network.{Network, device_numbers, link_numbers}
use Rattle.sd_plan.specs.declared.topo.Thing.{Thing}
use Rattle.sd_plan.specs.domain.Domains.{holds, within_one}
use Rattle.sd_plan.specs.domain.Lone.{alone}
use Rattle.sd_plan.specs.declared.domain.DomainId.{DomainId}
use Rattle.sd_plan.specs.declared.domain.DomainId.TheVariants as domain

-- all the things are in the domain
abbrev are_within : Network → List Thing → DomainId → Bool
are_within net things f = list_all (holds net f) things

-- the first domain that has all the things is the first listed one, else the first of one thing alone
pub within_one-parts : (net : Network) (things : List Thing)
    → within_one net things
    ≡ option_or (option_map domain.Listed (find (λ k. list_all (holds net (domain.Listed k)) things) (below (length net.domains))))
    (find (λ f. list_all (holds net f) things) (alone net))
within_one-parts net things =
    let listed = map domain.Listed (below (length net.domains)) in
    ap (find (are_within net things)) (append_assoc listed (map domain.Device (device_numbers net)) (map domain.Link (link_numbers net)))
    ∙ find-append (are_within net things) listed (alone net)
    ∙ ap (λ first. option_or first (find (are_within net things) (alone net))) (find-map domain.Listed (are_within net things) (below (length net.domains)))
