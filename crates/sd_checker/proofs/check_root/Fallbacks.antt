-- What a domain has of what the backup root falls back on.
use Rattle.std.proofs.Common.{◌≡◌, ℕ, ◌&&◌, ◌||◌, not, [], ◌∷◌, length, filter, find, Option, Some, None, nat_eq, refl, sym, ap, ◌∙◌}
use Rattle.std.specs.Option.{option_map, option_or}
use Rattle.std.proofs.lemmas.Bool.{eqb-true, and_right}
use Rattle.std.proofs.lemmas.Map.Views.{any-filter_same}
use Rattle.sd_num.specs.Lists.{has, map_or}
use Rattle.sd_plan.specs.topo.Network.{Network, device_numbers, link_numbers}
use Rattle.sd_plan.specs.topo.Limits.{IsNetwork}
use Rattle.sd_plan.specs.declared.topo.Thing.TheVariants as thing
use Rattle.sd_plan.specs.domain.Domains.{holds_device, holds_link}
use Rattle.sd_plan.specs.domain.Lone.{IsDomain}
use Rattle.sd_plan.specs.declared.domain.DomainId.{DomainId}
use Rattle.sd_plan.specs.IndexedPlan.{has_link}
use Rattle.sd_plan.specs.Plans.{is_root, backup_of}
use Rattle.sd_plan.specs.Walks.{walk, path, devices_of, links_of, on_walk}
use Rattle.sd_plan.specs.declared.Hop.{Hop}
use Rattle.sd_plan.specs.declared.Plan.{Plan}
use Rattle.sd_checker.specs.check_root.Parts.{devices_in, links_in}
use Rattle.sd_checker.specs.check_root.Roots.{fallback_devices, fallback_links, fallback_breach}
use Rattle.sd_checker.proofs.check_root.Domains.{device_listed, link_listed, devices_within, links_within, devices_ascend, links_ascend}
use Rattle.sd_num.proofs.Firsts.{find_none}
use Rattle.sd_num.proofs.Shared.{find_same}
use Rattle.sd_checker.proofs.check_root.Firsts.{find_among}
use Rattle.sd_checker.proofs.check_root.Paths.{links_of_hops}

-- its devices and its links
fallback_device : (net : Network) (plan : Plan) (hop : Hop) (d : ℕ) → backup_of plan plan.backup_root ≡ Some hop
    → has (fallback_devices net plan) d ≡ (not (is_root plan d) && on_walk net plan hop.parent d)
fallback_device net plan hop d is =
    ap (λ (o : Option Hop). has (map_or o [] (λ hop. filter (λ x. not (is_root plan x)) (devices_of hop.parent (walk net plan hop.parent)))) d) is
    ∙ any-filter_same (nat_eq d) (λ x. not (is_root plan x)) (not (is_root plan d)) (λ k same. ap (λ x. not (is_root plan x)) (sym (eqb-true d k same)))
    (devices_of hop.parent (walk net plan hop.parent))

fallback_link : (net : Network) (plan : Plan) (hop : Hop) (l : ℕ) → backup_of plan plan.backup_root ≡ Some hop
    → has (fallback_links net plan) l ≡ (nat_eq l hop.link || has_link (path net plan hop.parent) l)
fallback_link net plan hop l is =
    ap (λ (o : Option Hop). has (map_or o [] (λ hop. hop.link ∷ links_of (walk net plan hop.parent))) l) is
    ∙ ap (λ t. nat_eq l hop.link || t) (sym (links_of_hops (walk net plan hop.parent) l))

-- the least device of a domain that it needs, and the least link
pub least_device : (net : Network) (plan : Plan) (domain : DomainId) (hop : Hop) → IsNetwork net → IsDomain net domain
    → backup_of plan plan.backup_root ≡ Some hop
    → find (λ d. holds_device net domain d && has (fallback_devices net plan) d) (device_numbers net)
    ≡ find (λ d. not (is_root plan d) && on_walk net plan hop.parent d) (devices_in net domain)
least_device net plan domain hop law there is =
    find_same (λ d. holds_device net domain d && has (fallback_devices net plan) d)
    (λ d. has (devices_in net domain) d && (not (is_root plan d) && on_walk net plan hop.parent d)) (device_numbers net)
    (λ d. ap (λ t. t && has (fallback_devices net plan) d) (device_listed net domain d there)
    ∙ ap (λ t. has (devices_in net domain) d && t) (fallback_device net plan hop d is))
    ∙ find_among (λ d. not (is_root plan d) && on_walk net plan hop.parent d) (devices_in net domain) (length net.devices) (devices_ascend net domain law there)
    (devices_within net domain law there)

pub least_link : (net : Network) (plan : Plan) (domain : DomainId) (hop : Hop) → IsNetwork net → IsDomain net domain
    → backup_of plan plan.backup_root ≡ Some hop
    → find (λ l. holds_link net domain l && has (fallback_links net plan) l) (link_numbers net)
    ≡ find (λ l. nat_eq l hop.link || has_link (path net plan hop.parent) l) (links_in net domain)
least_link net plan domain hop law there is =
    find_same (λ l. holds_link net domain l && has (fallback_links net plan) l)
    (λ l. has (links_in net domain) l && (nat_eq l hop.link || has_link (path net plan hop.parent) l)) (link_numbers net)
    (λ l. ap (λ t. t && has (fallback_links net plan) l) (link_listed net domain l there)
    ∙ ap (λ t. has (links_in net domain) l && t) (fallback_link net plan hop l is))
    ∙ find_among (λ l. nat_eq l hop.link || has_link (path net plan hop.parent) l) (links_in net domain) (length net.links) (links_ascend net domain law there)
    (links_within net domain law there)

-- the breach from these two
pub breach_of : (net : Network) (plan : Plan) (domain : DomainId) (hop : Hop) (device link : Option ℕ) → IsNetwork net → IsDomain net domain
    → backup_of plan plan.backup_root ≡ Some hop
    → device ≡ find (λ d. not (is_root plan d) && on_walk net plan hop.parent d) (devices_in net domain)
    → link ≡ find (λ l. nat_eq l hop.link || has_link (path net plan hop.parent) l) (links_in net domain)
    → fallback_breach net plan domain ≡ option_or (option_map thing.Device device) (option_map thing.Link link)
breach_of net plan domain hop device link law there is first second =
    ap (λ o. option_or (option_map thing.Device o)
    (option_map thing.Link (find (λ l. holds_link net domain l && has (fallback_links net plan) l) (link_numbers net))))
    (least_device net plan domain hop law there is ∙ sym first)
    ∙ ap (λ o. option_or (option_map thing.Device device) (option_map thing.Link o)) (least_link net plan domain hop law there is ∙ sym second)

-- where it needs a device of the domain
pub device_breach : (net : Network) (plan : Plan) (domain : DomainId) (hop : Hop) (d : ℕ) → IsNetwork net → IsDomain net domain
    → backup_of plan plan.backup_root ≡ Some hop
    → Some d ≡ find (λ d. not (is_root plan d) && on_walk net plan hop.parent d) (devices_in net domain)
    → fallback_breach net plan domain ≡ Some (thing.Device d)
device_breach net plan domain hop d law there is first =
    breach_of net plan domain hop (Some d) (find (λ l. nat_eq l hop.link || has_link (path net plan hop.parent) l) (links_in net domain)) law there is first
    refl

-- without a backup it needs nothing
pub no_breach : (net : Network) (plan : Plan) (domain : DomainId) → backup_of plan plan.backup_root ≡ None → fallback_breach net plan domain ≡ None
no_breach net plan domain none =
    ap (λ o. option_or (option_map thing.Device o)
    (option_map thing.Link (find (λ l. holds_link net domain l && has (fallback_links net plan) l) (link_numbers net))))
    (find_none (λ d. holds_device net domain d && has (fallback_devices net plan) d) (device_numbers net)
    (λ d. and_right (holds_device net domain d) (has (fallback_devices net plan) d)
    (ap (λ (o : Option Hop). has (map_or o [] (λ hop. filter (λ x. not (is_root plan x)) (devices_of hop.parent (walk net plan hop.parent)))) d) none)))
    ∙ ap (λ o. option_map thing.Link o)
    (find_none (λ l. holds_link net domain l && has (fallback_links net plan) l) (link_numbers net)
    (λ l. and_right (holds_link net domain l) (has (fallback_links net plan) l)
    (ap (λ (o : Option Hop). has (map_or o [] (λ hop. hop.link ∷ links_of (walk net plan hop.parent))) l) none)))
