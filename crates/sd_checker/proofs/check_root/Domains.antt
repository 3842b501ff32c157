-- The lists of a domain's devices and links.
use Rattle.std.proofs.Common.{◌≡◌, ℕ, ◌<◌, Bool, true, false, ◌||◌, List, [], ◌∷◌, length, get_or, nat_eq, All, refl, sym, ap, ◌∙◌}
use Rattle.std.specs.List.{list_any}
use Rattle.std.proofs.lemmas.List.Elements.{All-nil, All-cons, All-get_or, All-same}
use Rattle.sd_num.specs.Lists.{has, ascends}
use Rattle.sd_num.proofs.Shared.{equal_swap, any_either, none_any}
use Rattle.sd_plan.specs.topo.Network.{Network}
use Rattle.sd_plan.specs.topo.Limits.{IsNetwork}
use Rattle.sd_plan.specs.topo.Places.{no_domain}
use Rattle.sd_plan.specs.declared.topo.Thing.{Thing}
use Rattle.sd_plan.specs.declared.topo.Thing.TheVariants as thing
use Rattle.sd_plan.proofs.topo.Laws.{found_at, domain_law}
use Rattle.sd_plan.specs.domain.Domains.{holds_device, holds_link, hits}
use Rattle.sd_plan.specs.domain.Lone.{IsDomain}
use Rattle.sd_plan.specs.declared.domain.DomainId.{DomainId}
use Rattle.sd_plan.specs.declared.domain.DomainId.TheVariants as domain
use Rattle.sd_plan.specs.IndexedPlan.{has_device, has_link}
use Rattle.sd_plan.proofs.Forest.{or_none}
use Rattle.sd_checker.specs.check_root.Parts.{devices_in, links_in}

-- they are in range and ascend
pub devices_within : (net : Network) (f : DomainId) → IsNetwork net → IsDomain net f → All (λ d. d < length net.devices) (devices_in net f)
devices_within net (domain.Listed k) law there = (domain_law net k law there).devices_within
devices_within net (domain.Device d) law there = All-cons (λ x. x < length net.devices) d [] there (All-nil (λ x. x < length net.devices))
devices_within net (domain.Link l) law there = All-nil (λ x. x < length net.devices)

pub links_within : (net : Network) (f : DomainId) → IsNetwork net → IsDomain net f → All (λ l. l < length net.links) (links_in net f)
links_within net (domain.Listed k) law there = (domain_law net k law there).links_within
links_within net (domain.Device d) law there = All-nil (λ x. x < length net.links)
links_within net (domain.Link l) law there = All-cons (λ x. x < length net.links) l [] there (All-nil (λ x. x < length net.links))

pub devices_ascend : (net : Network) (f : DomainId) → IsNetwork net → IsDomain net f → ascends (devices_in net f) ≡ true
devices_ascend net (domain.Listed k) law there = (domain_law net k law there).devices_ascend
devices_ascend net (domain.Device d) law there = refl
devices_ascend net (domain.Link l) law there = refl

pub links_ascend : (net : Network) (f : DomainId) → IsNetwork net → IsDomain net f → ascends (links_in net f) ≡ true
links_ascend net (domain.Listed k) law there = (domain_law net k law there).links_ascend
links_ascend net (domain.Device d) law there = refl
links_ascend net (domain.Link l) law there = refl

-- a domain has what its lists have
pub device_listed : (net : Network) (f : DomainId) (d : ℕ) → IsDomain net f → holds_device net f d ≡ has (devices_in net f) d
device_listed net (domain.Listed k) d there =
    found_at net.domains k no_domain false (λ group. has group.devices d) there
    ∙ sym (ap (λ group. has group.devices d) (found_at net.domains k no_domain no_domain (λ group. group) there))
device_listed net (domain.Device e) d there = equal_swap e d ∙ sym (or_none (nat_eq d e))
device_listed net (domain.Link l) d there = refl

pub link_listed : (net : Network) (f : DomainId) (l : ℕ) → IsDomain net f → holds_link net f l ≡ has (links_in net f) l
link_listed net (domain.Listed k) l there =
    found_at net.domains k no_domain false (λ group. has group.links l) there
    ∙ sym (ap (λ group. has group.links l) (found_at net.domains k no_domain no_domain (λ group. group) there))
link_listed net (domain.Device d) l there = refl
link_listed net (domain.Link m) l there = equal_swap m l ∙ sym (or_none (nat_eq l m))

-- the domain has one of the things where these have one of its devices or links
pub hits_lists : (net : Network) (f : DomainId) (things : List Thing) → IsDomain net f
    → hits net f things ≡ (list_any (has_device things) (devices_in net f) || list_any (has_link things) (links_in net f))
hits_lists net f [] there = sym (ap (λ t. t || list_any (λ (l : ℕ). false) (links_in net f)) (none_any (devices_in net f)) ∙ none_any (links_in net f))
hits_lists net f (thing.Device d ∷ ts) there =
    ap (λ t. t || hits net f ts) (device_listed net f d there)
    ∙ ap (λ t. has (devices_in net f) d || t) (hits_lists net f ts there)
    ∙ regroup (has (devices_in net f) d) (list_any (has_device ts) (devices_in net f)) (list_any (has_link ts) (links_in net f))
    ∙ ap (λ t. t || list_any (has_link ts) (links_in net f)) (sym (any_either (nat_eq d) (has_device ts) (devices_in net f)))
  where
    regroup : (a b c : Bool) → (a || (b || c)) ≡ ((a || b) || c)
    regroup true b c = refl
    regroup false b c = refl
hits_lists net f (thing.Link l ∷ ts) there =
    ap (λ t. t || hits net f ts) (link_listed net f l there)
    ∙ ap (λ t. has (links_in net f) l || t) (hits_lists net f ts there)
    ∙ regroup (has (links_in net f) l) (list_any (has_device ts) (devices_in net f)) (list_any (has_link ts) (links_in net f))
    ∙ ap (λ t. list_any (has_device ts) (devices_in net f) || t) (sym (any_either (nat_eq l) (has_link ts) (links_in net f)))
  where
    regroup : (a b c : Bool) → (a || (b || c)) ≡ (b || (a || c))
    regroup true true c = refl
    regroup true false c = refl
    regroup false b c = refl

-- an element of these lists is in range
pub device_at : (net : Network) (f : DomainId) (xs : List ℕ) (i : ℕ) → IsNetwork net → IsDomain net f → xs ≡ devices_in net f → i < length xs
    → get_or xs i 0 < length net.devices
device_at net f xs i law there is within =
    All-get_or (λ d. d < length net.devices) xs i 0 within (All-same (λ d. d < length net.devices) xs (devices_in net f) is (devices_within net f law there))

pub link_at : (net : Network) (f : DomainId) (xs : List ℕ) (i : ℕ) → IsNetwork net → IsDomain net f → xs ≡ links_in net f → i < length xs
    → get_or xs i 0 < length net.links
link_at net f xs i law there is within =
    All-get_or (λ l. l < length net.links) xs i 0 within (All-same (λ l. l < length net.links) xs (links_in net f) is (links_within net f law there))
