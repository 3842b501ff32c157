-- What of some things a domain has.
use Rattle.std.proofs.Common.{◌≡◌, ℕ, ◌<◌, Bool, true, false, ◌||◌, List, [], ◌∷◌, length, nat_eq, refl, sym, ap, ◌∙◌}
use Rattle.std.specs.List.{list_any}
use Rattle.sd_num.specs.Lists.{has}
use Rattle.sd_num.proofs.Shared.{equal_swap, any_either, none_any, any_same}
use Rattle.sd_plan.specs.topo.Network.{Network}
use Rattle.sd_plan.specs.topo.Places.{no_domain, domain_of}
use Rattle.sd_plan.specs.declared.topo.Thing.{Thing}
use Rattle.sd_plan.specs.declared.topo.Thing.TheVariants as thing
use Rattle.sd_plan.proofs.topo.Laws.{found_at}
use Rattle.sd_plan.specs.domain.Domains.{holds, hits}
use Rattle.sd_plan.specs.declared.domain.DomainId.TheVariants as domain
use Rattle.sd_plan.specs.IndexedPlan.{has_device, has_link}

-- a device alone
pub hits-device : (net : Network) (a : ℕ) (things : List Thing) → hits net (domain.Device a) things ≡ has_device things a
hits-device net a [] = refl
hits-device net a (thing.Device d ∷ ts) = ap (λ t. t || hits net (domain.Device a) ts) (equal_swap a d) ∙ ap (λ t. nat_eq d a || t) (hits-device net a ts)
hits-device net a (thing.Link l ∷ ts) = hits-device net a ts

-- a link alone
pub hits-link : (net : Network) (l : ℕ) (things : List Thing) → hits net (domain.Link l) things ≡ has_link things l
hits-link net l [] = refl
hits-link net l (thing.Device d ∷ ts) = hits-link net l ts
hits-link net l (thing.Link m ∷ ts) = ap (λ t. t || hits net (domain.Link l) ts) (equal_swap l m) ∙ ap (λ t. nat_eq m l || t) (hits-link net l ts)

-- the things of a list of devices and a list of links
abbrev listed : List ℕ → List ℕ → Thing → Bool
listed devices links (thing.Device d) = has devices d
listed devices links (thing.Link l) = has links l

pub hits-lists : (devices links : List ℕ) (things : List Thing)
    → list_any (listed devices links) things ≡ (list_any (has_device things) devices || list_any (has_link things) links)
hits-lists devices links [] = sym (ap (λ t. t || list_any (λ (l : ℕ). false) links) (none_any devices) ∙ none_any links)
hits-lists devices links (thing.Device d ∷ ts) =
    ap (λ t. has devices d || t) (hits-lists devices links ts)
    ∙ regroup (has devices d) (list_any (has_device ts) devices) (list_any (has_link ts) links)
    ∙ ap (λ t. t || list_any (has_link ts) links) (sym (any_either (nat_eq d) (has_device ts) devices))
  where
    regroup : (a b c : Bool) → (a || (b || c)) ≡ ((a || b) || c)
    regroup true b c = refl
    regroup false b c = refl
hits-lists devices links (thing.Link l ∷ ts) =
    ap (λ t. has links l || t) (hits-lists devices links ts)
    ∙ regroup (has links l) (list_any (has_device ts) devices) (list_any (has_link ts) links)
    ∙ ap (λ t. list_any (has_device ts) devices || t) (sym (any_either (nat_eq l) (has_link ts) links))
  where
    regroup : (a b c : Bool) → (a || (b || c)) ≡ (b || (a || c))
    regroup true true c = refl
    regroup true false c = refl
    regroup false b c = refl

-- a listed domain
pub hits-listed : (net : Network) (k : ℕ) (things : List Thing) → k < length net.domains
    → hits net (domain.Listed k) things ≡ (list_any (has_device things) (domain_of net k).devices || list_any (has_link things) (domain_of net k).links)
hits-listed net k things there =
    any_same (holds net (domain.Listed k)) (listed (domain_of net k).devices (domain_of net k).links) things each
    ∙ hits-lists (domain_of net k).devices (domain_of net k).links things
  where
    each : (t : Thing) → holds net (domain.Listed k) t ≡ listed (domain_of net k).devices (domain_of net k).links t
    each (thing.Device d) =
        found_at net.domains k no_domain false (λ group. has group.devices d) there
        ∙ sym (ap (λ group. has group.devices d) (found_at net.domains k no_domain no_domain (λ group. group) there))
    each (thing.Link l) =
        found_at net.domains k no_domain false (λ group. has group.links l) there
        ∙ sym (ap (λ group. has group.links l) (found_at net.domains k no_domain no_domain (λ group. group) there))
