-- A failure of just what a domain has.
use Rattle.std.proofs.Common.{◌≡◌, ℕ, ◌<◌, ◌||◌, Bool, true, false, List, length, nat_eq, All, refl, sym, ap, ◌∙◌, subst}
use Rattle.std.specs.Ordering.{nat_cmp}
use Rattle.std.specs.FinSet as set
use Rattle.std.proofs.lemmas.Bool.{false_from_ne_true, both_ways, eqb-true, eq-eqb}
use Rattle.sd_num.specs.Lists.{has}
use Rattle.sd_plan.specs.topo.Network.{Network}
use Rattle.sd_plan.specs.topo.Limits.{IsNetwork}
use Rattle.sd_plan.specs.topo.Places.{domain_of, no_domain}
use Rattle.sd_plan.proofs.topo.Laws.{domain_law, found_at}
use Rattle.sd_plan.specs.domain.Domains.{holds_device, holds_link}
use Rattle.sd_plan.specs.domain.Failing.{IsFailureOf}
use Rattle.sd_plan.specs.domain.Failures.{FailedThings, nothing_of, with_thing}
use Rattle.sd_plan.specs.declared.domain.DomainId.{DomainId}
use Rattle.sd_plan.specs.declared.domain.DomainId.TheVariants as domain
use Rattle.sd_plan.specs.declared.topo.Thing.TheVariants as thing
use Rattle.sd_plan.proofs.domain.Members.{contains-insert-nat}

-- what a listed domain has
listed_device : (net : Network) (k d : ℕ) → k < length net.domains → has (domain_of net k).devices d ≡ holds_device net (domain.Listed k) d
listed_device net k d within =
    ap (λ g. has g.devices d) (found_at net.domains k no_domain no_domain (λ g. g) within)
    ∙ sym (found_at net.domains k no_domain false (λ g. has g.devices d) within)

listed_link : (net : Network) (k l : ℕ) → k < length net.domains → has (domain_of net k).links l ≡ holds_link net (domain.Listed k) l
listed_link net k l within =
    ap (λ g. has g.links l) (found_at net.domains k no_domain no_domain (λ g. g) within)
    ∙ sym (found_at net.domains k no_domain false (λ g. has g.links l) within)

-- to a failure of nothing all things of a listed domain were added
pub listed_failed : (net : Network) (f : DomainId) (k rooms more : ℕ) (devices links : List ℕ) (failed : FailedThings) → f ≡ domain.Listed k
    → k < length net.domains
    → devices ≡ (domain_of net k).devices → links ≡ (domain_of net k).links
    → ((d : ℕ) → set.contains failed.devices d ≡ (set.contains (nothing_of rooms more).devices d || has devices d))
    → ((l : ℕ) → set.contains failed.links l ≡ (set.contains (nothing_of rooms more).links l || has links l))
    → IsFailureOf net f failed
listed_failed net f k rooms more devices links failed is within these those added joined =
    subst (λ f. IsFailureOf net f failed) (sym is)
    (record {
      devices = λ d. added d ∙ ap (λ t. t || has devices d) (set.contains-empty nat_cmp d) ∙ ap (λ xs. has xs d) these ∙ listed_device net k d within;
      links = λ l. joined l ∙ ap (λ t. t || has links l) (set.contains-empty nat_cmp l) ∙ ap (λ xs. has xs l) those ∙ listed_link net k l within;
    })

-- equal numbers are so in either order
turned : (x y : ℕ) → (nat_eq x y || false) ≡ nat_eq y x
turned x y = by (nat_eq x y) refl
  where
    by : (t : Bool) → nat_eq x y ≡ t → (t || false) ≡ nat_eq y x
    by true same = sym (eq-eqb y x (sym (eqb-true x y same)))
    by false other = sym (false_from_ne_true (nat_eq y x) (λ same. both_ways (nat_eq x y) other (eq-eqb x y (sym (eqb-true y x same)))))

-- to a failure of nothing one device was added, or one link
pub device_failed : (net : Network) (f : DomainId) (e rooms more : ℕ) (failed : FailedThings) → f ≡ domain.Device e
    → failed ≡ with_thing (nothing_of rooms more) (thing.Device e) → IsFailureOf net f failed
device_failed net f e rooms more failed is added =
    subst (λ f. IsFailureOf net f failed) (sym is)
    (subst (λ failed. IsFailureOf net (domain.Device e) failed) (sym added)
    (record {
      devices = λ d. contains-insert-nat set.empty e d ∙ ap (λ t. nat_eq d e || t) (set.contains-empty nat_cmp d) ∙ turned d e;
      links = λ l. set.contains-empty nat_cmp l;
    }))

pub link_failed : (net : Network) (f : DomainId) (m rooms more : ℕ) (failed : FailedThings) → f ≡ domain.Link m
    → failed ≡ with_thing (nothing_of rooms more) (thing.Link m) → IsFailureOf net f failed
link_failed net f m rooms more failed is added =
    subst (λ f. IsFailureOf net f failed) (sym is)
    (subst (λ failed. IsFailureOf net (domain.Link m) failed) (sym added)
    (record {
      devices = λ d. set.contains-empty nat_cmp d;
      links = λ l. contains-insert-nat set.empty m l ∙ ap (λ t. nat_eq l m || t) (set.contains-empty nat_cmp l) ∙ turned l m;
    }))

-- there is room for all of a listed domain
pub devices_fit : (net : Network) (k room : ℕ) (devices : List ℕ) → IsNetwork net → k < length net.domains → devices ≡ (domain_of net k).devices
    → room ≡ length net.devices → All (λ d. d < room) devices
devices_fit net k room devices law within these size =
    subst (λ xs. All (λ d. d < room) xs) (sym these)
    (subst (λ n. All (λ d. d < n) (domain_of net k).devices) (sym size) (domain_law net k law within).devices_within)

pub links_fit : (net : Network) (k room : ℕ) (links : List ℕ) → IsNetwork net → k < length net.domains → links ≡ (domain_of net k).links
    → room ≡ length net.links → All (λ l. l < room) links
links_fit net k room links law within these size =
    subst (λ xs. All (λ l. l < room) xs) (sym these)
    (subst (λ n. All (λ l. l < n) (domain_of net k).links) (sym size) (domain_law net k law within).links_within)
