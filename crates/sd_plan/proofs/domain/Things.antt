-- The things of a failure, as the lists of its numbers tell them.
use Rattle.std.proofs.Common.{◌≡◌, ℕ, ◌<◌, Bool, true, false, ◌&&◌, List, length, get_or, map, Some, refl, subst, ◌∙◌}
use Rattle.std.specs.List.{list_all, slice_get}
use Rattle.std.specs.Ordering.{nat_cmp}
use Rattle.std.specs.FinSet as set
use Rattle.std.proofs.lemmas.Bool.{and_parts, and_left}
use Rattle.std.proofs.lemmas.List.Folds.{list_all-append, list_all-map}
use Rattle.std.proofs.lemmas.Option.{slice_get-get_or}
use Rattle.sd_num.specs.Lists.{ascends, all_below, has}
use Rattle.sd_plan.specs.topo.Network.{Network, Domain}
use Rattle.sd_plan.specs.topo.Limits.{IsNetwork}
use Rattle.sd_plan.specs.topo.Places.{domain_of, no_domain}
use Rattle.sd_plan.specs.declared.topo.Thing.{Thing}
use Rattle.sd_plan.specs.declared.topo.Thing.TheVariants as thing
use Rattle.sd_plan.specs.domain.Domains.{holds}
use Rattle.sd_plan.specs.declared.domain.DomainId.TheVariants as domain
use Rattle.sd_plan.specs.domain.Failures.{FailedThings, things_of}
use Rattle.sd_plan.specs.domain.Within.{has_all}
use Rattle.sd_plan.proofs.domain.Members.{list_all-items}

-- the elements of a set pass where those of a list that makes it do
list_all-of_set : (test : ℕ → Bool) (xs : List ℕ) (s : set.FinSet nat_cmp) → set.from_list xs ≡ s → list_all test (set.items s) ≡ list_all test xs
list_all-of_set test xs s made = subst (λ (s : set.FinSet nat_cmp). list_all test (set.items s) ≡ list_all test xs) made (list_all-items test xs)

-- all that has failed passes where each device and each link does
list_all-parts : (test : Thing → Bool) (failed : FailedThings)
    → list_all test (things_of failed)
    ≡ (list_all (λ d. test (thing.Device d)) (set.items failed.devices) && list_all (λ l. test (thing.Link l)) (set.items failed.links))
list_all-parts test failed =
    list_all-append test (map thing.Device (set.items failed.devices)) (map thing.Link (set.items failed.links))
    ∙ (λ i. list_all-map test thing.Device (set.items failed.devices) i && list_all-map test thing.Link (set.items failed.links) i)

-- the same where lists make the two sets
pub list_all-things : (test : Thing → Bool) (failed : FailedThings) (devices links : List ℕ) → set.from_list devices ≡ failed.devices
    → set.from_list links ≡ failed.links
    → list_all test (things_of failed) ≡ (list_all (λ d. test (thing.Device d)) devices && list_all (λ l. test (thing.Link l)) links)
list_all-things test failed devices links devices_are links_are =
    list_all-parts test failed
    ∙ (λ i. list_all-of_set (λ d. test (thing.Device d)) devices failed.devices devices_are i
    && list_all-of_set (λ l. test (thing.Link l)) links failed.links links_are i)

-- a place of the listed domains has a domain
listed_at : (net : Network) (k : ℕ) → k < length net.domains → slice_get net.domains k ≡ Some (get_or net.domains k no_domain)
listed_at net k within = slice_get-get_or net.domains k no_domain within

-- a listed domain's numbers ascend
pub listed_ascend : (net : Network) (k : ℕ) → IsNetwork net → k < length net.domains
    → (ascends (domain_of net k).devices ≡ true) × (ascends (domain_of net k).links ≡ true)
listed_ascend net k is within =
    let listed : Domain = get_or net.domains k no_domain in
    let at : slice_get net.domains k ≡ Some listed = listed_at net k within in
    let each = is.each_domain k listed at in
    let ascending =
    and_parts (ascends listed.devices) (ascends listed.links)
    (and_parts (ascends listed.devices && ascends listed.links) (all_below (length net.devices) listed.devices)
    (and_parts (ascends listed.devices && ascends listed.links && all_below (length net.devices) listed.devices)
    (all_below (length net.links) listed.links) each).0).0
    in
    rw at ascending

-- a listed domain has all that has failed where its lists have each of the devices and each of the links
pub list_all-listed : (net : Network) (k : ℕ) (failed : FailedThings) (devices links : List ℕ) → k < length net.domains → set.from_list devices ≡ failed.devices
    → set.from_list links ≡ failed.links
    → has_all net failed (domain.Listed k) ≡ (list_all (has (domain_of net k).devices) devices && list_all (has (domain_of net k).links) links)
list_all-listed net k failed devices links within devices_are links_are =
    let at = listed_at net k within in list_all-things (holds net (domain.Listed k)) failed devices links devices_are links_are ∙ rw at refl

-- it has not, where its devices leave one of the devices out
pub list_all-missed : (net : Network) (k : ℕ) (failed : FailedThings) (devices : List ℕ) → k < length net.domains → set.from_list devices ≡ failed.devices
    → list_all (has (domain_of net k).devices) devices ≡ false → has_all net failed (domain.Listed k) ≡ false
list_all-missed net k failed devices within devices_are missed =
    let at : slice_get net.domains k ≡ Some (get_or net.domains k no_domain) = listed_at net k within in
    let some_missed : list_all (λ d. holds net (domain.Listed k) (thing.Device d)) devices ≡ false = rw at (rw at at missed) in
    list_all-parts (holds net (domain.Listed k)) failed
    ∙ and_left _ _ (list_all-of_set (λ d. holds net (domain.Listed k) (thing.Device d)) devices failed.devices devices_are ∙ some_missed)
