-- What holds of every network, at a number: for those who use a topology's answers.
use Rattle.std.proofs.Common.{◌≡◌, inl, inr, eq-eqb, ℕ, ◌<◌, true, ◌&&◌, nat_eq, nat_lt, List, [], ◌∷◌, length, get_or, All, IsTrue, refl, ap, sym, ◌∙◌, subst}
use Rattle.std.proofs.lemmas.Bool.{and_parts, ltb-true, or_cases, or_left, or_right, eqb-true}
use Rattle.std.proofs.lemmas.List.Elements.{All-cons, All-nil}
use Rattle.std.proofs.lemmas.Option.{slice_get-get_or}
use Rattle.sd_num.specs.Lists.{ascends, all_below, map_or, at_place}
use Rattle.sd_plan.specs.topo.Network.{Network, Domain, no_link, no_rates, rates_of, link_of, joins}
use Rattle.sd_plan.specs.topo.Limits.{IsNetwork, IsRates, IsLink}
use Rattle.sd_plan.specs.topo.Places.{no_device, no_named_link, no_domain, domain_of, is_end_of}

-- an element that there is, at a place
pub found_at : {A B : Type 0} (xs : List A) (i : ℕ) (d : A) (e : B) (f : A → B) → i < length xs → at_place xs i e f ≡ f (get_or xs i d)
found_at xs i d e f within = ap (λ o. map_or o e f) (slice_get-get_or xs i d within)

-- a device's rates are in range
pub rates_law : (net : Network) (d : ℕ) → IsNetwork net → d < length net.devices → IsRates (rates_of net d)
rates_law net d law within =
    subst IsRates (sym (found_at net.devices d no_device no_rates (λ device. device.rates) within))
    (law.each_device d (get_or net.devices d no_device) (slice_get-get_or net.devices d no_device within))

-- a link's ends are devices that differ, and its bounds are in order and in range
pub link_law : (net : Network) (l : ℕ) → IsNetwork net → l < length net.links → IsLink (length net.devices) (link_of net l)
link_law net l law within =
    subst (IsLink (length net.devices)) (sym (found_at net.links l no_named_link no_link (λ link. link.entry) within))
    (law.each_link l (get_or net.links l no_named_link) (slice_get-get_or net.links l no_named_link within))

-- numbers that pass the test are below the bound
pub within_all : (bound : ℕ) (xs : List ℕ) → all_below bound xs ≡ true → All (λ x. x < bound) xs
within_all bound [] tests = All-nil (λ x. x < bound)
within_all bound (x ∷ xs) tests =
    let (first, rest) = and_parts (nat_lt x bound) (all_below bound xs) tests in
    All-cons (λ y. y < bound) x xs (ltb-true x bound first) (within_all bound xs rest)

-- what a domain lists: ascending numbers of devices and of links
pub record IsGroup (devices links : ℕ) (domain : Domain) : Type 0 where
  pub devices_ascend : ascends domain.devices ≡ true
  pub links_ascend : ascends domain.links ≡ true
  pub devices_within : All (λ d. d < devices) domain.devices
  pub links_within : All (λ l. l < links) domain.links

-- from the four tests
pub group_of : (devices links : ℕ) (domain : Domain)
    → IsTrue (ascends domain.devices && ascends domain.links && all_below devices domain.devices && all_below links domain.links) → IsGroup devices links domain
group_of devices links domain tests =
    let (three, fourth) = and_parts (ascends domain.devices && ascends domain.links && all_below devices domain.devices) (all_below links domain.links) tests in
    let (two, third) = and_parts (ascends domain.devices && ascends domain.links) (all_below devices domain.devices) three in
    let (first, second) = and_parts (ascends domain.devices) (ascends domain.links) two in
    record {
      devices_ascend = first;
      links_ascend = second;
      devices_within = within_all devices domain.devices third;
      links_within = within_all links domain.links fourth;
    }

-- a listed domain
pub domain_law : (net : Network) (f : ℕ) → IsNetwork net → f < length net.domains → IsGroup (length net.devices) (length net.links) (domain_of net f)
domain_law net f law within =
    subst (IsGroup (length net.devices) (length net.links)) (sym (found_at net.domains f no_domain no_domain (λ domain. domain) within))
    (group_of (length net.devices) (length net.links) (get_or net.domains f no_domain)
    (law.each_domain f (get_or net.domains f no_domain) (slice_get-get_or net.domains f no_domain within)))

-- a device that a link joins to another is an end of it
pub joined_end : (net : Network) (l d e : ℕ) → joins net l d e ≡ true → is_end_of (link_of net l) d ≡ true
joined_end net l d e joined =
    elim (or_cases (nat_eq (link_of net l).end_a d && nat_eq (link_of net l).end_b e)
    (nat_eq (link_of net l).end_a e && nat_eq (link_of net l).end_b d) joined) [
      | inl forth ↦ or_left (nat_eq d (link_of net l).end_a) (nat_eq d (link_of net l).end_b)
          (flip (link_of net l).end_a d (and_parts (nat_eq (link_of net l).end_a d) (nat_eq (link_of net l).end_b e) forth).0)
      | inr back ↦ or_right (nat_eq d (link_of net l).end_a) (nat_eq d (link_of net l).end_b)
          (flip (link_of net l).end_b d (and_parts (nat_eq (link_of net l).end_a e) (nat_eq (link_of net l).end_b d) back).1)
    ]
  where
    flip : (a b : ℕ) → nat_eq a b ≡ true → nat_eq b a ≡ true
    flip a b h = sym (ap (λ n. nat_eq n a) (eqb-true a b h)) ∙ eq-eqb a a refl
