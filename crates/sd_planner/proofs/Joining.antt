-- The listed domains that join two hops, by their flags.
use Rattle.std.proofs.Common.{◌≡◌, ℕ, ◌<◌, Bool, true, false, ◌&&◌, ◌||◌, not, List, length, nat_lt, slice_get, Option, Some, None, if◌then◌else◌, refl, sym, ap, ◌∙◌, arith, inl, inr}
use Rattle.std.specs.List.{list_any}
use Rattle.std.proofs.lemmas.Bool.{and_parts, ltb-true, lt-ltb, cases_lt}
use Rattle.std.proofs.lemmas.List.{get_or_past}
use Rattle.sd_num.specs.Lists.{below, has, map_or}
use Rattle.sd_plan.specs.topo.Network.{Network, Domain}
use Rattle.sd_plan.specs.topo.Places.{domain_of, no_domain}
use Rattle.sd_plan.specs.domain.Domains.{holds_device, holds_link}
use Rattle.sd_plan.specs.declared.domain.DomainId.TheVariants.{Listed}
use Rattle.sd_plan.specs.declared.Hop.{Hop}
use Rattle.sd_plan.specs.Subtrees.{listed}
use Rattle.sd_planner.specs.Serving.{hits_hop, are_joined}
use Rattle.sd_planner.specs.Flags.{is_set, AreSet}
use Rattle.sd_planner.specs.Listed.{Lists, ListUnder, AreListed}
use Rattle.sd_planner.specs.Surveys.{AreClear, AreJoining}
use Rattle.sd_planner.proofs.Members.{any-map, any_among}

-- a listed domain has what it lists
pub device_listed : (net : Network) (k d : ℕ) → holds_device net (Listed k) d ≡ has (domain_of net k).devices d
device_listed net k d = by_place (slice_get net.domains k)
  where
    by_place : (o : Option Domain) → map_or o false (λ l. has l.devices d) ≡ has (map_or o no_domain (λ l. l)).devices d
    by_place None = refl
    by_place (Some l) = refl

pub link_listed : (net : Network) (k l : ℕ) → holds_link net (Listed k) l ≡ has (domain_of net k).links l
link_listed net k d = by_place (slice_get net.domains k)
  where
    by_place : (o : Option Domain) → map_or o false (λ l. has l.links d) ≡ has (map_or o no_domain (λ l. l)).links d
    by_place None = refl
    by_place (Some l) = refl

-- what is in a list is below the bound
pub listed_within : (f : ℕ → List ℕ) (bound : ℕ) (lists : List (List ℕ)) (x k : ℕ) → ListUnder f bound lists → has (listed lists x) k ≡ true → k < bound
listed_within f bound lists x k under there = ltb-true k bound (and_parts (nat_lt k bound) (has (f k) x) (sym (under x k) ∙ there)).0

module _ (net : Network) (lists : Lists) (are : AreListed net (length net.domains) lists) where
  in_links : (l k : ℕ) → k < length net.domains → has (listed lists.links l) k ≡ holds_link net (Listed k) l
  in_links l k within = are.links l k ∙ ap (λ t. t && has (domain_of net k).links l) (lt-ltb k (length net.domains) within) ∙ sym (link_listed net k l)

  in_devices : (d k : ℕ) → k < length net.domains → has (listed lists.devices d) k ≡ holds_device net (Listed k) d
  in_devices d k within = are.devices d k ∙ ap (λ t. t && has (domain_of net k).devices d) (lt-ltb k (length net.domains) within) ∙ sym (device_listed net k d)

  -- what lists a thing is a domain
  pub links_within : (l k : ℕ) → has (listed lists.links l) k ≡ true → k < length net.domains
  links_within l k there = listed_within (λ j. (domain_of net j).links) (length net.domains) lists.links l k are.links there

  pub devices_within : (d k : ℕ) → has (listed lists.devices d) k ≡ true → k < length net.domains
  devices_within d k there = listed_within (λ j. (domain_of net j).devices) (length net.domains) lists.devices d k are.devices there

  -- the flags after three steps
  pub joining_set : (d : ℕ) (primary : Hop) (clear first second third : List Bool) → AreClear net clear
      → AreSet (listed lists.links primary.link) true clear first
      → AreSet (listed lists.devices primary.parent) true first second → AreSet (listed lists.devices d) false second third → AreJoining net d primary third
  joining_set d primary clear first second third none one two three =
      record {
        size = three.size ∙ two.size ∙ one.size ∙ none.size;
        each = λ k within.
            three.each k
            ∙ ap (λ t. if t then false else is_set second k) (in_devices d k within)
            ∙ ap (λ t. if holds_device net (Listed k) d then false else t)
            (two.each k ∙ ap (λ t. if t then true else is_set first k) (in_devices primary.parent k within)
            ∙ ap (λ t. if holds_device net (Listed k) primary.parent then true else t)
            (one.each k ∙ ap (λ t. if t then true else is_set clear k) (in_links primary.link k within)
            ∙ ap (λ t. if holds_link net (Listed k) primary.link then true else t) (none.each k)))
            ∙ by_tests (holds_device net (Listed k) d) (holds_device net (Listed k) primary.parent) (holds_link net (Listed k) primary.link);
      }
    where
      by_tests : (own parent link : Bool) → (if own then false else (if parent then true else (if link then true else false))) ≡ (not own && (link || parent))
      by_tests true parent link = refl
      by_tests false true true = refl
      by_tests false true false = refl
      by_tests false false true = refl
      by_tests false false false = refl

  -- and after they are taken away
  pub joining_cleared : (d : ℕ) (primary : Hop) (joining first second : List Bool) → AreJoining net d primary joining
      → AreSet (listed lists.links primary.link) false joining first
      → AreSet (listed lists.devices primary.parent) false first second → AreClear net second
  joining_cleared d primary joining first second some one two = record { size = two.size ∙ one.size ∙ some.size; each = each }
    where
      by_tests : (own parent link : Bool) → (if parent then false else (if link then false else not own && (link || parent))) ≡ false
      by_tests own true link = refl
      by_tests own false true = refl
      by_tests true false false = refl
      by_tests false false false = refl

      never : (a b c : Bool) → c ≡ false → (if a then false else (if b then false else c)) ≡ false
      never true b c is = refl
      never false true c is = refl
      never false false c is = is

      each : (k : ℕ) → is_set second k ≡ false
      each k = elim (cases_lt k (length net.domains)) [
        | inl within ↦
            two.each k
            ∙ ap (λ t. if t then false else is_set first k) (in_devices primary.parent k within)
            ∙ ap (λ t. if holds_device net (Listed k) primary.parent then false else t)
            (one.each k ∙ ap (λ t. if t then false else is_set joining k) (in_links primary.link k within)
            ∙ ap (λ t. if holds_link net (Listed k) primary.link then false else t) (some.each k within))
            ∙ by_tests (holds_device net (Listed k) d) (holds_device net (Listed k) primary.parent) (holds_link net (Listed k) primary.link)
        | inr past ↦
            two.each k
            ∙ ap (λ t. if has (listed lists.devices primary.parent) k then false else t) (one.each k)
            ∙ never (has (listed lists.devices primary.parent) k) (has (listed lists.links primary.link) k) (is_set joining k)
            (get_or_past joining k false (let size : length joining ≡ length net.domains = some.size in omega arith))
      ]

  -- a flagged domain joins the hops
  pub joined_is : (d : ℕ) (primary hop : Hop) (joining : List Bool) → AreJoining net d primary joining
      → (list_any (is_set joining) (listed lists.links hop.link) || list_any (is_set joining) (listed lists.devices hop.parent)) ≡ are_joined net d primary hop
  joined_is d primary hop joining some =
      sym
      (any-map Listed (λ domain. not (holds_device net domain d) && hits_hop net domain primary && hits_hop net domain hop) (below (length net.domains))
      ∙ any_among (λ k. not (holds_device net (Listed k) d) && hits_hop net (Listed k) primary && hits_hop net (Listed k) hop)
      (is_set joining) (listed lists.links hop.link) (listed lists.devices hop.parent) (length net.domains) (λ k. has (domain_of net k).links hop.link)
      (λ k. has (domain_of net k).devices hop.parent)
      (are.links hop.link) (are.devices hop.parent)
      (λ k within.
      ap (λ t. t && hits_hop net (Listed k) hop) (sym (some.each k within))
      ∙ ap (λ t. is_set joining k && t)
      (ap (λ t. t || holds_device net (Listed k) hop.parent) (link_listed net k hop.link)
      ∙ ap (λ t. has (domain_of net k).links hop.link || t) (device_listed net k hop.parent))))
