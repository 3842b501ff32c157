-- The numbers of a domain, and of the index of a plan, are in range.
use Rattle.std.proofs.Common.{◌≡◌, ℕ, zero, suc, ◌+◌, ◌<◌, ◌≤◌, Bool, true, false, cond, List, [], ◌∷◌, length, find, get_or, min, max, nat_lt, Option, Some, None, All, flat_map, refl, sym, ap, ◌∙◌, subst, inl, inr, arith}
use Rattle.std.proofs.lemmas.List.{get_or-map, get_or_past}
use Rattle.std.proofs.lemmas.List.Elements.{All-nil, All-cons, All-append, All-weaker, All-head, All-tail}
use Rattle.std.proofs.lemmas.List.Folds.{find-append}
use Rattle.std.proofs.lemmas.Bool.{cases_lt}
use Rattle.std.specs.Option.{option_or, IfSome}
use Rattle.sd_num.specs.Lists.{below, map_or}
use Rattle.sd_plan.specs.topo.Network.{Network, link_numbers}
use Rattle.sd_plan.specs.topo.Limits.{IsNetwork}
use Rattle.sd_plan.specs.topo.Places.{domain_of}
use Rattle.sd_plan.proofs.topo.Laws.{domain_law}
use Rattle.sd_plan.specs.domain.Lone.{IsDomain}
use Rattle.sd_plan.specs.declared.domain.DomainId.{DomainId}
use Rattle.sd_plan.specs.declared.domain.DomainId.TheVariants as domain
use Rattle.sd_plan.specs.IndexedPlan.{IndexedPlan, IsIndexOf, span_of, goes_over, carried_over, is_within}
use Rattle.sd_plan.specs.declared.Plan.{Plan}
use Rattle.sd_plan.specs.declared.index.Span.{Span}
use Rattle.sd_plan.proofs.Numbered.{length-below}
use Rattle.sd_plan.proofs.Shared.{carried_length}
use Rattle.sd_checker.specs.check_hit.Spans.{CarriesDevices, non_empty, outside, behind_first, below_device, below_child, below_link, below_domain}

-- a number found below n is below n, and passes
found_below : (test : ℕ → Bool) (n : ℕ) → IfSome (find test (below n)) (λ c. (c < n) × (test c ≡ true))
found_below test zero = tt
found_below test (suc n) =
    subst (λ (o : Option ℕ). IfSome o (λ c. (c < suc n) × (test c ≡ true))) (sym (find-append test (below n) (n ∷ [])))
    (by_first (find test (below n)) (found_below test n) (test n) refl)
  where
    by_first : (o : Option ℕ) → IfSome o (λ c. (c < n) × (test c ≡ true)) → (t : Bool) → test n ≡ t
        → IfSome (option_or o (cond t (Some n) None)) (λ c. (c < suc n) × (test c ≡ true))
    by_first None within true is = (omega arith, is)
    by_first None within false is = tt
    by_first (Some c) within t is = (omega (arith, within.0), within.1)

-- what an index says of a link is a device whose hop goes over one
pub carried_hop : (net : Network) (plan : Plan) (index : IndexedPlan) (l c : ℕ) → IsIndexOf net plan index → get_or index.carried l None ≡ Some c
    → (c < length net.devices) × ((m : ℕ) × (goes_over plan m c ≡ true))
carried_hop net plan index l c indexed is =
    let m = get_or (link_numbers net) l 0 in
    elim (cases_lt l (length net.links)) [
      | inl within ↦
          (let here : carried_over net plan m ≡ Some c =
          sym (get_or-map (carried_over net plan) (link_numbers net) l 0 None (omega (arith, length-below (length net.links))))
          ∙ ap (λ (carried : List (Option ℕ)). get_or carried l None) (sym indexed.carried) ∙ is
          in
          let found : (c < length net.devices) × (goes_over plan m c ≡ true) =
          subst (λ (o : Option ℕ). IfSome o (λ x. (x < length net.devices) × (goes_over plan m x ≡ true))) here
          (found_below (goes_over plan m) (length net.devices))
          in
          (found.0, (m, found.1)))
      | inr past ↦
          (let none : get_or index.carried l None ≡ None = get_or_past index.carried l None (omega (arith, carried_length net plan index indexed)) in
          cc)
    ]

pub carries_devices : (net : Network) (plan : Plan) (index : IndexedPlan) → IsIndexOf net plan index → CarriesDevices index
carries_devices net plan index indexed l c is = let size = indexed.spans in omega (arith, (carried_hop net plan index l c indexed is).0)

-- the devices of a listed domain, and its links
pub devices_within : (net : Network) (plan : Plan) (index : IndexedPlan) (k : ℕ) → IsNetwork net → IsIndexOf net plan index → k < length net.domains
    → All (λ a. a < length index.spans) (domain_of net k).devices
devices_within net plan index k law indexed there =
    let group = domain_law net k law there in
    All-weaker (λ a. a < length net.devices) (λ a. a < length index.spans) (λ a within. omega (arith, indexed.spans))
    (domain_of net k).devices group.devices_within

pub links_within : (net : Network) (plan : Plan) (index : IndexedPlan) (k : ℕ) → IsNetwork net → IsIndexOf net plan index → k < length net.domains
    → All (λ l. l < length index.carried) (domain_of net k).links
links_within net plan index k law indexed there =
    let group = domain_law net k law there in
    let all = carried_length net plan index indexed in
    All-weaker (λ l. l < length net.links) (λ l. l < length index.carried) (λ l within. omega (arith, all)) (domain_of net k).links group.links_within

-- a span without its first place ends where it ended
behind_to : (m : ℕ) (s : Span) → s.to ≤ m → (behind_first s).to ≤ m
behind_to m s within = elim (nat_lt s.from s.to) as (λ t. (cond t (record { from = s.from + 1; to = s.to }) s).to ≤ m) [ true ↦ within | false ↦ within ]

non_empty_within : (m : ℕ) (s : Span) → s.to ≤ m → All (λ (x : Span). x.to ≤ m) (non_empty s)
non_empty_within m s within =
    elim (nat_lt s.from s.to) as (λ t. All (λ (x : Span). x.to ≤ m) (cond t (s ∷ []) [])) [
      | true ↦ All-cons (λ (x : Span). x.to ≤ m) s [] within (All-nil (λ (x : Span). x.to ≤ m))
      | false ↦ All-nil (λ (x : Span). x.to ≤ m)
    ]

outside_within : (m : ℕ) (s cut : Span) → s.to ≤ m → All (λ (x : Span). x.to ≤ m) (outside s cut)
outside_within m s cut within =
    All-append (λ (x : Span). x.to ≤ m) (non_empty (record { from = s.from; to = min s.to cut.from }))
    (non_empty (record { from = max s.from cut.to; to = s.to }))
    (non_empty_within m (record { from = s.from; to = min s.to cut.from }) (omega arith))
    (non_empty_within m (record { from = max s.from cut.to; to = s.to }) within)

-- what a thing of the domain hits lies in the order
device_within : (index : IndexedPlan) (m b a : ℕ) → (span_of index a).to ≤ m → All (λ (x : Span). x.to ≤ m) (below_device index b a)
device_within index m b a within =
    elim (is_within (span_of index b) (span_of index a).from)
    as (λ t. All (λ (x : Span). x.to ≤ m)
    (cond t (non_empty (behind_first (span_of index a))) (outside (behind_first (span_of index a)) (behind_first (span_of index b))))) [
      | true ↦ non_empty_within m (behind_first (span_of index a)) (behind_to m (span_of index a) within)
      | false ↦ outside_within m (behind_first (span_of index a)) (behind_first (span_of index b)) (behind_to m (span_of index a) within)
    ]

child_within : (index : IndexedPlan) (m b c : ℕ) → (span_of index c).to ≤ m → All (λ (x : Span). x.to ≤ m) (below_child index b c)
child_within index m b c within =
    elim (is_within (behind_first (span_of index b)) (span_of index c).from)
    as (λ t. All (λ (x : Span). x.to ≤ m) (cond t (non_empty (span_of index c)) (outside (span_of index c) (behind_first (span_of index b))))) [
      | true ↦ non_empty_within m (span_of index c) within
      | false ↦ outside_within m (span_of index c) (behind_first (span_of index b)) within
    ]

link_within : (index : IndexedPlan) (m b l : ℕ) → ((c : ℕ) → get_or index.carried l None ≡ Some c → (span_of index c).to ≤ m)
    → All (λ (x : Span). x.to ≤ m) (below_link index b l)
link_within index m b l within = by_child (get_or index.carried l None) within
  where
    by_child : (o : Option ℕ) → ((c : ℕ) → o ≡ Some c → (span_of index c).to ≤ m) → All (λ (x : Span). x.to ≤ m) (map_or o [] (below_child index b))
    by_child None each = All-nil (λ (x : Span). x.to ≤ m)
    by_child (Some c) each = child_within index m b c (each c refl)

all_of_each : {X : Type 0} (m : ℕ) (f : X → List Span) (P : X → Type 0) (xs : List X) → ((x : X) → P x → All (λ (s : Span). s.to ≤ m) (f x)) → All P xs
    → All (λ (s : Span). s.to ≤ m) (flat_map f xs)
all_of_each m f P [] each all = All-nil (λ (s : Span). s.to ≤ m)
all_of_each m f P (x ∷ xs) each all =
    All-append (λ (s : Span). s.to ≤ m) (f x) (flat_map f xs) (each x (All-head P x xs all)) (all_of_each m f P xs each (All-tail P x xs all))

-- so do all that a domain hits
pub domain_within : (net : Network) (plan : Plan) (index : IndexedPlan) (f : DomainId) → IsNetwork net → IsIndexOf net plan index → IsDomain net f
    → All (λ (s : Span). s.to ≤ length index.order) (below_domain net index plan.backup_root f)
domain_within net plan index f law indexed there = by_kind f there
  where
    device : (a : ℕ) → a < length index.spans → All (λ (s : Span). s.to ≤ length index.order) (below_device index plan.backup_root a)
    device a within = let size = indexed.spans in device_within index (length index.order) plan.backup_root a (indexed.within a (omega arith)).1

    link : (l : ℕ) → l < length index.carried → All (λ (s : Span). s.to ≤ length index.order) (below_link index plan.backup_root l)
    link l within =
        let size = indexed.spans in
        link_within index (length index.order) plan.backup_root l (λ c is. (indexed.within c (omega (arith, carries_devices net plan index indexed l c is))).1)

    by_kind : (f : DomainId) → IsDomain net f → All (λ (s : Span). s.to ≤ length index.order) (below_domain net index plan.backup_root f)
    by_kind (domain.Listed k) there =
        All-append (λ (s : Span). s.to ≤ length index.order) (flat_map (below_device index plan.backup_root) (domain_of net k).devices)
        (flat_map (below_link index plan.backup_root) (domain_of net k).links)
        (all_of_each (length index.order) (below_device index plan.backup_root) (λ a. a < length index.spans) (domain_of net k).devices device
        (devices_within net plan index k law indexed there))
        (all_of_each (length index.order) (below_link index plan.backup_root) (λ l. l < length index.carried) (domain_of net k).links link
        (links_within net plan index k law indexed there))
    by_kind (domain.Device a) there = let size = indexed.spans in device a (omega arith)
    by_kind (domain.Link l) there = link l (omega (arith, carried_length net plan index indexed))
