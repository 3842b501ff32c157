-- The places of the members that lie below the things of a domain, where the cut path of a member ends at the backup root.
use Rattle.std.specs.Prelude.{◌≡◌, ℕ, ◌+◌, ◌<◌, Bool, List, [], ◌∷◌, ◌++◌, map, filter, flat_map, max, min, nat_lt, slice_index, slice_index_or, None, Some, length, if◌then◌else◌}
use Rattle.std.specs.List.{list_any}
use Rattle.sd_num.specs.Lists.{below, map_or}
use Rattle.sd_plan.specs.topo.Network.{Network}
use Rattle.sd_plan.specs.topo.Places.{domain_of}
use Rattle.sd_plan.specs.declared.domain.DomainId.{DomainId}
use Rattle.sd_plan.specs.declared.domain.DomainId.TheVariants as domain
use Rattle.sd_plan.specs.IndexedPlan.{IndexedPlan, span_of, is_within}
use Rattle.sd_plan.specs.declared.index.Span.{Span}

-- the span, if a place lies in it
abbrev pub non_empty : Span → List Span
non_empty span = if nat_lt span.from span.to then span ∷ [] else []

-- the places of a span that do not lie in another
abbrev pub outside : Span → Span → List Span
outside span cut =
    non_empty (record { from = span.from; to = min span.to cut.from })
    ++ non_empty (record { from = max span.from cut.to; to = span.to })

-- a span without its first place
abbrev pub behind_first : Span → Span
behind_first span = if nat_lt span.from span.to then record { from = span.from + 1; to = span.to } else span

-- where the members stand that the failed device a hits, if b is the backup root: those strictly below a, but those strictly below b only if a is b or below it
abbrev pub below_device : IndexedPlan → ℕ → ℕ → List Span
below_device index b a =
    if is_within (span_of index b) (span_of index a).from then non_empty (behind_first (span_of index a))
    else outside (behind_first (span_of index a)) (behind_first (span_of index b))

-- the same of a failed link above c: c and those below it, but those strictly below b only if c is
abbrev pub below_child : IndexedPlan → ℕ → ℕ → List Span
below_child index b c =
    if is_within (behind_first (span_of index b)) (span_of index c).from then non_empty (span_of index c)
    else outside (span_of index c) (behind_first (span_of index b))

-- the same of a failed link: nobody's primary hop may go over it
abbrev pub below_link : IndexedPlan → ℕ → ℕ → List Span
below_link index b l = map_or (slice_index_or index.carried l None) [] (below_child index b)

-- the same of all devices and links of a domain
abbrev pub below_domain : Network → IndexedPlan → ℕ → DomainId → List Span
below_domain net index b (domain.Listed k) = flat_map (below_device index b) (domain_of net k).devices ++ flat_map (below_link index b) (domain_of net k).links
below_domain net index b (domain.Device a) = below_device index b a
below_domain net index b (domain.Link l) = below_link index b l

-- the place lies in one of the spans
abbrev pub is_covered : List Span → ℕ → Bool
is_covered spans place = list_any (λ span. is_within span place) spans

-- what stands in a list at the places before n that pass the test, in order
abbrev pub picked : List ℕ → (ℕ → Bool) → ℕ → List ℕ
picked order test n = map (slice_index order) (filter test (below n))

-- the devices whose primary hops go over links are some of the index
abbrev pub CarriesDevices : IndexedPlan → Type 0
CarriesDevices index = (l c : ℕ) → slice_index_or index.carried l None ≡ Some c → c < length index.spans
