-- What contracts see of an index of walks, and of which plan it is one.
use Rattle.std.specs.Prelude.{◌≡◌, ℕ, ◌<◌, ◌≤◌, Bool, ◌&&◌, not, List, length, map, filter_map, find, nat_eq, nat_le, nat_lt, slice_get, slice_index_or, Option, Some, None, IsTrue, if◌then◌else◌, false}
use Rattle.std.specs.List.{list_any}
use Rattle.sd_num.specs.Lists.{map_or}
use Rattle.sd_plan.specs.topo.Network.{Network, device_numbers, link_numbers, link_of}
use Rattle.sd_plan.specs.topo.Places.{is_end_of}
use Rattle.sd_plan.specs.declared.topo.LinkEntry.{LinkEntry}
use Rattle.sd_plan.specs.declared.topo.Thing.{Thing}
use Rattle.sd_plan.specs.declared.topo.Thing.TheVariants as thing
use Rattle.sd_plan.specs.Plans.{Fits, is_member, is_present, primary_of}
use Rattle.sd_plan.specs.Walks as walks
use Rattle.sd_plan.specs.Structure.{structure_breach}
use Rattle.sd_plan.specs.declared.Plan.{Plan}
use Rattle.sd_plan.specs.declared.End.{End}
use Rattle.sd_plan.specs.declared.index.Span.{Span}

-- the members in an order in which all those whose walk leads over a device stand together, it first; by device where these stand;
-- by link the device whose primary parent it leads to; by device its usable links
pub record IndexedPlan : Type 0 where
  pub order : List ℕ
  pub spans : List Span
  pub carried : List (Option ℕ)
  pub usable : List (List End)
  pub backup_root : ℕ

-- the empty span
abbrev pub no_span : Span
no_span = record { from = 0; to = 0 }

-- where the members whose walk leads over a device stand in the order
abbrev pub span_of : IndexedPlan → ℕ → Span
span_of index a = slice_index_or index.spans a no_span

-- the place lies in the span
abbrev pub is_within : Span → ℕ → Bool
is_within span place = nat_le span.from place && nat_lt place span.to

-- the place of d lies among those of the members below a
abbrev pub stands_below : IndexedPlan → ℕ → ℕ → Bool
stands_below index d a = is_within (span_of index a) (span_of index d).from

-- the walk of d comes to the backup root, after its beginning, before it comes to a
abbrev pub is_cut_before : IndexedPlan → ℕ → ℕ → Bool
is_cut_before index d a = not (nat_eq d index.backup_root) && stands_below index d index.backup_root && not (stands_below index a index.backup_root)

-- the device's primary hop goes over the link
abbrev pub goes_over : Plan → ℕ → ℕ → Bool
goes_over plan l d = map_or (primary_of plan d) false (λ hop. nat_eq hop.link l)

-- the device whose primary hop goes over the link, if there is one
abbrev pub carried_over : Network → Plan → ℕ → Option ℕ
carried_over net plan l = find (goes_over plan l) (device_numbers net)

-- the end of a link that is not d
abbrev pub other_end : LinkEntry → ℕ → ℕ
other_end link d = if nat_eq d link.end_a then link.end_b else link.end_a

-- the other end of a link of d, where the link is not left out and the end is a member
abbrev pub usable_end : Network → Plan → ℕ → ℕ → Option End
usable_end net plan d l =
    if is_end_of (link_of net l) d && is_present plan l && is_member plan (other_end (link_of net l) d)
    then Some (record { link = l; device = other_end (link_of net l) d })
    else None

-- the usable links of a device with their other ends, by ascending link
abbrev pub usable_ends : Network → Plan → ℕ → List End
usable_ends net plan d = filter_map (usable_end net plan d) (link_numbers net)

-- it is an index of this plan, which fits the network and is well formed
pub record IsIndexOf (net : Network) (plan : Plan) (index : IndexedPlan) : Type 0 where
  pub fits : Fits net plan
  pub structured : structure_breach net plan ≡ None
  pub backup_root : index.backup_root ≡ plan.backup_root
  pub spans : length index.spans ≡ length net.devices
  pub carried : index.carried ≡ map (carried_over net plan) (link_numbers net)
  pub usable : index.usable ≡ map (usable_ends net plan) (device_numbers net)
  pub within : (a : ℕ) → a < length net.devices → ((span_of index a).from ≤ (span_of index a).to) × ((span_of index a).to ≤ length index.order)
  pub placed : (d : ℕ) → d < length net.devices → IsTrue (is_member plan d) → slice_get index.order (span_of index d).from ≡ Some d
  pub listed : (i d : ℕ) → slice_get index.order i ≡ Some d → (d < length net.devices) × IsTrue (is_member plan d) × ((span_of index d).from ≡ i)
  pub below : (d a : ℕ) → d < length net.devices → a < length net.devices → IsTrue (is_member plan d) → stands_below index d a ≡ walks.on_walk net plan d a

-- the device is one of the things
abbrev pub has_device : List Thing → ℕ → Bool
has_device things a = list_any (λ t. elim t [ thing.Device d ↦ nat_eq d a | thing.Link l ↦ false ]) things

-- the link is one of the things
abbrev pub has_link : List Thing → ℕ → Bool
has_link things l = list_any (λ t. elim t [ thing.Device d ↦ false | thing.Link m ↦ nat_eq m l ]) things
