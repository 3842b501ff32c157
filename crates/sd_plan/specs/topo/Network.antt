-- A datacenter: devices with their oscillators, links with the delays of both directions, and listed fault domains.
use Rattle.std.specs.Prelude.{◌≡◌, ℕ, Bool, ◌&&◌, List, ◌∷◌, length, map, flat_map, nat_eq, nat_le, slice_get, position, Option, Some, if◌then◌else◌, [], ◌||◌}
use Rattle.std.specs.List.{list_all}
use Rattle.std.specs.Str.{bytes_eq}
use Rattle.sd_num.specs.declared.Rates.{Rates}
use Rattle.sd_num.specs.declared.Bounds.{Bounds}
use Rattle.sd_num.specs.Numbers.{low, up, correction}
use Rattle.sd_num.specs.Lists.{below, greatest, least, at_place}
use Rattle.sd_plan.specs.declared.topo.Side.{Side}
use Rattle.sd_plan.specs.declared.topo.Params.{Params}
use Rattle.sd_plan.specs.declared.topo.LinkEntry.{LinkEntry}
use Rattle.sd_plan.specs.declared.topo.Delay.{Delay}

-- a device: its name, its side and the rates of its own oscillator
pub record Device : Type 0 where
  pub name : List ℕ
  pub side : Side
  pub rates : Rates

-- a link: its name, its ends and the delay bounds of both directions
pub record Link : Type 0 where
  pub name : List ℕ
  pub entry : LinkEntry

-- a listed fault domain: the devices and links, by number, that may fail together
pub record Domain : Type 0 where
  pub name : List ℕ
  pub devices : List ℕ
  pub links : List ℕ

-- a topology: devices, links and listed domains are numbered from 0 in this order; roots are the candidates for root and backup root
pub record Network : Type 0 where
  pub version : ℕ
  pub params : Params
  pub devices : List Device
  pub links : List Link
  pub domains : List Domain
  pub roots : List ℕ

-- the numbers of all devices, ascending
abbrev pub device_numbers : Network → List ℕ
device_numbers net = below (length net.devices)

-- the numbers of all links, ascending
abbrev pub link_numbers : Network → List ℕ
link_numbers net = below (length net.links)

-- what stands where nothing is
abbrev pub no_rates : Rates
no_rates = record { ppm = 0; grain = 0 }

-- the entry that stands where there is no link
abbrev pub no_link : LinkEntry
no_link = record { end_a = 0; end_b = 0; min = 0; max = 0; back_min = 0; back_max = 0 }

-- the rates of a device's own oscillator
abbrev pub rates_of : Network → ℕ → Rates
rates_of net d = at_place net.devices d no_rates (λ device. device.rates)

-- the entry of the link with this number
abbrev pub link_of : Network → ℕ → LinkEntry
link_of net l = at_place net.links l no_link (λ link. link.entry)

-- the delay bounds of the link's direction towards the receiver, which is one of its ends
abbrev pub delay_towards : LinkEntry → ℕ → Delay
delay_towards link receiver =
    if nat_eq receiver link.end_b then record { min = link.min; max = link.max }
    else record { min = link.back_min; max = link.back_max }

-- the delay bounds of the link with this number, in its direction towards the receiver
abbrev pub delay_of : Network → ℕ → ℕ → Delay
delay_of net l receiver = delay_towards (link_of net l) receiver

-- how a message that came over the link to the receiver is corrected
abbrev pub bounds_of : Network → ℕ → ℕ → Bounds
bounds_of net l receiver = correction (delay_of net l receiver).min (delay_of net l receiver).max

-- the greatest delay of any link in either direction, 0 where there is no link
abbrev pub greatest_delay : Network → ℕ
greatest_delay net = greatest (flat_map (λ link. link.entry.max ∷ link.entry.back_max ∷ []) net.links)

-- the names, by number
abbrev pub device_names : Network → List (List ℕ)
device_names net = map (λ device. device.name) net.devices

-- the names of the links, by number
abbrev pub link_names : Network → List (List ℕ)
link_names net = map (λ link. link.name) net.links

-- the name of a device, of a link, and of a listed domain
abbrev pub device_name : Network → ℕ → List ℕ
device_name net d = at_place net.devices d [] (λ device. device.name)

-- the name of the link with this number
abbrev pub link_name : Network → ℕ → List ℕ
link_name net l = at_place net.links l [] (λ link. link.name)

-- the name of the listed domain with this number
abbrev pub domain_name : Network → ℕ → List ℕ
domain_name net k = at_place net.domains k [] (λ listed. listed.name)

-- the number of the thing with a name, if there is one
abbrev pub number_in : List (List ℕ) → List ℕ → Option ℕ
number_in names name = position (bytes_eq name) names

-- the name at a number
abbrev pub name_at : List (List ℕ) → ℕ → List ℕ
name_at names n = at_place names n [] (λ name. name)

-- the least reference time that passes while any device's counter advances by x
abbrev pub least_low : Network → ℕ → ℕ
least_low net x = least (map (λ device. low device.rates x) net.devices)

-- the greatest reference time that passes meanwhile
abbrev pub greatest_up : Network → ℕ → ℕ
greatest_up net x = greatest (map (λ device. up device.rates x) net.devices)

-- the link joins the two devices, in either order
abbrev pub joins : Network → ℕ → ℕ → ℕ → Bool
joins net l d e =
    (nat_eq (link_of net l).end_a d && nat_eq (link_of net l).end_b e)
    || (nat_eq (link_of net l).end_a e && nat_eq (link_of net l).end_b d)

-- f of each element
abbrev pub Each : {A : Type 0} → (A → Type 0) → List A → Type 0
Each {A} P xs = (i : ℕ) (x : A) → slice_get xs i ≡ Some x → P x

-- a byte that a name may have: an ASCII letter or digit, '-', '_' or '.'
abbrev pub is_name_byte : ℕ → Bool
is_name_byte b = (nat_le 48 b && nat_le b 57) || (nat_le 65 b && nat_le b 90) || (nat_le 97 b && nat_le b 122) || nat_eq b 45 || nat_eq b 95 || nat_eq b 46

-- within the limits of names
abbrev pub is_name : List ℕ → Bool
is_name name = nat_le 1 (length name) && nat_le (length name) 64 && list_all is_name_byte name
