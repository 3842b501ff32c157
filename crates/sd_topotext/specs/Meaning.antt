-- The meaning of a topology text: the network that its tree names, or its first fault. Keys are judged in the order of the lines below.
use Rattle.std.specs.Prelude.{ℕ, ◌+◌, ◌^◌, ◌&&◌, ◌||◌, ℤ, pos, negsuc, List, [], ◌∷◌, ◌++◌, Bool, not, nat_le, nat_eq, length, map, sum_by, Option, None, Some, is_none, Result, Ok, Err, codes, if◌then◌else◌}
use Rattle.std.specs.List.{list_any}
use Rattle.std.specs.Str.{bytes_eq}
use Rattle.toml.specs.Data.{Data, Items, no_items, item, Members, get_member, as_integer, as_table, as_array, as_str}
use Rattle.sd_num.specs.declared.Rates.{Rates}
use Rattle.sd_num.specs.Lists.{has, ascending}
use Rattle.sd_topotext.specs.Then.{◌>>=◌}
use Rattle.sd_topotext.specs.Keys.{word_of}
use Rattle.sd_plan.specs.topo.Network.{Network, Device as DeviceMeant, Link as LinkMeant, Domain as DomainMeant, is_name, number_in}
use Rattle.sd_plan.specs.declared.topo.Side.{Side}
use Rattle.sd_plan.specs.declared.topo.Side.TheVariants as sides
use Rattle.sd_plan.specs.declared.topo.Params.{Params}
use Rattle.sd_plan.specs.declared.topo.Delay.{Delay}
use Rattle.sd_topotext.specs.declared.fault.Place.{Place}
use Rattle.sd_topotext.specs.declared.fault.Key.{Key}
use Rattle.sd_topotext.specs.declared.fault.Key.TheVariants.{Version, Ppm, Grain, Period, Tick, Loss, Depth, Device, DeviceName, DeviceSide, Link, LinkName, LinkEnds, LinkMin, LinkMax, Domain, DomainName, DomainDevices, DomainLinks, Roots, DevicePpm, DeviceGrain, LinkBackMin, LinkBackMax}
use Rattle.sd_topotext.specs.declared.fault.Kind.TheVariants as kinds
use Rattle.sd_topotext.specs.declared.fault.TopoFault.{TopoFault}
use Rattle.sd_topotext.specs.declared.fault.TopoFault.TheVariants.{NotToml, Missing, WrongKind, Range, TwiceNamed, UnknownName, SelfLink, Limit}

-- the key, in the entry of its array of tables, from 1; 0 at the top
abbrev pub place : Key → ℕ → Place
place key entry = record { key = key; entry = entry }

-- x, where the test holds
abbrev pub allowed : {X : Type 0} → Bool → TopoFault → X → Result X TopoFault
allowed test fault x = if test then Ok x else Err fault

-- the value at a key
abbrev pub value : Key → Members → Option Data
value key ms = get_member (word_of key) ms

-- what has to be there, and of its kind
abbrev pub there : {X : Type 0} → Place → Option X → Result X TopoFault
there p None = Err (Missing p)
there p (Some x) = Ok x

-- what is there, or the fault that it is of another kind
abbrev pub of_kind : {X : Type 0} → Place → Option X → Result X TopoFault
of_kind p None = Err (WrongKind p)
of_kind p (Some x) = Ok x

-- a whole number from the least to the greatest
abbrev pub in_range : Place → ℕ → ℕ → ℤ → Result ℕ TopoFault
in_range p least most (pos n) = allowed (nat_le least n && nat_le n most) (Range p) n
in_range p least most (negsuc n) = Err (Range p)

-- the number at a key, from the least to the greatest
unfoldable pub number : Key → ℕ → ℕ → ℕ → Members → Result ℕ TopoFault
number key entry least most ms = do
  d ← there (place key entry) (value key ms)
  z ← of_kind (place key entry) (as_integer d)
  in_range (place key entry) least most z

-- the number at a key that may be missing
unfoldable pub number_or : Key → ℕ → ℕ → ℕ → Members → Result ℕ TopoFault
number_or key entry most default ms = if is_none (value key ms) then Ok default else number key entry 0 most ms

-- the string at a key
unfoldable pub text : Key → ℕ → Members → Result (List ℕ) TopoFault
text key entry ms = do
  d ← there (place key entry) (value key ms)
  of_kind (place key entry) (as_str d)

-- the array at a key
unfoldable pub array : Key → ℕ → Members → Result Items TopoFault
array key entry ms = do
  d ← there (place key entry) (value key ms)
  of_kind (place key entry) (as_array d)

-- the array at a key that may be missing
unfoldable pub array_or_none : Key → ℕ → Members → Result Items TopoFault
array_or_none key entry ms = if is_none (value key ms) then Ok no_items else array key entry ms

-- how many items there are
abbrev pub count_of : Items → ℕ
count_of no_items = 0
count_of (item d ds) = count_of ds + 1

-- what each item adds to what those before it gave
abbrev pub each_from : {B : Type 0} → (List B → Data → Result (List B) TopoFault) → List B → Items → Result (List B) TopoFault
each_from step seen no_items = Ok seen
each_from step seen (item d ds) = do
  more ← step seen d
  each_from step more ds

-- an entry's own name, within the limits of names and new among its kind
unfoldable pub own_name : Key → ℕ → List (List ℕ) → Members → Result (List ℕ) TopoFault
own_name key entry names ms = do
  name ← text key entry ms
  name ← allowed (is_name name) (Range (place key entry)) name
  allowed (not (list_any (bytes_eq name) names)) (TwiceNamed (place key entry)) name

-- the thing that is named
abbrev pub known : Place → Option ℕ → Result ℕ TopoFault
known p None = Err (UnknownName p)
known p (Some n) = Ok n

-- the number of the device or link that an element of an array names
unfoldable pub referred : Place → List (List ℕ) → Data → Result ℕ TopoFault
referred p names d = do
  name ← of_kind p (as_str d)
  known p (number_in names name)

-- the numbers listed so far and that of the next element. A name that was listed before is known, so it is TwiceNamed whichever is judged first
unfoldable pub one_more : Place → List (List ℕ) → List ℕ → Data → Result (List ℕ) TopoFault
one_more p names seen d = do
  n ← referred p names d
  allowed (not (has seen n)) (TwiceNamed p) (seen ++ n ∷ [])

-- the numbers at the top but for the version
unfoldable pub params_in : Members → Result Params TopoFault
params_in ms = do
  ppm ← number Ppm 0 0 100000 ms
  grain ← number Grain 0 0 (10 ^ 12) ms
  period ← number Period 0 1 (10 ^ 12) ms
  tick ← number Tick 0 1 (10 ^ 12) ms
  loss ← number Loss 0 0 100 ms
  depth ← number Depth 0 1 64 ms
  Ok (record { ppm = ppm; grain = grain; period = period; tick = tick; loss = loss; depth = depth })

-- "root" or "backup"
abbrev pub side_of_word : Place → List ℕ → Result Side TopoFault
side_of_word p word =
    if bytes_eq word (codes "root") then Ok sides.Root
    else if bytes_eq word (codes "backup") then Ok sides.Backup
    else Err (Range p)

-- a device's side, root where it is missing
unfoldable pub side_in : ℕ → Members → Result Side TopoFault
side_in entry ms =
    if is_none (value DeviceSide ms) then Ok sides.Root
    else (text DeviceSide entry ms >>= side_of_word (place DeviceSide entry))

-- a device's own rates, those at the top where they are missing
unfoldable pub rates_in : ℕ → Rates → ℕ → Members → Result Rates TopoFault
rates_in version top entry ms =
    if nat_eq version 1 then Ok top
    else do
      ppm ← number_or DevicePpm entry 100000 top.ppm ms
      grain ← number_or DeviceGrain entry (10 ^ 12) top.grain ms
      Ok (record { ppm = ppm; grain = grain })

-- the device of an entry, whose name is none of those before
unfoldable pub device_in : ℕ → Rates → List (List ℕ) → ℕ → Data → Result DeviceMeant TopoFault
device_in version top names entry d = do
  ms ← of_kind (place Device entry) (as_table d)
  name ← own_name DeviceName entry names ms
  side ← side_in entry ms
  rates ← rates_in version top entry ms
  Ok (record { name = name; side = side; rates = rates })

-- the devices so far and that of the next entry
unfoldable pub one_more_device : ℕ → Rates → List DeviceMeant → Data → Result (List DeviceMeant) TopoFault
one_more_device version top seen d = do
  device ← device_in version top (map (λ device. device.name) seen) (length seen + 1) d
  Ok (seen ++ device ∷ [])

-- the devices, at least one
unfoldable pub devices_in : ℕ → Rates → Members → Result (List DeviceMeant) TopoFault
devices_in version top ms = do
  ds ← array Device 0 ms
  ds ← allowed (nat_le 1 (count_of ds)) (Range (place Device 0)) ds
  ds ← allowed (nat_le (count_of ds) 4096) (Limit kinds.Device) ds
  each_from (one_more_device version top) [] ds

-- the two elements of an array that has no others
abbrev pub two : Place → Items → Result (Data × Data) TopoFault
two p no_items = Err (Range p)
two p (item a no_items) = Err (Range p)
two p (item a (item b no_items)) = Ok (a, b)
two p (item a (item b (item c ds))) = Err (Range p)

-- the two ends of a link, which differ
unfoldable pub ends_in : List (List ℕ) → ℕ → Members → Result (ℕ × ℕ) TopoFault
ends_in devices entry ms = do
  ds ← array LinkEnds entry ms
  pair ← two (place LinkEnds entry) ds
  a ← referred (place LinkEnds entry) devices pair.0
  b ← referred (place LinkEnds entry) devices pair.1
  allowed (not (nat_eq a b)) (SelfLink (place LinkEnds entry)) (a, b)

-- the delay bounds at two keys, in order
unfoldable pub delay_in : Key → Key → ℕ → Members → Result Delay TopoFault
delay_in least most entry ms = do
  min ← number least entry 0 (10 ^ 12) ms
  max ← number most entry min (10 ^ 12) ms
  Ok (record { min = min; max = max })

-- the way back: its own bounds, those of the way there where both are missing
unfoldable pub back_in : ℕ → Delay → ℕ → Members → Result Delay TopoFault
back_in version forth entry ms =
    if nat_eq version 1 || (is_none (value LinkBackMin ms) && is_none (value LinkBackMax ms)) then Ok forth
    else delay_in LinkBackMin LinkBackMax entry ms

-- the link of an entry, whose name is none of those before
unfoldable pub link_in : ℕ → List (List ℕ) → List (List ℕ) → ℕ → Data → Result LinkMeant TopoFault
link_in version devices names entry d = do
  ms ← of_kind (place Link entry) (as_table d)
  name ← own_name LinkName entry names ms
  ends ← ends_in devices entry ms
  forth ← delay_in LinkMin LinkMax entry ms
  back ← back_in version forth entry ms
  Ok (record { name = name; entry = record { end_a = ends.0; end_b = ends.1; min = forth.min; max = forth.max; back_min = back.min; back_max = back.max } })

-- the links so far and that of the next entry
unfoldable pub one_more_link : ℕ → List (List ℕ) → List LinkMeant → Data → Result (List LinkMeant) TopoFault
one_more_link version devices seen d = do
  link ← link_in version devices (map (λ link. link.name) seen) (length seen + 1) d
  Ok (seen ++ link ∷ [])

-- the links that a text lists, or its first fault there
unfoldable pub links_in : ℕ → List (List ℕ) → Members → Result (List LinkMeant) TopoFault
links_in version devices ms = do
  ds ← array_or_none Link 0 ms
  ds ← allowed (nat_le (count_of ds) 32768) (Limit kinds.Link) ds
  each_from (one_more_link version devices) [] ds

-- the things that a domain lists at a key, ascending
unfoldable pub members_in : Key → ℕ → List (List ℕ) → Members → Result (List ℕ) TopoFault
members_in key entry names ms = do
  ds ← array_or_none key entry ms
  numbers ← each_from (one_more (place key entry) names) [] ds
  Ok (ascending (length names) numbers)

-- the domain of an entry, whose name is none of those before
unfoldable pub domain_in : List (List ℕ) → List (List ℕ) → List (List ℕ) → ℕ → Data → Result DomainMeant TopoFault
domain_in devices links names entry d = do
  ms ← of_kind (place Domain entry) (as_table d)
  name ← own_name DomainName entry names ms
  device_members ← members_in DomainDevices entry devices ms
  link_members ← members_in DomainLinks entry links ms
  Ok (record { name = name; devices = device_members; links = link_members })

-- how many things the domains list
abbrev pub things_listed : List DomainMeant → ℕ
things_listed domains = sum_by (λ domain. length domain.devices + length domain.links) domains

-- the domains so far and that of the next entry, which together list only so many things
unfoldable pub one_more_domain : List (List ℕ) → List (List ℕ) → List DomainMeant → Data → Result (List DomainMeant) TopoFault
one_more_domain devices links seen d = do
  domain ← domain_in devices links (map (λ domain. domain.name) seen) (length seen + 1) d
  allowed (nat_le (things_listed (seen ++ domain ∷ [])) 262144) (Limit kinds.Item) (seen ++ domain ∷ [])

-- the domains that a text lists, or its first fault there
unfoldable pub domains_in : List (List ℕ) → List (List ℕ) → Members → Result (List DomainMeant) TopoFault
domains_in devices links ms = do
  ds ← array_or_none Domain 0 ms
  ds ← allowed (nat_le (count_of ds) 4096) (Limit kinds.Domain) ds
  each_from (one_more_domain devices links) [] ds

-- the candidates for root and backup root, at least one, in order
unfoldable pub roots_in : List (List ℕ) → Members → Result (List ℕ) TopoFault
roots_in devices ms = do
  ds ← array Roots 0 ms
  ds ← allowed (nat_le 1 (count_of ds)) (Range (place Roots 0)) ds
  each_from (one_more (place Roots 0) devices) [] ds

-- the rates of a device that names none
abbrev pub top_rates : Params → Rates
top_rates params = record { ppm = params.ppm; grain = params.grain }

-- the meaning of a text's tree, or its first fault
unfoldable pub network_in : Members → Result Network TopoFault
network_in ms = do
  version ← number Version 0 1 2 ms
  params ← params_in ms
  devices ← devices_in version (top_rates params) ms
  links ← links_in version (map (λ device. device.name) devices) ms
  domains ← domains_in (map (λ device. device.name) devices) (map (λ link. link.name) links) ms
  roots ← roots_in (map (λ device. device.name) devices) ms
  Ok (record { version = version; params = params; devices = devices; links = links; domains = domains; roots = roots })

-- the meaning of a text, from its tree where it has one
unfoldable pub network_of : Option Members → Result Network TopoFault
network_of None = Err NotToml
network_of (Some ms) = network_in ms
