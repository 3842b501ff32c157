-- The tree that a network is printed as is read as the same network, with version 2.
use Rattle.std.proofs.Common.{◌≡◌, ◌≢◌, ℕ, ◌+◌, ◌<◌, ◌≤◌, ◌^◌, true, false, nat_eq, List, [], ◌∷◌, ◌++◌, length, map, Some, Result, Ok, All, IsTrue, refl, ap, sym, ◌∙◌, subst, arith, append_assoc}
use Rattle.std.specs.List.{list_any}
use Rattle.std.specs.Str.{bytes_eq}
use Rattle.std.proofs.lemmas.Bool.{le-leb, ne_eqb, eqb-true}
use Rattle.std.proofs.lemmas.List.Sums.{sum_by-append}
use Rattle.std.proofs.lemmas.List.{append-nil, map-append}
use Rattle.toml.specs.Data.{Data, Items, Members, string, array, table, depth, items_depth, members_depth}
use Rattle.toml.specs.View.{items_of}
use Rattle.sd_num.specs.declared.Rates.{Rates}
use Rattle.sd_num.specs.Lists.{has, ascends}
use Rattle.sd_plan.specs.declared.topo.Side.{Side}
use Rattle.sd_plan.specs.declared.topo.Side.TheVariants as sides
use Rattle.sd_plan.specs.declared.topo.Delay.{Delay}
use Rattle.sd_topotext.specs.declared.fault.TopoFault.{TopoFault}
use Rattle.sd_topotext.specs.declared.fault.Place.{Place}
use Rattle.sd_topotext.specs.declared.fault.Key.{Key}
use Rattle.sd_topotext.specs.declared.fault.Key.TheVariants as keys
use Rattle.sd_plan.specs.topo.Network.{Network, Device, Link, Domain, Each, is_name, name_at, device_names, link_names}
use Rattle.sd_plan.specs.topo.Limits.{IsNetwork, IsRates, IsLink, AreDistinct}
use Rattle.sd_topotext.specs.Printed.{whole, side_word, names_data, device_tree, link_tree, domain_tree, params_tree, network_tree}
use Rattle.sd_topotext.specs.Meaning.{place, value, count_of, each_from, number, number_or, text, array as array_at, array_or_none, own_name, referred, one_more, params_in, top_rates, side_in, rates_in, device_in, one_more_device, devices_in, ends_in, delay_in, back_in, link_in, one_more_link, links_in, members_in, domain_in, things_listed, one_more_domain, domains_in, roots_in, network_in}
use Rattle.sd_plan.proofs.topo.Ascending.{ascending-itself}
use Rattle.std.specs.Str.{IsUtf8}
use Rattle.toml.specs.Parse.{parse_document}
use Rattle.sd_topotext.specs.Reading.{tree_of}
use Rattle.sd_topotext.specs.Versions.{with_version_two}
use Rattle.sd_topotext.specs.Meaning.{network_of}
use Rattle.sd_topotext.proofs.Trees.{tree_known}
use Rattle.sd_plan.proofs.topo.Laws.{group_of, IsGroup}
use Rattle.sd_plan.proofs.topo.Lists.{names_count, each_of}
use Rattle.sd_plan.proofs.topo.Places.{stands, none_before, same_bytes, number_back, rises-ascending, rising_none}

-- a number that is there and in range is read
number_read : (key : Key) (entry least most : ℕ) (ms : Members) (n : ℕ) → value key ms ≡ Some (whole n) → least ≤ n → n ≤ most
    → number key entry least most ms ≡ Ok n
unfolding number
number_read key entry least most ms n at low high = rw (at, le-leb least n low, le-leb n most high) refl

-- so is one at a key that may be missing
number_or_read : (key : Key) (entry most default : ℕ) (ms : Members) (n : ℕ) → value key ms ≡ Some (whole n) → n ≤ most
    → number_or key entry most default ms ≡ Ok n
unfolding number_or
number_or_read key entry most default ms n at high = rw at (number_read key entry 0 most ms n at (omega arith) high)

-- a text that is there is read
text_read : (key : Key) (entry : ℕ) (ms : Members) (s : List ℕ) → value key ms ≡ Some (string s) → text key entry ms ≡ Ok s
unfolding text
text_read key entry ms s at = rw at refl

-- an array that is there is read
array_read : (key : Key) (entry : ℕ) (ms : Members) (ds : Items) → value key ms ≡ Some (array ds) → array_at key entry ms ≡ Ok ds
unfolding array_at
array_read key entry ms ds at = rw at refl

-- so is one that may be missing
array_or_none_read : (key : Key) (entry : ℕ) (ms : Members) (ds : Items) → value key ms ≡ Some (array ds) → array_or_none key entry ms ≡ Ok ds
unfolding array_or_none
array_or_none_read key entry ms ds at = rw at (array_read key entry ms ds at)

-- a new name within the limits is read
own_name_read : (key : Key) (entry : ℕ) (names : List (List ℕ)) (ms : Members) (name : List ℕ) → value key ms ≡ Some (string name) → is_name name ≡ true
    → list_any (bytes_eq name) names ≡ false → own_name key entry names ms ≡ Ok name
unfolding own_name
own_name_read key entry names ms name at good new = rw (text_read key entry ms name at, good, new) refl

-- a thing that is named is found
referred_read : (p : Place) (names : List (List ℕ)) (n : ℕ) → AreDistinct names → n < length names → referred p names (string (name_at names n)) ≡ Ok n
unfolding referred
referred_read p names n apart within = rw (number_back names n apart within) refl

-- how many elements there are
count_read : {A : Type 0} (tree : A → Data) (xs : List A) → count_of (items_of (map tree xs)) ≡ length xs
count_read tree [] = refl
count_read tree (x ∷ xs) = let rest = count_read tree xs in omega (arith, rest)

-- elements that are read one by one are read together
each_read : {A : Type 0} (step : List A → Data → Result (List A) TopoFault) (tree : A → Data) (all : List A)
    → ((before after : List A) (x : A) → before ++ x ∷ after ≡ all → step before (tree x) ≡ Ok (before ++ x ∷ []))
    → (before rest : List A) → before ++ rest ≡ all → each_from step before (items_of (map tree rest)) ≡ Ok all
each_read {A} step tree all reads before [] is = let ok : List A → Result (List A) TopoFault = λ l. Ok l in ap ok (sym (append-nil before) ∙ is)
each_read step tree all reads before (x ∷ rest) is =
    rw (reads before rest x is) (each_read step tree all reads (before ++ x ∷ []) rest (append_assoc before (x ∷ []) rest ∙ is))

-- one more listed thing is read
one_more_read : (p : Place) (names : List (List ℕ)) (seen : List ℕ) (n : ℕ) → AreDistinct names → n < length names → has seen n ≡ false
    → one_more p names seen (string (name_at names n)) ≡ Ok (seen ++ n ∷ [])
unfolding one_more
one_more_read p names seen n apart within none = rw (referred_read p names n apart within, none) refl

-- the numbers that a list names are read, where none comes twice
listed_read : (p : Place) (names : List (List ℕ)) (ns : List ℕ) → AreDistinct names → Each (λ n. n < length names) ns
    → ((before after : List ℕ) (n : ℕ) → before ++ n ∷ after ≡ ns → has before n ≡ false)
    → each_from (one_more p names) [] (items_of (map (λ n. string (name_at names n)) ns)) ≡ Ok ns
listed_read p names ns apart within new = each_read (one_more p names) (λ n. string (name_at names n)) ns reads [] ns refl
  where
    reads : (before after : List ℕ) (n : ℕ) → before ++ n ∷ after ≡ ns → one_more p names before (string (name_at names n)) ≡ Ok (before ++ n ∷ [])
    reads before after n is = one_more_read p names before n apart (within (length before) n (stands ns before after n is)) (new before after n is)

-- a side is read
side_read : (entry : ℕ) (ms : Members) (side : Side) → value keys.DeviceSide ms ≡ Some (string (side_word side)) → side_in entry ms ≡ Ok side
unfolding side_in
side_read entry ms sides.Root at = rw (text_read keys.DeviceSide entry ms (side_word sides.Root) at, at) refl
side_read entry ms sides.Backup at = rw (text_read keys.DeviceSide entry ms (side_word sides.Backup) at, at) refl

-- own rates are read
rates_read : (top : Rates) (entry : ℕ) (ms : Members) (rates : Rates) → value keys.DevicePpm ms ≡ Some (whole rates.ppm)
    → value keys.DeviceGrain ms ≡ Some (whole rates.grain) → IsRates rates → rates_in 2 top entry ms ≡ Ok rates
unfolding rates_in
rates_read top entry ms rates ppm grain good =
    rw (
      number_or_read keys.DevicePpm entry 100000 top.ppm ms rates.ppm ppm good.0,
      number_or_read keys.DeviceGrain entry
          (10 ^ 12) top.grain ms rates.grain grain good.1,
    ) refl

-- a device's members
device_at : (device : Device) → (value keys.DeviceName (device_tree device) ≡ Some (string device.name))
    × (value keys.DeviceSide (device_tree device) ≡ Some (string (side_word device.side)))
    × (value keys.DevicePpm (device_tree device) ≡ Some (whole device.rates.ppm))
    × (value keys.DeviceGrain (device_tree device) ≡ Some (whole device.rates.grain))
unfolding device_tree
device_at device = (refl, refl, refl, refl)

-- a printed device is read
device_read : (top : Rates) (names : List (List ℕ)) (entry : ℕ) (device : Device) → is_name device.name ≡ true → list_any (bytes_eq device.name) names ≡ false
    → IsRates device.rates → device_in 2 top names entry (table (device_tree device)) ≡ Ok device
unfolding device_in
device_read top names entry device good new rates =
    let at = device_at device in
    rw (
      own_name_read keys.DeviceName entry names (device_tree device) device.name at.0 good new,
      side_read entry
          (device_tree device) device.side at.1,
      rates_read top entry (device_tree device) device.rates at.2 at.3 rates,
    ) refl

-- the name at a place of the names
named_at : {B : Type 0} (name : B → List ℕ) (xs before after : List B) (x : B) → before ++ x ∷ after ≡ xs
    → map name before ++ name x ∷ map name after ≡ map name xs
named_at name xs before after x is = sym (map-append name before (x ∷ after)) ∙ ap (map name) is

-- the name of an element is none of those before
new_name : {B : Type 0} (name : B → List ℕ) (xs before after : List B) (x : B) → AreDistinct (map name xs) → before ++ x ∷ after ≡ xs
    → list_any (bytes_eq (name x)) (map name before) ≡ false
new_name name xs before after x apart is =
    none_before bytes_eq same_bytes (map name xs) (map name before) (map name after) (name x) apart (named_at name xs before after x is)

-- and within the limits
good_name : {B : Type 0} (name : B → List ℕ) (xs before after : List B) (x : B) → Each (λ n. IsTrue (is_name n)) (map name xs) → before ++ x ∷ after ≡ xs
    → is_name (name x) ≡ true
good_name name xs before after x good is =
    good (length (map name before)) (name x) (stands (map name xs) (map name before) (map name after) (name x) (named_at name xs before after x is))

-- one more printed device is read
one_more_device_read : (top : Rates) (seen : List Device) (device : Device) → is_name device.name ≡ true
    → list_any (bytes_eq device.name) (map (λ (d : Device). d.name) seen) ≡ false → IsRates device.rates
    → one_more_device 2 top seen (table (device_tree device)) ≡ Ok (seen ++ device ∷ [])
unfolding one_more_device
one_more_device_read top seen device good new rates = rw (device_read top (map (λ d. d.name) seen) (length seen + 1) device good new rates) refl

-- all printed devices are read
devices_read : (net : Network) (top : Rates) (ms : Members) → IsNetwork net
    → value keys.Device ms ≡ Some (array (items_of (map (λ device. table (device_tree device)) net.devices))) → devices_in 2 top ms ≡ Ok net.devices
unfolding devices_in
devices_read net top ms law at =
    rw (
      array_read keys.Device 0 ms (items_of (map (λ device. table (device_tree device)) net.devices)) at,
      count_read (λ device. table (device_tree device)) net.devices,
      le-leb 1 (length net.devices) law.devices.0,
      count_read (λ device. table (device_tree device)) net.devices,
      le-leb (length net.devices) 4096 law.devices.1,
    )
    (each_read (one_more_device 2 top) (λ device. table (device_tree device)) net.devices reads [] net.devices refl)
  where
    reads : (before after : List Device) (x : Device) → before ++ x ∷ after ≡ net.devices
        → one_more_device 2 top before (table (device_tree x)) ≡ Ok (before ++ x ∷ [])
    reads before after x is =
        one_more_device_read top before x (good_name (λ (d : Device). d.name) net.devices before after x law.names.0 is)
        (new_name (λ (d : Device). d.name) net.devices before after x law.distinct_devices is)
        (law.each_device (length before) x (stands net.devices before after x is))

-- the bounds of a direction are read
delay_read : (least most : Key) (entry : ℕ) (ms : Members) (delay : Delay) → value least ms ≡ Some (whole delay.min) → value most ms ≡ Some (whole delay.max)
    → (delay.min ≤ delay.max) × (delay.max ≤ 10 ^ 12) → delay_in least most entry ms ≡ Ok delay
unfolding delay_in
delay_read least most entry ms delay low high good =
    rw (
      number_read least entry 0 (10 ^ 12) ms delay.min low (omega arith) (omega arith),
      number_read most entry delay.min
          (10 ^ 12) ms delay.max high good.0 good.1,
    ) refl

-- the way back is read
back_read : (forth : Delay) (entry : ℕ) (ms : Members) (delay : Delay) → value keys.LinkBackMin ms ≡ Some (whole delay.min)
    → value keys.LinkBackMax ms ≡ Some (whole delay.max) → (delay.min ≤ delay.max) × (delay.max ≤ 10 ^ 12) → back_in 2 forth entry ms ≡ Ok delay
unfolding back_in
back_read forth entry ms delay low high good = rw low (delay_read keys.LinkBackMin keys.LinkBackMax entry ms delay low high good)

-- the ends of a link are read
ends_read : (names : List (List ℕ)) (entry : ℕ) (ms : Members) (a b : ℕ)
    → value keys.LinkEnds ms ≡ Some (array (items_of (string (name_at names a) ∷ string (name_at names b) ∷ []))) → AreDistinct names → a < length names
    → b < length names → a ≢ b
    → ends_in names entry ms ≡ Ok (a, b)
unfolding ends_in
ends_read names entry ms a b at apart first second differ =
    rw (
      array_read keys.LinkEnds entry ms (items_of (string (name_at names a) ∷ string (name_at names b) ∷ [])) at,
      referred_read
          (place keys.LinkEnds entry) names a apart first,
      referred_read (place keys.LinkEnds entry) names b apart second,
      ne_eqb a b differ,
    ) refl

-- a link's members
link_at : (names : List (List ℕ)) (link : Link) → (value keys.LinkName (link_tree names link) ≡ Some (string link.name))
    × (value keys.LinkEnds (link_tree names link)
    ≡ Some (array (items_of (string (name_at names link.entry.end_a) ∷ string (name_at names link.entry.end_b) ∷ []))))
    × (value keys.LinkMin (link_tree names link) ≡ Some (whole link.entry.min)) × (value keys.LinkMax (link_tree names link) ≡ Some (whole link.entry.max))
    × (value keys.LinkBackMin (link_tree names link) ≡ Some (whole link.entry.back_min))
    × (value keys.LinkBackMax (link_tree names link) ≡ Some (whole link.entry.back_max))
unfolding link_tree
link_at names link = (refl, refl, refl, refl, refl, refl)

-- a printed link is read
link_read : (devices names : List (List ℕ)) (entry : ℕ) (link : Link) → AreDistinct devices → is_name link.name ≡ true
    → list_any (bytes_eq link.name) names ≡ false → IsLink (length devices) link.entry
    → link_in 2 devices names entry (table (link_tree devices link)) ≡ Ok link
unfolding link_in
link_read devices names entry link apart good new fits =
    let at = link_at devices link in
    let ms = link_tree devices link in
    let forth : Delay = record { min = link.entry.min; max = link.entry.max } in
    let back : Delay = record { min = link.entry.back_min; max = link.entry.back_max } in
    rw (
      own_name_read keys.LinkName entry names (link_tree devices link) link.name at.0 good new,
      ends_read devices entry (link_tree devices link) link.entry.end_a link.entry.end_b at.1 apart fits.first fits.second fits.apart,
      delay_read keys.LinkMin keys.LinkMax entry (link_tree devices link) forth at.2 at.3 fits.bounds,
      back_read forth entry (link_tree devices link) back at.4 at.5 fits.back_bounds,
    ) refl

-- one more printed link is read
one_more_link_read : (devices : List (List ℕ)) (seen : List Link) (link : Link) → AreDistinct devices → is_name link.name ≡ true
    → list_any (bytes_eq link.name) (map (λ (l : Link). l.name) seen) ≡ false → IsLink (length devices) link.entry
    → one_more_link 2 devices seen (table (link_tree devices link)) ≡ Ok (seen ++ link ∷ [])
unfolding one_more_link
one_more_link_read devices seen link apart good new fits = rw (link_read devices (map (λ l. l.name) seen) (length seen + 1) link apart good new fits) refl

-- all printed links are read
links_read : (net : Network) (ms : Members) → IsNetwork net
    → value keys.Link ms ≡ Some (array (items_of (map (λ link. table (link_tree (device_names net) link)) net.links)))
    → links_in 2 (device_names net) ms ≡ Ok net.links
unfolding links_in
links_read net ms law at =
    rw (
      array_or_none_read keys.Link 0 ms (items_of (map (λ link. table (link_tree (device_names net) link)) net.links)) at,
      count_read
          (λ link. table (link_tree (device_names net) link)) net.links,
      le-leb (length net.links) 32768 law.links,
    )
    (each_read (one_more_link 2 (device_names net)) (λ link. table (link_tree (device_names net) link)) net.links reads [] net.links refl)
  where
    reads : (before after : List Link) (x : Link) → before ++ x ∷ after ≡ net.links
        → one_more_link 2 (device_names net) before (table (link_tree (device_names net) x)) ≡ Ok (before ++ x ∷ [])
    reads before after x is =
        one_more_link_read (device_names net) before x law.distinct_devices (good_name (λ (l : Link). l.name) net.links before after x law.names.1 is)
        (new_name (λ (l : Link). l.name) net.links before after x law.distinct_links is)
        (subst (λ n. IsLink n x.entry) (sym (names_count (λ (d : Device). d.name) net.devices))
        (law.each_link (length before) x (stands net.links before after x is)))

-- a domain's list is read
members_read : (key : Key) (entry : ℕ) (names : List (List ℕ)) (ms : Members) (ns : List ℕ) → value key ms ≡ Some (names_data names ns) → AreDistinct names
    → ascends ns ≡ true → All (λ n. n < length names) ns → members_in key entry names ms ≡ Ok ns
unfolding members_in
members_read key entry names ms ns at apart up within =
    let rising = rises-ascending ns up in
    rw (
      array_or_none_read key entry ms (items_of (map (λ n. string (name_at names n)) ns)) at,
      listed_read (place key entry) names ns apart (each_of (λ n. n < length names) ns within) (λ before after n is. rising_none ns before after n rising is),
      ascending-itself (length names) ns rising within,
    ) refl

-- a domain's members
domain_at : (devices links : List (List ℕ)) (domain : Domain) → (value keys.DomainName (domain_tree devices links domain) ≡ Some (string domain.name))
    × (value keys.DomainDevices (domain_tree devices links domain) ≡ Some (names_data devices domain.devices))
    × (value keys.DomainLinks (domain_tree devices links domain) ≡ Some (names_data links domain.links))
unfolding domain_tree
domain_at devices links domain = (refl, refl, refl)

-- a printed domain is read
domain_read : (devices links names : List (List ℕ)) (entry : ℕ) (domain : Domain) → AreDistinct devices → AreDistinct links → is_name domain.name ≡ true
    → list_any (bytes_eq domain.name) names ≡ false → IsGroup (length devices) (length links) domain
    → domain_in devices links names entry (table (domain_tree devices links domain)) ≡ Ok domain
unfolding domain_in
domain_read devices links names entry domain devices_apart links_apart good new group =
    let at = domain_at devices links domain in
    rw (
      own_name_read keys.DomainName entry names (domain_tree devices links domain) domain.name at.0 good new,
      members_read keys.DomainDevices entry devices (domain_tree devices links domain) domain.devices at.1 devices_apart group.devices_ascend
          group.devices_within,
      members_read keys.DomainLinks entry links (domain_tree devices links domain) domain.links at.2 links_apart group.links_ascend group.links_within,
    ) refl

-- the first domains list no more than all
first_few : (before after : List Domain) (x : Domain) (all : List Domain) → before ++ x ∷ after ≡ all → things_listed (before ++ x ∷ []) ≤ things_listed all
first_few before after x all is =
    by (things_listed (before ++ x ∷ [])) (things_listed ((before ++ x ∷ []) ++ after)) (things_listed all) (things_listed after)
    (sum_by-append (λ (domain : Domain). length domain.devices + length domain.links) (before ++ x ∷ []) after)
    (ap things_listed (append_assoc before (x ∷ []) after ∙ is))
  where
    by : (first most whole_list rest : ℕ) → most ≡ first + rest → most ≡ whole_list → first ≤ whole_list
    by first most whole_list rest parts same = omega arith

-- one more printed domain is read
one_more_domain_read : (devices links : List (List ℕ)) (seen : List Domain) (domain : Domain) → AreDistinct devices → AreDistinct links
    → is_name domain.name ≡ true → list_any (bytes_eq domain.name) (map (λ (d : Domain). d.name) seen) ≡ false
    → IsGroup (length devices) (length links) domain → things_listed (seen ++ domain ∷ []) ≤ 262144
    → one_more_domain devices links seen (table (domain_tree devices links domain)) ≡ Ok (seen ++ domain ∷ [])
unfolding one_more_domain
one_more_domain_read devices links seen domain devices_apart links_apart good new group few =
    rw (
      domain_read devices links (map (λ d. d.name) seen) (length seen + 1) domain devices_apart links_apart good new group,
      le-leb
          (things_listed (seen ++ domain ∷ [])) 262144 few,
    ) refl

-- all printed domains are read
domains_read : (net : Network) (ms : Members) → IsNetwork net
    → value keys.Domain ms ≡ Some (array (items_of (map (λ domain. table (domain_tree (device_names net) (link_names net) domain)) net.domains)))
    → domains_in (device_names net) (link_names net) ms ≡ Ok net.domains
unfolding domains_in
domains_read net ms law at =
    rw (
      array_or_none_read keys.Domain 0 ms (items_of (map (λ domain. table (domain_tree (device_names net) (link_names net) domain)) net.domains)) at,
      count_read (λ domain. table (domain_tree (device_names net) (link_names net) domain)) net.domains,
      le-leb (length net.domains) 4096 law.domains,
    )
    (each_read (one_more_domain (device_names net) (link_names net))
    (λ domain. table (domain_tree (device_names net) (link_names net) domain)) net.domains reads [] net.domains refl)
  where
    reads : (before after : List Domain) (x : Domain) → before ++ x ∷ after ≡ net.domains
        → one_more_domain (device_names net) (link_names net) before (table (domain_tree (device_names net) (link_names net) x)) ≡ Ok (before ++ x ∷ [])
    reads before after x is =
        let group = group_of (length net.devices) (length net.links) x (law.each_domain (length before) x (stands net.domains before after x is)) in
        let counted =
        subst (λ m. IsGroup (length (device_names net)) m x) (sym (names_count (λ (l : Link). l.name) net.links))
        (subst (λ n. IsGroup n (length net.links) x) (sym (names_count (λ (d : Device). d.name) net.devices)) group) in
        let few = first_few before after x net.domains is in
        one_more_domain_read (device_names net) (link_names net) before x law.distinct_devices law.distinct_links
        (good_name (λ (d : Domain). d.name) net.domains before after x law.names.2 is)
        (new_name (λ (d : Domain). d.name) net.domains before after x law.distinct_domains is) counted (omega (arith, few, law.listed))

-- the printed roots are read
roots_read : (net : Network) (ms : Members) → IsNetwork net → value keys.Roots ms ≡ Some (names_data (device_names net) net.roots)
    → roots_in (device_names net) ms ≡ Ok net.roots
unfolding roots_in
roots_read net ms law at =
    rw (
      array_read keys.Roots 0 ms (items_of (map (λ n. string (name_at (device_names net) n)) net.roots)) at,
      count_read
          (λ n. string (name_at (device_names net) n)) net.roots,
      le-leb 1 (length net.roots) law.each_root.0,
    )
    (listed_read (place keys.Roots 0) (device_names net) net.roots law.distinct_devices within
    (λ before after n is. none_before nat_eq eqb-true net.roots before after n law.each_root.1.1 is))
  where
    within : Each (λ n. n < length (device_names net)) net.roots
    within = subst (λ m. Each (λ n. n < m) net.roots) (sym (names_count (λ (d : Device). d.name) net.devices)) law.each_root.1.0

-- the members at the top
top_at : (net : Network) → (value keys.Version (network_tree net) ≡ Some (whole 2)) × (value keys.Ppm (network_tree net) ≡ Some (whole net.params.ppm))
    × (value keys.Grain (network_tree net) ≡ Some (whole net.params.grain))
    × (value keys.Period (network_tree net) ≡ Some (whole net.params.period)) × (value keys.Tick (network_tree net) ≡ Some (whole net.params.tick))
    × (value keys.Loss (network_tree net) ≡ Some (whole net.params.loss))
    × (value keys.Depth (network_tree net) ≡ Some (whole net.params.depth))
unfolding network_tree params_tree
top_at net = (refl, refl, refl, refl, refl, refl, refl)

-- the arrays at the top
arrays_at : (net : Network) → (value keys.Device (network_tree net) ≡ Some (array (items_of (map (λ device. table (device_tree device)) net.devices))))
    × (value keys.Link (network_tree net) ≡ Some (array (items_of (map (λ link. table (link_tree (device_names net) link)) net.links))))
    × (value keys.Domain (network_tree net)
    ≡ Some (array (items_of (map (λ domain. table (domain_tree (device_names net) (link_names net) domain)) net.domains))))
    × (value keys.Roots (network_tree net) ≡ Some (names_data (device_names net) net.roots))
unfolding network_tree params_tree
arrays_at net = (refl, refl, refl, refl)

-- the printed numbers at the top are read
params_read : (net : Network) → IsNetwork net → params_in (network_tree net) ≡ Ok net.params
unfolding params_in
params_read net law =
    let at = top_at net in
    rw (
      number_read keys.Ppm 0 0 100000 (network_tree net) net.params.ppm at.1 (omega arith) law.rates.0,
      number_read keys.Grain 0 0 (10 ^ 12) (network_tree net) net.params.grain at.2 (omega arith) law.rates.1,
      number_read keys.Period 0 1 (10 ^ 12) (network_tree net) net.params.period at.3 law.period.0 law.period.1,
      number_read keys.Tick 0 1 (10 ^ 12) (network_tree net) net.params.tick at.4 law.tick.0 law.tick.1,
      number_read keys.Loss 0 0 100 (network_tree net) net.params.loss at.5 (omega arith) law.loss,
      number_read keys.Depth 0 1 64 (network_tree net) net.params.depth at.6 law.depth.0 law.depth.1,
    ) refl

-- what is printed of a network is read as the same network with version 2
pub network_read : (net : Network) → IsNetwork net → network_in (network_tree net) ≡ Ok (record net { version = 2 })
unfolding network_in
network_read net law =
    let at = top_at net in
    let arrays = arrays_at net in
    rw (
      number_read keys.Version 0 1 2 (network_tree net) 2 at.0 (omega arith) (omega arith),
      params_read net law,
      devices_read net (top_rates net.params) (network_tree net) law arrays.0,
      links_read net (network_tree net) law arrays.1,
      domains_read net (network_tree net) law arrays.2,
      roots_read net (network_tree net) law arrays.3,
    ) refl

-- items are no deeper than the deepest
items_depth_le : {A : Type 0} (tree : A → Data) (n : ℕ) → ((x : A) → depth (tree x) ≤ n) → (xs : List A) → items_depth (items_of (map tree xs)) ≤ n
items_depth_le tree n each [] = omega arith
items_depth_le tree n each (x ∷ xs) = let first = each x in let rest = items_depth_le tree n each xs in omega (arith, first, rest)

-- a printed device is shallow
device_depth : (device : Device) → depth (table (device_tree device)) ≤ 3
unfolding device_tree
device_depth device = omega arith

-- a printed link is shallow
link_depth : (names : List (List ℕ)) (link : Link) → depth (table (link_tree names link)) ≤ 3
unfolding link_tree
link_depth names link = omega arith

-- names are shallow
names_depth : (names : List (List ℕ)) (ns : List ℕ) → depth (names_data names ns) ≤ 2
names_depth names ns = let inner = items_depth_le (λ n. string (name_at names n)) 0 (λ n. omega arith) ns in omega (arith, inner)

-- a printed domain is shallow
domain_depth : (devices links : List (List ℕ)) (domain : Domain) → depth (table (domain_tree devices links domain)) ≤ 3
unfolding domain_tree
domain_depth devices links domain =
    let first = names_depth devices domain.devices in
    let second = names_depth links domain.links in
    omega (arith, first, second)

-- the printed tree is shallow
pub network_depth : (net : Network) → members_depth (network_tree net) ≤ 80
unfolding network_tree params_tree
network_depth net =
    let on_devices = items_depth_le (λ (device : Device). table (device_tree device)) 3 device_depth net.devices in
    let on_links = items_depth_le (λ (link : Link). table (link_tree (device_names net) link)) 3 (link_depth (device_names net)) net.links in
    let on_domains =
    items_depth_le (λ (domain : Domain). table (domain_tree (device_names net) (link_names net) domain)) 3
    (domain_depth (device_names net) (link_names net)) net.domains in
    let on_roots = names_depth (device_names net) net.roots in
    omega (arith, on_devices, on_links, on_domains, on_roots)

-- a text that is parsed to the printed tree means the same network with version 2
pub text_read_back : (net : Network) (bytes : List ℕ) → IsNetwork net → IsUtf8 bytes → parse_document bytes ≡ Some (network_tree net)
    → network_of (tree_of bytes) ≡ Ok (with_version_two net)
unfolding network_of
text_read_back net bytes law valid parsed = rw (tree_known bytes bytes (Some (network_tree net)) refl valid parsed) (network_read net law)
