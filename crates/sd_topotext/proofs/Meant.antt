-- What a text means is a network: in range, with distinct names and ends.
use Rattle.std.proofs.Common.{◌≡◌, ◌≢◌, inl, inr, ℕ, ◌+◌, ◌<◌, ◌≤◌, ◌^◌, Bool, true, false, not, ◌&&◌, ◌||◌, nat_le, nat_eq, List, [], ◌∷◌, ◌++◌, length, map, length-append, Option, None, Some, is_none, Result, Ok, All, IsTrue, refl, ap, sym, ◌∙◌, subst, arith}
use Rattle.std.specs.List.{list_any}
use Rattle.std.specs.Str.{bytes_eq}
use Rattle.std.proofs.lemmas.Bool.{leb-true, eqb-false, not-true}
use Rattle.std.proofs.lemmas.List.Elements.{All-push, All-nil}
use Rattle.toml.specs.Data.{Data, Items, Members, as_table}
use Rattle.sd_num.specs.declared.Rates.{Rates}
use Rattle.sd_num.specs.Lists.{ascends, all_below, ascending}
use Rattle.sd_plan.specs.declared.topo.Side.{Side}
use Rattle.sd_plan.specs.declared.topo.Params.{Params}
use Rattle.sd_plan.specs.declared.topo.Delay.{Delay}
use Rattle.sd_topotext.specs.declared.fault.TopoFault.{TopoFault}
use Rattle.sd_topotext.specs.declared.fault.TopoFault.TheVariants.{Range, Limit, SelfLink}
use Rattle.sd_topotext.specs.declared.fault.Kind.TheVariants as kinds
use Rattle.sd_topotext.specs.declared.fault.Place.{Place}
use Rattle.sd_topotext.specs.declared.fault.Key.{Key}
use Rattle.sd_topotext.specs.declared.fault.Key.TheVariants as keys
use Rattle.sd_topotext.specs.Then.{◌>>=◌}
use Rattle.sd_plan.specs.topo.Network.{Network, Device, Link, Domain, is_name}
use Rattle.sd_plan.specs.topo.Limits.{IsNetwork, IsLink, IsRates, AreNumbers}
use Rattle.sd_topotext.specs.Meaning.{place, value, allowed, of_kind, count_of, each_from, number, number_or, array, array_or_none, own_name, referred, one_more, two, params_in, top_rates, side_in, rates_in, device_in, one_more_device, devices_in, ends_in, delay_in, back_in, link_in, one_more_link, links_in, members_in, domain_in, things_listed, one_more_domain, domains_in, roots_in, network_in, network_of}
use Rattle.sd_topotext.proofs.Sound.{bind_ok, allowed_ok, one_of, ok_inside, number_ok, number_or_ok, own_name_ok, referred_ok, one_more_ok, each_ok, each_len, listed_ok}
use Rattle.sd_plan.proofs.topo.Lists.{each_of, names_differ, numbers_differ, AreNames, no_names, names_more, names_count, ascending_ok}

-- a device's own rates are in range
rates_ok : (version : ℕ) (top : Rates) (entry : ℕ) (ms : Members) (rates : Rates) → IsRates top → rates_in version top entry ms ≡ Ok rates → IsRates rates
unfolding rates_in
rates_ok version top entry ms rates good h =
    let made : ℕ → ℕ → Rates = λ ppm grain. record { ppm = ppm; grain = grain } in
    let end : ℕ → Result Rates TopoFault = λ ppm. number_or keys.DeviceGrain entry (10 ^ 12) top.grain ms >>= (λ grain. Ok (made ppm grain)) in
    elim (one_of (nat_eq version 1) top rates (number_or keys.DevicePpm entry 100000 top.ppm ms >>= end) h) [
      | inl same ↦ subst IsRates same good
      | inr own ↦
          let (ppm, first, more) = bind_ok (number_or keys.DevicePpm entry 100000 top.ppm ms) end rates own in
          let (grain, second, last) = bind_ok (number_or keys.DeviceGrain entry (10 ^ 12) top.grain ms) (λ grain. Ok (made ppm grain)) rates more in
          subst IsRates (ok_inside (made ppm grain) rates last) (
            number_or_ok keys.DevicePpm entry 100000 top.ppm ms ppm good.0 first,
            number_or_ok keys.DeviceGrain entry
                (10 ^ 12) top.grain ms grain good.1 second,
          )
    ]

-- what an entry's device is
record IsDevice (names : List (List ℕ)) (device : Device) : Type 0 where
  good : is_name device.name ≡ true
  new : list_any (bytes_eq device.name) names ≡ false
  rates : IsRates device.rates

-- an entry's device is in range, its name new
device_ok : (version : ℕ) (top : Rates) (names : List (List ℕ)) (entry : ℕ) (d : Data) (device : Device) → IsRates top
    → device_in version top names entry d ≡ Ok device → IsDevice names device
unfolding device_in
device_ok version top names entry d device good h =
    let made : List ℕ → Side → Rates → Device = λ name side rates. record { name = name; side = side; rates = rates } in
    let rated : Members → List ℕ → Side → Result Device TopoFault = λ ms name side. rates_in version top entry ms >>= (λ rates. Ok (made name side rates)) in
    let sided : Members → List ℕ → Result Device TopoFault = λ ms name. side_in entry ms >>= rated ms name in
    let named : Members → Result Device TopoFault = λ ms. own_name keys.DeviceName entry names ms >>= sided ms in
    let (ms, a, h1) = bind_ok (of_kind (place keys.Device entry) (as_table d)) named device h in
    let (name, b, h2) = bind_ok (own_name keys.DeviceName entry names ms) (sided ms) device h1 in
    let (side, e, h3) = bind_ok (side_in entry ms) (rated ms name) device h2 in
    let (rates, f, h4) = bind_ok (rates_in version top entry ms) (λ rates. Ok (made name side rates)) device h3 in
    let (limits, new) = own_name_ok keys.DeviceName entry names ms name b in
    subst (IsDevice names) (ok_inside (made name side rates) device h4)
    (record { good = limits; new = new; rates = rates_ok version top entry ms rates good f })

-- devices with distinct names in range
record AreDevices (devices : List Device) : Type 0 where
  names : AreNames (map (λ device. device.name) devices)
  rates : All (λ device. IsRates device.rates) devices

-- one more device is in range
device_step : (version : ℕ) (top : Rates) → IsRates top → (seen : List Device) (d : Data) (more : List Device) → one_more_device version top seen d ≡ Ok more
    → (device : Device) × IsDevice (map (λ device. device.name) seen) device × (more ≡ seen ++ device ∷ [])
unfolding one_more_device
device_step version top good seen d more h =
    let (device, a, last) =
    bind_ok (device_in version top (map (λ device. device.name) seen) (length seen + 1) d) (λ device. Ok (seen ++ device ∷ [])) more h in
    (device, device_ok version top (map (λ device. device.name) seen) (length seen + 1) d device good a, sym (ok_inside (seen ++ device ∷ []) more last))

-- a list with one more element is longer by one
longer : {B : Type 0} (seen more : List B) (x : B) → more ≡ seen ++ x ∷ [] → length more ≡ length seen + 1
longer seen more x is = ap length is ∙ length-append seen (x ∷ [])

-- the devices are in range, at least one and few enough
devices_ok : (version : ℕ) (top : Rates) (ms : Members) (devices : List Device) → IsRates top → devices_in version top ms ≡ Ok devices
    → AreDevices devices × (1 ≤ length devices) × (length devices ≤ 4096)
unfolding devices_in
devices_ok version top ms devices good h =
    let all : Items → Result (List Device) TopoFault = λ ds. each_from (one_more_device version top) [] ds in
    let few : Items → Result (List Device) TopoFault = λ ds. allowed (nat_le (count_of ds) 4096) (Limit kinds.Device) ds >>= all in
    let some : Items → Result (List Device) TopoFault = λ ds. allowed (nat_le 1 (count_of ds)) (Range (place keys.Device 0)) ds >>= few in
    let (d0, a, h1) = bind_ok (array keys.Device 0 ms) some devices h in
    let (d1, b, h2) = bind_ok (allowed (nat_le 1 (count_of d0)) (Range (place keys.Device 0)) d0) few devices h1 in
    let (d2, e, h3) = bind_ok (allowed (nat_le (count_of d1) 4096) (Limit kinds.Device) d1) all devices h2 in
    let (least, same1) = allowed_ok (nat_le 1 (count_of d0)) (Range (place keys.Device 0)) d0 d1 b in
    let (most, same2) = allowed_ok (nat_le (count_of d1) 4096) (Limit kinds.Device) d1 d2 e in
    let low : 1 ≤ count_of d2 = subst (λ ds. 1 ≤ count_of ds) (same1 ∙ same2) (leb-true 1 (count_of d0) least) in
    let high : count_of d2 ≤ 4096 = subst (λ ds. count_of ds ≤ 4096) same2 (leb-true (count_of d1) 4096 most) in
    let long : length devices ≡ 0 + count_of d2 = each_len (one_more_device version top) grows [] devices d2 h3 in (
      each_ok (one_more_device version top) AreDevices step [] devices d2 h3
          (record { names = no_names; rates = All-nil (λ (device : Device). IsRates device.rates) }),
      omega arith,
      omega arith,
    )
  where
    step : (seen : List Device) (d : Data) (more : List Device) → one_more_device version top seen d ≡ Ok more → AreDevices seen → AreDevices more
    step seen d more h kept =
        let (device, is, last) = device_step version top good seen d more h in
        subst AreDevices (sym last) (record {
          names = names_more (λ (device : Device). device.name) seen device kept.names is.good is.new;
          rates = All-push (λ (device : Device). IsRates device.rates) seen device kept.rates is.rates;
        })

    grows : (seen : List Device) (d : Data) (more : List Device) → one_more_device version top seen d ≡ Ok more → length more ≡ length seen + 1
    grows seen d more h = let (device, is, last) = device_step version top good seen d more h in longer seen more device last

-- a direction's bounds: in order, and at most a second
abbrev IsDelay : Delay → Type 0
IsDelay delay = (delay.min ≤ delay.max) × (delay.max ≤ 10 ^ 12)

-- a direction's bounds are in order and in range
delay_ok : (least most : Key) (entry : ℕ) (ms : Members) (delay : Delay) → delay_in least most entry ms ≡ Ok delay → IsDelay delay
unfolding delay_in
delay_ok least most entry ms delay h =
    let made : ℕ → ℕ → Delay = λ min max. record { min = min; max = max } in
    let end : ℕ → Result Delay TopoFault = λ min. number most entry min (10 ^ 12) ms >>= (λ max. Ok (made min max)) in
    let (min, a, h1) = bind_ok (number least entry 0 (10 ^ 12) ms) end delay h in
    let (max, b, h2) = bind_ok (number most entry min (10 ^ 12) ms) (λ max. Ok (made min max)) delay h1 in
    subst IsDelay (ok_inside (made min max) delay h2) (number_ok most entry min (10 ^ 12) ms max b)

-- so are those of the way back
back_ok : (version : ℕ) (forth : Delay) (entry : ℕ) (ms : Members) (delay : Delay) → IsDelay forth → back_in version forth entry ms ≡ Ok delay → IsDelay delay
unfolding back_in
back_ok version forth entry ms delay good h =
    elim (one_of (nat_eq version 1 || (is_none (value keys.LinkBackMin ms) && is_none (value keys.LinkBackMax ms))) forth delay
    (delay_in keys.LinkBackMin keys.LinkBackMax entry ms) h) [
      | inl same ↦ subst IsDelay same good
      | inr own ↦ delay_ok keys.LinkBackMin keys.LinkBackMax entry ms delay own
    ]

-- two ends that are devices and differ
abbrev AreEnds : ℕ → ℕ × ℕ → Type 0
AreEnds devices ends = (ends.0 < devices) × (ends.1 < devices) × (ends.0 ≢ ends.1)

-- the ends are devices and differ
ends_ok : (devices : List (List ℕ)) (entry : ℕ) (ms : Members) (ends : ℕ × ℕ) → ends_in devices entry ms ≡ Ok ends → AreEnds (length devices) ends
unfolding ends_in
ends_ok devices entry ms ends h =
    let p = place keys.LinkEnds entry in
    let apart : ℕ → ℕ → Result (ℕ × ℕ) TopoFault = λ a b. allowed (not (nat_eq a b)) (SelfLink p) (a, b) in
    let after : Data × Data → ℕ → Result (ℕ × ℕ) TopoFault = λ pair a. referred p devices pair.1 >>= apart a in
    let both : Data × Data → Result (ℕ × ℕ) TopoFault = λ pair. referred p devices pair.0 >>= after pair in
    let (ds, a, h1) = bind_ok (array keys.LinkEnds entry ms) (λ ds. two p ds >>= both) ends h in
    let (pair, b, h2) = bind_ok (two p ds) both ends h1 in
    let (first, e, h3) = bind_ok (referred p devices pair.0) (after pair) ends h2 in
    let (second, f, h4) = bind_ok (referred p devices pair.1) (apart first) ends h3 in
    let (differ, same) = allowed_ok (not (nat_eq first second)) (SelfLink p) (first, second) ends h4 in
    subst (AreEnds (length devices)) same
    (referred_ok p devices pair.0 first e, referred_ok p devices pair.1 second f, eqb-false first second (not-true (nat_eq first second) differ))

-- what an entry's link is
record IsLinkEntry (devices : ℕ) (names : List (List ℕ)) (link : Link) : Type 0 where
  good : is_name link.name ≡ true
  new : list_any (bytes_eq link.name) names ≡ false
  fits : IsLink devices link.entry

-- an entry's link is in range, its name new
link_ok : (version : ℕ) (devices names : List (List ℕ)) (entry : ℕ) (d : Data) (link : Link) → link_in version devices names entry d ≡ Ok link
    → IsLinkEntry (length devices) names link
unfolding link_in
link_ok version devices names entry d link h =
    let made : List ℕ → ℕ × ℕ → Delay → Delay
    → Link = λ name ends forth back. record {
      name = name;
      entry = record { end_a = ends.0; end_b = ends.1; min = forth.min; max = forth.max; back_min = back.min; back_max = back.max };
    } in
    let backed : Members → List ℕ → ℕ × ℕ → Delay → Result Link TopoFault =
    λ ms name ends forth. back_in version forth entry ms >>= (λ back. Ok (made name ends forth back)) in
    let delayed : Members → List ℕ → ℕ × ℕ → Result Link TopoFault = λ ms name ends. delay_in keys.LinkMin keys.LinkMax entry ms >>= backed ms name ends in
    let ended : Members → List ℕ → Result Link TopoFault = λ ms name. ends_in devices entry ms >>= delayed ms name in
    let named : Members → Result Link TopoFault = λ ms. own_name keys.LinkName entry names ms >>= ended ms in
    let (ms, a, h1) = bind_ok (of_kind (place keys.Link entry) (as_table d)) named link h in
    let (name, b, h2) = bind_ok (own_name keys.LinkName entry names ms) (ended ms) link h1 in
    let (ends, e, h3) = bind_ok (ends_in devices entry ms) (delayed ms name) link h2 in
    let (forth, f, h4) = bind_ok (delay_in keys.LinkMin keys.LinkMax entry ms) (backed ms name ends) link h3 in
    let (back, g, h5) = bind_ok (back_in version forth entry ms) (λ back. Ok (made name ends forth back)) link h4 in
    let (limits, new) = own_name_ok keys.LinkName entry names ms name b in
    let two_ends = ends_ok devices entry ms ends e in
    let there = delay_ok keys.LinkMin keys.LinkMax entry ms forth f in
    let here = back_ok version forth entry ms back there g in
    subst (IsLinkEntry (length devices) names) (ok_inside (made name ends forth back) link h5)
    (record { good = limits; new = new; fits = record { first = two_ends.0; second = two_ends.1; apart = two_ends.2; bounds = there; back_bounds = here } })

-- links with distinct names in range
record AreLinks (devices : ℕ) (links : List Link) : Type 0 where
  names : AreNames (map (λ link. link.name) links)
  fit : All (λ link. IsLink devices link.entry) links

-- one more link is in range
link_step : (version : ℕ) (devices : List (List ℕ)) (seen : List Link) (d : Data) (more : List Link) → one_more_link version devices seen d ≡ Ok more
    → (link : Link) × IsLinkEntry (length devices) (map (λ link. link.name) seen) link × (more ≡ seen ++ link ∷ [])
unfolding one_more_link
link_step version devices seen d more h =
    let (link, a, last) = bind_ok (link_in version devices (map (λ link. link.name) seen) (length seen + 1) d) (λ link. Ok (seen ++ link ∷ [])) more h in
    (link, link_ok version devices (map (λ link. link.name) seen) (length seen + 1) d link a, sym (ok_inside (seen ++ link ∷ []) more last))

-- the links are in range and few enough
links_ok : (version : ℕ) (devices : List (List ℕ)) (ms : Members) (links : List Link) → links_in version devices ms ≡ Ok links
    → AreLinks (length devices) links × (length links ≤ 32768)
unfolding links_in
links_ok version devices ms links h =
    let all : Items → Result (List Link) TopoFault = λ ds. each_from (one_more_link version devices) [] ds in
    let few : Items → Result (List Link) TopoFault = λ ds. allowed (nat_le (count_of ds) 32768) (Limit kinds.Link) ds >>= all in
    let (d0, a, h1) = bind_ok (array_or_none keys.Link 0 ms) few links h in
    let (d1, b, h2) = bind_ok (allowed (nat_le (count_of d0) 32768) (Limit kinds.Link) d0) all links h1 in
    let (most, same) = allowed_ok (nat_le (count_of d0) 32768) (Limit kinds.Link) d0 d1 b in
    let high : count_of d1 ≤ 32768 = subst (λ ds. count_of ds ≤ 32768) same (leb-true (count_of d0) 32768 most) in
    let long : length links ≡ 0 + count_of d1 = each_len (one_more_link version devices) grows [] links d1 h2 in (
      each_ok (one_more_link version devices) (AreLinks (length devices)) step [] links d1 h2
          (record { names = no_names; fit = All-nil (λ (link : Link). IsLink (length devices) link.entry) }),
      omega arith,
    )
  where
    step : (seen : List Link) (d : Data) (more : List Link) → one_more_link version devices seen d ≡ Ok more → AreLinks (length devices) seen
        → AreLinks (length devices) more
    step seen d more h kept =
        let (link, is, last) = link_step version devices seen d more h in
        subst (AreLinks (length devices)) (sym last) (record {
          names = names_more (λ (link : Link). link.name) seen link kept.names is.good is.new;
          fit = All-push (λ (link : Link). IsLink (length devices) link.entry) seen link kept.fit is.fits;
        })

    grows : (seen : List Link) (d : Data) (more : List Link) → one_more_link version devices seen d ≡ Ok more → length more ≡ length seen + 1
    grows seen d more h = let (link, is, last) = link_step version devices seen d more h in longer seen more link last

-- a domain's list: ascending, below the count of names
abbrev IsListed : ℕ → List ℕ → Type 0
IsListed count numbers = (ascends numbers ≡ true) × (all_below count numbers ≡ true)

-- a domain's list ascends, in range
members_ok : (key : Key) (entry : ℕ) (names : List (List ℕ)) (ms : Members) (numbers : List ℕ) → members_in key entry names ms ≡ Ok numbers
    → IsListed (length names) numbers
unfolding members_in
members_ok key entry names ms numbers h =
    let end : List ℕ → Result (List ℕ) TopoFault = λ xs. Ok (ascending (length names) xs) in
    let (ds, a, h1) = bind_ok (array_or_none key entry ms) (λ ds. each_from (one_more (place key entry) names) [] ds >>= end) numbers h in
    let (xs, b, h2) = bind_ok (each_from (one_more (place key entry) names) [] ds) end numbers h1 in
    subst (IsListed (length names)) (ok_inside (ascending (length names) xs) numbers h2) (ascending_ok (length names) xs)

-- what an entry's domain is
record IsDomain (devices links : ℕ) (names : List (List ℕ)) (domain : Domain) : Type 0 where
  good : is_name domain.name ≡ true
  new : list_any (bytes_eq domain.name) names ≡ false
  on_devices : IsListed devices domain.devices
  on_links : IsListed links domain.links

-- an entry's domain is in range, its name new
domain_ok : (devices links names : List (List ℕ)) (entry : ℕ) (d : Data) (domain : Domain) → domain_in devices links names entry d ≡ Ok domain
    → IsDomain (length devices) (length links) names domain
unfolding domain_in
domain_ok devices links names entry d domain h =
    let made : List ℕ → List ℕ → List ℕ → Domain = λ name xs ys. record { name = name; devices = xs; links = ys } in
    let linked : Members → List ℕ → List ℕ → Result Domain TopoFault =
    λ ms name xs. members_in keys.DomainLinks entry links ms >>= (λ ys. Ok (made name xs ys)) in
    let deviced : Members → List ℕ → Result Domain TopoFault = λ ms name. members_in keys.DomainDevices entry devices ms >>= linked ms name in
    let named : Members → Result Domain TopoFault = λ ms. own_name keys.DomainName entry names ms >>= deviced ms in
    let (ms, a, h1) = bind_ok (of_kind (place keys.Domain entry) (as_table d)) named domain h in
    let (name, b, h2) = bind_ok (own_name keys.DomainName entry names ms) (deviced ms) domain h1 in
    let (xs, e, h3) = bind_ok (members_in keys.DomainDevices entry devices ms) (linked ms name) domain h2 in
    let (ys, f, h4) = bind_ok (members_in keys.DomainLinks entry links ms) (λ ys. Ok (made name xs ys)) domain h3 in
    let (limits, new) = own_name_ok keys.DomainName entry names ms name b in
    subst (IsDomain (length devices) (length links) names) (ok_inside (made name xs ys) domain h4)
    (record {
      good = limits;
      new = new;
      on_devices = members_ok keys.DomainDevices entry devices ms xs e;
      on_links = members_ok keys.DomainLinks entry links ms ys f;
    })

-- domains with distinct names, whose lists ascend and are short enough together
record AreDomains (devices links : ℕ) (domains : List Domain) : Type 0 where
  names : AreNames (map (λ domain. domain.name) domains)
  lists : All (λ domain. IsListed devices domain.devices × IsListed links domain.links) domains
  few : things_listed domains ≤ 262144

-- one more domain is in range, and all list few enough things
domain_step : (devices links : List (List ℕ)) (seen : List Domain) (d : Data) (more : List Domain) → one_more_domain devices links seen d ≡ Ok more
    → (domain : Domain) × IsDomain (length devices) (length links) (map (λ domain. domain.name) seen) domain × (more ≡ seen ++ domain ∷ [])
    × (things_listed more ≤ 262144)
unfolding one_more_domain
domain_step devices links seen d more h =
    let end : Domain
    → Result (List Domain) TopoFault = λ domain. allowed (nat_le (things_listed (seen ++ domain ∷ [])) 262144) (Limit kinds.Item) (seen ++ domain ∷ []) in
    let (domain, a, last) = bind_ok (domain_in devices links (map (λ domain. domain.name) seen) (length seen + 1) d) end more h in
    let (few, same) = allowed_ok (nat_le (things_listed (seen ++ domain ∷ [])) 262144) (Limit kinds.Item) (seen ++ domain ∷ []) more last in (
      domain,
      domain_ok devices links (map (λ domain. domain.name) seen)
          (length seen + 1) d domain a,
      sym same,
      subst (λ (all : List Domain). things_listed all ≤ 262144) same
          (leb-true (things_listed (seen ++ domain ∷ [])) 262144 few),
    )

-- the domains are in range and few enough
domains_ok : (devices links : List (List ℕ)) (ms : Members) (domains : List Domain) → domains_in devices links ms ≡ Ok domains
    → AreDomains (length devices) (length links) domains × (length domains ≤ 4096)
unfolding domains_in
domains_ok devices links ms domains h =
    let all : Items → Result (List Domain) TopoFault = λ ds. each_from (one_more_domain devices links) [] ds in
    let few : Items → Result (List Domain) TopoFault = λ ds. allowed (nat_le (count_of ds) 4096) (Limit kinds.Domain) ds >>= all in
    let (d0, a, h1) = bind_ok (array_or_none keys.Domain 0 ms) few domains h in
    let (d1, b, h2) = bind_ok (allowed (nat_le (count_of d0) 4096) (Limit kinds.Domain) d0) all domains h1 in
    let (most, same) = allowed_ok (nat_le (count_of d0) 4096) (Limit kinds.Domain) d0 d1 b in
    let high : count_of d1 ≤ 4096 = subst (λ ds. count_of ds ≤ 4096) same (leb-true (count_of d0) 4096 most) in
    let long : length domains ≡ 0 + count_of d1 = each_len (one_more_domain devices links) grows [] domains d1 h2 in (
      each_ok (one_more_domain devices links) (AreDomains (length devices) (length links)) step [] domains d1 h2
          (record {
            names = no_names;
            lists = All-nil (λ (domain : Domain). IsListed (length devices) domain.devices × IsListed (length links) domain.links);
            few = omega arith;
          }),
      omega arith,
    )
  where
    step : (seen : List Domain) (d : Data) (more : List Domain) → one_more_domain devices links seen d ≡ Ok more
        → AreDomains (length devices) (length links) seen → AreDomains (length devices) (length links) more
    step seen d more h kept =
        let (domain, is, last, few) = domain_step devices links seen d more h in
        subst (AreDomains (length devices) (length links)) (sym last) (record {
          names = names_more (λ (domain : Domain). domain.name) seen domain kept.names is.good is.new;
          lists = All-push (λ (domain : Domain). IsListed (length devices) domain.devices × IsListed (length links) domain.links) seen domain kept.lists
              (is.on_devices, is.on_links);
          few = subst (λ (all : List Domain). things_listed all ≤ 262144) last few;
        })

    grows : (seen : List Domain) (d : Data) (more : List Domain) → one_more_domain devices links seen d ≡ Ok more → length more ≡ length seen + 1
    grows seen d more h = let (domain, is, last, few) = domain_step devices links seen d more h in longer seen more domain last

-- the roots are devices, at least one, none twice
roots_ok : (devices : List (List ℕ)) (ms : Members) (roots : List ℕ) → roots_in devices ms ≡ Ok roots → (1 ≤ length roots) × AreNumbers (length devices) roots
unfolding roots_in
roots_ok devices ms roots h =
    let p = place keys.Roots 0 in
    let all : Items → Result (List ℕ) TopoFault = λ ds. each_from (one_more p devices) [] ds in
    let some : Items → Result (List ℕ) TopoFault = λ ds. allowed (nat_le 1 (count_of ds)) (Range p) ds >>= all in
    let (d0, a, h1) = bind_ok (array keys.Roots 0 ms) some roots h in
    let (d1, b, h2) = bind_ok (allowed (nat_le 1 (count_of d0)) (Range p) d0) all roots h1 in
    let (least, same) = allowed_ok (nat_le 1 (count_of d0)) (Range p) d0 d1 b in
    let low : 1 ≤ count_of d1 = subst (λ ds. 1 ≤ count_of ds) same (leb-true 1 (count_of d0) least) in
    let long : length roots ≡ 0 + count_of d1 = each_len (one_more p devices) (grows p) [] roots d1 h2 in
    let listed = listed_ok p devices d1 roots h2 in
    (omega arith, numbers_differ (length devices) roots listed.within listed.apart)
  where
    grows : (p : Place) (seen : List ℕ) (d : Data) (more : List ℕ) → one_more p devices seen d ≡ Ok more → length more ≡ length seen + 1
    grows p seen d more h = let (n, is, below, new) = one_more_ok p devices seen d more h in longer seen more n is

-- numbers at the top in range
record AreParams (params : Params) : Type 0 where
  rates : (params.ppm ≤ 100000) × (params.grain ≤ 10 ^ 12)
  period : (1 ≤ params.period) × (params.period ≤ 10 ^ 12)
  tick : (1 ≤ params.tick) × (params.tick ≤ 10 ^ 12)
  loss : params.loss ≤ 100
  depth : (1 ≤ params.depth) × (params.depth ≤ 64)

-- the numbers at the top are in range
params_ok : (ms : Members) (params : Params) → params_in ms ≡ Ok params → AreParams params
unfolding params_in
params_ok ms params h =
    let made : ℕ → ℕ → ℕ → ℕ → ℕ → ℕ
    → Params = λ ppm grain period tick loss depth. record { ppm = ppm; grain = grain; period = period; tick = tick; loss = loss; depth = depth } in
    let t5 : ℕ → ℕ → ℕ → ℕ → ℕ
    → Result Params TopoFault = λ ppm grain period tick loss. number keys.Depth 0 1 64 ms >>= (λ depth. Ok (made ppm grain period tick loss depth)) in
    let t4 : ℕ → ℕ → ℕ → ℕ → Result Params TopoFault = λ ppm grain period tick. number keys.Loss 0 0 100 ms >>= t5 ppm grain period tick in
    let t3 : ℕ → ℕ → ℕ → Result Params TopoFault = λ ppm grain period. number keys.Tick 0 1 (10 ^ 12) ms >>= t4 ppm grain period in
    let t2 : ℕ → ℕ → Result Params TopoFault = λ ppm grain. number keys.Period 0 1 (10 ^ 12) ms >>= t3 ppm grain in
    let t1 : ℕ → Result Params TopoFault = λ ppm. number keys.Grain 0 0 (10 ^ 12) ms >>= t2 ppm in
    let (ppm, a1, h1) = bind_ok (number keys.Ppm 0 0 100000 ms) t1 params h in
    let (grain, a2, h2) = bind_ok (number keys.Grain 0 0 (10 ^ 12) ms) (t2 ppm) params h1 in
    let (period, a3, h3) = bind_ok (number keys.Period 0 1 (10 ^ 12) ms) (t3 ppm grain) params h2 in
    let (tick, a4, h4) = bind_ok (number keys.Tick 0 1 (10 ^ 12) ms) (t4 ppm grain period) params h3 in
    let (loss, a5, h5) = bind_ok (number keys.Loss 0 0 100 ms) (t5 ppm grain period tick) params h4 in
    let (depth, a6, h6) = bind_ok (number keys.Depth 0 1 64 ms) (λ depth. Ok (made ppm grain period tick loss depth)) params h5 in
    subst AreParams (ok_inside (made ppm grain period tick loss depth) params h6) (record {
      rates = ((number_ok keys.Ppm 0 0 100000 ms ppm a1).1, (number_ok keys.Grain 0 0 (10 ^ 12) ms grain a2).1);
      period = number_ok keys.Period 0 1 (10 ^ 12) ms period a3;
      tick = number_ok keys.Tick 0 1 (10 ^ 12) ms tick a4;
      loss = (number_ok keys.Loss 0 0 100 ms loss a5).1;
      depth = number_ok keys.Depth 0 1 64 ms depth a6;
    })

-- the four tests of a domain's lists as one
all_four : (a b c d : Bool) → a ≡ true → b ≡ true → c ≡ true → d ≡ true → IsTrue (a && b && c && d)
all_four a b c d ha hb hc hd = rw (ha, hb, hc, hd) refl

-- devices, links, domains and roots in range are a network
network_made : (version : ℕ) (params : Params) (devices : List Device) (links : List Link) (domains : List Domain) (roots : List ℕ)
    → (1 ≤ version) × (version ≤ 2) → AreParams params → AreDevices devices × (1 ≤ length devices) × (length devices ≤ 4096)
    → AreLinks (length devices) links × (length links ≤ 32768) → AreDomains (length devices) (length links) domains × (length domains ≤ 4096)
    → (1 ≤ length roots) × AreNumbers (length devices) roots
    → IsNetwork (record { version = version; params = params; devices = devices; links = links; domains = domains; roots = roots })
network_made version params devices links domains roots good_version good_params good_devices good_links good_domains good_roots = record {
  version = good_version;
  rates = good_params.rates;
  period = good_params.period;
  tick = good_params.tick;
  loss = good_params.loss;
  depth = good_params.depth;
  devices = (good_devices.1, good_devices.2);
  links = good_links.1;
  domains = good_domains.1;
  listed = good_domains.0.few;
  distinct_devices = names_differ _ good_devices.0.names.apart;
  distinct_links = names_differ _ good_links.0.names.apart;
  distinct_domains = names_differ _ good_domains.0.names.apart;
  names = (
    each_of (λ name. IsTrue (is_name name)) _ good_devices.0.names.limits,
    each_of (λ name. IsTrue (is_name name)) _ good_links.0.names.limits,
    each_of
        (λ name. IsTrue (is_name name)) _ good_domains.0.names.limits,
  );
  each_device = each_of (λ (device : Device). IsRates device.rates) devices good_devices.0.rates;
  each_link = each_of (λ (link : Link). IsLink (length devices) link.entry) links good_links.0.fit;
  each_domain = λ i domain at.
      let lists = each_of (λ (domain : Domain). IsListed (length devices) domain.devices
      × IsListed (length links) domain.links) domains good_domains.0.lists i domain at in
      all_four (ascends domain.devices) (ascends domain.links) (all_below (length devices) domain.devices)
      (all_below (length links) domain.links) lists.0.0 lists.1.0 lists.0.1 lists.1.1;
  each_root = good_roots;
}

-- what a tree means is a network
pub network_in_ok : (ms : Members) (net : Network) → network_in ms ≡ Ok net → IsNetwork net
unfolding network_in
network_in_ok ms net h =
    let made : ℕ → Params → List Device → List Link → List Domain → List ℕ → Network = λ version params devices links domains roots.
    record { version = version; params = params; devices = devices; links = links; domains = domains; roots = roots } in
    let names : List Device → List (List ℕ) = λ devices. map (λ device. device.name) devices in
    let link_words : List Link → List (List ℕ) = λ links. map (λ link. link.name) links in
    let t4 : ℕ → Params → List Device → List Link → List Domain
    → Result Network TopoFault =
    λ version params devices links domains. roots_in (names devices) ms >>= (λ roots. Ok (made version params devices links domains roots)) in
    let t3 : ℕ → Params → List Device → List Link → Result Network TopoFault =
    λ version params devices links. domains_in (names devices) (link_words links) ms >>= t4 version params devices links in
    let t2 : ℕ → Params → List Device → Result Network TopoFault =
    λ version params devices. links_in version (names devices) ms >>= t3 version params devices in
    let t1 : ℕ → Params → Result Network TopoFault = λ version params. devices_in version (top_rates params) ms >>= t2 version params in
    let t0 : ℕ → Result Network TopoFault = λ version. params_in ms >>= t1 version in
    let (version, a0, h0) = bind_ok (number keys.Version 0 1 2 ms) t0 net h in
    let (params, a1, h1) = bind_ok (params_in ms) (t1 version) net h0 in
    let (devices, a2, h2) = bind_ok (devices_in version (top_rates params) ms) (t2 version params) net h1 in
    let (links, a3, h3) = bind_ok (links_in version (names devices) ms) (t3 version params devices) net h2 in
    let (domains, a4, h4) = bind_ok (domains_in (names devices) (link_words links) ms) (t4 version params devices links) net h3 in
    let (roots, a5, h5) = bind_ok (roots_in (names devices) ms) (λ roots. Ok (made version params devices links domains roots)) net h4 in
    let good_params = params_ok ms params a1 in
    let device_count = names_count (λ (device : Device). device.name) devices in
    let link_count = names_count (λ (link : Link). link.name) links in
    let good_links = subst (λ n. AreLinks n links × (length links ≤ 32768)) device_count (links_ok version (names devices) ms links a3) in
    let good_domains = subst (λ n. AreDomains (length devices) n domains × (length domains ≤ 4096)) link_count
    (subst (λ n. AreDomains n (length (link_words links)) domains × (length domains ≤ 4096)) device_count
    (domains_ok (names devices) (link_words links) ms domains a4)) in
    let good_roots = subst (λ n. (1 ≤ length roots) × AreNumbers n roots) device_count (roots_ok (names devices) ms roots a5) in
    subst IsNetwork (ok_inside (made version params devices links domains roots) net h5)
    (network_made version params devices links domains roots (number_ok keys.Version 0 1 2 ms version a0) good_params
    (devices_ok version (top_rates params) ms devices good_params.rates a2) good_links good_domains good_roots)

-- what a text means is a network
pub meant_is_network : (tree : Option Members) (net : Network) → network_of tree ≡ Ok net → IsNetwork net
unfolding network_of
meant_is_network None net h = cc
meant_is_network (Some ms) net h = network_in_ok ms net h
