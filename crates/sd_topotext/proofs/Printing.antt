-- The tree that is built is the tree that is printed.
use Rattle.std.proofs.Common.{◌≡◌, ℕ, zero, suc, ◌+◌, ◌<◌, List, [], ◌∷◌, ◌++◌, length, map, take, get_or, String, Global, string_bytes, option_map, Ordering, Less, Equal, Greater, refl, ap, sym, ◌∙◌, add-one, arith}
use Rattle.std.specs.Ordering.{match_ordering}
use Rattle.std.specs.String.{string_cmp}
use Rattle.std.specs.BTreeMap.{insert_entry}
use Rattle.toml.specs.Data.{Data, item, Members, member, no_members, push_item, string, array, table}
use Rattle.toml.specs.View.{view, items_of, items_view, members_view}
use Rattle.toml.specs.declared.value.Value.{Value}
use Rattle.toml.proofs.Views.{items_view-push}
use Rattle.std.proofs.lemmas.Option.{slice_get-map, slice_get-get_or}
use Rattle.sd_num.specs.declared.Rates.{Rates}
use Rattle.sd_num.specs.Lists.{map_or}
use Rattle.sd_plan.specs.declared.topo.Side.{Side}
use Rattle.sd_plan.specs.declared.topo.Side.TheVariants.{Root}
use Rattle.sd_plan.specs.declared.topo.Params.{Params}
use Rattle.sd_plan.specs.declared.topo.LinkEntry.{LinkEntry}
use Rattle.sd_topotext.specs.declared.fault.Key.TheVariants as keys
use Rattle.sd_plan.specs.topo.Network.{Network, Device, Link, Domain, no_rates, no_link, device_names, link_names, name_at, rates_of, link_of}
use Rattle.sd_plan.specs.topo.Places.{no_device, no_named_link, no_domain, domain_names, side_of, domain_of}
use Rattle.sd_plan.proofs.topo.Laws.{found_at}
use Rattle.sd_topotext.specs.Printed.{put_word, put, whole, side_word, names_data, device_tree, link_tree, domain_tree, params_tree, network_tree}

-- an entry goes to the place of its key
pub put_view : (es : List (String Global × Value)) (key : String Global) (v : Value)
    → members_view (insert_entry string_cmp es key v) ≡ put_word (string_bytes key) (view v) (members_view es)
put_view [] key v = refl
put_view (e ∷ es) key v = by (string_cmp key e.0) (put_view es key v)
  where
    by : (o : Ordering) → members_view (insert_entry string_cmp es key v) ≡ put_word (string_bytes key) (view v) (members_view es)
        → members_view (match_ordering o ((key, v) ∷ e ∷ es) ((e.0, v) ∷ es) (e ∷ insert_entry string_cmp es key v))
        ≡ match_ordering o (member (string_bytes key) (view v) (member (string_bytes e.0) (view e.1) (members_view es)))
        (member (string_bytes e.0) (view v) (members_view es))
        (member (string_bytes e.0) (view e.1) (put_word (string_bytes key) (view v) (members_view es)))
    by Less rest = refl
    by Equal rest = refl
    by Greater rest = ap (member (string_bytes e.0) (view e.1)) rest

-- one more item at the end
pub items_of-push : (ds : List Data) (d : Data) → items_of (ds ++ d ∷ []) ≡ push_item (items_of ds) d
items_of-push [] d = refl
items_of-push (x ∷ ds) d = ap (item x) (items_of-push ds d)

-- one more item of an array that prints a list element by element
pub items_more : {A : Type 0} (tree : A → Data) (xs : List A) (i : ℕ) (d : A) (vs new : List Value) (v : Value) → i < length xs
    → items_view vs ≡ items_of (map tree (take i xs)) → view v ≡ tree (get_or xs i d)
    → new ≡ vs ++ v ∷ [] → items_view new ≡ items_of (map tree (take (i + 1) xs))
items_more tree xs i d vs new v within so_far one is =
    ap items_view is ∙ items_view-push vs v ∙ ap (λ ds. push_item ds (view v)) so_far ∙ ap (push_item (items_of (map tree (take i xs)))) one
    ∙ sym (items_of-push (map tree (take i xs)) (tree (get_or xs i d))) ∙ ap items_of (sym (taken tree xs i d within))
  where
    taken : {A : Type 0} (tree : A → Data) (xs : List A) (i : ℕ) (d : A) → i < length xs
        → map tree (take (i + 1) xs) ≡ map tree (take i xs) ++ tree (get_or xs i d) ∷ []
    taken tree [] i d h = absurd (omega arith)
    taken tree (x ∷ xs) zero d h = refl
    taken tree (x ∷ xs) (suc i) d h = rw (add-one (suc i)) (ap (λ l. tree x ∷ l) (rw (add-one i) at (taken tree xs i d (omega arith))))

-- the name at a place where there is a thing
named : {A : Type 0} (name : A → List ℕ) (xs : List A) (i : ℕ) (d : A) → i < length xs → name_at (map name xs) i ≡ name (get_or xs i d)
named name xs i d within = ap (λ o. map_or o [] (λ n. n)) (slice_get-map name xs i ∙ ap (option_map name) (slice_get-get_or xs i d within))

-- a device as its accessors tell it
pub device_told : (net : Network) (d : ℕ) → d < length net.devices
    → (name_at (device_names net) d ≡ (get_or net.devices d no_device).name) × (side_of net d ≡ (get_or net.devices d no_device).side)
    × (rates_of net d ≡ (get_or net.devices d no_device).rates)
device_told net d within = (
  named (λ (device : Device). device.name) net.devices d no_device within,
  found_at net.devices d no_device Root
      (λ device. device.side) within,
  found_at net.devices d no_device no_rates (λ device. device.rates) within,
)

-- a link as its accessors tell it
pub link_told : (net : Network) (l : ℕ) → l < length net.links
    → (name_at (link_names net) l ≡ (get_or net.links l no_named_link).name) × (link_of net l ≡ (get_or net.links l no_named_link).entry)
link_told net l within =
    (named (λ (link : Link). link.name) net.links l no_named_link within, found_at net.links l no_named_link no_link (λ link. link.entry) within)

-- a domain as its accessors tell it
pub domain_told : (net : Network) (f : ℕ) → f < length net.domains
    → (name_at (domain_names net) f ≡ (get_or net.domains f no_domain).name) × (domain_of net f ≡ get_or net.domains f no_domain)
domain_told net f within =
    (named (λ (domain : Domain). domain.name) net.domains f no_domain within, found_at net.domains f no_domain no_domain (λ domain. domain) within)

-- a device's members put one by one
pub device_made : (device : Device) (t0 t1 t2 t3 t4 : Members) (name : List ℕ) (side : Side) (rates : Rates) (ppm : ℕ) (word : Data) → name ≡ device.name
    → side ≡ device.side → rates ≡ device.rates
    → ppm ≡ rates.ppm → word ≡ string (side_word side) → t0 ≡ no_members → t1 ≡ put keys.DeviceGrain (whole rates.grain) t0
    → t2 ≡ put keys.DevicePpm (whole ppm) t1
    → t3 ≡ put keys.DeviceSide word t2 → t4 ≡ put keys.DeviceName (string name) t3 → t4 ≡ device_tree device
unfolding device_tree
device_made device t0 t1 t2 t3 t4 name side rates ppm word a b c d e e0 e1 e2 e3 e4 = rw (e4, e3, e2, e1, e0, e, d, a, b, c) refl

-- a link's members put one by one
pub link_made : (names : List (List ℕ)) (link : Link) (t0 t1 t2 t3 t4 t5 t6 : Members) (name : List ℕ) (entry : LinkEntry) (ends : Data) → name ≡ link.name
    → entry ≡ link.entry
    → ends ≡ array (items_of (string (name_at names entry.end_a) ∷ string (name_at names entry.end_b) ∷ [])) → t0 ≡ no_members
    → t1 ≡ put keys.LinkBackMax (whole entry.back_max) t0 → t2 ≡ put keys.LinkBackMin (whole entry.back_min) t1
    → t3 ≡ put keys.LinkMax (whole entry.max) t2 → t4 ≡ put keys.LinkMin (whole entry.min) t3 → t5 ≡ put keys.LinkEnds ends t4
    → t6 ≡ put keys.LinkName (string name) t5 → t6 ≡ link_tree names link
unfolding link_tree
link_made names link t0 t1 t2 t3 t4 t5 t6 name entry ends a b c e0 e1 e2 e3 e4 e5 e6 = rw (e6, e5, e4, e3, e2, e1, e0, c, a, b) refl

-- a domain's members put one by one
pub domain_made : (devices links : List (List ℕ)) (domain : Domain) (t0 t1 t2 t3 : Members) (name : List ℕ) (on_devices on_links : Data) → name ≡ domain.name
    → on_devices ≡ names_data devices domain.devices → on_links ≡ names_data links domain.links
    → t0 ≡ no_members → t1 ≡ put keys.DomainLinks on_links t0 → t2 ≡ put keys.DomainDevices on_devices t1 → t3 ≡ put keys.DomainName (string name) t2
    → t3 ≡ domain_tree devices links domain
unfolding domain_tree
domain_made devices links domain t0 t1 t2 t3 name on_devices on_links a b c e0 e1 e2 e3 = rw (e3, e2, e1, e0, a, b, c) refl

-- the numbers at the top put one by one
pub params_made : (net : Network) (t0 t1 t2 t3 t4 t5 t6 t7 : Members) (params : Params) (depth loss ppm : ℕ) → params ≡ net.params → depth ≡ params.depth
    → loss ≡ params.loss → ppm ≡ params.ppm → t0 ≡ no_members
    → t1 ≡ put keys.Depth (whole depth) t0 → t2 ≡ put keys.Loss (whole loss) t1 → t3 ≡ put keys.Tick (whole params.tick) t2
    → t4 ≡ put keys.Period (whole params.period) t3 → t5 ≡ put keys.Grain (whole params.grain) t4
    → t6 ≡ put keys.Ppm (whole ppm) t5 → t7 ≡ put keys.Version (whole 2) t6 → t7 ≡ params_tree net
unfolding params_tree
params_made net t0 t1 t2 t3 t4 t5 t6 t7 params depth loss ppm a b c d e0 e1 e2 e3 e4 e5 e6 e7 = rw (e7, e6, e5, e4, e3, e2, e1, e0, b, c, d, a) refl

-- the arrays put one by one
pub network_made : (net : Network) (t0 t1 t2 t3 t4 : Members) (roots domains links devices : Data) → t0 ≡ params_tree net
    → roots ≡ names_data (device_names net) net.roots
    → domains ≡ array (items_of (map (λ domain. table (domain_tree (device_names net) (link_names net) domain)) net.domains))
    → links ≡ array (items_of (map (λ link. table (link_tree (device_names net) link)) net.links))
    → devices ≡ array (items_of (map (λ device. table (device_tree device)) net.devices))
    → t1 ≡ put keys.Roots roots t0 → t2 ≡ put keys.Domain domains t1 → t3 ≡ put keys.Link links t2 → t4 ≡ put keys.Device devices t3 → t4 ≡ network_tree net
unfolding network_tree
network_made net t0 t1 t2 t3 t4 roots domains links devices e0 a b c d e1 e2 e3 e4 = rw (e4, e3, e2, e1, e0, a, b, c, d) refl
