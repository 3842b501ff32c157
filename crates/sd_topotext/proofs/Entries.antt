-- One more entry of a table, and of the list that the table stands for.
use Rattle.std.proofs.Common.{◌≡◌, ◌≢◌, ℕ, ◌+◌, List, [], ◌∷◌, ◌++◌, length, get_or, map, refl, ap, ◌∙◌, String, Global, string_bytes, Ok, Err, add-one, nat_le, arith}
use Rattle.std.proofs.lemmas.List.{map-append}
use Rattle.std.specs.Map.{keys_of}
use Rattle.indexmap.specs.IndexMap.{IndexMap, index_map_len}
use Rattle.toml.specs.Data.{Data}
use Rattle.sd_num.specs.declared.Rates.{Rates}
use Rattle.sd_plan.specs.declared.topo.parts.Station.{Station}
use Rattle.sd_plan.specs.declared.topo.parts.Group.{Group}
use Rattle.sd_plan.specs.topo.Network.{Device, Link, Domain}
use Rattle.sd_plan.specs.topo.Seen.{names_seen, device_seen, devices_seen, link_seen, links_seen, domain_seen, domains_seen, Adds}
use Rattle.sd_topotext.specs.Then.{◌>>=◌}
use Rattle.sd_topotext.specs.Meaning.{count_of, two, allowed, things_listed, device_in, one_more_device, link_in, one_more_link, domain_in, one_more_domain}
use Rattle.sd_plan.specs.declared.topo.LinkEntry.{LinkEntry}
use Rattle.sd_topotext.specs.declared.fault.Kind.TheVariants.{Item}
use Rattle.sd_topotext.specs.declared.fault.TopoFault.TheVariants.{Limit, Range}
use Rattle.sd_topotext.specs.declared.fault.Place.{Place}
use Rattle.std.proofs.lemmas.List.Sums.{sum_by-append}
use Rattle.toml.specs.View.{view, items_view}
use Rattle.toml.specs.declared.value.Value.{Value}
use Rattle.sd_plan.proofs.topo.Lists.{length-map}

-- the names of the things that entries stand for are the entries' names
names_of_entries : {V B : Type 0} (see : String Global × V → B) (name : B → List ℕ) → ((e : String Global × V) → name (see e) ≡ string_bytes e.0)
    → (es : List (String Global × V))
    → map name (map see es) ≡ map string_bytes (keys_of es)
names_of_entries see name same [] = refl
names_of_entries see name same (e ∷ es) = rw (same e, names_of_entries see name same es) refl

-- the next device, by the table of those before
pub one_more_device_seen : {S : Type 0} (version : ℕ) (top : Rates) (table : IndexMap (String Global) Station S) (d : Data)
    → one_more_device version top (devices_seen table) d
    ≡ (device_in version top (names_seen table) (index_map_len table + 1) d >>= (λ device. Ok (devices_seen table ++ device ∷ [])))
unfolding one_more_device
one_more_device_seen version top table d =
    rw (names_of_entries device_seen (λ (device : Device). device.name) (λ e. refl) table.entries, length-map device_seen table.entries) refl

-- one more entry of the table is one more device
pub devices_added : {S : Type 0} (old new : IndexMap (String Global) Station S) (name : List ℕ) (v : Station) → Adds old new name v
    → devices_seen new ≡ devices_seen old ++ (record { name = name; side = v.side; rates = v.rates }) ∷ []
devices_added old new name v adds =
    ap (map device_seen) adds.last ∙ map-append device_seen old.entries ((adds.key, v) ∷ [])
    ∙ ap (λ (n : List ℕ). devices_seen old ++ (record { name = n; side = v.side; rates = v.rates }) ∷ []) adds.named

-- how many items some values are
pub count_of_items : (vs : List Value) → count_of (items_view vs) ≡ length vs
count_of_items [] = refl
count_of_items (v ∷ vs) = ap (λ n. n + 1) (count_of_items vs) ∙ add-one _

-- the next link, by the table of those before
pub one_more_link_seen : {S : Type 0} (version : ℕ) (devices : List (List ℕ)) (table : IndexMap (String Global) LinkEntry S) (d : Data)
    → one_more_link version devices (links_seen table) d
    ≡ (link_in version devices (names_seen table) (index_map_len table + 1) d >>= (λ link. Ok (links_seen table ++ link ∷ [])))
unfolding one_more_link
one_more_link_seen version devices table d =
    rw (names_of_entries link_seen (λ (link : Link). link.name) (λ e. refl) table.entries, length-map link_seen table.entries) refl

-- one more entry of the table is one more link
pub links_added : {S : Type 0} (old new : IndexMap (String Global) LinkEntry S) (name : List ℕ) (v : LinkEntry) → Adds old new name v
    → links_seen new ≡ links_seen old ++ (record { name = name; entry = v }) ∷ []
links_added old new name v adds =
    ap (map link_seen) adds.last ∙ map-append link_seen old.entries ((adds.key, v) ∷ [])
    ∙ ap (λ (n : List ℕ). links_seen old ++ (record { name = n; entry = v }) ∷ []) adds.named

-- the next domain, by the table of those before
pub one_more_domain_seen : {S : Type 0} (devices links : List (List ℕ)) (table : IndexMap (String Global) Group S) (d : Data)
    → one_more_domain devices links (domains_seen table) d
    ≡ (domain_in devices links (names_seen table) (index_map_len table + 1)
    d >>= (λ domain. allowed (nat_le (things_listed (domains_seen table ++ domain ∷ [])) 262144) (Limit Item) (domains_seen table ++ domain ∷ [])))
unfolding one_more_domain
one_more_domain_seen devices links table d =
    rw (names_of_entries domain_seen (λ (domain : Domain). domain.name) (λ e. refl) table.entries, length-map domain_seen table.entries) refl

-- one more entry of the table is one more domain
pub domains_added : {S : Type 0} (old new : IndexMap (String Global) Group S) (name : List ℕ) (v : Group) → Adds old new name v
    → domains_seen new ≡ domains_seen old ++ (record { name = name; devices = v.devices.items; links = v.links.items }) ∷ []
domains_added old new name v adds =
    ap (map domain_seen) adds.last ∙ map-append domain_seen old.entries ((adds.key, v) ∷ [])
    ∙ ap (λ (n : List ℕ). domains_seen old ++ (record { name = n; devices = v.devices.items; links = v.links.items }) ∷ []) adds.named

-- one more domain lists this many things more
pub things_listed_more : (domains : List Domain) (name devices links : List ℕ)
    → things_listed (domains ++ (record { name = name; devices = devices; links = links }) ∷ []) ≡ things_listed domains + (length devices + length links)
things_listed_more domains name devices links =
    let more = sum_by-append (λ (domain : Domain). length domain.devices + length domain.links) domains
    ((record { name = name; devices = devices; links = links }) ∷ []) in
    omega (arith, more)

-- the names of the devices and links that tables stand for
pub device_names_seen : {S : Type 0} (table : IndexMap (String Global) Station S) → map (λ device. device.name) (devices_seen table) ≡ names_seen table
device_names_seen table = names_of_entries device_seen (λ (device : Device). device.name) (λ e. refl) table.entries

-- the same of links
pub link_names_seen : {S : Type 0} (table : IndexMap (String Global) LinkEntry S) → map (λ link. link.name) (links_seen table) ≡ names_seen table
link_names_seen table = names_of_entries link_seen (λ (link : Link). link.name) (λ e. refl) table.entries

-- an array of another length has not two elements
pub two_wrong : (p : Place) (vs : List Value) → length vs ≢ 2 → two p (items_view vs) ≡ Err (Range p)
two_wrong p [] other = refl
two_wrong p (a ∷ []) other = refl
two_wrong p (a ∷ b ∷ []) other = absurd (other refl)
two_wrong p (a ∷ b ∷ c ∷ vs) other = refl

-- of an array of two the elements are those at 0 and 1
pub two_right : (p : Place) (vs : List Value) (a b : Value) → length vs ≡ 2 → a ≡ get_or vs 0 a → b ≡ get_or vs 1 b
    → two p (items_view vs) ≡ Ok (view a, view b)
two_right p [] a b long first second = cc
two_right p (x ∷ []) a b long first second = cc
two_right p (x ∷ y ∷ []) a b long first second = rw (first, second) refl
two_right p (x ∷ y ∷ z ∷ vs) a b long first second = cc
