-- The tree of a fabric is read as the fabric.
use Rattle.std.specs.Prelude.{◌≡◌, ◌≢◌, ℕ, zero, suc, ◌+◌, ◌-◌, ◌*◌, ◌/◌, ◌%◌, ◌<◌, ◌≤◌, Bool, true, false, List, [], ◌∷◌, ◌++◌, length, map, nat_eq, nat_lt, slice_get, codes, decimal, All, Some, Result, Ok, Err, refl, if◌then◌else◌}
use Rattle.std.specs.List.{list_any}
use Rattle.std.specs.Str.{bytes_eq, IsUtf8}
use Rattle.std.proofs.Common.{arith, ap, sym, ◌∙◌, subst, String, Global, string_bytes}
use Rattle.std.proofs.Math.Nat.{mul_comm, mul-le-mul_right}
use Rattle.std.proofs.lemmas.Bool.{le-leb, ne_eqb}
use Rattle.std.proofs.lemmas.Nat.{div-mul-add, mod-mul-add, mod_below, div_below, div-add-mod', mul-le, mul-add-lt}
use Rattle.std.proofs.lemmas.Str.{IsUtf8-string_bytes}
use Rattle.std.proofs.lemmas.Option.{slice_get-get_or}
use Rattle.toml.specs.Data.{Data, Items, Members, members_depth, string, array, table}
use Rattle.toml.specs.View.{items_of}
use Rattle.toml.specs.Parse.{parse_document}
use Rattle.toml.specs.Text.{IsDocumentText}
use Rattle.toml.proofs.ReadBack.{parse_document-printed}
use Rattle.sd_num.specs.Lists.{below, has, ascending}
use Rattle.sd_num.specs.declared.Rates.{Rates}
use Rattle.sd_plan.specs.topo.Network.{Network, Device, Link, Domain, is_name, number_in, name_at}
use Rattle.sd_plan.specs.topo.Limits.{AreDistinct, IsNetwork}
use Rattle.sd_plan.proofs.topo.Ascending.{Rises, ascending-itself}
use Rattle.sd_plan.proofs.topo.Places.{number_back}
use Rattle.sd_plan.proofs.Numbered.{length-numbered, at-numbered, get_or-numbered, length-below}
use Rattle.sd_topotext.specs.declared.fault.TopoFault.{TopoFault}
use Rattle.sd_topotext.specs.declared.fault.Place.{Place}
use Rattle.sd_topotext.specs.declared.fault.Key.TheVariants as keys
use Rattle.sd_topotext.specs.Meaning.{place, value, count_of, each_from, number, text, array as array_at, array_or_none, own_name, referred, one_more as one_more_listed, params_in, side_in, rates_in, device_in, one_more_device, devices_in, ends_in, delay_in, back_in, link_in, one_more_link, links_in, members_in, domain_in, things_listed, one_more_domain, domains_in, roots_in, network_in, network_of}
use Rattle.sd_topotext.specs.Then.{◌>>=◌}
use Rattle.sd_topotext.specs.Reading.{tree_of}
use Rattle.sd_topotext.proofs.Meant.{network_in_ok}
use Rattle.sd_topotext.proofs.Trees.{tree_known}
use Rattle.sd_gen.specs.fabric.Fabrics.{params, spine_name, leaf_name, link_name, device_named, link_between, rack, fabric}
use Rattle.sd_gen.specs.fabric.Texts.{IsFabricText}
use Rattle.sd_gen.specs.fabric.Numbered.{device_at, link_at, numbered_device_name}
use Rattle.sd_gen.specs.fabric.Trees.{device_tree, link_tree, rack_tree, fabric_tree}
use Rattle.sd_gen.proofs.fabric.Numbering.{numbered, one_more, alike, numbered_append, grid, none_below, sum_alike}
use Rattle.sd_gen.proofs.fabric.Naming.{device_is_name, link_is_name, rack_is_name, told_apart, devices_apart, racks_apart, links_same}
use Rattle.sd_gen.proofs.fabric.Building.{map_twice, devices_numbered, links_numbered, tables_numbered, strings_numbered, roots_numbered, spine_named, leaf_named, fabric_depth}
use Rattle.sd_gen.proofs.fabric.Paging.{fabric_sorted, fabric_dated}

-- Items one by one

abbrev goes_on : {B : Type 0} → (List B → Data → Result (List B) TopoFault) → Result (List B) TopoFault → List Data → Result (List B) TopoFault
goes_on step r rest = r >>= (λ s. each_from step s (items_of rest))

one_item_more : {B : Type 0} (step : List B → Data → Result (List B) TopoFault) (seen more : List B) (ds : List Data) (d : Data)
    → each_from step seen (items_of ds) ≡ Ok more
    → each_from step seen (items_of (ds ++ d ∷ [])) ≡ each_from step more (items_of (d ∷ []))
one_item_more {B} step seen more [] d so_far = let same : seen ≡ more =
    (let both_ok : ◌≡◌ {A = Result (List B) TopoFault} (Ok seen) (Ok more) = so_far in cc) in ap (λ s. each_from step s (items_of (d ∷ []))) same
one_item_more {B} step seen more (e ∷ ds) d so_far = by (step seen e) (λ s known. one_item_more step s more ds d known) so_far
  where
    by : (r : Result (List B) TopoFault)
        → ((s : List B) → each_from step s (items_of ds) ≡ Ok more → each_from step s (items_of (ds ++ d ∷ [])) ≡ each_from step more (items_of (d ∷ [])))
        → goes_on step r ds ≡ Ok more → goes_on step r (ds ++ d ∷ []) ≡ each_from step more (items_of (d ∷ []))
    by (Ok s) rest known = rest s known
    by (Err e) rest known = cc

-- what is read of each number below a count
each_read : {B : Type 0} (step : List B → Data → Result (List B) TopoFault) (tree : ℕ → Data) (make : ℕ → B) (n : ℕ)
    → ((k : ℕ) → k < n → step (numbered make k) (tree k) ≡ Ok (numbered make k ++ make k ∷ []))
    → each_from step [] (items_of (numbered tree n)) ≡ Ok (numbered make n)
each_read step tree make zero reads = refl
each_read {B} step tree make (suc n) reads =
    let ok : List B → Result (List B) TopoFault = λ l. Ok l in
    ap (λ ds. each_from step [] (items_of ds)) (one_more tree n)
    ∙ one_item_more step [] (numbered make n) (numbered tree n) (tree n) (each_read step tree make n (λ k h. reads k (omega (arith, h))))
    ∙ rw (reads n (omega arith)) (ap ok (sym (one_more make n)))

count_read : (tree : ℕ → Data) (n : ℕ) → count_of (items_of (numbered tree n)) ≡ n
count_read tree n = by (below n) ∙ length-below n
  where
    by : (ks : List ℕ) → count_of (items_of (map tree ks)) ≡ length ks
    by [] = refl
    by (k ∷ ks) = let rest = by ks in omega (arith, rest)

-- Names by number

-- names that differ are found by their numbers
distinct : (name : ℕ → List ℕ) (n : ℕ) → ((i j : ℕ) → i < n → j < n → i ≢ j → name i ≢ name j) → AreDistinct (numbered name n)
distinct name n apart i j before within same =
    let count : length (numbered name n) ≡ n = length-numbered name n in
    let high : j < n = omega (arith, within, count) in
    apart i j (omega (arith, before, high)) high (λ equal. omega (arith, before, equal))
    (some_same (name i) (name j) (sym (at i (omega (arith, before, high))) ∙ same ∙ at j high))
  where
    some_same : (x y : List ℕ) → Some x ≡ Some y → x ≡ y
    some_same x y h = cc

    at : (k : ℕ) → k < n → slice_get (numbered name n) k ≡ Some (name k)
    at k less = let count : length (numbered name n) ≡ n = length-numbered name n in
        slice_get-get_or (numbered name n) k [] (omega (arith, less, count)) ∙ ap (λ (x : List ℕ). Some x) (get_or-numbered name n k [] less)

found_by : (name : ℕ → List ℕ) (n k : ℕ) → ((i j : ℕ) → i < n → j < n → i ≢ j → name i ≢ name j) → k < n → number_in (numbered name n) (name k) ≡ Some k
found_by name n k apart less =
    let count : length (numbered name n) ≡ n = length-numbered name n in
    let named : name_at (numbered name n) k ≡ name k = at-numbered name n k [] (λ x. x) less in
    ap (number_in (numbered name n)) (sym named) ∙ number_back (numbered name n) k (distinct name n apart) (omega (arith, less, count))

-- a name is none of those before
pub new_name : {B : Type 0} (name_of : B → List ℕ) (make : ℕ → B) (k n : ℕ) → ((i j : ℕ) → i < n → j < n → i ≢ j → name_of (make i) ≢ name_of (make j)) → k < n
    → list_any (bytes_eq (name_of (make k))) (map name_of (numbered make k)) ≡ false
new_name name_of make k n apart less =
    ap (list_any (bytes_eq (name_of (make k)))) (map_twice name_of make (below k))
    ∙ none_below (bytes_eq (name_of (make k))) (λ i. name_of (make i)) k
    (λ i h. told_apart (name_of (make k)) (name_of (make i)) (apart k i less (omega (arith, h, less)) (λ same. omega (arith, same, h))))

-- Numbers that rise

front : {A : Type 0} (f : ℕ → A) (n : ℕ) → numbered f (suc n) ≡ f 0 ∷ numbered (λ k. f (suc k)) n
front f zero = refl
front f (suc n) =
    one_more f (suc n)
    ∙ ap (λ xs. xs ++ f (suc n) ∷ []) (front f n)
    ∙ ap (λ xs. f 0 ∷ xs) (sym (one_more (λ k. f (suc k)) n))

rises : (a base n : ℕ) → a ≤ base → Rises a (numbered (λ j. base + j) n)
rises a base zero low = tt
rises a base (suc n) low =
    let rest : Rises (suc (base + 0)) (numbered (λ j. suc base + j) n) = rises (suc (base + 0)) (suc base) n (omega arith) in
    subst (Rises a) (sym (front (λ j. base + j) n)) (
      omega (arith, low),
      subst (Rises (suc (base + 0)))
          (alike (λ j. suc base + j) (λ j. base + suc j) n (λ k h. let same : suc base + k ≡ base + suc k = omega arith in same)) rest,
    )

itself : (count base n : ℕ) → base + n ≤ count → ascending count (numbered (λ j. base + j) n) ≡ numbered (λ j. base + j) n
itself count base n within = ascending-itself count (numbered (λ j. base + j) n) (rises 0 base n (omega arith)) all
  where
    all : All (λ m. m < count) (numbered (λ j. base + j) n)
    all i d h =
        let few : length (numbered (λ j. base + j) n) ≡ n = length-numbered (λ j. base + j) n in
        let less : i < n = omega (arith, h, few) in
        subst (λ (m : ℕ). m < count) (sym (get_or-numbered (λ j. base + j) n i d less)) (omega (arith, less, within))

-- a number is none of those before
new_number : (base k : ℕ) → has (numbered (λ j. base + j) k) (base + k) ≡ false
new_number base k = none_below (nat_eq (base + k)) (λ j. base + j) k (λ i h. ne_eqb (base + k) (base + i) (λ same. omega (arith, same, h)))

-- the numbers from 0 on
pub from_zero : (n : ℕ) → numbered (λ j. 0 + j) n ≡ below n
from_zero n = alike (λ j. 0 + j) (λ j. j) n (λ j h. let same : 0 + j ≡ j = omega arith in same) ∙ map_itself (below n)
  where
    map_itself : (ks : List ℕ) → map (λ k. k) ks ≡ ks
    map_itself [] = refl
    map_itself (k ∷ ks) = ap (λ xs. k ∷ xs) (map_itself ks)

-- one name of a list is read
listed_read : (p : Place) (names : List (List ℕ)) (seen : List ℕ) (name : List ℕ) (n : ℕ) → number_in names name ≡ Some n → has seen n ≡ false
    → one_more_listed p names seen (string name) ≡ Ok (seen ++ n ∷ [])
unfolding one_more_listed referred
listed_read p names seen name n found new = rw (found, new) refl

-- Devices, links and racks

abbrev top : Rates
top = record { ppm = 200; grain = 1000 }

device_read : (names : List (List ℕ)) (entry : ℕ) (name : List ℕ) → is_name name ≡ true → list_any (bytes_eq name) names ≡ false
    → device_in 1 top names entry (table (device_tree name)) ≡ Ok (device_named name)
unfolding device_in own_name text side_in rates_in
device_read names entry name good new = rw (good, new) refl

link_read : (spines i j : ℕ) (devices names : List (List ℕ)) (entry : ℕ) → number_in devices (spine_name j) ≡ Some j
    → number_in devices (leaf_name i) ≡ Some (spines + i) → nat_eq j (spines + i) ≡ false
    → is_name (link_name i j) ≡ true → list_any (bytes_eq (link_name i j)) names ≡ false
    → link_in 1 devices names entry (table (link_tree i j)) ≡ Ok (link_between spines i j)
unfolding link_in own_name text ends_in array_at referred delay_in number back_in
link_read spines i j devices names entry first second apart good new = rw (good, new, first, second, apart) refl

one_device_read : (seen : List Device) (name : List ℕ) → is_name name ≡ true → list_any (bytes_eq name) (map (λ (d : Device). d.name) seen) ≡ false
    → one_more_device 1 top seen (table (device_tree name)) ≡ Ok (seen ++ device_named name ∷ [])
unfolding one_more_device
one_device_read seen name good new = rw (device_read (map (λ d. d.name) seen) (length seen + 1) name good new) refl

one_link_read : (spines i j : ℕ) (devices : List (List ℕ)) (seen : List Link) → number_in devices (spine_name j) ≡ Some j
    → number_in devices (leaf_name i) ≡ Some (spines + i) → nat_eq j (spines + i) ≡ false
    → is_name (link_name i j) ≡ true → list_any (bytes_eq (link_name i j)) (map (λ (l : Link). l.name) seen) ≡ false
    → one_more_link 1 devices seen (table (link_tree i j)) ≡ Ok (seen ++ link_between spines i j ∷ [])
unfolding one_more_link
one_link_read spines i j devices seen first second apart good new =
    rw (link_read spines i j devices (map (λ l. l.name) seen) (length seen + 1) first second apart good new) refl

array_read : (key : _) (entry : ℕ) (ms : Members) (ds : Items) → value key ms ≡ Some (array ds) → array_at key entry ms ≡ Ok ds
unfolding array_at
array_read key entry ms ds at = rw at refl

array_or_none_read : (key : _) (entry : ℕ) (ms : Members) (ds : Items) → value key ms ≡ Some (array ds) → array_or_none key entry ms ≡ Ok ds
unfolding array_or_none
array_or_none_read key entry ms ds at = rw at (array_read key entry ms ds at)

-- parts that are the fabric's make the fabric
pub parts_are : (leaves spines : ℕ) (devices : List Device) (links : List Link) (domains : List Domain) (roots : List ℕ)
    → devices ≡ (fabric leaves spines).devices → links ≡ (fabric leaves spines).links → domains ≡ (fabric leaves spines).domains → roots ≡ below spines
    → ◌≡◌ {A = Network} (record { version = 1; params = params; devices = devices; links = links; domains = domains; roots = roots }) (fabric leaves spines)
parts_are leaves spines devices links domains roots a b c d = rw (a, b, c, d) refl

module _ (leaves spines : ℕ) (some : 1 ≤ spines) (few_leaves : leaves ≤ 256) (few_spines : spines ≤ 32) where
  abbrev tree : Members
  tree = fabric_tree leaves spines

  abbrev devices : ℕ
  devices = spines + leaves

  abbrev links : ℕ
  links = leaves * spines

  abbrev device_names : List (List ℕ)
  device_names = numbered (numbered_device_name spines) devices

  abbrev link_named : ℕ → List ℕ
  link_named l = link_name (l / spines) (l % spines)

  abbrev link_names : List (List ℕ)
  link_names = numbered link_named links

  at_devices : value keys.Device tree ≡ Some (array (items_of (numbered (λ d. table (device_tree (numbered_device_name spines d))) devices)))
  unfolding fabric_tree
  at_devices = ap (λ (d : Data). Some d) (devices_numbered leaves spines)

  at_links : value keys.Link tree ≡ Some (array (items_of (numbered (λ l. table (link_tree (l / spines) (l % spines))) links)))
  unfolding fabric_tree
  at_links = ap (λ (d : Data). Some d) (links_numbered leaves spines)

  at_racks : value keys.Domain tree ≡ Some (array (items_of (numbered (λ i. table (rack_tree spines i)) leaves)))
  unfolding fabric_tree
  at_racks = ap (λ (d : Data). Some d) (tables_numbered (rack_tree spines) leaves)

  at_roots : value keys.Roots tree ≡ Some (array (items_of (numbered (λ k. string (numbered_device_name spines k)) spines)))
  unfolding fabric_tree
  at_roots = ap (λ (d : Data). Some d) (roots_numbered spines)

  params_read : params_in tree ≡ Ok params
  unfolding params_in number fabric_tree
  params_read = refl

  version_read : number keys.Version 0 1 2 tree ≡ Ok 1
  unfolding number fabric_tree
  version_read = refl

  -- Devices

  pub devices_differ : (m n : ℕ) → m < devices → n < devices → m ≢ n → numbered_device_name spines m ≢ numbered_device_name spines n
  devices_differ m n a b differ = devices_apart spines m n (omega (arith, a, few_leaves, few_spines)) (omega (arith, b, few_leaves, few_spines)) differ

  devices_read : devices_in 1 top tree ≡ Ok (numbered (device_at spines) devices)
  unfolding devices_in
  devices_read =
      rw (
        array_read keys.Device 0 tree (items_of (numbered (λ d. table (device_tree (numbered_device_name spines d))) devices)) at_devices,
        count_read (λ d. table (device_tree (numbered_device_name spines d))) devices,
        le-leb 1 devices (omega (arith, some)),
        count_read (λ d. table (device_tree (numbered_device_name spines d))) devices,
        le-leb devices 4096 (omega (arith, few_leaves, few_spines)),
      )
      (each_read (one_more_device 1 top) (λ d. table (device_tree (numbered_device_name spines d))) (device_at spines) devices
      (λ k less. one_device_read (numbered (device_at spines) k) (numbered_device_name spines k) (device_is_name spines k (omega (arith, less, few_leaves, few_spines)))
      (new_name (λ (d : Device). d.name) (device_at spines) k devices devices_differ less)))

  spine_found : (j : ℕ) → j < spines → number_in device_names (spine_name j) ≡ Some j
  spine_found j less = ap (number_in device_names) (sym (spine_named spines j less))
      ∙ found_by (numbered_device_name spines) devices j devices_differ (omega (arith, less))

  leaf_found : (i : ℕ) → i < leaves → number_in device_names (leaf_name i) ≡ Some (spines + i)
  leaf_found i less = ap (number_in device_names) (sym (leaf_named spines i))
      ∙ found_by (numbered_device_name spines) devices (spines + i) devices_differ (omega (arith, less))

  -- Links

  leaf_of : (l : ℕ) → l < links → l / spines < leaves
  leaf_of l less = div_below l spines leaves (omega (arith, some)) less

  spine_of : (l : ℕ) → l % spines < spines
  spine_of l = mod_below l spines (omega (arith, some))

  pub links_differ : (l m : ℕ) → l < links → m < links → l ≢ m → link_named l ≢ link_named m
  links_differ l m a b differ same =
      let first = leaf_of l a in
      let second = leaf_of m b in
      let one = spine_of l in
      let other = spine_of m in
      let parts = links_same (l / spines) (l % spines) (m / spines) (m % spines) (omega (arith, first, few_leaves)) (omega (arith, one, few_spines))
      (omega (arith, second, few_leaves)) (omega (arith, other, few_spines)) same in
      differ (sym (div-add-mod' l spines) ∙ ap (λ q. q * spines + l % spines) parts.0 ∙ ap (λ r. m / spines * spines + r) parts.1 ∙ div-add-mod' m spines)

  links_few : links ≤ 8192
  links_few = mul-le leaves spines 256 32 few_leaves few_spines

  links_read : (names : List (List ℕ)) → names ≡ device_names → links_in 1 names tree ≡ Ok (numbered (link_at spines) links)
  unfolding links_in
  links_read names is =
      rw (
        array_or_none_read keys.Link 0 tree (items_of (numbered (λ l. table (link_tree (l / spines) (l % spines))) links)) at_links,
        count_read (λ l. table (link_tree (l / spines) (l % spines))) links,
        le-leb links 32768 (let few = links_few in omega (arith, few)),
        is,
      )
      (each_read (one_more_link 1 device_names) (λ l. table (link_tree (l / spines) (l % spines))) (link_at spines) links (λ k less. one k less))
    where
      one : (k : ℕ) → k < links
          → one_more_link 1 device_names (numbered (link_at spines) k) (table (link_tree (k / spines) (k % spines))) ≡ Ok (numbered (link_at spines) k ++ link_at spines k ∷ [])
      one k less =
          let leaf = leaf_of k less in
          let spine = spine_of k in
          one_link_read spines (k / spines) (k % spines) device_names (numbered (link_at spines) k) (spine_found (k % spines) spine) (leaf_found (k / spines) leaf)
          (ne_eqb (k % spines) (spines + k / spines) (λ same. omega (arith, same, spine)))
          (link_is_name (k / spines) (k % spines) (omega (arith, leaf, few_leaves)) (omega (arith, spine, few_spines)))
          (new_name (λ (l : Link). l.name) (link_at spines) k links links_differ less)

  -- a leaf's link to a spine is found
  link_found : (i j : ℕ) → i < leaves → j < spines → number_in link_names (link_name i j) ≡ Some (spines * i + j)
  link_found i j leaf spine =
      let turned : i * spines ≡ spines * i = mul_comm i spines in
      let all : spines * leaves ≡ leaves * spines = mul_comm spines leaves in
      let less : i * spines + j < spines * leaves = mul-add-lt i spines j leaves leaf spine in
      let named : link_named (i * spines + j) ≡ link_name i j = rw (div-mul-add i spines j spine, mod-mul-add i spines j spine) refl in
      ap (number_in link_names) (sym named)
      ∙ found_by link_named links (i * spines + j) links_differ (omega (arith, less, all))
      ∙ ap (λ n. Some (n + j)) turned

  -- Racks

  members_read : (key : _) (entry : ℕ) (names : List (List ℕ)) (ms : Members) (name : ℕ → List ℕ) (base n : ℕ)
      → value key ms ≡ Some (array (items_of (numbered (λ k. string (name k)) n)))
      → ((k : ℕ) → k < n → number_in names (name k) ≡ Some (base + k)) → base + n ≤ length names
      → members_in key entry names ms ≡ Ok (numbered (λ k. base + k) n)
  unfolding members_in
  members_read key entry names ms name base n at found within =
      rw (
        array_or_none_read key entry ms (items_of (numbered (λ k. string (name k)) n)) at,
        each_read (one_more_listed (place key entry) names) (λ k. string (name k)) (λ k. base + k) n
            (λ k less. listed_read (place key entry) names (numbered (λ j. base + j) k) (name k) (base + k) (found k less) (new_number base k)),
        itself (length names) base n within,
      ) refl

  rack_read : (names : List (List ℕ)) (entry i : ℕ) → i < leaves → list_any (bytes_eq (codes "rack" ++ decimal i)) names ≡ false
      → domain_in device_names link_names names entry (table (rack_tree spines i)) ≡ Ok (rack spines i)
  unfolding domain_in own_name text
  rack_read names entry i less new =
      let all : length device_names ≡ devices = length-numbered (numbered_device_name spines) devices in
      let total : length link_names ≡ links = length-numbered link_named links in
      let row : spines * i + spines ≤ links = row_within in
      rw (
        rack_is_name i (omega (arith, less, few_leaves)),
        new,
        members_read keys.DomainDevices entry device_names (rack_tree spines i) (λ k. leaf_name i) (spines + i) 1 refl
            (λ k h. let first : spines + i + k ≡ spines + i = omega (arith, h) in leaf_found i less ∙ ap (λ n. Some n) (sym first)) (omega (arith, all, less)),
        members_read keys.DomainLinks entry link_names (rack_tree spines i) (link_name i) (spines * i) spines
            (ap (λ (d : Data). Some d) (strings_numbered (link_name i) spines))
            (λ k h. link_found i k less h) (omega (arith, total, row)),
      ) (ap (λ d. Ok (record { name = codes "rack" ++ decimal i; devices = d ∷ []; links = numbered (λ j. spines * i + j) spines }))
      (let same : spines + i + 0 ≡ spines + i = omega arith in same))
    where
      row_within : spines * i + spines ≤ links
      row_within =
          let more : suc i * spines ≤ leaves * spines = mul-le-mul_right spines (omega (arith, less)) in
          let turned : i * spines ≡ spines * i = mul_comm i spines in
          let one : suc i * spines ≡ i * spines + spines = omega arith in
          omega (arith, more, turned, one)

  pub racks_differ : (m n : ℕ) → m < leaves → n < leaves → m ≢ n → (codes "rack" ++ decimal m) ≢ (codes "rack" ++ decimal n)
  racks_differ m n a b differ = racks_apart m n (omega (arith, a, few_leaves)) (omega (arith, b, few_leaves)) differ

  few_listed : (k : ℕ) → k < leaves → things_listed (numbered (rack spines) k ++ rack spines k ∷ []) ≤ 262144
  few_listed k less =
      let sum : things_listed (numbered (rack spines) (suc k)) ≡ suc k * (1 + spines) =
      sum_alike (λ (d : Domain). length d.devices + length d.links) (rack spines) (1 + spines) (suc k)
      (λ i. let links : length (numbered (λ j. spines * i + j) spines) ≡ spines = length-numbered (λ j. spines * i + j) spines in omega (arith, links)) in
      let most : suc k * (1 + spines) ≤ 256 * 33 = mul-le (suc k) (1 + spines) 256 33 (omega (arith, less, few_leaves)) (omega (arith, few_spines)) in
      let same : things_listed (numbered (rack spines) (suc k)) ≡ things_listed (numbered (rack spines) k ++ rack spines k ∷ []) =
      ap things_listed (one_more (rack spines) k) in
      omega (arith, sum, most, same)

  one_rack_read : (k : ℕ) → k < leaves
      → one_more_domain device_names link_names (numbered (rack spines) k) (table (rack_tree spines k)) ≡ Ok (numbered (rack spines) k ++ rack spines k ∷ [])
  unfolding one_more_domain
  one_rack_read k less =
      rw (
        rack_read (map (λ d. d.name) (numbered (rack spines) k)) (length (numbered (rack spines) k) + 1) k less
            (new_name (λ (d : Domain). d.name) (rack spines) k leaves racks_differ less),
        le-leb (things_listed (numbered (rack spines) k ++ rack spines k ∷ [])) 262144 (few_listed k less),
      ) refl

  racks_read : (names paths : List (List ℕ)) → names ≡ device_names → paths ≡ link_names → domains_in names paths tree ≡ Ok (numbered (rack spines) leaves)
  unfolding domains_in
  racks_read names paths is are =
      rw (
        array_or_none_read keys.Domain 0 tree (items_of (numbered (λ i. table (rack_tree spines i)) leaves)) at_racks,
        count_read (λ i. table (rack_tree spines i)) leaves,
        le-leb leaves 4096 (omega (arith, few_leaves)),
        is,
        are,
      )
      (each_read (one_more_domain device_names link_names) (λ i. table (rack_tree spines i)) (rack spines) leaves one_rack_read)

  -- Roots

  roots_read : (names : List (List ℕ)) → names ≡ device_names → roots_in names tree ≡ Ok (below spines)
  unfolding roots_in
  roots_read names is =
      rw (
        array_read keys.Roots 0 tree (items_of (numbered (λ k. string (numbered_device_name spines k)) spines)) at_roots,
        count_read (λ k. string (numbered_device_name spines k)) spines,
        le-leb 1 spines some,
        is,
      )
      (each_read (one_more_listed (place keys.Roots 0) device_names) (λ k. string (numbered_device_name spines k)) (λ k. 0 + k) spines
      (λ k less. listed_read (place keys.Roots 0) device_names (numbered (λ j. 0 + j) k) (numbered_device_name spines k) (0 + k)
      (found_by (numbered_device_name spines) devices k devices_differ (omega (arith, less)) ∙ ap (λ n. Some n) (let same : k ≡ 0 + k = omega arith in same))
      (new_number 0 k))
      ∙ ap (λ ks. Ok ks) (from_zero spines))

  -- The whole

  pub devices_are : numbered (device_at spines) devices ≡ (fabric leaves spines).devices
  devices_are =
      sym (numbered_append (λ j. device_named (spine_name j)) (λ i. device_named (leaf_name i)) spines leaves
      ∙ alike (λ k. if nat_lt k spines then device_named (spine_name k) else device_named (leaf_name (k - spines))) (device_at spines) devices
      (λ k h. by k (nat_lt k spines)))
    where
      by : (k : ℕ) (b : Bool)
          → (if b then device_named (spine_name k) else device_named (leaf_name (k - spines)))
          ≡ device_named (if b then spine_name k else leaf_name (k - spines))
      by k true = refl
      by k false = refl

  pub links_are : numbered (link_at spines) links ≡ (fabric leaves spines).links
  links_are = sym (grid (link_between spines) leaves spines)

  pub fabric_read : network_in tree ≡ Ok (fabric leaves spines)
  unfolding network_in
  fabric_read =
      let ok : Network → Result Network TopoFault = λ net. Ok net in
      let named : map (λ (d : Device). d.name) (numbered (device_at spines) devices) ≡ device_names = map_twice (λ (d : Device). d.name) (device_at spines) (below devices) in
      let joined : map (λ (l : Link). l.name) (numbered (link_at spines) links) ≡ link_names = map_twice (λ (l : Link). l.name) (link_at spines) (below links) in
      rw (
        version_read,
        params_read,
        devices_read,
        links_read (map (λ d. d.name) (numbered (device_at spines) devices)) named,
        racks_read (map (λ d. d.name) (numbered (device_at spines) devices)) (map (λ l. l.name) (numbered (link_at spines) links)) named joined,
        roots_read (map (λ d. d.name) (numbered (device_at spines) devices)) named,
      ) (ap ok (parts_are leaves spines (numbered (device_at spines) devices) (numbered (link_at spines) links) (numbered (rack spines) leaves) (below spines)
      devices_are links_are refl refl))

  -- so it is within the limits of networks
  pub fabric_is_network : IsNetwork (fabric leaves spines)
  fabric_is_network = network_in_ok tree (fabric leaves spines) fabric_read

  -- a text that is parsed to the tree
  pub text_read : (bytes : List ℕ) → IsUtf8 bytes → parse_document bytes ≡ Some tree → (tree_of bytes ≡ Some tree) × IsFabricText leaves spines bytes
  unfolding network_of
  text_read bytes valid parsed =
      let known : tree_of bytes ≡ Some tree = tree_known bytes bytes (Some tree) refl valid parsed in
      (known, rw known fabric_read)

  -- a text that is printed of it
  pub printed : (t : Members) (s : String Global) → t ≡ tree → (members_depth t ≤ 80 → parse_document (string_bytes s) ≡ Some t)
      → (tree_of (string_bytes s) ≡ Some tree) × IsFabricText leaves spines (string_bytes s)
  printed t s is back =
      text_read (string_bytes s) (IsUtf8-string_bytes s) (back (subst (λ (m : Members). members_depth m ≤ 80) (sym is) (fabric_depth leaves spines))
      ∙ ap (λ (m : Members). Some m) is)

  -- a text that writes it
  pub written : (s : String Global) → IsDocumentText false tree (string_bytes s)
      → (tree_of (string_bytes s) ≡ Some tree) × IsFabricText leaves spines (string_bytes s)
  written s document =
      printed tree s refl (λ deep. parse_document-printed false tree (string_bytes s) document deep (fabric_dated leaves spines) (fabric_sorted leaves spines))
