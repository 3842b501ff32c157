-- The tables of a fabric's topology, entry by entry.
use Rattle.std.specs.Prelude.{◌≡◌, ◌≢◌, ℕ, ◌+◌, ◌*◌, ◌/◌, ◌%◌, ◌<◌, ◌≤◌, false, List, [], ◌∷◌, ◌++◌, map, codes, decimal}
use Rattle.std.specs.List.{list_any}
use Rattle.std.specs.Str.{bytes_eq}
use Rattle.std.proofs.Common.{ap, sym, ◌∙◌, String, Global, string_bytes}
use Rattle.indexmap.specs.IndexMap.{IndexMap}
use Rattle.sd_plan.specs.declared.topo.LinkEntry.{LinkEntry}
use Rattle.sd_plan.specs.declared.topo.parts.Group.{Group}
use Rattle.sd_plan.specs.declared.topo.parts.Station.{Station}
use Rattle.sd_plan.specs.topo.Network.{Device, Domain, Link}
use Rattle.sd_plan.specs.topo.Seen.{devices_seen, domain_seen, domains_seen, links_seen, names_seen}
use Rattle.sd_topotext.proofs.Entries.{device_names_seen, link_names_seen}
use Rattle.sd_plan.proofs.Numbered.{numbered_more}
use Rattle.sd_gen.specs.fabric.Fabrics.{link_name, rack}
use Rattle.sd_gen.specs.fabric.Numbered.{device_at, link_at, numbered_device_name}
use Rattle.sd_gen.proofs.fabric.Numbering.{numbered}
use Rattle.sd_gen.proofs.fabric.Building.{map_twice}
use Rattle.sd_gen.proofs.fabric.Reading.{devices_differ, links_differ, new_name, racks_differ}

-- the names of the racks that a table stands for
rack_names_seen : {S : Type 0} (table : IndexMap (String Global) Group S) → map (λ (d : Domain). d.name) (domains_seen table) ≡ names_seen table
rack_names_seen table =
    map_twice (λ (d : Domain). d.name) domain_seen table.entries ∙ sym (map_twice string_bytes (λ (e : String Global × Group). e.0) table.entries)

-- one thing more
pub one_seen : {B : Type 0} (make : ℕ → B) (k : ℕ) (old new : List B) (b : B) → new ≡ old ++ b ∷ [] → b ≡ make k → old ≡ numbered make k
    → new ≡ numbered make (k + 1)
one_seen make k old new b more same before =
    more ∙ ap (λ x. old ++ x ∷ []) same ∙ ap (λ xs. xs ++ make k ∷ []) before ∙ sym (numbered_more make k)

-- the name of the next thing is none of the names in the table
next_new : {B : Type 0} (name_of : B → List ℕ) (make : ℕ → B) (k n : ℕ) (seen : List B) (names : List (List ℕ)) (name : List ℕ)
    → ((i j : ℕ) → i < n → j < n → i ≢ j → name_of (make i) ≢ name_of (make j)) → k < n
    → map name_of seen ≡ names → seen ≡ numbered make k → name ≡ name_of (make k) → list_any (bytes_eq name) names ≡ false
next_new name_of make k n seen names name differ less named before same =
    ap (λ x. list_any (bytes_eq x) names) same
    ∙ ap (list_any (bytes_eq (name_of (make k)))) (sym named ∙ ap (map name_of) before)
    ∙ new_name name_of make k n differ less

module _ (leaves spines : ℕ) (some : 1 ≤ spines) (few_leaves : leaves ≤ 256) (few_spines : spines ≤ 32) where
  pub device_new : {S : Type 0} (table : IndexMap (String Global) Station S) (d : ℕ) (name : List ℕ) → d < spines + leaves
      → devices_seen table ≡ numbered (device_at spines) d → name ≡ numbered_device_name spines d → list_any (bytes_eq name) (names_seen table) ≡ false
  device_new table d name less before same =
      next_new (λ (device : Device). device.name) (device_at spines) d (spines + leaves) (devices_seen table) (names_seen table) name
      (devices_differ leaves spines some few_leaves few_spines) less (device_names_seen table) before same

  pub link_new : {S : Type 0} (table : IndexMap (String Global) LinkEntry S) (l : ℕ) (name : List ℕ) → l < leaves * spines
      → links_seen table ≡ numbered (link_at spines) l → name ≡ link_name (l / spines) (l % spines) → list_any (bytes_eq name) (names_seen table) ≡ false
  link_new table l name less before same =
      next_new (λ (link : Link). link.name) (link_at spines) l (leaves * spines) (links_seen table) (names_seen table) name
      (links_differ leaves spines some few_leaves few_spines) less (link_names_seen table) before same

  pub rack_new : {S : Type 0} (table : IndexMap (String Global) Group S) (i : ℕ) (name : List ℕ) → i < leaves
      → domains_seen table ≡ numbered (rack spines) i → name ≡ codes "rack" ++ decimal i → list_any (bytes_eq name) (names_seen table) ≡ false
  rack_new table i name less before same =
      next_new (λ (domain : Domain). domain.name) (rack spines) i leaves (domains_seen table) (names_seen table) name
      (racks_differ leaves spines some few_leaves few_spines) less (rack_names_seen table) before same
