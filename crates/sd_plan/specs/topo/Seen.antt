-- What the parts of a topology stand for.
use Rattle.std.specs.Prelude.{◌≡◌, ℕ, List, [], ◌∷◌, ◌++◌, map, String, string_bytes}
use Rattle.std.specs.declared.alloc.Global.{Global}
use Rattle.indexmap.specs.IndexMap.{IndexMap, keys, hasher_of}
use Rattle.sd_plan.specs.declared.topo.LinkEntry.{LinkEntry}
use Rattle.sd_plan.specs.declared.topo.parts.Station.{Station}
use Rattle.sd_plan.specs.declared.topo.parts.Group.{Group}
use Rattle.sd_plan.specs.declared.topo.parts.Parts.{Parts}
use Rattle.sd_plan.specs.topo.Network.{Network, Device, Link, Domain}

-- a device from its name and the rest
abbrev pub device_seen : String Global × Station → Device
device_seen entry = record { name = string_bytes entry.0; side = entry.1.side; rates = entry.1.rates }

-- a link from its name and the rest
abbrev pub link_seen : String Global × LinkEntry → Link
link_seen entry = record { name = string_bytes entry.0; entry = entry.1 }

-- a listed domain from its name and the rest
abbrev pub domain_seen : String Global × Group → Domain
domain_seen entry = record { name = string_bytes entry.0; devices = entry.1.devices.items; links = entry.1.links.items }

-- the names of a table of named things, in order
abbrev pub names_seen : {V S : Type 0} → IndexMap (String Global) V S → List (List ℕ)
names_seen table = map string_bytes (keys table)

-- the devices, links and domains of a table
abbrev pub devices_seen : {S : Type 0} → IndexMap (String Global) Station S → List Device
devices_seen table = map device_seen table.entries

-- the links of a table
abbrev pub links_seen : {S : Type 0} → IndexMap (String Global) LinkEntry S → List Link
links_seen table = map link_seen table.entries

-- the listed domains of a table
abbrev pub domains_seen : {S : Type 0} → IndexMap (String Global) Group S → List Domain
domains_seen table = map domain_seen table.entries

-- one entry with this name and value goes last, and names are hashed as before
pub record Adds {V S : Type 0} (old new : IndexMap (String Global) V S) (name : List ℕ) (added : V) : Type 0 where
  pub key : String Global
  pub named : string_bytes key ≡ name
  pub last : new.entries ≡ old.entries ++ (key, added) ∷ []
  pub hasher : hasher_of new ≡ hasher_of old

-- the network that the parts stand for
abbrev pub network_seen : Parts → Network
network_seen p = record {
  version = p.version;
  params = p.params;
  devices = devices_seen p.devices;
  links = links_seen p.links;
  domains = domains_seen p.domains;
  roots = p.roots.items;
}
