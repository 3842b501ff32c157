-- What every topology that is read meets: its numbers are within their limits, and its names are distinct.
use Rattle.std.specs.Prelude.{◌≢◌, ℕ, ◌+◌, ◌^◌, ◌<◌, ◌≤◌, ◌&&◌, List, length, sum_by, slice_get, IsTrue}
use Rattle.sd_num.specs.declared.Rates.{Rates}
use Rattle.sd_num.specs.Lists.{ascends, all_below}
use Rattle.sd_plan.specs.declared.topo.LinkEntry.{LinkEntry}
use Rattle.sd_plan.specs.topo.Network.{Network, device_names, link_names, Each, is_name}
use Rattle.sd_plan.specs.topo.Places.{domain_names}

-- no two of the names are equal
abbrev pub AreDistinct : List (List ℕ) → Type 0
AreDistinct names = (i j : ℕ) → i < j → j < length names → slice_get names i ≢ slice_get names j

-- ends are two devices that there are, and bounds are in order and in range
pub record IsLink (devices : ℕ) (link : LinkEntry) : Type 0 where
  pub first : link.end_a < devices
  pub second : link.end_b < devices
  pub apart : link.end_a ≢ link.end_b
  pub bounds : (link.min ≤ link.max) × (link.max ≤ 10 ^ 12)
  pub back_bounds : (link.back_min ≤ link.back_max) × (link.back_max ≤ 10 ^ 12)

-- rates within the limits
abbrev pub IsRates : Rates → Type 0
IsRates rates = (rates.ppm ≤ 100000) × (rates.grain ≤ 10 ^ 12)

-- the numbers lie below the bound, and none comes twice
abbrev pub AreNumbers : ℕ → List ℕ → Type 0
AreNumbers bound xs = Each (λ x. x < bound) xs × ((i j : ℕ) → i < j → j < length xs → slice_get xs i ≢ slice_get xs j)

-- what a topology text can say
pub record IsNetwork (net : Network) : Type 0 where
  pub version : (1 ≤ net.version) × (net.version ≤ 2)
  pub rates : (net.params.ppm ≤ 100000) × (net.params.grain ≤ 10 ^ 12)
  pub period : (1 ≤ net.params.period) × (net.params.period ≤ 10 ^ 12)
  pub tick : (1 ≤ net.params.tick) × (net.params.tick ≤ 10 ^ 12)
  pub loss : net.params.loss ≤ 100
  pub depth : (1 ≤ net.params.depth) × (net.params.depth ≤ 64)
  pub devices : (1 ≤ length net.devices) × (length net.devices ≤ 4096)
  pub links : length net.links ≤ 32768
  pub domains : length net.domains ≤ 4096
  pub listed : sum_by (λ domain. length domain.devices + length domain.links) net.domains ≤ 262144
  pub distinct_devices : AreDistinct (device_names net)
  pub distinct_links : AreDistinct (link_names net)
  pub distinct_domains : AreDistinct (domain_names net)
  pub names : Each (λ name. IsTrue (is_name name)) (device_names net) × Each (λ name. IsTrue (is_name name)) (link_names net)
      × Each (λ name. IsTrue (is_name name)) (domain_names net)
  pub each_device : Each (λ device. IsRates device.rates) net.devices
  pub each_link : Each (λ link. IsLink (length net.devices) link.entry) net.links
  pub each_domain : Each
      (λ domain. IsTrue (ascends domain.devices && ascends domain.links && all_below (length net.devices) domain.devices
      && all_below (length net.links) domain.links)) net.domains
  pub each_root : (1 ≤ length net.roots) × AreNumbers (length net.devices) net.roots
