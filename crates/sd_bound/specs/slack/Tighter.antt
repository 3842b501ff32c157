-- A topology with less slack: oscillators drift less, delays are narrower, fewer messages are lost, ticks come closer, or listed domains are left out.
use Rattle.std.specs.Prelude.{◌≡◌, ◌≤◌, All, slice_get, Some}
use Rattle.std.specs.List.{AllZip, Contains}
use Rattle.sd_num.specs.declared.Rates.{Rates}
use Rattle.sd_plan.specs.declared.topo.LinkEntry.{LinkEntry}
use Rattle.sd_plan.specs.topo.Network.{Network, Device, Link, Domain}
use Rattle.sd_plan.specs.declared.domain.DomainId.{DomainId}
use Rattle.sd_plan.specs.declared.domain.DomainId.TheVariants as domain

-- an oscillator that drifts no more
pub record AreTighterRates (before after : Rates) : Type 0 where
  pub ppm : after.ppm ≤ before.ppm
  pub grain : after.grain ≤ before.grain

-- the same two ends, and in both directions delays within what they were
pub record IsTighterEntry (before after : LinkEntry) : Type 0 where
  pub end_a : after.end_a ≡ before.end_a
  pub end_b : after.end_b ≡ before.end_b
  pub delay : (before.min ≤ after.min) × (after.max ≤ before.max)
  pub back_delay : (before.back_min ≤ after.back_min) × (after.back_max ≤ before.back_max)

-- the same device, whose oscillator drifts no more
pub record IsTighterDevice (before after : Device) : Type 0 where
  pub name : after.name ≡ before.name
  pub rates : AreTighterRates before.rates after.rates

-- the same link, whose delays are no wider
pub record IsTighterLink (before after : Link) : Type 0 where
  pub name : after.name ≡ before.name
  pub entry : IsTighterEntry before.entry after.entry

-- The same topology with less slack. What neither the conditions nor the bounds read is free: the version, the sides, the candidates for root and
-- backup root, and the default rates, since each device has rates of its own.
pub record IsTighter (before after : Network) : Type 0 where
  -- the same devices and the same links, in the same order
  pub devices : AllZip IsTighterDevice before.devices after.devices
  pub links : AllZip IsTighterLink before.links after.links
  -- the same time between rounds, and the same greatest length of a walk
  pub period : after.params.period ≡ before.params.period
  pub depth : after.params.depth ≡ before.params.depth
  -- ticks lie no further apart, and no more rounds in a row may be lost
  pub tick : after.params.tick ≤ before.params.tick
  pub loss : after.params.loss ≤ before.params.loss
  -- each listed domain was listed before, with the same things
  pub domains : All (Contains before.domains) after.domains

-- one domain of two topologies: a domain that both list, or the same device or link alone
abbrev pub IsSameDomain : Network → DomainId → Network → DomainId → Type 0
IsSameDomain before (domain.Listed j) after (domain.Listed k) =
    (listed : Domain) × (slice_get before.domains j ≡ Some listed) × (slice_get after.domains k ≡ Some listed)
IsSameDomain before (domain.Device d) after (domain.Device e) = d ≡ e
IsSameDomain before (domain.Link l) after (domain.Link m) = l ≡ m
IsSameDomain before f after g = ⊥
