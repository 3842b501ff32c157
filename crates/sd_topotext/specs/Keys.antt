-- The words of the keys and kinds of a topology text.
use Rattle.std.specs.Prelude.{ℕ, List, codes}
use Rattle.sd_topotext.specs.declared.fault.Key.{Key}
use Rattle.sd_topotext.specs.declared.fault.Key.TheVariants.{Version, Ppm, Grain, Period, Tick, Loss, Depth, Device, DeviceName, DeviceSide, Link, LinkName, LinkEnds, LinkMin, LinkMax, Domain, DomainName, DomainDevices, DomainLinks, Roots, DevicePpm, DeviceGrain, LinkBackMin, LinkBackMax}
use Rattle.sd_topotext.specs.declared.fault.Kind.{Kind}
use Rattle.sd_topotext.specs.declared.fault.Kind.TheVariants as kinds

-- a key as it stands in its table
abbrev pub word_of : Key → List ℕ
word_of Version = codes "version"
word_of Ppm = codes "ppm"
word_of Grain = codes "grain"
word_of Period = codes "period"
word_of Tick = codes "tick"
word_of Loss = codes "loss"
word_of Depth = codes "depth"
word_of Device = codes "device"
word_of DeviceName = codes "name"
word_of DeviceSide = codes "side"
word_of DevicePpm = codes "ppm"
word_of DeviceGrain = codes "grain"
word_of Link = codes "link"
word_of LinkName = codes "name"
word_of LinkEnds = codes "ends"
word_of LinkMin = codes "min"
word_of LinkMax = codes "max"
word_of LinkBackMin = codes "back_min"
word_of LinkBackMax = codes "back_max"
word_of Domain = codes "domain"
word_of DomainName = codes "name"
word_of DomainDevices = codes "devices"
word_of DomainLinks = codes "links"
word_of Roots = codes "roots"

-- a key as it is printed
abbrev pub printed : Key → List ℕ
printed DeviceName = codes "device.name"
printed DeviceSide = codes "device.side"
printed DevicePpm = codes "device.ppm"
printed DeviceGrain = codes "device.grain"
printed LinkName = codes "link.name"
printed LinkEnds = codes "link.ends"
printed LinkMin = codes "link.min"
printed LinkMax = codes "link.max"
printed LinkBackMin = codes "link.back_min"
printed LinkBackMax = codes "link.back_max"
printed DomainName = codes "domain.name"
printed DomainDevices = codes "domain.devices"
printed DomainLinks = codes "domain.links"
printed key = word_of key

-- a kind as it is printed
abbrev pub printed_kind : Kind → List ℕ
printed_kind kinds.Device = codes "device"
printed_kind kinds.Link = codes "link"
printed_kind kinds.Domain = codes "domain"
printed_kind kinds.Item = codes "item"
