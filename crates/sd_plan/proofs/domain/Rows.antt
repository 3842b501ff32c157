-- Domains of a small network, worked out by hand.
use Rattle.std.proofs.Common.{◌≡◌, ℕ, true, false, List, [], ◌∷◌, Some, None, refl}
use Rattle.sd_plan.specs.topo.Network.{Network, Device, Link, Domain}
use Rattle.sd_plan.specs.declared.topo.Side.TheVariants.{Root}
use Rattle.sd_plan.specs.declared.topo.Thing.TheVariants as thing
use Rattle.sd_plan.specs.declared.domain.DomainId.TheVariants as domain
use Rattle.sd_plan.specs.domain.Domains.{domains, holds_device, holds_link, within_one}

-- some device
abbrev device : Device
device = record { name = []; side = Root; rates = record { ppm = 0; grain = 0 } }

-- some link
abbrev link : Link
link = record { name = []; entry = record { end_a = 0; end_b = 1; min = 0; max = 0; back_min = 0; back_max = 0 } }

-- a domain that lists the devices and links
abbrev listed : List ℕ → List ℕ → Domain
listed devices links = record { name = []; devices = devices; links = links }

-- three devices and two links, with the listed domains
abbrev network_of : List Domain → Network
network_of listed_domains =
    record {
      version = 1;
      params = record { ppm = 0; grain = 0; period = 1; tick = 1; loss = 0; depth = 1 };
      devices = device ∷ device ∷ device ∷ [];
      links = link ∷ link ∷ [];
      domains = listed_domains;
      roots = 0 ∷ [];
    }

-- the network with three listed domains
abbrev three : Network
three = network_of (listed (0 ∷ 1 ∷ []) [] ∷ listed (1 ∷ []) (0 ∷ []) ∷ listed (1 ∷ 2 ∷ []) (0 ∷ []) ∷ [])

-- the network with none
abbrev unlisted : Network
unlisted = network_of []

-- listed domains come first, then devices, then links
order : domains three
    ≡ domain.Listed 0 ∷ domain.Listed 1 ∷ domain.Listed 2 ∷ domain.Device 0 ∷ domain.Device 1 ∷ domain.Device 2 ∷ domain.Link 0 ∷ domain.Link 1 ∷ []
order = refl

-- nothing lies in the first domain of all
nothing : within_one three [] ≡ Some (domain.Listed 0)
nothing = refl

-- which is a device where no domain is listed
nothing_unlisted : within_one unlisted [] ≡ Some (domain.Device 0)
nothing_unlisted = refl

-- of two listed domains that have the things the first counts, in whatever order they come
first_listed : within_one three (thing.Link 0 ∷ thing.Device 1 ∷ []) ≡ Some (domain.Listed 1)
first_listed = refl

-- the last thing of a listed domain counts too
last_thing : within_one three (thing.Device 2 ∷ thing.Link 0 ∷ []) ≡ Some (domain.Listed 2)
last_thing = refl

-- a thing that no listed domain has is a domain alone
one_link : within_one three (thing.Link 1 ∷ []) ≡ Some (domain.Link 1)
one_link = refl

one_device : within_one unlisted (thing.Device 2 ∷ thing.Device 2 ∷ []) ≡ Some (domain.Device 2)
one_device = refl

-- two things that no listed domain has together lie in none
two_devices : within_one three (thing.Device 0 ∷ thing.Device 2 ∷ []) ≡ None
two_devices = refl

device_and_link : within_one three (thing.Device 0 ∷ thing.Link 0 ∷ []) ≡ None
device_and_link = refl

-- a device and a link of one number are two things
same_number : within_one unlisted (thing.Device 1 ∷ thing.Link 1 ∷ []) ≡ None
same_number = refl

-- a link alone has no device
link_alone : holds_device three (domain.Link 1) 1 ≡ false
link_alone = refl

-- a listed domain has a link of its list
listed_link : holds_link three (domain.Listed 1) 0 ≡ true
listed_link = refl
