-- Texts and what they mean, computed by the definition.
use Rattle.std.proofs.Common.{◌≡◌, [], ◌∷◌, Ok, Err, codes, refl}
use Rattle.std.specs.Str.Lossy.{utf8_valid_len}
use Rattle.std.specs.Str.{is_utf8, chars}
use Rattle.toml.proofs.OnLiterals.{toml_on_literals}
use Rattle.sd_plan.specs.declared.topo.Side.TheVariants as sides
use Rattle.sd_topotext.specs.declared.fault.Key.TheVariants.{Version, Ppm, DeviceName, LinkEnds, LinkBackMin, DomainDevices, Roots}
use Rattle.sd_topotext.specs.declared.fault.TopoFault.TheVariants.{NotToml, Missing, Range, TwiceNamed, SelfLink, UnknownName}
use Rattle.sd_topotext.specs.Meaning.{place, number, number_or, text, array, array_or_none, own_name, referred, one_more, params_in, side_in, rates_in, device_in, one_more_device, devices_in, ends_in, delay_in, back_in, link_in, one_more_link, links_in, members_in, domain_in, one_more_domain, domains_in, roots_in, network_in, network_of}
use Rattle.sd_topotext.specs.Reading.{tree_of}

-- a text of version 1: keys of version 2 are unknown in it
first : network_of
    (tree_of (codes "version = 1\nppm = 200\ngrain = 1000\nperiod = 100000000\ntick = 90000000\nloss = 1\ndepth = 2\nroots = [\"r\", \"b\"]\n[[device]]\nname = \"r\"\nppm = 7\n[[device]]\nname = \"b\"\nside = \"backup\"\n[[link]]\nname = \"rb\"\nends = [\"r\", \"b\"]\nmin = 400000\nmax = 1000000\nback_min = 3\n[[domain]]\nname = \"f\"\ndevices = [\"b\", \"r\"]\nlinks = [\"rb\"]\n")) ≡ Ok (record { version = 1; params = record { ppm = 200; grain = 1000; period = 100000000; tick = 90000000; loss = 1; depth = 2 }; devices = (record { name = codes "r"; side = sides.Root; rates = record { ppm = 200; grain = 1000 } }) ∷ (record { name = codes "b"; side = sides.Backup; rates = record { ppm = 200; grain = 1000 } }) ∷ []; links = (record { name = codes "rb"; entry = record { end_a = 0; end_b = 1; min = 400000; max = 1000000; back_min = 400000; back_max = 1000000 } }) ∷ []; domains = (record { name = codes "f"; devices = 0 ∷ 1 ∷ []; links = 0 ∷ [] }) ∷ []; roots = 0 ∷ 1 ∷ [] })
unfolding toml_on_literals utf8_valid_len is_utf8 chars number number_or text array array_or_none own_name referred one_more params_in side_in rates_in
    device_in one_more_device devices_in ends_in delay_in back_in link_in one_more_link links_in members_in domain_in one_more_domain domains_in roots_in
    network_in network_of
first = refl

-- a text of version 2: own rates, and an own way back
second : network_of
    (tree_of (codes "version = 2\nppm = 200\ngrain = 1000\nperiod = 100000000\ntick = 90000000\nloss = 1\ndepth = 2\nroots = [\"r\", \"b\"]\n[[device]]\nname = \"r\"\nppm = 7\n[[device]]\nname = \"b\"\ngrain = 1500\n[[link]]\nname = \"rb\"\nends = [\"r\", \"b\"]\nmin = 400000\nmax = 1000000\nback_min = 3\nback_max = 4\n")) ≡ Ok (record { version = 2; params = record { ppm = 200; grain = 1000; period = 100000000; tick = 90000000; loss = 1; depth = 2 }; devices = (record { name = codes "r"; side = sides.Root; rates = record { ppm = 7; grain = 1000 } }) ∷ (record { name = codes "b"; side = sides.Root; rates = record { ppm = 200; grain = 1500 } }) ∷ []; links = (record { name = codes "rb"; entry = record { end_a = 0; end_b = 1; min = 400000; max = 1000000; back_min = 3; back_max = 4 } }) ∷ []; domains = []; roots = 0 ∷ 1 ∷ [] })
unfolding toml_on_literals utf8_valid_len is_utf8 chars number number_or text array array_or_none own_name referred one_more params_in side_in rates_in
    device_in one_more_device devices_in ends_in delay_in back_in link_in one_more_link links_in members_in domain_in one_more_domain domains_in roots_in
    network_in network_of
second = refl

-- an empty text lacks a version
empty : network_of (tree_of (codes "")) ≡ Err (Missing (place Version 0))
unfolding toml_on_literals utf8_valid_len is_utf8 chars number number_or text array array_or_none own_name referred one_more params_in side_in rates_in
    device_in one_more_device devices_in ends_in delay_in back_in link_in one_more_link links_in members_in domain_in one_more_domain domains_in roots_in
    network_in network_of
empty = refl

-- bytes that are no TOML
not_toml : network_of (tree_of (codes "version = ")) ≡ Err NotToml
unfolding toml_on_literals utf8_valid_len is_utf8 chars number number_or text array array_or_none own_name referred one_more params_in side_in rates_in
    device_in one_more_device devices_in ends_in delay_in back_in link_in one_more_link links_in members_in domain_in one_more_domain domains_in roots_in
    network_in network_of
not_toml = refl

-- a name twice
twice : network_of
    (tree_of (codes "version = 1\nppm = 200\ngrain = 1000\nperiod = 100000000\ntick = 90000000\nloss = 1\ndepth = 2\nroots = [\"r\", \"b\"]\n[[device]]\nname = \"r\"\n[[device]]\nname = \"b\"\n[[device]]\nname = \"r\"\n")) ≡ Err (TwiceNamed (place DeviceName 3))
unfolding toml_on_literals utf8_valid_len is_utf8 chars number number_or text array array_or_none own_name referred one_more params_in side_in rates_in
    device_in one_more_device devices_in ends_in delay_in back_in link_in one_more_link links_in members_in domain_in one_more_domain domains_in roots_in
    network_in network_of
twice = refl

-- both ends of the second link are one device
self_link : network_of
    (tree_of (codes "version = 1\nppm = 200\ngrain = 1000\nperiod = 100000000\ntick = 90000000\nloss = 1\ndepth = 2\nroots = [\"r\", \"b\"]\n[[device]]\nname = \"r\"\n[[device]]\nname = \"b\"\n[[link]]\nname = \"rb\"\nends = [\"r\", \"b\"]\nmin = 400000\nmax = 1000000\n[[link]]\nname = \"rr\"\nends = [\"r\", \"r\"]\nmin = 400000\nmax = 1000000\n")) ≡ Err (SelfLink (place LinkEnds 2))
unfolding toml_on_literals utf8_valid_len is_utf8 chars number number_or text array array_or_none own_name referred one_more params_in side_in rates_in
    device_in one_more_device devices_in ends_in delay_in back_in link_in one_more_link links_in members_in domain_in one_more_domain domains_in roots_in
    network_in network_of
self_link = refl

-- of the two bounds of the way back one is missing
half_back : network_of
    (tree_of (codes "version = 2\nppm = 200\ngrain = 1000\nperiod = 100000000\ntick = 90000000\nloss = 1\ndepth = 2\nroots = [\"r\", \"b\"]\n[[device]]\nname = \"r\"\n[[device]]\nname = \"b\"\n[[link]]\nname = \"rb\"\nends = [\"r\", \"b\"]\nmin = 400000\nmax = 1000000\nback_max = 5\n")) ≡ Err (Missing (place LinkBackMin 1))
unfolding toml_on_literals utf8_valid_len is_utf8 chars number number_or text array array_or_none own_name referred one_more params_in side_in rates_in
    device_in one_more_device devices_in ends_in delay_in back_in link_in one_more_link links_in members_in domain_in one_more_domain domains_in roots_in
    network_in network_of
half_back = refl

-- the first of two faults counts
first_fault : network_of
    (tree_of (codes "version = 1\nppm = 100001\ngrain = 1000\nperiod = 100000000\ntick = 90000000\nloss = \"a\"\ndepth = 2\nroots = [\"r\", \"b\"]\n[[device]]\nname = \"r\"\n")) ≡ Err (Range (place Ppm 0))
unfolding toml_on_literals utf8_valid_len is_utf8 chars number number_or text array array_or_none own_name referred one_more params_in side_in rates_in
    device_in one_more_device devices_in ends_in delay_in back_in link_in one_more_link links_in members_in domain_in one_more_domain domains_in roots_in
    network_in network_of
first_fault = refl

-- a name twice in one array
listed_twice : network_of
    (tree_of (codes "version = 1\nppm = 200\ngrain = 1000\nperiod = 100000000\ntick = 90000000\nloss = 1\ndepth = 2\nroots = [\"r\", \"b\"]\n[[device]]\nname = \"r\"\n[[device]]\nname = \"b\"\n[[domain]]\nname = \"f\"\ndevices = [\"r\", \"r\"]\n")) ≡ Err (TwiceNamed (place DomainDevices 1))
unfolding toml_on_literals utf8_valid_len is_utf8 chars number number_or text array array_or_none own_name referred one_more params_in side_in rates_in
    device_in one_more_device devices_in ends_in delay_in back_in link_in one_more_link links_in members_in domain_in one_more_domain domains_in roots_in
    network_in network_of
listed_twice = refl

-- a root that is no device
unknown_root : network_of
    (tree_of (codes "version = 1\nppm = 200\ngrain = 1000\nperiod = 100000000\ntick = 90000000\nloss = 1\ndepth = 2\nroots = [\"r\", \"b\"]\n[[device]]\nname = \"r\"\n[[device]]\nname = \"c\"\n")) ≡ Err (UnknownName (place Roots 0))
unfolding toml_on_literals utf8_valid_len is_utf8 chars number number_or text array array_or_none own_name referred one_more params_in side_in rates_in
    device_in one_more_device devices_in ends_in delay_in back_in link_in one_more_link links_in members_in domain_in one_more_domain domains_in roots_in
    network_in network_of
unknown_root = refl
