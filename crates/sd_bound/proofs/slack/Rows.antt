-- Less slack of a small fabric, worked out by hand.
use Rattle.std.specs.Prelude.{◌≡◌, ℕ, List, [], ◌∷◌, None, codes}
use Rattle.std.specs.List.{Contains}
use Rattle.std.proofs.Common.{arith, refl}
use Rattle.std.proofs.lemmas.List.Elements.{All-cons, All-nil, Contains-get_or}
use Rattle.sd_plan.specs.topo.Network.{Network, Device, Link, Domain}
use Rattle.sd_plan.specs.Examples.{device, device_with, fabric, fabric_params, fabric_plan, link, link_with}
use Rattle.sd_checker.specs.check_root.Timing.{silence, timing_breach}
use Rattle.sd_bound.specs.slack.Tighter.{IsTighterDevice, IsTighterLink, IsTighter}
use Rattle.sd_bound.proofs.slack.Matching.{entry_same}

abbrev tray : Domain
tray = record { name = codes "tray"; devices = []; links = 2 ∷ 5 ∷ [] }

abbrev rack : Domain
rack = record { name = codes "rack"; devices = 2 ∷ 3 ∷ []; links = [] }

-- the fabric with two listed domains
abbrev before : Network
before = record fabric { domains = tray ∷ rack ∷ [] }

-- the links of s2 are shorter
abbrev short : List Link
short =
    link (codes "a1") 0 2 ∷ link (codes "a2") 0 3 ∷ link (codes "a3") 0 4 ∷ link_with (codes "b1") 1 2 500000 900000
    ∷ link_with (codes "b2") 1 3 500000 900000
    ∷ link_with (codes "b3") 1 4 500000 900000
    ∷ []

-- beside that s2 has a better oscillator, no round may be lost, ticks come closer, and the rack is no longer listed
abbrev after : Network
after =
    record before {
      params = record fabric_params { loss = 0; tick = 5000000 };
      devices = device (codes "s1") ∷ device_with (codes "s2") 50 500 ∷ device (codes "l1") ∷ device (codes "l2") ∷ device (codes "l3") ∷ [];
      links = short;
      domains = tray ∷ [];
    }

device_itself : (d : Device) → IsTighterDevice d d
device_itself d = record { name = refl; rates = record { ppm = omega arith; grain = omega arith } }

link_itself : (l : Link) → IsTighterLink l l
link_itself l = record { name = refl; entry = entry_same l.entry }

shorter : (name : List ℕ) (a b : ℕ) → IsTighterLink (link name a b) (link_with name a b 500000 900000)
shorter name a b =
    record {
      name = refl;
      entry = record { end_a = refl; end_b = refl; delay = (omega arith, omega arith); back_delay = (omega arith, omega arith) };
    }

is_tighter : IsTighter before after
is_tighter =
    record {
      devices = (
        device_itself _,
        (record { name = refl; rates = record { ppm = omega arith; grain = omega arith } }, (device_itself _, (device_itself _, (device_itself _, tt)))),
      );
      links = (link_itself _, (link_itself _, (link_itself _, (shorter (codes "b1") 1 2, (shorter (codes "b2") 1 3, (shorter (codes "b3") 1 4, tt))))));
      period = refl;
      depth = refl;
      tick = omega arith;
      loss = omega arith;
      domains = All-cons (Contains before.domains) tray [] (Contains-get_or before.domains 0 rack (omega arith)) (All-nil (Contains before.domains));
    }

-- and not the other way round
is_not_tighter : IsTighter after before → ⊥
is_not_tighter back = absurd (omega (arith, back.loss))

-- the greatest silence falls by a third, and the waits of the plan are still long enough
silence_before : silence before ≡ 346063000
silence_before = refl

silence_after : silence after ≡ 226042000
silence_after = refl

waits_before : timing_breach before fabric_plan ≡ None
waits_before = refl

waits_after : timing_breach after fabric_plan ≡ None
waits_after = refl
