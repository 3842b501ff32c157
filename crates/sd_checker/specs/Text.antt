-- How a verdict is printed.
use Rattle.std.specs.Prelude.{ℕ, List, ◌∷◌, ◌++◌, length, map, codes, decimal, []}
use Rattle.std.specs.List.{join_with_byte}
use Rattle.sd_plan.specs.topo.Network.{Network, device_name, link_name, domain_name}
use Rattle.sd_plan.specs.declared.topo.Thing.{Thing}
use Rattle.sd_plan.specs.declared.topo.Thing.TheVariants as thing
use Rattle.sd_plan.specs.domain.Domains.{domains}
use Rattle.sd_plan.specs.declared.domain.DomainId.{DomainId}
use Rattle.sd_plan.specs.declared.domain.DomainId.TheVariants as domain
use Rattle.sd_checker.specs.declared.Breach.{Breach}
use Rattle.sd_checker.specs.declared.Breach.TheVariants.{Structure, Ancestor, Timing, Root, Loop, Domain, Reach}

-- words, parted by a space
abbrev pub spaced : List (List ℕ) → List ℕ
spaced = join_with_byte 32

-- the words of a domain
abbrev pub domain_words : Network → DomainId → List (List ℕ)
domain_words net (domain.Listed k) = codes "listed" ∷ domain_name net k ∷ []
domain_words net (domain.Device d) = codes "device" ∷ device_name net d ∷ []
domain_words net (domain.Link l) = codes "link" ∷ link_name net l ∷ []

-- the words of a device or of a link
abbrev pub thing_words : Network → Thing → List (List ℕ)
thing_words net (thing.Device d) = codes "device" ∷ device_name net d ∷ []
thing_words net (thing.Link l) = codes "link" ∷ link_name net l ∷ []

-- the words of a breach
abbrev pub breach_words : Network → Breach → List (List ℕ)
breach_words net (Structure rule d) = codes "structure" ∷ decimal rule ∷ codes "device" ∷ device_name net d ∷ []
breach_words net (Ancestor d) = codes "ancestor" ∷ codes "device" ∷ device_name net d ∷ []
breach_words net (Timing t) = codes "timing" ∷ decimal t.rule ∷ decimal t.left ∷ decimal t.right ∷ []
breach_words net (Root f at) = codes "root" ∷ domain_words net f ++ codes "at" ∷ thing_words net at
breach_words net (Loop f cycle) = codes "loop" ∷ domain_words net f ++ codes "cycle" ∷ map (device_name net) cycle
breach_words net (Domain f d) = codes "domain" ∷ domain_words net f ++ codes "device" ∷ device_name net d ∷ []
breach_words net (Reach f chain) = codes "reach" ∷ domain_words net f ++ codes "chain" ∷ map (device_name net) chain

-- the line for a refused plan, the one at this place of the command from 1
abbrev pub refused_line : Network → ℕ → Breach → List ℕ
refused_line net place breach = spaced (codes "refused" ∷ codes "plan" ∷ decimal place ∷ breach_words net breach) ++ 10 ∷ []

-- the line for an accepted plan: how many devices, links and domains there are
abbrev pub accepted_line : Network → List ℕ
accepted_line net = spaced (codes "accepted" ∷ decimal (length net.devices) ∷ decimal (length net.links) ∷ decimal (length (domains net)) ∷ []) ++ 10 ∷ []
