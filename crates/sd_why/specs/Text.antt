-- How a reason is printed.
use Rattle.std.specs.Prelude.{List, ℕ, [], ◌∷◌, length, Option, None, Some, codes, decimal}
use Rattle.sd_num.specs.Texts.{text_of}
use Rattle.sd_plan.specs.topo.Network.{Network, device_name, domain_name}
use Rattle.sd_why.specs.Bridges.{needed_besides}
use Rattle.sd_why.specs.declared.Far.{Far}
use Rattle.sd_why.specs.declared.Reason.{Reason}
use Rattle.sd_why.specs.declared.Reason.TheVariants as reason

-- the line of a kind, with its things
abbrev pub impossible_text : List (List ℕ) → List ℕ
impossible_text words = text_of (codes "impossible" ∷ words)

-- a domain that has all candidates
abbrev pub shared_text : Network → ℕ → List ℕ
shared_text net k = impossible_text (codes "shared" ∷ domain_name net k ∷ [])

-- a device that no links lead to
abbrev pub apart_text : Network → ℕ → List ℕ
apart_text net d = impossible_text (codes "apart" ∷ device_name net d ∷ [])

-- a candidate, a device that is farther than the depth from it, how far, and the depth
abbrev pub deep_text : Network → Far → List ℕ
deep_text net far =
    impossible_text (codes "deep" ∷ device_name net far.candidate ∷ device_name net far.device ∷ decimal far.hops ∷ decimal net.params.depth ∷ [])

-- the links, how many of them are bridges, the devices, and how many links besides the bridges a plan needs
abbrev pub few_text : Network → ℕ → List ℕ
few_text net bridges =
    impossible_text
    (codes "few" ∷ decimal (length net.links) ∷ decimal bridges ∷ decimal (length net.devices) ∷ decimal (needed_besides net bridges) ∷ [])

-- the line of a reason
abbrev pub reason_text : Network → Reason → List ℕ
reason_text net (reason.Candidates n) = impossible_text (codes "candidates" ∷ decimal n ∷ [])
reason_text net reason.Timing = impossible_text (codes "timing" ∷ [])
reason_text net (reason.Shared k) = shared_text net k
reason_text net (reason.Apart d) = apart_text net d
reason_text net (reason.Deep far) = deep_text net far
reason_text net (reason.Few bridges) = few_text net bridges

-- the line of the first reason, or that none is known
abbrev pub why_text : Network → Option Reason → List ℕ
why_text net None = text_of (codes "open" ∷ [])
why_text net (Some what) = reason_text net what
