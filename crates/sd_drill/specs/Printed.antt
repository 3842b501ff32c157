-- How the bounds of the drill are printed.
use Rattle.std.specs.Prelude.{◌≡◌, ℕ, List, [], ◌∷◌, ◌++◌, length, flat_map, Option, Some, None, codes, decimal}
use Rattle.sd_num.specs.Texts.{text_of}
use Rattle.sd_plan.specs.topo.Network.{Network}
use Rattle.sd_plan.specs.domain.Domains.{domains}
use Rattle.sd_plan.specs.declared.domain.DomainId.{DomainId}
use Rattle.sd_plan.specs.declared.Plan.{Plan}
use Rattle.sd_plan.specs.Plans.{members}
use Rattle.sd_checker.specs.Text.{domain_words}
use Rattle.sd_plan.specs.topo.Network.{device_name}
use Rattle.sd_drill.specs.Bounds.{AreBounds, bound_at}
use Rattle.sd_drill.specs.declared.Budget.{Budget}

-- the words of a device with its bound under a domain, or with none
abbrev pub bound_words : Network → DomainId → ℕ → Option ℕ → List (List ℕ)
bound_words net f d (Some w) = codes "bound" ∷ domain_words net f ++ device_name net d ∷ decimal w ∷ []
bound_words net f d None = codes "nobound" ∷ domain_words net f ++ device_name net d ∷ []

-- the line of a device
abbrev pub bound_line : Network → DomainId → List (Option ℕ) → ℕ → List ℕ
bound_line net f bounds d = text_of (bound_words net f d (bound_at bounds d))

-- the lines of a domain: one for each member, by ascending number
abbrev pub domain_lines : Network → Plan → DomainId → List (Option ℕ) → List ℕ
domain_lines net plan f bounds = flat_map (bound_line net f bounds) (members net plan)

-- these are the lines of a domain
abbrev pub IsLinesOf : Network → Plan → Budget → DomainId → List ℕ → Type 0
IsLinesOf net plan budget f lines = (bounds : List (Option ℕ)) × AreBounds net plan budget f bounds × (lines ≡ domain_lines net plan f bounds)

-- the bytes are the lines of these domains, in order
abbrev pub AreLines : Network → Plan → Budget → List DomainId → List ℕ → Type 0
AreLines net plan budget [] bytes = bytes ≡ []
AreLines net plan budget (f ∷ others) bytes = (lines : List ℕ) × (rest : List ℕ) × IsLinesOf net plan budget f lines × AreLines net plan budget others rest
    × (bytes ≡ lines ++ rest)

-- the last line: how many domains and how many members there are
abbrev pub done_line : Network → Plan → List ℕ
done_line net plan = text_of (codes "done" ∷ decimal (length (domains net)) ∷ decimal (length (members net plan)) ∷ [])

-- all that is written for an accepted plan
abbrev pub IsDrill : Network → Plan → Budget → List ℕ → Type 0
IsDrill net plan budget bytes = (lines : List ℕ) × AreLines net plan budget (domains net) lines × (bytes ≡ lines ++ done_line net plan)
