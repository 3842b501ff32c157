-- How three numbers of each device under each domain are printed: the drill's, the tight one, and the calm one.
use Rattle.std.specs.Prelude.{◌≡◌, ℕ, List, [], ◌∷◌, ◌++◌, flat_map, Option, Some, None, codes, decimal, slice_index_or}
use Rattle.sd_num.specs.Texts.{text_of}
use Rattle.sd_plan.specs.topo.Network.{Network, device_name}
use Rattle.sd_plan.specs.domain.Domains.{domains}
use Rattle.sd_plan.specs.declared.domain.DomainId.{DomainId}
use Rattle.sd_plan.specs.declared.Plan.{Plan}
use Rattle.sd_plan.specs.Plans.{members}
use Rattle.sd_drill.specs.Bounds.{AreBounds, bound_at}
use Rattle.sd_drill.specs.Calm.{AreCalm}
use Rattle.sd_checker.specs.Text.{domain_words}
use Rattle.sd_drill.specs.Printed.{done_line}
use Rattle.sd_drill.specs.Tight.{AreTight}
use Rattle.sd_drill.specs.declared.Budget.{Budget}

-- the line of a device under the domain of these words: its bound of the drill, its tight number and its calm one; or, where it has no bound, its calm one
abbrev pub line_of : List (List ℕ) → List ℕ → Option ℕ → Option ℕ → ℕ → List ℕ
line_of domain device (Some w) (Some tight) calm = text_of (codes "bounds" ∷ domain ++ device ∷ decimal w ∷ decimal tight ∷ decimal calm ∷ [])
line_of domain device (Some w) None calm = text_of (codes "nobound" ∷ domain ++ device ∷ decimal calm ∷ [])
line_of domain device None tight calm = text_of (codes "nobound" ∷ domain ++ device ∷ decimal calm ∷ [])

-- the line of a device by the numbers of all
abbrev pub bounds_line : Network → DomainId → List (Option ℕ) → List (Option ℕ) → List ℕ → ℕ → List ℕ
bounds_line net f worst tight calm d =
    line_of (domain_words net f) (device_name net d) (bound_at worst d) (bound_at tight d) (slice_index_or calm d 0)

-- these are the lines of a domain: one for each member, by ascending number
pub record AreLinesOf (net : Network) (plan : Plan) (budget : Budget) (f : DomainId) (lines : List ℕ) : Type 0 where
  pub worst : List (Option ℕ)
  pub tight : List (Option ℕ)
  pub calm : List ℕ
  pub are_bounds : AreBounds net plan budget f worst
  pub are_tight : AreTight net plan budget f tight
  pub are_calm : AreCalm net plan budget calm
  pub printed : lines ≡ flat_map (bounds_line net f worst tight calm) (members net plan)

-- the bytes are the lines of these domains, in order
abbrev pub AreLines : Network → Plan → Budget → List DomainId → List ℕ → Type 0
AreLines net plan budget [] bytes = bytes ≡ []
AreLines net plan budget (f ∷ others) bytes =
    (lines : List ℕ) × (rest : List ℕ) × AreLinesOf net plan budget f lines × AreLines net plan budget others rest × (bytes ≡ lines ++ rest)

-- all that is written of an accepted plan: the lines of all domains, and how many domains and members there are
abbrev pub IsBounds : Network → Plan → Budget → List ℕ → Type 0
IsBounds net plan budget bytes = (lines : List ℕ) × AreLines net plan budget (domains net) lines × (bytes ≡ lines ++ done_line net plan)
