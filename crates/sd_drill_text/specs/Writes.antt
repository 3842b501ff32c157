-- The writes of what is printed of a plan: each domain by one, and the last line.
use Rattle.std.specs.Prelude.{◌≡◌, ℕ, List, [], ◌∷◌, ◌++◌}
use Rattle.sd_io.specs.outside.Pieces.{Pieces, piece_of}
use Rattle.sd_plan.specs.topo.Network.{Network}
use Rattle.sd_plan.specs.domain.Domains.{domains}
use Rattle.sd_plan.specs.declared.domain.DomainId.{DomainId}
use Rattle.sd_plan.specs.declared.Plan.{Plan}
use Rattle.sd_drill.specs.Printed.{done_line}

-- the lines of these domains, in order, each domain by one write, where `Lines` says what the lines of a domain are
abbrev pub AreWrites : (Lines : DomainId → List ℕ → Type 0) → List DomainId → Pieces → Type 0
AreWrites Lines [] pieces = pieces ≡ []
AreWrites Lines (f ∷ others) pieces = (lines : List ℕ) × (rest : Pieces) × Lines f lines × AreWrites Lines others rest × (pieces ≡ piece_of lines ++ rest)

-- all that is written for an accepted plan: the last line is a write of its own
abbrev pub AreAllWrites : (Lines : DomainId → List ℕ → Type 0) → Network → Plan → Pieces → Type 0
AreAllWrites Lines net plan pieces = (lines : Pieces) × AreWrites Lines (domains net) lines × (pieces ≡ lines ++ piece_of (done_line net plan))
