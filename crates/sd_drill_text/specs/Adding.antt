-- What printing by domains leaves at its sink, where it ends and where it is stopped.
use Rattle.std.specs.Prelude.{◌≡◌, All, ℕ, List, ◌++◌, Option, IsTrue, Result, Ok, Err}
use Rattle.sd_io.specs.outside.Pieces.{AddsFront, AddsPieces, Pieces}
use Rattle.sd_plan.specs.topo.Network.{Network}
use Rattle.sd_plan.specs.declared.domain.DomainId.{DomainId}
use Rattle.sd_plan.specs.declared.Plan.{Plan}
use Rattle.sd_drill_text.specs.Writes.{AreAllWrites, AreWrites}
use Rattle.sd_files.specs.declared.Status.{Status}
use Rattle.sd_files.specs.declared.Status.TheVariants.{Done}
use Rattle.sd_files.specs.work.Leaving.{are_lines}
use Rattle.sd_files.specs.declared.command_error.IoError.{IoError}
use Rattle.sd_files.specs.declared.command_error.IoError.TheVariants as stop

-- each piece is whole lines
abbrev pub EndLines : Pieces → Type 0
EndLines pieces = All (λ piece. IsTrue (are_lines piece)) pieces

-- the lines of these domains were added
abbrev pub Added : (DomainId → List ℕ → Type 0) → List DomainId → Option Pieces → Option Pieces → Type 0
Added Lines fs old new = (pieces : Pieces) × AreWrites Lines fs pieces × EndLines pieces × AddsPieces old new pieces

-- they were; or the sink failed, and some front of them was; or memory was wanting, and those of the first domains were
abbrev pub AddsLines : {T : Type 0} → (DomainId → List ℕ → Type 0) → List DomainId → Option Pieces → Option Pieces → Result T IoError → Type 0
AddsLines Lines fs old new (Ok done) = Added Lines fs old new
AddsLines Lines fs old new (Err stop.Shelf) = ⊥
AddsLines Lines fs old new (Err stop.Sink) = (pieces : Pieces) × AreWrites Lines fs pieces × AddsFront old new pieces
AddsLines Lines fs old new (Err stop.Memory) =
    (front : Pieces) × (rest : Pieces) × AreWrites Lines fs (front ++ rest) × EndLines front × AddsPieces old new front

-- the same of all domains and the last line, which ends well
abbrev pub AddsAll : (DomainId → List ℕ → Type 0) → Network → Plan → Option Pieces → Option Pieces → Result Status IoError → Type 0
AddsAll Lines net plan old new (Ok status) = (status ≡ Done) × ((pieces : Pieces) × AreAllWrites Lines net plan pieces × AddsPieces old new pieces)
AddsAll Lines net plan old new (Err stop.Shelf) = ⊥
AddsAll Lines net plan old new (Err stop.Sink) = (pieces : Pieces) × AreAllWrites Lines net plan pieces × AddsFront old new pieces
AddsAll Lines net plan old new (Err stop.Memory) = (front : Pieces) × (rest : Pieces) × AreAllWrites Lines net plan (front ++ rest) × EndLines front
    × AddsPieces old new front
