-- Pieces after pieces that a sink was given, and a sink that fails before they come.
use Rattle.std.proofs.Common.{◌≡◌, [], ◌++◌, Option, Result, Ok, Err, sym, ap, subst, append-nil}
use Rattle.std.specs.Prelude.{IfErr, IsErrAnd}
use Rattle.sd_io.specs.outside.Pieces.{AddsFront, AddsPieces, Pieces}
use Rattle.sd_io.proofs.outside.Adding.{adds_both, adds_none, front_behind}
use Rattle.sd_files.specs.Writes.{Adds}
use Rattle.sd_files.specs.declared.command_error.IoError.{IoError}
use Rattle.sd_files.specs.declared.command_error.IoError.TheVariants as stop

-- pieces after those that were added
pub adds_behind : {T : Type 0} (front next : Pieces) (first before after : Option Pieces) (result : Result T IoError) → AddsPieces first before front
    → IfErr result (λ why. why ≡ stop.Sink) → Adds next before after result → Adds (front ++ next) first after result
adds_behind front next first before after (Ok done) added only adds = adds_both first before after front next added adds
adds_behind front next first before after (Err stop.Shelf) added only adds = cc
adds_behind front next first before after (Err stop.Sink) added only adds =
    subst (AddsFront first after) (append-nil (front ++ next)) (front_behind first before after front next [] added adds)
adds_behind front next first before after (Err stop.Memory) added only adds = cc

-- where the sink failed before them
pub adds_front : (T U : Type 0) (next more : Pieces) (first after : Option Pieces) (why : IoError) → why ≡ stop.Sink → Adds {T = T} next first after (Err why)
    → Adds {T = U} (next ++ more) first after (Err why)
adds_front T U next more first after stop.Shelf only adds = cc
adds_front T U next more first after stop.Sink only adds = front_behind first first after [] next more (adds_none first) adds
adds_front T U next more first after stop.Memory only adds = cc

-- a stop that is handed on stays what it was
pub handed_on : {U : Type 0} (result : Result U IoError) (why : IoError) → IsErrAnd result (λ other. other ≡ why) → Err why ≡ result
handed_on (Ok done) why same = absurd same
handed_on (Err other) why same = ap Err (sym same)
