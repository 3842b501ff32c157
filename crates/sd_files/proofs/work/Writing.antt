-- What is written for a line is what its step writes.
use Rattle.std.proofs.Common.{◌≡◌, ℕ, true, refl, List, Option, None, Some, Result, Ok, Err, sym, subst}
use Rattle.std.specs.Prelude.{IfOk, IsErrAnd}
use Rattle.std.specs.List.{list_any}
use Rattle.sd_io.specs.outside.Pieces.{Pieces}
use Rattle.sd_files.specs.Writes.{Adds}
use Rattle.sd_files.specs.declared.Status.{Status}
use Rattle.sd_files.specs.declared.Status.TheVariants.{InputRefused}
use Rattle.sd_files.specs.declared.command_error.IoError.{IoError}
use Rattle.sd_files.specs.work.Works.{Work}
use Rattle.sd_files.specs.work.Steps.{Last, end_step}
use Rattle.sd_files.specs.work.Nexts.{MakesNext}

-- a stop is handed on
pub adds_handed_on : (T : Type 0) {U : Type 0} (result : Result U IoError) (why : IoError) (pieces : Pieces) (old new : Option Pieces)
    → IsErrAnd result (λ other. other ≡ why) → Adds {T = T} pieces old new (Err why) → Adds pieces old new result
adds_handed_on T {U = U} (Ok done) why pieces old new same adds = absurd same
adds_handed_on T {U = U} (Err other) why pieces old new same adds = subst (λ (w : IoError). Adds {T = U} pieces old new (Err w)) (sym same) adds

-- a run that is stopped makes no step
pub makes_stopped : {E : Type 0} (left : Option (List ℕ)) (before : ℕ) (Stood Stands : Work E → List E → Type 0) (result : Result (Option Status) IoError)
    (why : IoError) → IsErrAnd result (λ other. other ≡ why) → MakesNext left before Stood Stands result
makes_stopped None before Stood Stands result why stopped = tt
makes_stopped (Some text) before Stood Stands (Ok last) why stopped = absurd stopped
makes_stopped (Some text) before Stood Stands (Err other) why stopped = λ w xs h. tt

-- a run whose text has ended too soon ends as a refused one
pub ends_refused : {E : Type 0} (work : Work E) (xs : List E) (result : Result Status IoError) (last : Pieces) → end_step work xs ≡ Last last InputRefused
    → IfOk result (λ status. status ≡ InputRefused)
    → IfOk result (λ status. (pieces : Pieces) × (end_step work xs ≡ Last pieces status))
ends_refused work xs (Ok status) last step refused = (last, rw refused step)
ends_refused work xs (Err why) last step refused = tt

-- and one whose text has ended well with the last pieces of the work
pub ends_done : {E : Type 0} (Stood : Work E → List E → Type 0) (work : Work E) (xs : List E) (result : Result Status IoError) → Stood work xs
    → list_any work.ends xs ≡ true
    → IfOk result (λ status. (w : Work E) (ys : List E) → Stood w ys → status ≡ w.last_status ys)
    → IfOk result (λ status. (pieces : Pieces) × (end_step work xs ≡ Last pieces status))
ends_done Stood work xs (Ok status) stood over is = let same : status ≡ work.last_status xs = is work xs stood in (work.last_pieces xs, rw (over, same) refl)
ends_done Stood work xs (Err why) stood over is = tt
