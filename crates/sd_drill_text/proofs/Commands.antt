-- What printing by domains leaves at the sink, and a file before it.
use Rattle.std.proofs.Common.{◌≡◌, ℕ, true, false, List, ◌++◌, Option, None, Some, IfSome, Result, Ok, Err, inl, inr, refl, sym, subst}
use Rattle.std.specs.Prelude.{◌↔◌, IfOk}
use Rattle.std.specs.List.{concat}
use Rattle.sd_io.specs.outside.Pieces.{Pieces, piece_of}
use Rattle.sd_io.specs.outside.Shelves.{KeepsShelf}
use Rattle.sd_io.specs.declared.outside.shelf.Shelf.{Ghosts}
use Rattle.sd_plan.specs.topo.Network.{Network}
use Rattle.sd_plan.specs.declared.Plan.{Plan}
use Rattle.sd_checker.specs.Text.{refused_line}
use Rattle.sd_checker.specs.Verdicts.{IsBreach}
use Rattle.sd_checker.specs.Conditions.{IsAccepted}
use Rattle.sd_checker.specs.declared.Breach.{Breach}
use Rattle.sd_checker.specs.declared.Verdict.TheVariants.{Accepted, Refused}
use Rattle.sd_checker.proofs.Exclusive.{accepted_unbroken}
use Rattle.sd_drill.specs.declared.Budget.{Budget}
use Rattle.sd_files.specs.Answering.{After, AtOnce, InWrites, Allowed, MayWrite, WritesAfter}
use Rattle.sd_files.specs.Loads.{Loads}
use Rattle.sd_files.specs.Texts.{Texts, texts_of}
use Rattle.sd_files.specs.Writes.{Adds, HasOutput, WritesOnce}
use Rattle.sd_files.specs.declared.Status.{Status}
use Rattle.sd_files.specs.declared.Status.TheVariants.{Done, PlanRefused}
use Rattle.sd_files.specs.declared.command_error.Answer.{Answer}
use Rattle.sd_files.specs.declared.command_error.CommandError.{CommandError}
use Rattle.sd_files.specs.declared.command_error.CommandError.TheVariants as ended
use Rattle.sd_files.specs.declared.command_error.Refusal.{Refusal}
use Rattle.sd_files.specs.declared.command_error.IoError.{IoError}
use Rattle.sd_files.specs.declared.command_error.IoError.TheVariants as stop
use Rattle.sd_files.specs.planfiles.PlanFiles.{AfterJudged}
use Rattle.sd_files.specs.work.Ending.{LeavesAt}
use Rattle.sd_files.proofs.Keeping.{keeps_for}
use Rattle.sd_files.proofs.work.Leaving.{at_once, leaves_more, once_in_steps}
use Rattle.sd_drill_text.specs.Adding.{AddsAll}
use Rattle.sd_drill_text.specs.Commands.{AllOf, IsPrinted}
use Rattle.sd_drill_text.specs.Steps.{LinesOf, PrintedInSteps}
use Rattle.sd_drill_text.specs.Writes.{AreAllWrites}

module _ (Lines : LinesOf) (Says : AllOf) (net : Network) (plan : Plan) (budget : Budget) (old new : Option Pieces) where
  -- all that is written domain by domain is all of it
  abbrev IsWhole : Type 0
  IsWhole = (pieces : Pieces) → AreAllWrites (Lines net plan budget) net plan pieces → Says net plan budget (concat pieces)

  -- what may be written of a plan
  abbrev pub Judged : MayWrite
  Judged = InWrites (PrintedInSteps Lines net budget plan) (AfterJudged net 1 plan (IsPrinted Says net budget plan))

  whole : IsWhole → (pieces : Pieces) (status : Status) → IsAccepted net plan → AreAllWrites (Lines net plan budget) net plan pieces → status ≡ Done → Judged pieces status
  whole law pieces status accepted is done = (
    (Accepted, accepted, (law pieces is, done)),
    record { accepted = λ again. is; refused = λ none. absurd (none accepted) },
  )

  -- an accepted plan
  pub printed : IsWhole → (result : Result Status IoError) → IsAccepted net plan → AddsAll (Lines net plan budget) net plan old new result → LeavesAt true Judged old new result
  printed law (Ok status) accepted (done, (pieces, is, added)) = (pieces, whole law pieces status accepted is done, added)
  printed law (Err stop.Shelf) accepted none = absurd none
  printed law (Err stop.Sink) accepted (pieces, is, written) = (pieces, Done, whole law pieces Done accepted is refl, written)
  printed law (Err stop.Memory) accepted (front, rest, is, ends, added) =
      inr (front ++ rest, Done, whole law (front ++ rest) Done accepted is refl, record { whole = front; others = rest; are = refl; lines = ends; added = added })

  broken : (breach : Breach) (status : Status) → IsBreach net plan breach → status ≡ PlanRefused → Judged (piece_of (refused_line net 1 breach)) status
  broken breach status is answered =
      let once = at_once (AfterJudged net 1 plan (IsPrinted Says net budget plan)) (refused_line net 1 breach) status (Refused breach, is, (refl, answered)) in
      (once.0, record { accepted = λ accepted. absurd (accepted_unbroken net plan breach accepted is); refused = λ none. once.1 })

  -- the line of the breach of another
  pub refused : (breach : Breach) (result : Result Status IoError) → IsBreach net plan breach → IfOk result (λ status. status ≡ PlanRefused)
      → Adds (piece_of (refused_line net 1 breach)) old new result → LeavesAt true Judged old new result
  refused breach (Ok status) is answered added = (piece_of (refused_line net 1 breach), broken breach status is answered, added)
  refused breach (Err stop.Shelf) is answered kept = inl kept
  refused breach (Err stop.Sink) is answered written = (piece_of (refused_line net 1 breach), PlanRefused, broken breach PlanRefused is refl, written)
  refused breach (Err stop.Memory) is answered kept = inl kept

-- what is written once is written by one write
pub leaves_written : (Writes : Allowed) (old new : Option Pieces) (result : Result Status IoError) → WritesOnce Writes old new result
    → LeavesAt false (InWrites AtOnce Writes) old new result
leaves_written Writes old new (Ok status) (bytes, written, added) = (piece_of bytes, at_once Writes bytes status written, added)
leaves_written Writes old new (Err stop.Shelf) kept = kept
leaves_written Writes old new (Err stop.Sink) (bytes, status, written, front) = (piece_of bytes, status, at_once Writes bytes status written, front)
leaves_written Writes old new (Err stop.Memory) kept = kept

-- what is written of a file that is refused, or cannot be loaded
pub unloaded_leaves : {T X : Type 0} (view : T → X) (says : Result X Refusal) (Then : X → Allowed) (Cuts : X → Pieces → Type 0) (old new : Option Pieces)
    (result : Result Status IoError) (e : CommandError) → Loads {T = T} view says (Err e) → WritesOnce (HasOutput (Err e)) old new result
    → LeavesAt true (InWrites (WritesAfter says Cuts) (After says Then)) old new result
unloaded_leaves {T = T} {X = X} view says Then Cuts old new result e loads writes =
    leaves_more (InWrites AtOnce (HasOutput (Err e))) (InWrites (WritesAfter says Cuts) (After says Then)) old new result (by e loads)
    (once_in_steps (InWrites AtOnce (HasOutput (Err e))) old new result (leaves_written (HasOutput (Err e)) old new result writes))
  where
    by : (e : CommandError) → Loads {T = T} view says (Err e) → (pieces : Pieces) (status : Status) → InWrites AtOnce (HasOutput (Err e)) pieces status
        → InWrites (WritesAfter says Cuts) (After says Then) pieces status
    by (ended.Refused why) is pieces status (told, once) = (
      subst (λ (s : Result X Refusal). After s Then (concat pieces) status) (sym is) told,
      subst (λ (s : Result X Refusal). WritesAfter s Cuts pieces) (sym is) once,
    )
    by ended.Shelf is pieces status (told, once) = absurd told
    by ended.Memory is pieces status (told, once) = absurd told

module _ {T X : Type 0} (view : T → X) (says : Texts → Result X Refusal) (Then : Texts → X → Allowed) (Cuts : Texts → X → Pieces
    → Type 0) (held : Option (List ℕ → Option (List ℕ))) (old new : Option Pieces) (result : Result Status IoError) where
  -- after a file that is not refused
  pub told_leaves_on : (x : T) → IfSome held (λ h. Loads view (says (texts_of h)) (Ok x))
      → IfSome held (λ h. LeavesAt true (InWrites (Cuts (texts_of h) (view x)) (Then (texts_of h) (view x))) old new result)
      → IfSome held
      (λ h. LeavesAt true (InWrites (WritesAfter (says (texts_of h)) (Cuts (texts_of h))) (After (says (texts_of h)) (Then (texts_of h)))) old new result)
  told_leaves_on x loads leaves = by held loads leaves
    where
      by : (h : Option (List ℕ → Option (List ℕ))) → IfSome h (λ t. Loads view (says (texts_of t)) (Ok x))
          → IfSome h (λ t. LeavesAt true (InWrites (Cuts (texts_of t) (view x)) (Then (texts_of t) (view x))) old new result)
          → IfSome h
          (λ t. LeavesAt true (InWrites (WritesAfter (says (texts_of t)) (Cuts (texts_of t))) (After (says (texts_of t)) (Then (texts_of t)))) old new result)
      by None loads leaves = tt
      by (Some t) loads leaves =
          leaves_more (InWrites (Cuts (texts_of t) (view x)) (Then (texts_of t) (view x)))
          (InWrites (WritesAfter (says (texts_of t)) (Cuts (texts_of t))) (After (says (texts_of t)) (Then (texts_of t)))) old new result
          (λ pieces status is. (
            subst (λ (s : Result X Refusal). After s (Then (texts_of t)) (concat pieces) status) (sym loads) is.0,
            subst (λ (s : Result X Refusal). WritesAfter s (Cuts (texts_of t)) pieces) (sym loads) is.1,
          )) leaves

  -- after one that is, or cannot be loaded
  pub told_unloaded : (e : CommandError) → IfSome held (λ h. Loads {T = T} view (says (texts_of h)) (Err e)) → WritesOnce (HasOutput (Err e)) old new result
      → IfSome held
      (λ h. LeavesAt true (InWrites (WritesAfter (says (texts_of h)) (Cuts (texts_of h))) (After (says (texts_of h)) (Then (texts_of h)))) old new result)
  told_unloaded e loads writes = by held loads
    where
      by : (h : Option (List ℕ → Option (List ℕ))) → IfSome h (λ t. Loads {T = T} view (says (texts_of t)) (Err e))
          → IfSome h
          (λ t. LeavesAt true (InWrites (WritesAfter (says (texts_of t)) (Cuts (texts_of t))) (After (says (texts_of t)) (Then (texts_of t)))) old new result)
      by None loads = tt
      by (Some t) loads = unloaded_leaves view (says (texts_of t)) (Then (texts_of t)) (Cuts (texts_of t)) old new result e loads writes

-- a file that could not be loaded stops the run where it stops the command
abbrev Stops : (T : Type 0) → CommandError → Type 0
Stops T why = (λ (r : Result T CommandError). r ≡ Err ended.Shelf) (Err why)

stops_as : (T U : Type 0) (why : CommandError) → Stops T why → Stops U why
stops_as T U (ended.Refused refusal) same = cc
stops_as T U ended.Shelf same = refl
stops_as T U ended.Memory same = cc

pub ended_keeps : {S T : Type 0} (g : Ghosts S) (why : CommandError) (result : Result Status IoError) (old new : S)
    → (result ≡ Err stop.Shelf) ↔ Stops Answer why → KeepsShelf g (Stops T why) old new → KeepsShelf g (result ≡ Err stop.Shelf) old new
ended_keeps {T = T} g why result old new stops keeps =
    keeps_for g (Stops T why) (result ≡ Err stop.Shelf) old new (λ a. stops.1 (stops_as T Answer why a)) (λ b. stops_as Answer T why (stops.0 b)) keeps
