-- What a command leaves at the sink is what its task says, and then what the run answers.
use Rattle.std.proofs.Common.{◌≡◌, ℕ, ◌∙◌, Bool, false, List, Option, Some, None, Result, Ok, Err, ap, arith, refl, sym, subst}
use Rattle.std.specs.Prelude.{◌↔◌, IfSome, IsTrue}
use Rattle.sd_io.specs.stream.Reader.{IsNear}
use Rattle.sd_io.specs.outside.Causes.{RisesFor}
use Rattle.sd_io.specs.outside.Pieces.{Pieces, piece_of}
use Rattle.sd_io.specs.outside.Shelves.{KeepsShelf}
use Rattle.sd_io.specs.declared.outside.shelf.Shelf.{Ghosts}
use Rattle.sd_files.proofs.Keeping.{keeps_for}
use Rattle.sd_files.proofs.work.Leaving.{at_once, leaves_once}
use Rattle.sd_files.specs.Answering.{AtOnce, InWrites, Allowed}
use Rattle.sd_files.specs.Statuses.{is_among, stop_of}
use Rattle.sd_files.specs.Stops.{status_of}
use Rattle.sd_files.specs.Texts.{Texts, texts_of}
use Rattle.sd_files.specs.Writes.{IsAllowed, HasOutput, WritesOnce}
use Rattle.sd_files.specs.declared.Status.{Status}
use Rattle.sd_files.specs.declared.Status.TheVariants.{ShelfFault, SinkFault, Memory}
use Rattle.sd_files.specs.declared.command_error.Answer.{Answer}
use Rattle.sd_files.specs.declared.command_error.CommandError.{CommandError}
use Rattle.sd_files.specs.declared.command_error.CommandError.TheVariants as ended
use Rattle.sd_files.specs.declared.command_error.IoError.{IoError}
use Rattle.sd_files.specs.declared.command_error.IoError.TheVariants as stop
use Rattle.sd_files.specs.work.Leaving.{Leaves}
use Rattle.sd_files.specs.work.Ending.{LeavesAt}
use Rattle.sd_top.specs.Ends.{MeetsResult}
use Rattle.sd_top.specs.Promise.{LeavesAfter, IsNearRefusal, MeetsOutcome, WritesOf, task_of}
use Rattle.sd_top.specs.Words.{Command, command_of}
use Rattle.sd_top.specs.Words.Command.{Solo, Replay, Order, Twoway, Drill}

-- the command of the words meets its task
pub meets_told : (held : Option (List ℕ → Option (List ℕ))) (words : List (List ℕ)) (command : Option Command) (old new : Option Pieces)
    (result : Result Status IoError) → command ≡ command_of words
    → IfSome held (λ h. LeavesAt (task_of command).in_steps (WritesOf (task_of command) (texts_of h)) old new result) → MeetsResult held words old new result
unfolding MeetsResult
meets_told None words command old new result is leaves = tt
meets_told (Some h) words command old new result is leaves =
    subst (λ (c : Option Command). LeavesAt (task_of c).in_steps (WritesOf (task_of c) (texts_of h)) old new result) is leaves

-- and so does one that writes once what it has made
pub meets_once : (held : Option (List ℕ → Option (List ℕ))) (words : List (List ℕ)) (command : Option Command) (made : Result Answer CommandError)
    (old new : Option Pieces) (result : Result Status IoError) → command ≡ command_of words
    → (task_of command).in_steps ≡ false → ((texts : Texts) → (task_of command).cuts texts ≡ AtOnce)
    → IfSome held (λ h. IsAllowed ((task_of command).Answers (texts_of h)) made) → WritesOnce (HasOutput made) old new result
    → MeetsResult held words old new result
meets_once None words command made old new result is whole once makes writes = meets_told None words command old new result is tt
meets_once (Some h) words command made old new result is whole once makes writes =
    meets_told (Some h) words command old new result is
    (subst (λ (steps : Bool). LeavesAt steps (WritesOf (task_of command) (texts_of h)) old new result) (sym whole)
    (subst (λ (Cuts : Pieces → Type 0). LeavesAt false (InWrites Cuts ((task_of command).Answers (texts_of h))) old new result) (sym (once (texts_of h)))
    (leaves_once ((task_of command).Answers (texts_of h)) made old new result makes writes)))

-- how far a command reads that reads line by line
near_part : (part : Option (List ℕ)) (rest : Option (List ℕ)) → IfSome part (λ p. IsNear (Some p) rest) → IfSome part (λ p. LeavesAfter p rest)
near_part None rest near = tt
near_part (Some p) None near = near
near_part (Some p) (Some left) near = near

pub near_told : (held : Option (List ℕ → Option (List ℕ))) (words : List (List ℕ)) (command : Option Command) (rest : Option (List ℕ))
    → command ≡ command_of words
    → IfSome held (λ h. IfSome ((task_of command).refused_part (texts_of h)) (λ part. IsNear (Some part) rest)) → IsNearRefusal held words rest
unfolding IsNearRefusal
near_told None words command rest is near = tt
near_told (Some h) words command rest is near =
    subst (λ (c : Option Command). IfSome ((task_of c).refused_part (texts_of h)) (λ part. LeavesAfter part rest)) is
    (near_part ((task_of command).refused_part (texts_of h)) rest near)

-- a command that does not read so
pub near_nothing : (held : Option (List ℕ → Option (List ℕ))) (words : List (List ℕ)) (command : Option Command) (rest : Option (List ℕ))
    → command ≡ command_of words
    → ((texts : Texts) → (task_of command).refused_part texts ≡ None) → IsNearRefusal held words rest
near_nothing held words command rest is none = near_told held words command rest is (reads held)
  where
    reads : (h : Option (List ℕ → Option (List ℕ))) → IfSome h (λ t. IfSome ((task_of command).refused_part (texts_of t)) (λ part. IsNear (Some part) rest))
    reads None = tt
    reads (Some t) = subst (λ (part : Option (List ℕ)). IfSome part (λ p. IsNear (Some p) rest)) (sym (none (texts_of t))) tt

-- no command answers a status of a run that was stopped
no_shelf : (command : Option Command) → IsTrue (is_among (task_of command).gives ShelfFault) → ⊥
no_shelf (Some (Solo schedule)) among = cc
no_shelf (Some (Replay topology plans schedule)) among = cc
no_shelf (Some (Order topology plans schedule)) among = cc
no_shelf (Some (Drill topology plan budget)) among = cc
no_shelf (Some (Twoway topology exchanges)) among = cc
no_shelf _ among = cc

no_sink : (command : Option Command) → IsTrue (is_among (task_of command).gives SinkFault) → ⊥
no_sink (Some (Solo schedule)) among = cc
no_sink (Some (Replay topology plans schedule)) among = cc
no_sink (Some (Order topology plans schedule)) among = cc
no_sink (Some (Drill topology plan budget)) among = cc
no_sink (Some (Twoway topology exchanges)) among = cc
no_sink _ among = cc

no_memory : (command : Option Command) → IsTrue (is_among (task_of command).gives Memory) → ⊥
no_memory (Some (Solo schedule)) among = cc
no_memory (Some (Replay topology plans schedule)) among = cc
no_memory (Some (Order topology plans schedule)) among = cc
no_memory (Some (Drill topology plan budget)) among = cc
no_memory (Some (Twoway topology exchanges)) among = cc
no_memory _ among = cc

not_stopped : (command : Option Command) (status : Status) → IsTrue (is_among (task_of command).gives status) → stop_of status ≡ None
not_stopped command ShelfFault among = absurd (no_shelf command among)
not_stopped command SinkFault among = absurd (no_sink command among)
not_stopped command Memory among = absurd (no_memory command among)
not_stopped command _ among = refl

-- a run that ended
pub ended_meets : (held : Option (List ℕ → Option (List ℕ))) (words : List (List ℕ)) (old new : Option Pieces) (status : Status)
    → IsTrue (is_among (task_of (command_of words)).gives status)
    → MeetsResult held words old new (Ok status) → MeetsOutcome held words old new status
unfolding MeetsResult MeetsOutcome
ended_meets None words old new status among meets = tt
ended_meets (Some h) words old new status among meets =
    subst (λ (why : Option IoError). Leaves why (task_of (command_of words)).in_steps (WritesOf (task_of (command_of words)) (texts_of h)) old new status)
    (sym (not_stopped (command_of words) status among)) meets

-- a run that was stopped
pub stopped_meets : (held : Option (List ℕ → Option (List ℕ))) (words : List (List ℕ)) (old new : Option Pieces) (why : IoError) (status : Status)
    → status ≡ status_of why → MeetsResult held words old new (Err why) → MeetsOutcome held words old new status
unfolding MeetsResult MeetsOutcome
stopped_meets None words old new why status is meets = tt
stopped_meets (Some h) words old new stop.Shelf status is meets = rw is meets
stopped_meets (Some h) words old new stop.Sink status is meets = rw is meets
stopped_meets (Some h) words old new stop.Memory status is meets = rw is meets

-- the count of a run that ended stays
pub ok_rises : (words : List (List ℕ)) (status blamed : Status) (why : IoError) (before now : ℕ)
    → IsTrue (is_among (task_of (command_of words)).gives status) → stop_of blamed ≡ Some why → now ≡ before → RisesFor (status ≡ blamed) before now
ok_rises words status blamed why before now among stops same =
    record {
      later = omega (arith, same);
      rose = λ is. let none : stop_of status ≡ None = not_stopped (command_of words) status among in
          let some : stop_of status ≡ Some why = ap stop_of is ∙ stops in cc;
      steady = λ none. same;
    }

-- and that of one which was stopped rose where it is blamed
abbrev Blames : IoError → IoError → Type 0
Blames why blamed = (λ (r : Result Status IoError). r ≡ Err blamed) (Err why)

pub err_shelf : (why : IoError) (status : Status) (before now : ℕ) → status ≡ status_of why → RisesFor (Blames why stop.Shelf) before now
    → RisesFor (status ≡ ShelfFault) before now
err_shelf stop.Shelf status before now is r = record { later = r.later; rose = λ e. r.rose refl; steady = λ none. absurd (none is) }
err_shelf stop.Sink status before now is r = record { later = r.later; rose = λ e. cc; steady = λ none. r.steady (λ e. cc) }
err_shelf stop.Memory status before now is r = record { later = r.later; rose = λ e. cc; steady = λ none. r.steady (λ e. cc) }

pub err_sink : (why : IoError) (status : Status) (before now : ℕ) → status ≡ status_of why → RisesFor (Blames why stop.Sink) before now
    → RisesFor (status ≡ SinkFault) before now
err_sink stop.Shelf status before now is r = record { later = r.later; rose = λ e. cc; steady = λ none. r.steady (λ e. cc) }
err_sink stop.Sink status before now is r = record { later = r.later; rose = λ e. r.rose refl; steady = λ none. absurd (none is) }
err_sink stop.Memory status before now is r = record { later = r.later; rose = λ e. cc; steady = λ none. r.steady (λ e. cc) }
