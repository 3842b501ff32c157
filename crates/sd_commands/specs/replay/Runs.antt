-- What a run of `replay` or `order` leaves.
use Rattle.std.specs.Prelude.{◌≡◌, ℕ, List, [], ◌∷◌, map, string_bytes, true, IsTrue, IfOk, IfSome, Option, Some, Result, Ok, Err}
use Rattle.sd_io.specs.outside.Causes.{RisesFor}
use Rattle.sd_io.specs.outside.Shelves.{KeepsShelf}
use Rattle.sd_io.specs.declared.outside.shelf.Shelf as shelves
use Rattle.sd_io.specs.declared.outside.sink.Sink as sinks
use Rattle.sd_sched.specs.declared.Event.{Event}
use Rattle.sd_history.specs.World.{Setting}
use Rattle.sd_io.specs.stream.Reader.{IsNear}
use Rattle.sd_files.specs.Inputs.{topology_of}
use Rattle.sd_files.specs.Statuses.{is_among}
use Rattle.sd_files.specs.Texts.{texts_of}
use Rattle.sd_files.specs.declared.Status.{Status}
use Rattle.sd_files.specs.declared.Status.TheVariants.{Done, PlanRefused, InputRefused, Broken}
use Rattle.sd_files.specs.declared.command_error.IoError.{IoError}
use Rattle.sd_files.specs.declared.command_error.IoError.TheVariants as stop
use Rattle.sd_files.specs.work.Ending.{LeavesAt}
use Rattle.sd_files.specs.work.Works.{Work}
use Rattle.sd_commands.specs.replay.Replays.{refused_over}
use Rattle.sd_commands.specs.replay.Writes.{RunsIn}
use Rattle.sd_commands.specs.declared.replay.files.Files.{Files}

-- the texts of the plans
abbrev pub plan_texts : (List ℕ → Option (List ℕ)) → Files → List (List ℕ)
plan_texts held files = map (λ name. texts_of held name) (map string_bytes files.plans.now)

-- a run over the files that does this work: what it writes, which statuses it answers, how far a refused file was read, and whom a stop blames
pub record HasRun {S O : Type 0} (g : shelves.Ghosts S) (h : sinks.Ghosts O) (work : Setting → Work Event) (files : Files) (old new : S) (before after : O)
    (result : Result Status IoError) : Type 0 where
  pub outcome : IfSome (g.held old)
      (λ held. LeavesAt true (RunsIn work (texts_of held files.topology.now) (plan_texts held files) (texts_of held files.schedule.now)) (h.written before)
      (h.written after) result)
  pub gives : IfOk result (λ status. IsTrue (is_among (Done ∷ PlanRefused ∷ InputRefused ∷ Broken ∷ []) status))
  pub near : result ≡ Ok InputRefused
      → IfSome (g.held old)
      (λ held. IfSome (refused_over (topology_of (texts_of held files.topology.now)) (plan_texts held files) (texts_of held files.schedule.now))
      (λ part. IsNear (Some part) (g.rest new)))
  pub shelf : KeepsShelf g (result ≡ Err stop.Shelf) old new
  pub sink : RisesFor (result ≡ Err stop.Sink) (h.faults before) (h.faults after)
