use Rattle.std.proofs.Common.{◌≡◌, ℕ, ◌<◌, List, length}
use Rattle.sd_history.specs.World.{Setting}
use Rattle.sd_history.specs.Nodes.{NodeStep, steps_of}
use Rattle.sd_fleet.specs.Standing.{StandsFor}
use Rattle.sd_replay.specs.Standing.{parent_row_in, parent_row_at}
use Rattle.sd_replay.proofs.observe.keep_all.Given as goal

abbrev pub invariant-loop-d : goal.invariant-loop-d
invariant-loop-d g l =
    record {
      parents : length l.parent_table.parents ≡ length l.fn.parent_table.parents;
      acting : length l.parent_table.acting ≡ length l.fn.parent_table.acting;
      each : (setting : Setting) (run : List (NodeStep _)) → StandsFor g.N.Node l.fleet setting run → (e : ℕ) → e < l.d
          → parent_row_at l.parent_table e ≡ parent_row_in setting (steps_of run) e;
    }
