use Rattle.std.proofs.Common.{◌≡◌, ℕ, ◌<◌, List, length, get_or}
use Rattle.sd_history.specs.World.{Setting, Seen}
use Rattle.sd_monitors.specs.clocks.Owing.{owed_at}
use Rattle.sd_monitors.specs.clocks.Tickings.{TellOf}
use Rattle.sd_monitors.proofs.clocks.tick.note_all.Given as goal

abbrev pub invariant-loop-d : goal.invariant-loop-d
invariant-loop-d l = record {
  places : length l.owed ≡ length l.initial.owed;
  each : (setting : Setting) (seen : List Seen) → TellOf setting seen l.members l.world l.ticks → (k : ℕ) → k < l.d
      → get_or l.owed k 0 ≡ owed_at setting seen k;
}
