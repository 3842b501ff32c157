use Rattle.std.proofs.Common.{◌≡◌, ℕ, ◌<◌, false, List}
use Rattle.sd_history.specs.World.{Setting, Seen}
use Rattle.sd_monitors.specs.renewal.Moments.{IsMomentOf, uses_failed}
use Rattle.sd_monitors.proofs.renewal.moment.Moment.leaves_out_failed.Given as goal

abbrev pub invariant-loop-l : goal.invariant-loop-l
invariant-loop-l l = (setting : Setting) (seen : List Seen) → IsMomentOf l.self setting seen → (k : ℕ) → k < l.l → uses_failed setting seen k ≡ false
