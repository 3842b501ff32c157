use Rattle.std.proofs.Common.{◌≡◌, ℕ, ◌<◌, false, List}
use Rattle.sd_history.specs.World.{Setting, Seen}
use Rattle.sd_monitors.specs.renewal.Judging.{IsJudgeOf, lacks}
use Rattle.sd_monitors.proofs.renewal.judge.Judge.are_prepared.Given as goal

abbrev pub invariant-loop-d : goal.invariant-loop-d
invariant-loop-d l = (setting : Setting) (seen : List Seen) → IsJudgeOf l.self setting seen → (k : ℕ) → k < l.d → lacks setting seen k ≡ false
