use Rattle.std.proofs.Common.{◌≡◌, ℕ, ◌<◌, Some, slice_get}
use Rattle.sd_planner.specs.Views.{net_of}
use Rattle.sd_why.specs.Kinds.{IsTooDeep}
use Rattle.sd_why.proofs.deep.deep_from_all.Given as goal

abbrev pub invariant-loop-root : goal.invariant-loop-root
invariant-loop-root l = (k root : ℕ) → k < l.root-index → slice_get l.roots k ≡ Some root → IsTooDeep (net_of l.present) root
