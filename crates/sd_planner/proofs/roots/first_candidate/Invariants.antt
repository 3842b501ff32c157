use Rattle.std.proofs.Common.{◌≡◌, None, take, find, ◌&&◌, not, nat_eq}
use Rattle.sd_planner.specs.Usable.{takes_part}
use Rattle.sd_planner.specs.Views.{net_of, left_out}
use Rattle.sd_planner.proofs.roots.first_candidate.Given as goal

abbrev pub invariant-loop-d : goal.invariant-loop-d
invariant-loop-d l = find (λ d. takes_part (net_of l.present) (left_out l.present) d && not (nat_eq d l.root)) (take l.d-index l.d-items) ≡ None
