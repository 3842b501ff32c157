use Rattle.std.proofs.Common.{◌≡◌, filter, option_to_list, false}
use Rattle.sd_num.specs.Lists.{below, at_place}
use Rattle.sd_replay.proofs.watch.alarms.two_acting.Given as goal

abbrev pub invariant-loop-d : goal.invariant-loop-d
invariant-loop-d l = filter (λ d. at_place l.acting d false (λ acts. acts)) (below l.d) ≡ option_to_list l.first
