use Rattle.std.proofs.Common.{◌≡◌, find, None}
use Rattle.sd_num.specs.Lists.{below}
use Rattle.sd_why.specs.Rings.{is_unknown}
use Rattle.sd_why.proofs.apart.first_unknown.Given as goal

abbrev pub invariant-loop-d : goal.invariant-loop-d
invariant-loop-d l = find (is_unknown l.known) (below l.d) ≡ None
