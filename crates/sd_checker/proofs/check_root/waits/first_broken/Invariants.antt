use Rattle.std.proofs.Common.{◌≡◌, None, take, find}
use Rattle.sd_checker.specs.check_root.Inequalities.{breach_of}
use Rattle.sd_checker.specs.check_root.Timing.{is_broken}
use Rattle.sd_checker.proofs.check_root.waits.first_broken.Given as goal

abbrev pub invariant-loop-inequality : goal.invariant-loop-inequality
invariant-loop-inequality l = find (λ i. is_broken (breach_of i)) (take l.inequality-index l.inequalities) ≡ None
