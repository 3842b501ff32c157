use Rattle.sd_checker.specs.check_reach.Aftermaths.{net_of, plan_of, domain_of, hit_of}
use Rattle.sd_checker.specs.check_reach.Candidates.{Chooses, loses}
use Rattle.sd_checker.proofs.check_reach.aftermath.Aftermath.losing.Given as goal

abbrev pub invariant-loop-d : goal.invariant-loop-d
invariant-loop-d l = Chooses (hit_of l.self) (λ j d. loses (net_of l.self) (plan_of l.self) (domain_of l.self) d) l.d-index l.losing
