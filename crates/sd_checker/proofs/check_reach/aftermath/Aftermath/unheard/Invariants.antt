use Rattle.std.proofs.Common.{◌&&◌, not, get_or}
use Rattle.sd_checker.specs.check_reach.Aftermaths.{net_of, domain_of, hit_of}
use Rattle.sd_plan.specs.domain.Domains.{holds_device}
use Rattle.sd_checker.specs.check_reach.Candidates.{Chooses}
use Rattle.sd_checker.specs.check_reach.Turns.{is_unfed}
use Rattle.sd_checker.specs.declared.check_reach.marks.Mark.TheVariants as mark
use Rattle.sd_checker.proofs.check_reach.aftermath.Aftermath.unheard.Given as goal

abbrev pub invariant-loop-place : goal.invariant-loop-place
invariant-loop-place l =
    Chooses (hit_of l.self) (λ j d. is_unfed (get_or l.marks.items j mark.Unseen) && not (holds_device (net_of l.self) (domain_of l.self) d)) l.place l.unheard
