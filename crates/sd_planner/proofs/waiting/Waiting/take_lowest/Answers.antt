use Rattle.std.proofs.Common.{subst}
use Rattle.sd_planner.specs.Waits.{IsTaken}
use Rattle.sd_planner.proofs.Sets.{taken}
use Rattle.sd_planner.proofs.waiting.Waiting.take_lowest.Goals as goal

pub returns : goal.returns
returns c =
    subst (λ old. IsTaken old c.pop_first.new.self.keys c.pop_first.result) c.self.view_is
    (taken c.self.inside.numbers.keys c.pop_first.new.self.keys c.pop_first.result c.pop_first.ensures.removal c.pop_first.ensures.all_above
    c.pop_first.ensures.variant.1)
