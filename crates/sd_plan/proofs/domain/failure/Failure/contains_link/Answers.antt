use Rattle.std.proofs.Common.{sym, ap, ◌∙◌}
use Rattle.std.specs.FinSet as set
use Rattle.sd_plan.proofs.domain.Members.{contains-made}
use Rattle.sd_plan.proofs.domain.failure.Failure.contains_link.Goals as goal

pub returns : goal.returns
returns c = c.contains.ensures ∙ sym (contains-made c.self.inside.links.numbers c.args.l) ∙ ap (λ f. set.contains f.links c.args.l) c.self.view_is
