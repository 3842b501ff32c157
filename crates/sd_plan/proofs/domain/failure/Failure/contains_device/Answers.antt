use Rattle.std.proofs.Common.{sym, ap, ◌∙◌}
use Rattle.std.specs.FinSet as set
use Rattle.sd_plan.proofs.domain.Members.{contains-made}
use Rattle.sd_plan.proofs.domain.failure.Failure.contains_device.Goals as goal

pub returns : goal.returns
returns c = c.contains.ensures ∙ sym (contains-made c.self.inside.devices.numbers c.args.d) ∙ ap (λ f. set.contains f.devices c.args.d) c.self.view_is
