use Rattle.std.proofs.Common.{refl, sym, ap, ◌∙◌}
use Rattle.sd_plan.specs.domain.Failures.{nothing_in}
use Rattle.sd_monitors.proofs.renewal.Failing.{domain_begins}
use Rattle.sd_monitors.proofs.renewal.domain.DomainMonitor.new.Goals as goal

pub returns-clause-stands : goal.returns-clause-stands
returns-clause-stands c setting net = domain_begins setting _ (c.in_ok-failed.ensures ∙ ap nothing_in (sym net)) refl
