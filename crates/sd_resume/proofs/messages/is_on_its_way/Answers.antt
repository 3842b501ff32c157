use Rattle.std.proofs.Common.{sym, ◌∙◌}
use Rattle.sd_history.specs.Nodes.{steps_of}
use Rattle.sd_resume.proofs.Sending.{found_on_its_way, not_found_is_spent}
use Rattle.sd_resume.proofs.messages.is_on_its_way.Goals as goal

pub returns-clause-on : goal.returns-clause-on
returns-clause-on c =
    λ yes setting run stands.
    found_on_its_way (steps_of run) c.args.number c.flight-found.result (c.flight-found.ensures setting run stands) (sym c.is_ok.ensures.value ∙ yes)

pub returns-clause-off : goal.returns-clause-off
returns-clause-off c =
    λ no setting run stands.
    not_found_is_spent (steps_of run) c.args.number c.flight-found.result (c.flight-found.ensures setting run stands) (sym c.is_ok.ensures.value ∙ no)
