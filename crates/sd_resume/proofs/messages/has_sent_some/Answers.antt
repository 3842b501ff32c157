use Rattle.std.proofs.Common.{◌≤◌, ap, ◌∙◌, not, arith}
use Rattle.sd_history.specs.Nodes.{steps_of}
use Rattle.sd_history.specs.flights.Flights.{says_unknown}
use Rattle.sd_resume.proofs.Sending.{known_is_sent}
use Rattle.sd_resume.proofs.messages.has_sent_some.Goals as goal

pub returns : goal.returns
returns c =
    λ setting run stands.
    (let some : 1 ≤ c.args.messages = omega arith in
    c.is_known.ensures ∙ ap (λ found. not (says_unknown found)) (c.flight-found.ensures setting run stands)
    ∙ known_is_sent setting (steps_of run) c.args.messages stands.fabric.accepted some)
