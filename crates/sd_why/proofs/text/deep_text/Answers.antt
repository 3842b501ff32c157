use Rattle.std.proofs.Common.{ap, ◌∙◌}
use Rattle.sd_plan.specs.topo.Topologies.{network}
use Rattle.sd_why.proofs.Words.{deep_words}
use Rattle.sd_why.proofs.text.deep_text.Goals as goal

pub returns : goal.returns
returns c =
    c.in_ok-line.ensures.ok
    ∙ deep_words (network c.args.topo.now) c.args.far _ _ _ c.device_name-candidate.ensures c.device_name-device.ensures
    (ap (λ p. p.depth) c.params-depth.ensures)
