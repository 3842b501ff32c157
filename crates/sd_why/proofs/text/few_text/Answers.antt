use Rattle.std.proofs.Common.{◌∙◌}
use Rattle.sd_plan.specs.topo.Topologies.{network}
use Rattle.sd_why.proofs.Words.{few_words}
use Rattle.sd_why.proofs.text.few_text.Goals as goal

pub returns : goal.returns
returns c = c.in_ok-line.ensures.ok ∙ few_words (network c.args.topo.now) c.args.bridges _ _ _ c.links-links.ensures c.devices-devices.ensures c.needed_besides-needed.ensures
