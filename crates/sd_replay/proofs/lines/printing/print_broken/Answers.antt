use Rattle.sd_plan.specs.topo.Topologies.{network}
use Rattle.sd_replay.specs.lines.Printed.{printed}
use Rattle.sd_replay.proofs.lines.Bytes.{premise_by_premise}
use Rattle.sd_replay.proofs.lines.printing.print_broken.Goals as goal

pub returns-clause-text : goal.returns-clause-text
returns-clause-text c =
    rw (c.print_premise-7.ensures.text, c.print_premise-6.ensures.text, c.print_premise-5.ensures.text, c.print_premise-4.ensures.text, c.print_premise-3.ensures.text, c.print_premise-2.ensures.text, c.print_premise.ensures.text)
    (premise_by_premise (network c.args.topo.now) c.args.number (printed c.args.out.now) c.args.broken.now)
