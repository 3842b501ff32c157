use Rattle.sd_planner.specs.Flags.{AreOver}
use Rattle.sd_planner.proofs.backups.over.led_over.Given as goal

abbrev pub invariant-loop-placed : goal.invariant-loop-placed
invariant-loop-placed l = AreOver l.devices l.links l.placement.order l.placed-index l.over.items
