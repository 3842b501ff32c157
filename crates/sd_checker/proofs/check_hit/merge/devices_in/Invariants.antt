use Rattle.sd_checker.proofs.check_hit.Merged.{IsMerged}
use Rattle.sd_checker.proofs.check_hit.merge.devices_in.Given as goal

abbrev pub invariant-loop-span : goal.invariant-loop-span
invariant-loop-span l = IsMerged l.order l.spans l.span-index l.taken l.devices.items
