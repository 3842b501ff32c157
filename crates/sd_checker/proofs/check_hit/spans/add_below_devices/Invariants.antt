use Rattle.std.proofs.Common.{◌≡◌, ◌++◌, take, flat_map}
use Rattle.sd_checker.specs.check_hit.Spans.{below_device}
use Rattle.sd_checker.proofs.check_hit.spans.add_below_devices.Given as goal

abbrev pub invariant-loop-a : goal.invariant-loop-a
invariant-loop-a l = l.spans.items ≡ l.fn.spans.items ++ flat_map (below_device l.index l.backup_root) (take l.a-index l.devices)
