use Rattle.std.proofs.Common.{◌≡◌, ◌++◌, take, flat_map}
use Rattle.sd_checker.specs.check_hit.Spans.{below_link}
use Rattle.sd_checker.proofs.check_hit.spans.add_below_links.Given as goal

abbrev pub invariant-loop-link : goal.invariant-loop-link
invariant-loop-link l = l.spans.items ≡ l.fn.spans.items ++ flat_map (below_link l.index l.backup_root) (take l.link-index l.links)
