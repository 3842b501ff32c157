use Rattle.std.proofs.Common.{◌≡◌, ◌||◌, ℕ, take}
use Rattle.std.specs.FinSet as set
use Rattle.sd_num.specs.Lists.{has}
use Rattle.sd_plan.proofs.domain.failure.Failure.add_links.Given as goal

abbrev pub invariant-loop-l : goal.invariant-loop-l
invariant-loop-l l = record {
  added : (d : ℕ) → set.contains l.self.links d ≡ (set.contains l.fn.self.links d || has (take l.l-index l.links) d);
  devices : l.self.devices ≡ l.fn.self.devices;
  device_room : l.self.device_room ≡ l.fn.self.device_room;
  link_room : l.self.link_room ≡ l.fn.self.link_room;
}
