use Rattle.std.proofs.Common.{◌≡◌, ◌||◌, ℕ, take}
use Rattle.std.specs.FinSet as set
use Rattle.sd_num.specs.Lists.{has}
use Rattle.sd_plan.proofs.domain.failure.Failure.add_devices.Given as goal

abbrev pub invariant-loop-d : goal.invariant-loop-d
invariant-loop-d l = record {
  added : (d : ℕ) → set.contains l.self.devices d ≡ (set.contains l.fn.self.devices d || has (take l.d-index l.devices) d);
  links : l.self.links ≡ l.fn.self.links;
  device_room : l.self.device_room ≡ l.fn.self.device_room;
  link_room : l.self.link_room ≡ l.fn.self.link_room;
}
