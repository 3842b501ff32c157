-- What the fields of a failure stand for.
use Rattle.std.specs.FinSet as set
use Rattle.sd_plan.specs.domain.Failures.{FailedThings}
use Rattle.sd_plan.specs.declared.domain.failure.Failure.TheInside.{Inside}

-- the devices and the links of the two sets
abbrev pub failed_seen : Inside → FailedThings
failed_seen f =
    record { devices = set.from_list f.devices.numbers; links = set.from_list f.links.numbers; device_room = f.devices.bound; link_room = f.links.bound }
