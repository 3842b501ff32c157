-- What a fault of the fleet is to the replay.
use Rattle.sd_history.specs.declared.ApplyFault.{ApplyFault}
use Rattle.sd_history.specs.declared.ApplyFault.TheVariants as fleet
use Rattle.sd_replay.specs.declared.faults.ReplayFault.{ReplayFault}
use Rattle.sd_replay.specs.declared.faults.ReplayFault.TheVariants.{Apply, Memory}

-- a fault of the fleet, as one of the replay
abbrev pub of_fleet : ApplyFault → ReplayFault
of_fleet fleet.Memory = Memory
of_fleet fault = Apply fault
