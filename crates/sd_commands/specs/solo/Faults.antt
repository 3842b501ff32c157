-- How a refusal is printed: by its name.
use Rattle.std.specs.Prelude.{ℕ, List, codes}
use Rattle.sd_commands.specs.declared.solo.SoloFault.{SoloFault}
use Rattle.sd_commands.specs.declared.solo.SoloFault.TheVariants.{UnknownDevice, TimeFalls, CounterFalls, NotStarted, StartedTwice, AfterEnd, TooManyEvents}

-- the name of a refusal
abbrev pub fault_name : SoloFault → List ℕ
fault_name UnknownDevice = codes "UnknownDevice"
fault_name TimeFalls = codes "TimeFalls"
fault_name CounterFalls = codes "CounterFalls"
fault_name NotStarted = codes "NotStarted"
fault_name StartedTwice = codes "StartedTwice"
fault_name AfterEnd = codes "AfterEnd"
fault_name TooManyEvents = codes "TooManyEvents"
