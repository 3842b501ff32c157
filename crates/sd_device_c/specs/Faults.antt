-- The answers that name a fault.
use Rattle.std.specs.Prelude.{ℕ}
use Rattle.sd_device_c.specs.declared.faults.Fault.{Fault}
use Rattle.sd_device_c.specs.declared.faults.Fault.TheVariants.{NoDevice, NoDuty, RatesTooGreat, CounterFell, ClockTooGreat, EstimateTooGreat, StampTooGreat, MessageTooGreat, NotRoot, WrongSize, NotKept, TooLate}

-- the code of a fault; 5 is none any more
abbrev pub code_of : Fault → ℕ
code_of NoDevice = 1
code_of NoDuty = 2
code_of RatesTooGreat = 3
code_of CounterFell = 4
code_of ClockTooGreat = 6
code_of EstimateTooGreat = 7
code_of StampTooGreat = 8
code_of MessageTooGreat = 9
code_of NotRoot = 10
code_of WrongSize = 11
code_of NotKept = 12
code_of TooLate = 13
