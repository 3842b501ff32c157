-- The shift that a call is given.
use Rattle.sd_resume.specs.law.Shifts as shifts
use Rattle.sd_resume.specs.declared.shift.Shift.{Shift}

-- as that of two histories
abbrev pub shift_of : Shift → shifts.Shift
shift_of s = record { plans = s.plans; messages = s.messages; term = s.term; round = s.round }
