use Rattle.sd_resume.specs.Numbers.{shift_of}
use Rattle.sd_resume.specs.Fleets.{AllDevicesAgree}
use Rattle.sd_resume.proofs.comparing.compare_all_devices.Given as goal

-- the devices before agree
abbrev pub invariant-loop-d : goal.invariant-loop-d
invariant-loop-d l = AllDevicesAgree (shift_of l.shift) l.first l.second l.d
