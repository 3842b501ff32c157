use Rattle.sd_resume.specs.Honesty.{AreHonestDevices}
use Rattle.sd_resume.proofs.honesty.compare_devices.Given as goal

-- of the devices before the opening is honest
abbrev pub invariant-loop-d : goal.invariant-loop-d
invariant-loop-d l = AreHonestDevices l.first l.second l.d
