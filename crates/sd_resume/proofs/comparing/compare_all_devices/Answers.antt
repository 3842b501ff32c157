use Rattle.std.proofs.Common.{below_more}
use Rattle.sd_resume.specs.Numbers.{shift_of}
use Rattle.sd_resume.specs.Fleets.{DeviceAgrees}
use Rattle.sd_resume.proofs.comparing.compare_all_devices.Goals as goal

pub loop-d-preserved : goal.loop-d-preserved
loop-d-preserved c =
    below_more (λ d. DeviceAgrees (shift_of c.args.shift.now) c.args.first.now c.args.second.now d) c.loop-d.d c.loop-d.invariant
    c.in_ok-compare_device.ensures.agree
