use Rattle.std.proofs.Common.{◌≡◌, ℕ, ◌<◌, ◌≤◌, arith, below_more}
use Rattle.sd_history.specs.World.{setting_over}
use Rattle.sd_resume.specs.Honesty.{IsHonestAt, devices_of_both}
use Rattle.sd_resume.proofs.honesty.compare_devices.Goals as goal

pub loop-d-preserved : goal.loop-d-preserved
loop-d-preserved c shift net front plans one other of_first of_second alike =
    below_more (IsHonestAt (setting_over net plans) one other) c.loop-d.d
    (c.loop-d.invariant shift net front plans one other of_first of_second alike)
    (c.in_ok-compare_device.ensures.honest shift net front plans one other of_first of_second alike)

pub returns-clause-honest : goal.returns-clause-honest
returns-clause-honest c shift net front plans one other of_first of_second alike d within =
    let before : d < c.loop-d.d = reached d c.loop-d.d c.devices_of_both-d-end.result (devices_of_both c.args.first.now c.args.second.now) c.devices_of_both-d-end.ensures
    c.loop-d-test.false within in
    c.loop-d.invariant shift net front plans one other of_first of_second alike d before
  where
    reached : (d at end count : ℕ) → end ≡ count → end ≤ at → d < count → d < at
    reached d at end count same done within' = omega (arith, same, done, within')
