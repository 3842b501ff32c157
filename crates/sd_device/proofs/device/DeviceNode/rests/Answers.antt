use Rattle.std.proofs.Common.{◌≡◌}
use Rattle.std.specs.Prelude.{IsTrue}
use Rattle.sd_device.specs.declared.Effect.TheVariants.{Quiet}
use Rattle.sd_device.specs.Calls.{Tick}
use Rattle.sd_device.specs.Rules.{called}
use Rattle.sd_device.proofs.Stands.{rested}
use Rattle.sd_device.proofs.device.DeviceNode.rests.Goals as goal

quiet : (c : goal.After-rests) → IsTrue c.rests.result → called c.args.self.now (Tick c.args.counter) ≡ (c.args.self.now, Quiet)
quiet c rests = rested c.args.self.now c.self.inside.registers c.args.counter c.self.view_is (c.rests.ensures.stays rests)

pub returns : goal.returns
returns c = record { step = quiet c }
