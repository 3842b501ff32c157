use Rattle.sd_device.proofs.Rebasing.{rebase_answers}
use Rattle.sd_device.proofs.Summing.{rebase_stands}
use Rattle.sd_device.proofs.device.Device.rebase.Goals as goal

pub returns-clause-later : goal.returns-clause-later
returns-clause-later c =
    rebase_answers c.args.self.now c.self.inside.registers c.rebase.new.self c.args.now c.rebase.result c.self.view_is c.rebase.ensures.registers
    c.rebase.ensures.lowered c.requires.floor

pub returns-clause-told : goal.returns-clause-told
returns-clause-told c = λ by at life h later.
    rebase_stands c.args.self.now c.self.inside.registers c.rebase.new.self c.args.now c.rebase.result by at life c.self.view_is c.rebase.ensures.registers
    c.rebase.ensures.lowered c.requires.floor h later
