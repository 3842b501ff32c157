use Rattle.std.proofs.Common.{◌∙◌, Option, ap, refl, sym, arith}
use Rattle.sd_num.specs.Lists.{map_or}
use Rattle.sd_plan.specs.declared.Duty.{Duty}
use Rattle.sd_device.specs.declared.Effect.TheVariants.{Quiet}
use Rattle.sd_device.specs.Calls.{Commit}
use Rattle.sd_device.specs.Rules.{committed}
use Rattle.sd_device.proofs.Stands.{stood}
use Rattle.sd_device.proofs.device.Device.commit.Goals as goal

pub returns-in-Some-clause-told : goal.returns-in-Some-clause-told
returns-in-Some-clause-told c = λ life h.
    (stood c.args.self.now c.self.inside.registers c.commit.new.self Quiet life (Commit c.args.counter) c.self.view_is
    (c.commit.ensures
    ∙ sym (ap (λ (given : Option Duty). map_or given c.self.inside.registers (committed c.self.inside.registers c.args.counter)) c.in-Some.is)) refl h
    (omega (arith, c.requires.floor))).stands
