-- The premises see a tick that sends nothing.
use Rattle.std.proofs.Common.{◌≤◌, List, [], length, refl, sym, subst, arith}
use Rattle.std.proofs.Props.{props}
use Rattle.std.proofs.Math.Logic.{∥∥₁_elim}
use Rattle.sd_device.specs.declared.msg.Flight.{Flight}
use Rattle.sd_premise.specs.Calm.{IsCalmTick}
use Rattle.sd_premise.specs.Standing as premises
use Rattle.sd_replay.proofs.Quick.{asks, device_there, looks}
use Rattle.sd_replay.proofs.monitors.Monitors.rest.Goals as goal

pub tick-requires-clause-device : goal.tick-requires-clause-device
tick-requires-clause-device c =
    ∥∥₁_elim c.requires.step (search props)
    (device_there (λ s. IsCalmTick s c.args.reference c.args.d c.args.counter []) c.args.reference c.args.d c.args.self.now
    (λ s is. subst (λ (fs : List Flight). length fs ≤ premises.room_of c.args.self.now.premises) (sym is.sends) (omega arith)))

pub tick-requires-clause-events : goal.tick-requires-clause-events
tick-requires-clause-events c =
    ∥∥₁_elim c.requires.step (search props)
    (λ can. (asks (λ s. IsCalmTick s c.args.reference c.args.d c.args.counter []) c.args.reference c.args.d c.args.self.now
    (λ s is. subst (λ (fs : List Flight). length fs ≤ premises.room_of c.args.self.now.premises) (sym is.sends) (omega arith)) can).events)

pub returns : goal.returns
returns c =
    looks (λ s. IsCalmTick s c.args.reference c.args.d c.args.counter []) c.args.reference c.args.d c.args.self.now _ 0 c.tick.result c.tick.ensures refl
