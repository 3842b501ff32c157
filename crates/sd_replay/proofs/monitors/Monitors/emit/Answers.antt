-- The premises see a tick with the flights that were collected.
use Rattle.std.proofs.Common.{◌≤◌, List, length, refl, sym, subst}
use Rattle.std.proofs.Props.{props}
use Rattle.std.proofs.Math.Logic.{∥∥₁_elim}
use Rattle.sd_device.specs.declared.msg.Flight.{Flight}
use Rattle.sd_premise.specs.Calm.{IsCalmTick, Sees}
use Rattle.sd_premise.specs.Standing as premises
use Rattle.sd_replay.proofs.Quick.{asks, device_there, looks}
use Rattle.sd_replay.proofs.monitors.Monitors.emit.Goals as goal

pub tick-requires-clause-device : goal.tick-requires-clause-device
tick-requires-clause-device c =
    ∥∥₁_elim c.requires.step (search props)
    (device_there (λ s. IsCalmTick s c.args.reference c.args.d c.args.counter c.args.self.now.sent.items) c.args.reference c.args.d c.args.self.now
    (λ s is. subst (λ (fs : List Flight). length fs ≤ premises.room_of c.args.self.now.premises) (sym is.sends) c.requires.room))

pub tick-requires-clause-events : goal.tick-requires-clause-events
tick-requires-clause-events c =
    ∥∥₁_elim c.requires.step (search props)
    (λ can. (asks (λ s. IsCalmTick s c.args.reference c.args.d c.args.counter c.args.self.now.sent.items) c.args.reference c.args.d c.args.self.now
    (λ s is. subst (λ (fs : List Flight). length fs ≤ premises.room_of c.args.self.now.premises) (sym is.sends) c.requires.room) can).events)

pub returns : goal.returns
returns c =
    looks (λ s. IsCalmTick s c.args.reference c.args.d c.args.counter c.args.self.now.sent.items) c.args.reference c.args.d c.args.self.now _ (length c.args.self.now.sent.items) c.tick.result
    (subst (λ (fs : List Flight). Sees (λ s. IsCalmTick s c.args.reference c.args.d c.args.counter fs) (length fs) c.args.self.now.premises c.tick.new.self c.tick.result)
    c.as_slice-sent.ensures.value c.tick.ensures) refl
