-- The premises see a receipt with the flights that were collected.
use Rattle.std.proofs.Common.{◌≤◌, List, length, refl, sym, subst}
use Rattle.std.proofs.Props.{props}
use Rattle.std.proofs.Math.Logic.{∥∥₁_elim}
use Rattle.sd_device.specs.declared.msg.Flight.{Flight}
use Rattle.sd_premise.specs.Calm.{IsCalmReceipt, Sees}
use Rattle.sd_premise.specs.Standing as premises
use Rattle.sd_replay.proofs.Quick.{asks, device_there, looks}
use Rattle.sd_replay.proofs.monitors.Monitors.hear.Goals as goal

pub receive-requires-clause-device : goal.receive-requires-clause-device
receive-requires-clause-device c =
    ∥∥₁_elim c.requires.step (search props)
    (device_there (λ s. IsCalmReceipt s c.args.reference c.args.d c.args.counter c.args.flight.now c.args.self.now.sent.items) c.args.reference c.args.d c.args.self.now
    (λ s is. subst (λ (fs : List Flight). length fs ≤ premises.room_of c.args.self.now.premises) (sym is.sends) c.requires.room))

pub receive-requires-clause-events : goal.receive-requires-clause-events
receive-requires-clause-events c =
    ∥∥₁_elim c.requires.step (search props)
    (λ can. (asks (λ s. IsCalmReceipt s c.args.reference c.args.d c.args.counter c.args.flight.now c.args.self.now.sent.items) c.args.reference c.args.d c.args.self.now
    (λ s is. subst (λ (fs : List Flight). length fs ≤ premises.room_of c.args.self.now.premises) (sym is.sends) c.requires.room) can).events)

pub receive-requires-clause-link : goal.receive-requires-clause-link
receive-requires-clause-link c =
    ∥∥₁_elim c.requires.step (search props)
    (λ can. (asks (λ s. IsCalmReceipt s c.args.reference c.args.d c.args.counter c.args.flight.now c.args.self.now.sent.items) c.args.reference c.args.d c.args.self.now
    (λ s is. subst (λ (fs : List Flight). length fs ≤ premises.room_of c.args.self.now.premises) (sym is.sends) c.requires.room) can).taken
    c.args.flight.now can.such.seen.taken)

pub returns : goal.returns
returns c =
    looks (λ s. IsCalmReceipt s c.args.reference c.args.d c.args.counter c.args.flight.now c.args.self.now.sent.items) c.args.reference c.args.d c.args.self.now _ (length c.args.self.now.sent.items) c.receive.result
    (subst (λ (fs : List Flight). Sees (λ s. IsCalmReceipt s c.args.reference c.args.d c.args.counter c.args.flight.now fs) (length fs) c.args.self.now.premises c.receive.new.self c.receive.result)
    c.as_slice-sent.ensures.value c.receive.ensures) refl
