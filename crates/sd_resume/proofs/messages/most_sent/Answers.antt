use Rattle.std.proofs.Common.{◌≤◌, ◌*◌, ◌^◌, ap, arith}
use Rattle.sd_world.specs.world.Registers.{Registers}
use Rattle.sd_resume.proofs.messages.most_sent.Goals as goal

pub returns-clause-most : goal.returns-clause-most
returns-clause-most c =
    λ setting run stands.
    (let fabric = c.args.fleet.now.fabric in
    let count : fabric.book.last ≤ fabric.membership.world.events * 2 ^ 15 = c.world.ensures.sound.sent in
    let events = ap (λ (w : Registers). w.events) c.world.ensures.world in
    omega (arith, count, events, stands.fabric.sent))
