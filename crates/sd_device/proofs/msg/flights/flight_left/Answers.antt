use Rattle.std.proofs.Common.{rules, ◌≡◌, cond, Ok, Err, filter, sym, ◌∙◌, ap}
use Rattle.sd_device.specs.declared.msg.TakeFault.TheVariants as fault
use Rattle.sd_device.specs.msg.Books.{found}
use Rattle.sd_device.specs.msg.Spent.{is_left}
use Rattle.sd_device.proofs.msg.Finding.{found_passing, found_among}
use Rattle.sd_device.proofs.msg.Books.{numbered}
use Rattle.sd_device.proofs.msg.flights.flight_left.Goals as goal

pub returns-in_err-place-clause-fault : goal.returns-in_err-place-clause-fault
returns-in_err-place-clause-fault c =
    let test = is_left c.args.spent.now in
    let told : found c.args.last (filter test c.args.flights.now.items) c.args.number ≡ Err c.in_err-place.field-0.0 =
    found_among c.args.last c.args.number test c.args.flights.now.items (numbered c.args.last c.args.spent.now c.args.flights.now.items c.requires.kept) ∙ ap (found_passing test) c.in_err-place.ensures.fault
    in
    search (rules, told)

pub returns-then-not-leaves-clause-fault : goal.returns-then-not-leaves-clause-fault
returns-then-not-leaves-clause-fault c =
    let test = is_left c.args.spent.now in
    found_among c.args.last c.args.number test c.args.flights.now.items (numbered c.args.last c.args.spent.now c.args.flights.now.items c.requires.kept)
    ∙ ap (found_passing test) c.in_ok-place.ensures.flight
    ∙ ap (λ b. cond b (Ok c.in_ok-place.flight.now) (Err fault.Spent)) (sym c.leaves.ensures ∙ c.if-not-leaves.true)

pub returns-clause-flight : goal.returns-clause-flight
returns-clause-flight c =
    let test = is_left c.args.spent.now in
    found_among c.args.last c.args.number test c.args.flights.now.items (numbered c.args.last c.args.spent.now c.args.flights.now.items c.requires.kept)
    ∙ ap (found_passing test) c.in_ok-place.ensures.flight
    ∙ ap (λ b. cond b (Ok c.in_ok-place.flight.now) (Err fault.Spent)) (sym c.leaves.ensures ∙ c.if-not-leaves.false)
