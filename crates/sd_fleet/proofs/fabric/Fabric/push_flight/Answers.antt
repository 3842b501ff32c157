-- What is found in the book is what the words on histories say.
use Rattle.std.proofs.Common.{◌≡◌, ◌++◌, ℕ, List, Result, option_to_list, sym, ◌∙◌, ap}
use Rattle.std.specs.Result.{result_ok}
use Rattle.std.proofs.lemmas.List.{append-nil}
use Rattle.sd_device.specs.declared.msg.Flight.{Flight}
use Rattle.sd_device.specs.declared.msg.TakeFault.{TakeFault}
use Rattle.sd_device.specs.msg.Books.{found}
use Rattle.sd_history.specs.World.{Setting}
use Rattle.sd_history.specs.Steps.{Step, flight_count}
use Rattle.sd_history.specs.flights.Flights.{look_in}
use Rattle.sd_history.proofs.flights.Looks.{look_is}
use Rattle.sd_fleet.specs.FabricStanding.{Stands}
use Rattle.sd_fleet.specs.FabricView.{registers_seen}
use Rattle.sd_fleet.specs.Registers.{Registers}
use Rattle.sd_fleet.proofs.fabric.Fabric.push_flight.Goals as goal

looked : (seen now : Registers) (number : ℕ) → seen ≡ now → (setting : Setting) (steps : List Step) → Stands now setting steps
    → found seen.book.last seen.book.flights number ≡ look_in steps number
looked seen now number same setting steps stands =
    ap (λ (r : Registers). found r.book.last r.book.flights number) same
    ∙ ap (λ last. found last now.book.flights number) stands.sent
    ∙ ap (λ flights. found (flight_count steps) flights number) stands.flights
    ∙ look_is setting steps number stands.accepted

pub returns-in-Ok-clause-items : goal.returns-in-Ok-clause-items
returns-in-Ok-clause-items c =
    λ setting steps stands.
    c.push_reserved.ensures.items
    ∙ ap (λ (r : Result Flight TakeFault). c.args.list.now.items ++ option_to_list (result_ok r))
    (sym c.in-Ok.ensures.flight ∙ looked (registers_seen c.self.inside) c.args.self.now c.args.number c.self.view_is setting steps stands)

pub returns-in_default-clause-items : goal.returns-in_default-clause-items
returns-in_default-clause-items c =
    λ setting steps stands.
    sym (append-nil c.args.list.now.items)
    ∙ ap (λ (r : Result Flight TakeFault). c.args.list.now.items ++ option_to_list (result_ok r))
    (sym c.in_default.ensures.fault ∙ looked (registers_seen c.self.inside) c.args.self.now c.args.number c.self.view_is setting steps stands)
