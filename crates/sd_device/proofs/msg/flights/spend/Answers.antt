use Rattle.std.proofs.Common.{◌≡◌, get_or, sym, ◌∙◌, ap}
use Rattle.std.specs.List.{filter}
use Rattle.std.proofs.lemmas.List.{get_or_default}
use Rattle.sd_device.specs.declared.msg.Flight.{Flight}
use Rattle.sd_device.specs.msg.Books.{without}
use Rattle.sd_device.specs.msg.Spent.{is_left}
use Rattle.sd_device.proofs.msg.Books.{seen_spent, kept_spent}
use Rattle.sd_device.proofs.msg.flights.spend.Goals as goal

-- the flight that stands at the place
at : (c : goal.After-flights-1) → (d : Flight) → c.index_mut.result.now ≡ get_or c.args.flights.now.items c.args.place d
at c d = c.index_mut.ensures.value ∙ sym (get_or_default c.args.flights.now.items c.args.place d c.index_mut.result.now c.requires.place)

pub returns-clause-left : goal.returns-clause-left
returns-clause-left c d =
    seen_spent c.args.last c.args.spent.now c.args.flights.now.items c.args.place c.index_mut.result.now c.requires.kept c.requires.place (at c)
    ∙ ap (λ (f : Flight). without f.number (filter (is_left c.args.spent.now) c.args.flights.now.items)) (at c d)

pub returns-clause-kept : goal.returns-clause-kept
returns-clause-kept c =
    kept_spent c.args.last c.args.spent.now c.args.flights.now.items c.args.place c.index_mut.result.now c.requires.kept c.requires.place (at c)
