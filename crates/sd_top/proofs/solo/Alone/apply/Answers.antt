use Rattle.std.proofs.Common.{sym, ◌∙◌}
use Rattle.sd_top.proofs.Alone.{goes_reporting, goes_silently}
use Rattle.sd_top.proofs.solo.Alone.apply.Goals as goal

pub returns-in-Ok-Some-clause-takes : goal.returns-in-Ok-Some-clause-takes
returns-in-Ok-Some-clause-takes c =
    λ work xs line is event.
    let stands = c.in-Ok-Some.ensures.stands xs is.1 in
    goes_reporting work xs c.args.event.now line _ c.apply.new.self c.in-Ok-Some.report _ is.0 (sym event) stands
    (sym c.in-Ok-Some.field-0-is ∙ c.in-Ok-Some.ensures.accepted xs is.1) (c.events.ensures.count _ stands) c.print_report.ensures

pub returns-in-Ok-None-clause-takes : goal.returns-in-Ok-None-clause-takes
returns-in-Ok-None-clause-takes c =
    λ work xs line is event. goes_silently work xs c.args.event.now line _ c.apply.new.self is.0 (sym event) (c.in-Ok-None.ensures.stands xs is.1)
    (sym c.in-Ok-None.field-0-is ∙ c.in-Ok-None.ensures.accepted xs is.1) c.clear.ensures
