use Rattle.std.proofs.Common.{sym, ◌∙◌}
use Rattle.std.proofs.lemmas.Bool.{leb-true, leb-false}
use Rattle.sd_monitors.specs.loss.flights.RunsView.{end_beside}
use Rattle.sd_monitors.proofs.loss.flights.LongRuns.{long_run, short_run}
use Rattle.sd_monitors.proofs.loss.flights.runs.Runs.spoil.Goals as goal

pub returns-in-Some-clause-long : goal.returns-in-Some-clause-long
returns-in-Some-clause-long c long =
    let run = c.in-Some.joined in
    long_run c.args.limit c.args.stamp.term run.first run.last (end_beside c.add.new.self) c.in-Some.ensures.run
    (leb-true c.args.limit _ (sym c.is_longer_than.ensures ∙ long))

pub returns-in-Some-clause-short : goal.returns-in-Some-clause-short
returns-in-Some-clause-short c short =
    let run = c.in-Some.joined in
    short_run c.args.limit c.args.stamp.term c.args.stamp.round run.first run.last (end_beside c.args.self.now)
    (end_beside c.add.new.self) c.in-Some.ensures.rounds c.in-Some.ensures.run
    c.in-Some.ensures.around.0 c.in-Some.ensures.around.1 (leb-false c.args.limit _ (sym c.is_longer_than.ensures ∙ short))
