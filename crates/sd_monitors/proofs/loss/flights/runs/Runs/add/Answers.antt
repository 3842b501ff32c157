use Rattle.sd_monitors.specs.loss.flights.RunsKept.{beside}
use Rattle.sd_monitors.proofs.loss.flights.Joining.{added_runs}
use Rattle.sd_monitors.proofs.loss.flights.runs.Runs.add.Goals as goal

pub invariant_of-self : goal.invariant_of-self
invariant_of-self c =
    record {
      runs = added_runs (beside c.args.self.now.ends) (beside c.put.new.ends) (beside c.redirect.new.ends)
          (beside c.redirect-2.new.ends) c.args.term c.args.round c.first_before-first.result c.last_after-last.result
          c.put.ensures.beside c.redirect.ensures.beside c.redirect-2.ensures.beside c.first_before-first.ensures c.last_after-last.ensures c.ranges.round.fits
          c.args.self.now.runs;
    }
