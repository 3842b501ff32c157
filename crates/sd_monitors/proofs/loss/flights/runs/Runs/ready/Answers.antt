use Rattle.std.proofs.Common.{ap}
use Rattle.std.specs.Option.{is_some}
use Rattle.sd_monitors.specs.loss.flights.RunsKept.{beside}
use Rattle.sd_monitors.proofs.loss.flights.Joining.{same_runs}
use Rattle.sd_monitors.proofs.loss.flights.runs.Runs.ready.Goals as goal

pub returns-in-Ok-clause-rounds : goal.returns-in-Ok-clause-rounds
returns-in-Ok-clause-rounds c t r = ap is_some (c.reserve.ensures.entries.2 (t, r))

pub invariant_of-self : goal.invariant_of-self
invariant_of-self c =
    record {
      runs =
          λ t. same_runs (beside c.args.self.now.ends t) (beside c.reserve.new.self t) (λ r. c.reserve.ensures.entries.2 (t, r)) (c.args.self.now.runs t);
    }
