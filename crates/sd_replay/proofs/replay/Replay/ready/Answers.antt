use Rattle.std.proofs.Math.Logic.{∥∥₁_map}
use Rattle.sd_replay.proofs.Going.{with_monitors, with_observer}
use Rattle.sd_replay.proofs.replay.Replay.ready.Goals as goal

pub invariant_of-self : goal.invariant_of-self
invariant_of-self g c =
    record {
      run =
          ∥∥₁_map c.args.self.now.run
          (with_monitors g.N.Node g.V.Observer c.args.self.now.fleet c.args.self.now.event_output c.args.self.now.observer c.args.self.now.monitors
          c.ready.new.self c.ready.ensures.stands);
    }

pub invariant_of-self-in-Ask : goal.invariant_of-self-in-Ask
invariant_of-self-in-Ask g c =
    record {
      run =
          ∥∥₁_map c.args.self.now.run
          (with_observer g.N.Node g.V.Observer c.args.self.now.fleet c.args.self.now.event_output c.args.self.now.monitors c.args.self.now.observer
          c.ready-in-Ask.new.self c.ready-in-Ask.ensures.keeps);
    }
