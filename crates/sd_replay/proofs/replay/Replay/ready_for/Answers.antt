-- Where there is room, and where there is not, all stands as before.
use Rattle.std.proofs.Math.Logic.{∥∥₁_map}
use Rattle.sd_replay.proofs.Going.{with_fleet, with_monitors}
use Rattle.sd_replay.proofs.replay.Replay.ready_for.Goals as goal

pub invariant_of-self : goal.invariant_of-self
invariant_of-self g c =
    record {
      run =
          ∥∥₁_map
          (∥∥₁_map c.args.self.now.run
          (with_fleet g.N.Node g.V.Observer c.args.self.now.fleet c.ready.new.self c.args.self.now.monitors c.args.self.now.event_output
          c.args.self.now.observer c.ready.ensures.stands))
          (with_monitors g.N.Node g.V.Observer c.ready.new.self c.args.self.now.event_output c.args.self.now.observer c.args.self.now.monitors
          c.ready-in-Ok.new.self c.ready-in-Ok.ensures.stands);
    }

pub invariant_of-self-in-Err : goal.invariant_of-self-in-Err
invariant_of-self-in-Err g c =
    record {
      run =
          ∥∥₁_map c.args.self.now.run
          (with_fleet g.N.Node g.V.Observer c.args.self.now.fleet c.ready.new.self c.args.self.now.monitors c.args.self.now.event_output
          c.args.self.now.observer c.ready.ensures.stands);
    }
