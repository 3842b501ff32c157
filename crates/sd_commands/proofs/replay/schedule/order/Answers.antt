use Rattle.std.proofs.Common.{[], refl, rules, sym, subst, map}
use Rattle.std.specs.Prelude.{string_bytes}
use Rattle.sd_device.specs.declared.registers.Registers.{Registers}
use Rattle.sd_device.specs.contracts.device.DeviceNode.TheImpl.{ghosts as device}
use Rattle.sd_commands.specs.declared.replay.observer.WaitObserver.{WaitObserver}
use Rattle.sd_commands.specs.contracts.replay.observer.WaitObserverObserver.TheImpl.{ghosts}
use Rattle.sd_replay.specs.declared.replay.Replay.{Replay}
use Rattle.sd_replay.specs.Devices.{HasReplayed}
use Rattle.sd_files.proofs.Keeping.{keeps_both}
use Rattle.sd_commands.specs.replay.Replays.{order_work}
use Rattle.sd_commands.proofs.replay.Loading.{early_leaves, early_near, run_leaves, run_near}
use Rattle.sd_commands.proofs.replay.Reading.{refused_as_replay}
use Rattle.sd_commands.proofs.replay.Whole.{order_whole}
use Rattle.sd_commands.proofs.replay.schedule.order.Goals as goal

pub returns-in-Ok : goal.returns-in-Ok
returns-in-Ok g c =
    record {
      outcome =
          run_leaves c.args.files.topology.now (map string_bytes c.args.files.plans.now) c.args.files.schedule.now ghosts order_work c.in-Ok.replay
          (g.S.Shelf.held c.args.shelf.now) (g.S.Shelf.held c.start.new.shelf) c.start.ensures.shelf.same_held
          (g.O.Sink.written c.args.out.now) (g.O.Sink.written c.go_through.new.out) c.go_through.result c.in-Ok.ensures.started (λ setting replayed.
          c.go_through.ensures.outcome (order_work setting)
          (record {
            setting = setting;
            is = refl;
            replayed = subst (λ (r : Replay Registers WaitObserver device ghosts). HasReplayed ghosts r setting []) (sym c.new-replayed.ensures) replayed;
          })
          (order_whole setting));
      gives = search rules;
      near = λ refused.
          run_near c.args.files.topology.now (map string_bytes c.args.files.plans.now) c.args.files.schedule.now ghosts order_work c.in-Ok.replay
          (g.S.Shelf.held c.args.shelf.now) (g.S.Shelf.held c.start.new.shelf) c.start.ensures.shelf.same_held
          (g.O.Sink.written c.args.out.now) (g.O.Sink.written c.go_through.new.out) c.go_through.result
          (g.S.Shelf.rest c.go_through.new.shelf) refused_as_replay c.in-Ok.ensures.started (λ setting replayed.
          c.go_through.ensures.near (order_work setting)
          (record {
            setting = setting;
            is = refl;
            replayed = subst (λ (r : Replay Registers WaitObserver device ghosts). HasReplayed ghosts r setting []) (sym c.new-replayed.ensures) replayed;
          }) refused);
      shelf = keeps_both g.S.Shelf _ _ _ _ _ (λ e. cc) c.in-Ok.ensures.shelf c.go_through.ensures.shelf;
      sink = search rules;
    }

pub returns-in-Err : goal.returns-in-Err
returns-in-Err g c =
    record {
      outcome =
          early_leaves c.args.files.topology.now (map string_bytes c.args.files.plans.now) c.args.files.schedule.now order_work
          (g.S.Shelf.held c.args.shelf.now) c.in-Err.early (g.O.Sink.written c.args.out.now) (g.O.Sink.written c.end_early.new.out)
          c.end_early.result c.in-Err.ensures.makes c.end_early.ensures.writes;
      gives = search rules;
      near = λ refused.
          early_near c.args.files.topology.now (map string_bytes c.args.files.plans.now) c.args.files.schedule.now (g.S.Shelf.held c.args.shelf.now) c.in-Err.early
          (g.O.Sink.written c.args.out.now) (g.O.Sink.written c.end_early.new.out)
          (g.S.Shelf.rest c.start.new.shelf) c.end_early.result c.in-Err.ensures.makes c.end_early.ensures.writes refused;
      shelf = search rules;
      sink = search rules;
    }
