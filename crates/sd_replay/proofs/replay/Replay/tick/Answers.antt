-- Where the device does not rest, all stands as before.
use Rattle.std.proofs.Common.{ap, option_map}
use Rattle.std.proofs.lemmas.Option.{IfSome_then}
use Rattle.sd_replay.specs.Replaying.{ticked}
use Rattle.sd_replay.proofs.replay.Replay.tick.Goals as goal

pub returns-in-None : goal.returns-in-None
returns-in-None g c =
    let before = c.rest.ensures.stands (ap (option_map ticked) c.in-None.is) in
    record {
      accepted =
          IfSome_then (option_map ticked c.emit.result) c.emit.ensures.accepted
          (λ quick on setting run stands. on setting run (before setting run stands));
      stands = λ none setting run stands. c.emit.ensures.stands none setting run (before setting run stands);
    }
