-- The flight that is on its way is found.
use Rattle.std.proofs.Common.{sym, subst}
use Rattle.std.specs.Prelude.{IsOk}
use Rattle.sd_fleet.specs.Causes.{flight_at}
use Rattle.sd_fleet.proofs.FabricKeeping.{on_time_there}
use Rattle.sd_fleet.proofs.fabric.Fabric.receive.Goals as goal

pub take_found-requires : goal.take_found-requires
take_found-requires c =
    record {
      there = subst (λ r. IsOk (flight_at r c.args.number)) (sym c.self.view_is)
          (on_time_there c.args.reference c.args.d (flight_at c.args.self.now c.args.number) c.requires);
    }
