use Rattle.std.proofs.Common.{refl, sym, subst, []}
use Rattle.sd_plan.specs.topo.Limits.{IsNetwork}
use Rattle.sd_record.proofs.Keeping.{keeps_nothing}
use Rattle.sd_record.proofs.Listing.{none_listed}
use Rattle.sd_record.proofs.recorder.Recorder.new.Goals as goal

pub returns : goal.returns
returns c =
    λ setting net plans.
    record {
      net = subst IsNetwork (sym net) c.args.topo.now.is_network;
      run = [];
      fleet = c.in_ok-fleet.ensures.stands setting net plans;
      happened = refl;
      keeps = keeps_nothing _ refl (none_listed c.new-2.result c.new-2.ensures) c.new-3.ensures;
    }
