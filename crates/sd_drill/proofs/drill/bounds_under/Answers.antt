use Rattle.std.proofs.Common.{◌∙◌}
use Rattle.sd_checker.specs.check_hit.Outages.{net_of, plan_of}
use Rattle.sd_drill.proofs.recovery.Searching.{ready}
use Rattle.sd_drill.proofs.drill.bounds_under.Goals as goal

pub all_bounds-requires : goal.all_bounds-requires
all_bounds-requires c =
    let o = c.args.outage.now in
    let known = c.requires.known in
    let marks = c.clear.ensures.marks ∙ known.room.marks in
    record {
      can = record {
        timed = c.requires.times;
        known = record { growths = known.growths; spared = known.spared; room = record { marks = marks } };
        acyclic = c.requires.acyclic;
        ready = ready (net_of o) (plan_of o) o.domain c.clear.new.self marks c.clear.ensures.new c.clear.ensures.stack;
      };
    }
