use Rattle.std.proofs.Common.{◌∙◌}
use Rattle.sd_checker.specs.check_hit.Outages.{net_of, plan_of}
use Rattle.sd_drill.proofs.recovery.Searching.{ready}
use Rattle.sd_drill.proofs.tight.numbers_under.Goals as goal

pub all_numbers-requires : goal.all_numbers-requires
all_numbers-requires c =
    let o = c.args.outage.now in
    let marks = c.clear.ensures.marks ∙ c.requires.room.marks in
    record {
      can = record {
        timed = c.requires.times;
        acyclic = c.requires.acyclic;
        ready = ready (net_of o) (plan_of o) o.domain c.clear.new.self marks c.clear.ensures.new c.clear.ensures.stack;
        room = record { marks = marks };
      };
    }
