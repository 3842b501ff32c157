use Rattle.std.proofs.Common.{arith}
use Rattle.std.proofs.lemmas.Grind.{common_steps}
use Rattle.sd_checker.specs.check_hit.Outages.{net_of, plan_of}
use Rattle.sd_drill.proofs.recovery.Searching.{finished_at, top_within}
use Rattle.sd_drill.proofs.recovery.search.Recoveries.finish.Goals as goal

pub index_mut-requires : goal.index_mut-requires
index_mut-requires c =
    let o = c.args.outage.now in
    let within =
    top_within (net_of o) (plan_of o) o.domain c.args.self.now.marks.items c.args.self.now.stack.items c.args.top c.requires.searched c.requires.some
    c.requires.top in
    omega (arith, within, c.requires.searched.size, c.args.self.now.marks.ok.0)

pub returns-clause-stepped : goal.returns-clause-stepped
returns-clause-stepped c =
    let o = c.args.outage.now in
    record {
      searched = finished_at (net_of o) (plan_of o) o.domain c.args.self.now.marks.items c.args.self.now.stack.items c.pop.new.self.items
          c.args.self.now.stack.len c.args.top c.args.recovery c.requires.searched
          (omega (arith, c.args.self.now.stack.ok.0)) c.requires.some c.requires.top c.requires.recovery c.pop.ensures.rest;
      newer = grind (arith, common_steps);
      left = grind (arith, common_steps);
    }
