use Rattle.std.proofs.Common.{arith}
use Rattle.sd_gen.proofs.Drawing.{draws_more, jumps_more, draws_end, jumps_end}
use Rattle.sd_gen.proofs.driver.draw_leads.Goals as goal

pub draws-preserved : goal.draws-preserved
draws-preserved c =
    record {
      leads = draws_more c.args.devices c.draws.counter c.next_word.result c.draws.random c.next_word.new.self c.draws.leads.items c.push.new.self.items _
          c.draws-test.true c.next_word.ensures c.in-Ok.ensures.items c.draws.invariant.leads;
      random = jumps_more c.args.devices c.draws.counter c.next_word.result c.draws.random c.next_word.new.self _ c.draws-test.true
          c.next_word.ensures c.draws.invariant.random;
    }

pub returns-clause-leads : goal.returns-clause-leads
returns-clause-leads c =
    draws_end c.args.devices c.draws.counter c.draws.random c.draws.leads.items _ (omega (arith, c.draws-test.false)) c.draws.invariant.leads

pub returns-clause-random : goal.returns-clause-random
returns-clause-random c = jumps_end c.args.devices c.draws.counter c.draws.random _ (omega (arith, c.draws-test.false)) c.draws.invariant.random
