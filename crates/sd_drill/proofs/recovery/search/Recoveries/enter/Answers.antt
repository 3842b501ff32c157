use Rattle.std.proofs.Common.{arith, rules, subst, sym, List, ℕ, set as put}
use Rattle.std.proofs.lemmas.Grind.{common_steps}
use Rattle.sd_checker.specs.check_hit.Outages.{net_of, plan_of}
use Rattle.sd_drill.specs.recovery.Searches.{IsSearch}
use Rattle.sd_drill.specs.declared.recovery.marks.Mark.TheVariants as mark
use Rattle.sd_drill.proofs.recovery.Searching.{search_entered}
use Rattle.sd_drill.proofs.recovery.search.Recoveries.enter.Goals as goal

pub returns-clause-stepped : goal.returns-clause-stepped
returns-clause-stepped c =
    let o = c.args.outage.now in
    record {
      searched = subst (λ (stack : List ℕ). IsSearch (net_of o) (plan_of o) o.domain (put c.args.self.now.marks.items c.args.next mark.Entered) stack)
          (sym c.in-Ok.ensures.items)
          (search_entered (net_of o) (plan_of o) o.domain c.args.self.now.marks.items c.args.self.now.stack.items c.requires.searched c.args.next
          c.requires.device c.requires.led);
      newer = search rules;
      left = grind (arith, common_steps);
    }
