use Rattle.std.proofs.Common.{sym, subst}
use Rattle.sd_plan.specs.topo.Network.{Network}
use Rattle.sd_plan.specs.topo.Topologies.{network}
use Rattle.std.specs.Prelude.{IfOk}
use Rattle.sd_why.specs.Kinds as kind
use Rattle.sd_why.specs.Reasons.{IsWhy, NoneBefore, kind_of}
use Rattle.sd_why.proofs.Judging.{found_law}
use Rattle.sd_why.proofs.Laws.{no_plan}
use Rattle.sd_why.proofs.first.why.Goals as goal

pub returns-in-Some-clause-law : goal.returns-in-Some-clause-law
returns-in-Some-clause-law c = no_plan (network c.args.topo.now) (kind_of c.in-Some.reason) c.in-Some.ensures.is.holds

pub along_links-requires-clause-before : goal.along_links-requires-clause-before
along_links-requires-clause-before c =
    subst (λ (net : Network). NoneBefore net kind.apart) (sym c.in_ok-present.ensures.network) c.in_default.ensures

pub returns-clause-law : goal.returns-clause-law
returns-clause-law c =
    found_law (network c.args.topo.now) c.along_links.result
    (subst (λ (net : Network). IfOk c.along_links.result (IsWhy net)) c.in_ok-present.ensures.network c.along_links.ensures)
