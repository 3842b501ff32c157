use Rattle.std.proofs.Common.{◌∙◌, ◌++◌, ◌<◌, ℕ, List, length, All, ap, refl, sym, subst}
use Rattle.std.specs.Prelude.{flat_map}
use Rattle.std.proofs.lemmas.Result.{on_ok_weaker}
use Rattle.sd_plan.specs.topo.Topologies.{network}
use Rattle.sd_plan.specs.Plans.{members}
use Rattle.sd_drill_text.proofs.Membership.{members_within}
use Rattle.sd_drill.specs.Calm.{AreCalm}
use Rattle.sd_drill.specs.Tight.{AreTight}
use Rattle.sd_drill.specs.declared.Budget.{Budget}
use Rattle.sd_drill.proofs.Circles.{no_circle}
use Rattle.sd_ctl_top.specs.bounding.Printed.{bounds_line}
use Rattle.sd_ctl_top.proofs.bounding.Printing.{lines_are}
use Rattle.sd_ctl_top.proofs.bounding.bounds_lines.BoundsLinesDomainLines.print.Goals as goal

pub worst-requires-clause-acyclic : goal.worst-requires-clause-acyclic
worst-requires-clause-acyclic c = no_circle (network c.args.planned.topo.now) c.args.planned.plan.now c.args.domain c.requires.accepted c.requires.domain

pub tight-requires-clause-acyclic : goal.tight-requires-clause-acyclic
tight-requires-clause-acyclic c = no_circle (network c.args.planned.topo.now) c.args.planned.plan.now c.args.domain c.requires.accepted c.requires.domain

pub add_members-requires-clause-members : goal.add_members-requires-clause-members
add_members-requires-clause-members c =
    let net = network c.args.planned.topo.now in
    subst (λ (xs : List ℕ). All (λ d. d < length net.devices) xs) (sym c.requires.members) (members_within net c.args.planned.plan.now)

pub returns-clause-lines : goal.returns-clause-lines
returns-clause-lines c =
    let net = network c.args.planned.topo.now in
    let plan = c.args.planned.plan.now in
    let lines = c.args.self.now in
    let line = bounds_line net c.args.domain c.as_slice.result.now c.as_slice-2.result.now c.as_slice-3.result.now in
    on_ok_weaker c.add_members.result
    (λ added. record {
      worst = c.in_ok-worst.worst;
      tight = c.in_ok-tight.tight;
      calm = lines.calm.items;
      are_bounds = c.in_ok-worst.ensures.bounds;
      are_tight = subst (λ (b : Budget). AreTight net plan b c.args.domain c.in_ok-tight.tight) c.requires.ready.granted c.in_ok-tight.ensures.numbers;
      are_calm = c.requires.ready.calm;
      printed = added ∙ ap (λ (front : List ℕ). front ++ flat_map line c.args.members.now) c.clear.ensures.items
          ∙ lines_are net c.args.domain c.args.domain c.as_slice.result.now c.in_ok-worst.worst c.as_slice-2.result.now c.in_ok-tight.tight
          c.as_slice-3.result.now lines.calm.items c.args.members.now (members net plan) refl c.as_slice.ensures c.as_slice-2.ensures
          c.as_slice-3.ensures.value c.requires.members;
    })
    c.add_members.ensures

pub returns-clause-ready : goal.returns-clause-ready
returns-clause-ready c =
    record {
      drill = c.worst.ensures.drill;
      tight = c.tight.ensures.drill;
      granted = c.tight.ensures.budget ∙ c.requires.ready.granted ∙ sym c.worst.ensures.budget;
      calm = subst (λ (b : Budget). AreCalm (network c.args.planned.topo.now) c.args.planned.plan.now b c.args.self.now.calm.items)
          (sym c.worst.ensures.budget) c.requires.ready.calm;
    }
