use Rattle.std.proofs.Common.{List, sym, subst, map, string_bytes}
use Rattle.std.specs.Prelude.{IfSome}
use Rattle.sd_plan.specs.topo.Network.{Each}
use Rattle.sd_plan.specs.topo.Topologies.{network}
use Rattle.sd_plan.specs.Plans.{Fits}
use Rattle.sd_plan.specs.declared.Plan.{Plan}
use Rattle.sd_checker.specs.Conditions.{IsAccepted}
use Rattle.sd_files.specs.Texts.{texts_of}
use Rattle.sd_files.specs.planfiles.PlanFiles.{AreRead}
use Rattle.sd_commands.proofs.replay.Loading.{started_over}
use Rattle.sd_files.proofs.Keeping.{keeps_both, keeps_for}
use Rattle.sd_commands.proofs.replay.files.start.Goals as goal

pub new-requires-clause-fit : goal.new-requires-clause-fit
new-requires-clause-fit g c = subst (λ (ps : List Plan). Each (Fits (network c.in_ok-topo.topo)) ps) (sym c.from_vec-plans.ensures) c.in-Ok.ensures.fit

pub new-requires-clause-accepted : goal.new-requires-clause-accepted
new-requires-clause-accepted g c =
    subst (λ (ps : List Plan). Each (IsAccepted (network c.in_ok-topo.topo)) ps) (sym c.from_vec-plans.ensures) c.in-Ok.ensures.accepted

pub returns-in-Ok-new-clause-started : goal.returns-in-Ok-new-clause-started
returns-in-Ok-new-clause-started g c =
    let net = network c.in_ok-topo.topo in
    started_over c.args.files.topology.now (map string_bytes c.args.files.plans.now) network g.V.Observer (g.S.Shelf.held c.args.shelf.now)
    (g.S.Shelf.held c.load_topology.new.shelf) c.in_ok-topo.topo c.from_vec-plans.result c.in-Ok-new.replay
    c.load_topology.ensures.shelf.same_held c.in_ok-topo.ensures.says
    (subst (λ (ps : List Plan). IfSome (g.S.Shelf.held c.load_topology.new.shelf)
    (λ held. AreRead net 1 (map (λ name. texts_of held name) (map string_bytes c.args.files.plans.now)) ps))
    (sym c.from_vec-plans.ensures) c.in-Ok.ensures.read)
    (subst (λ (ps : List Plan). Each (IsAccepted net) ps) (sym c.from_vec-plans.ensures) c.in-Ok.ensures.accepted) c.in-Ok-new.ensures.stands

pub returns-in-Ok-new-clause-shelf : goal.returns-in-Ok-new-clause-shelf
returns-in-Ok-new-clause-shelf g c =
    keeps_for g.S.Shelf _ _ _ _ (λ e. cc) (λ e. cc) (keeps_both g.S.Shelf _ _ _ _ _ (λ e. cc) c.in_ok-topo.ensures.shelf c.in-Ok.ensures.shelf)
