use Rattle.std.proofs.Common.{◌≡◌, ◌++◌, [], ◌∷◌, string_bytes, sym, ap, subst, ◌∙◌}
use Rattle.std.specs.Prelude.{IfOk}
use Rattle.sd_plan.specs.topo.Topologies.{network}
use Rattle.sd_checker.specs.Named.{named}
use Rattle.sd_checker.specs.Showing.{refused_by}
use Rattle.sd_checker.proofs.Lines.{root_line, domain_line, loop_line, reach_line, if_ok}
use Rattle.sd_checker.proofs.text.refused_by_domain.Goals as goal

pub returns-in_ok-line-in-Thing : goal.returns-in_ok-line-in-Thing
returns-in_ok-line-in-Thing c =
    subst (λ shown. string_bytes c.in_ok-line-in-Thing.line ≡ refused_by (network c.args.topo.now) c.args.place c.args.domain shown) (sym c.in-Thing.is)
    (c.in_ok-line-in-Thing.ensures.ok
    ∙ root_line (network c.args.topo.now) c.args.place c.args.domain c.in-Thing.thing _ _ _ _ c.domain_named.ensures c.thing_named.ensures)

pub returns-in_ok-line-in-Cycle : goal.returns-in_ok-line-in-Cycle
returns-in_ok-line-in-Cycle c =
    subst (λ shown. IfOk c.line_of_names.result (λ s. string_bytes s ≡ refused_by (network c.args.topo.now) c.args.place c.args.domain shown))
    (sym c.in-Cycle.is)
    (if_ok c.line_of_names.result _ _ c.line_of_names.ensures
    (ap (λ head. head ++ (named (network c.args.topo.now) c.in-Cycle.cycle.now ++ 10 ∷ [])) c.in_ok-line-in-Cycle.ensures.ok
    ∙ loop_line (network c.args.topo.now) c.args.place c.args.domain c.in-Cycle.cycle.now _ _ c.domain_named.ensures))

pub returns-in_ok-line-in-Device : goal.returns-in_ok-line-in-Device
returns-in_ok-line-in-Device c =
    subst (λ shown. string_bytes c.in_ok-line-in-Device.line ≡ refused_by (network c.args.topo.now) c.args.place c.args.domain shown) (sym c.in-Device.is)
    (c.in_ok-line-in-Device.ensures.ok
    ∙ domain_line (network c.args.topo.now) c.args.place c.args.domain c.in-Device.device _ _ _ c.domain_named.ensures c.device_name-at.ensures)

pub returns-in_ok-line-in-Chain : goal.returns-in_ok-line-in-Chain
returns-in_ok-line-in-Chain c =
    subst (λ shown. IfOk c.line_of_names-in-Chain.result (λ s. string_bytes s ≡ refused_by (network c.args.topo.now) c.args.place c.args.domain shown))
    (sym c.in-Chain.is)
    (if_ok c.line_of_names-in-Chain.result _ _ c.line_of_names-in-Chain.ensures
    (ap (λ head. head ++ (named (network c.args.topo.now) c.in-Chain.chain.now ++ 10 ∷ [])) c.in_ok-line-in-Chain.ensures.ok
    ∙ reach_line (network c.args.topo.now) c.args.place c.args.domain c.in-Chain.chain.now _ _ c.domain_named.ensures))
