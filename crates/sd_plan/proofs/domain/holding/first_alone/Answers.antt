use Rattle.std.proofs.Common.{length, nat_lt, get_or, ap, sym, ◌∙◌, arith}
use Rattle.std.specs.Bool.{then_some}
use Rattle.std.proofs.lemmas.Bool.{eqb-true, eqb-false}
use Rattle.sd_plan.specs.topo.Topologies.{network}
use Rattle.sd_plan.specs.declared.domain.DomainId.TheVariants as domain
use Rattle.sd_plan.proofs.domain.Alone.{alone-nothing, alone-device, alone-link, alone-devices, alone-links, alone-both}
use Rattle.sd_plan.proofs.domain.holding.first_alone.Goals as goal

pub returns-in-empty-links-clause-first : goal.returns-in-empty-links-clause-first
returns-in-empty-links-clause-first c =
    sym (alone-nothing (network c.args.topo.now) c.args.failed.now _ _ c.devices.ensures.all c.links-links.ensures.all
    (omega (arith, c.args.topo.now.is_network.devices)) (omega arith) (omega arith))

pub returns-in-len1-links-clause-first : goal.returns-in-len1-links-clause-first
returns-in-len1-links-clause-first c =
    c.then_some.ensures
    ∙ ap (λ m. then_some (nat_lt (get_or c.links-links.result.now 0 0) m) (domain.Link (get_or c.links-links.result.now 0 0))) c.links.ensures
    ∙ sym (alone-link (network c.args.topo.now) c.args.failed.now _ _ c.devices.ensures.all c.links-links.ensures.all (omega arith) (omega arith))

pub returns-in_default-links-clause-first : goal.returns-in_default-links-clause-first
returns-in_default-links-clause-first c =
    sym (alone-links (network c.args.topo.now) c.args.failed.now _ _ c.devices.ensures.all c.links-links.ensures.all c.links-links.ensures.distinct
    (omega arith))

pub returns-in-len1-clause-first : goal.returns-in-len1-clause-first
returns-in-len1-clause-first c =
    let no_links = eqb-true (length c.links-links.result.now) 0 (sym c.is_empty.ensures ∙ c.if-is_empty.true) in
    c.then_some-in-len1.ensures
    ∙ ap (λ n. then_some (nat_lt (get_or c.devices.result.now 0 0) n) (domain.Device (get_or c.devices.result.now 0 0))) c.devices-in-len1.ensures
    ∙ sym (alone-device (network c.args.topo.now) c.args.failed.now _ _ c.devices.ensures.all c.links-links.ensures.all (omega arith) (omega arith))

pub returns-in_default-clause-first : goal.returns-in_default-clause-first
returns-in_default-clause-first c =
    let some_links = eqb-false (length c.links-links.result.now) 0 (sym c.is_empty.ensures ∙ c.if-is_empty.false) in
    sym (alone-both (network c.args.topo.now) c.args.failed.now _ _ c.devices.ensures.all c.links-links.ensures.all (omega arith) (omega arith))

pub returns-in_default-2-clause-first : goal.returns-in_default-2-clause-first
returns-in_default-2-clause-first c =
    sym (alone-devices (network c.args.topo.now) c.args.failed.now _ _ c.devices.ensures.all c.links-links.ensures.all c.devices.ensures.distinct (omega arith))
