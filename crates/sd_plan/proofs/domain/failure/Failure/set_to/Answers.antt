use Rattle.std.proofs.Common.{◌||◌, ap, subst, ◌∙◌}
use Rattle.std.specs.FinSet as set
use Rattle.sd_num.specs.Lists.{has}
use Rattle.sd_plan.specs.topo.Topologies.{network}
use Rattle.sd_plan.specs.declared.topo.Thing.TheVariants as thing
use Rattle.sd_plan.specs.domain.Lone.{IsDomain}
use Rattle.sd_plan.specs.domain.Failures.{with_thing}
use Rattle.sd_plan.proofs.domain.Failed.{listed_failed, device_failed, link_failed, devices_fit, links_fit}
use Rattle.sd_plan.proofs.domain.failure.Failure.set_to.Goals as goal

pub add_devices-requires : goal.add_devices-requires
add_devices-requires c =
    let net = network c.args.topo.now in
    devices_fit net c.in-Listed.k c.clear.new.self.device_room c.domain_devices.result.now c.args.topo.now.is_network
    (subst (IsDomain net) c.in-Listed.is c.requires.domain) c.domain_devices.ensures
    (ap (λ f. f.device_room) c.clear.ensures ∙ c.requires.room.devices)

pub add_links-requires : goal.add_links-requires
add_links-requires c =
    let net = network c.args.topo.now in
    links_fit net c.in-Listed.k c.add_devices.new.self.link_room c.domain_links.result.now c.args.topo.now.is_network
    (subst (IsDomain net) c.in-Listed.is c.requires.domain) c.domain_links.ensures
    (c.add_devices.ensures.link_room ∙ ap (λ f. f.link_room) c.clear.ensures ∙ c.requires.room.links)

pub returns-in-Listed-clause-things : goal.returns-in-Listed-clause-things
returns-in-Listed-clause-things c =
    let net = network c.args.topo.now in
    listed_failed net c.args.f c.in-Listed.k c.args.self.now.device_room c.args.self.now.link_room c.domain_devices.result.now c.domain_links.result.now
    c.add_links.new.self
    c.in-Listed.is (subst (IsDomain net) c.in-Listed.is c.requires.domain) c.domain_devices.ensures c.domain_links.ensures
    (λ d. ap (λ s. set.contains s d) c.add_links.ensures.devices ∙ c.add_devices.ensures.added d
    ∙ ap (λ f. set.contains f.devices d || has c.domain_devices.result.now d) c.clear.ensures)
    (λ l. c.add_links.ensures.added l
    ∙ ap (λ s. set.contains s l || has c.domain_links.result.now l) (c.add_devices.ensures.links ∙ ap (λ f. f.links) c.clear.ensures))

pub returns-in-Device-clause-things : goal.returns-in-Device-clause-things
returns-in-Device-clause-things c =
    device_failed (network c.args.topo.now) c.args.f c.in-Device.d c.args.self.now.device_room c.args.self.now.link_room c.add.new.self c.in-Device.is
    (c.add.ensures ∙ ap (λ f. with_thing f (thing.Device c.in-Device.d)) c.clear.ensures)

pub returns-in-Link-clause-things : goal.returns-in-Link-clause-things
returns-in-Link-clause-things c =
    link_failed (network c.args.topo.now) c.args.f c.in-Link.l c.args.self.now.device_room c.args.self.now.link_room c.add-in-Link.new.self c.in-Link.is
    (c.add-in-Link.ensures ∙ ap (λ f. with_thing f (thing.Link c.in-Link.l)) c.clear.ensures)
