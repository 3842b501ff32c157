use Rattle.std.proofs.Common.{ℕ, ◌<◌, ◌^◌, [], List, length, refl, sym, ap, ◌∙◌, subst, arith}
use Rattle.sd_plan.specs.topo.Network.{Network}
use Rattle.sd_plan.specs.topo.Topologies.{network}
use Rattle.sd_plan.specs.domain.Failing.{HasRoomFor}
use Rattle.sd_plan.specs.declared.Plan.{Plan}
use Rattle.sd_world.specs.membership.Plans.{AreSound}
use Rattle.sd_monitors.specs.renewal.Progressing.{HasDevices}
use Rattle.sd_premise.proofs.premises.Premises.new.Goals as goal

pub invariant_of-result : goal.invariant_of-result
invariant_of-result c =
    let inputs = c.in_ok-inputs.ensures in
    let monitors = c.in_ok-monitors.ensures in
    let devices = ap (λ (n : Network). length n.devices) inputs.network in
    let world = inputs.world (record { net = network c.in_ok-inputs.inputs.topology; plans = [] }) inputs.network in
    record {
      world_devices = world.device_count;
      world_links = world.link_count;
      drift_devices = monitors.drift_devices ∙ sym devices;
      tick_devices = monitors.tick_devices ∙ sym devices;
      domain_room = subst (λ (n : Network). HasRoomFor n c.in_ok-monitors.monitors.domain.failed) (sym inputs.network) monitors.domain_room;
      renew_devices = subst (λ (n : ℕ). HasDevices n c.in_ok-monitors.monitors.renew.progress) (sym devices) monitors.renew_devices;
      renew_windows = omega (arith, monitors.renew_windows);
    }

pub returns-clause-stands : goal.returns-clause-stands
returns-clause-stands c setting net plans =
    let inputs = c.in_ok-inputs.ensures in
    let monitors = c.in_ok-monitors.ensures in
    let members = inputs.members setting net plans in
    record {
      order = tt;
      net = net ∙ sym inputs.network;
      count = subst (λ (ps : List Plan). length ps < 2 ^ 32) (sym plans) c.requires.count;
      sound = subst (λ (n : Network). AreSound n setting.plans) (sym net)
          (subst (λ (ps : List Plan). AreSound (network c.args.topo.now) ps) (sym plans) c.requires.sound);
      members = members;
      links = inputs.links setting net plans;
      world = inputs.world setting net;
      start = c.new-3.ensures;
      drift = monitors.drift setting net;
      delay = c.new-4.ensures setting;
      tick = monitors.tick setting net members;
      loss = monitors.loss setting net;
      domain = monitors.domain setting net;
      renew = monitors.renew setting net;
      broken = refl;
    }
