use Rattle.std.proofs.Common.{arith, ap, ◌∙◌, ◌≡◌, ◌+◌}
use Rattle.sd_plan.specs.topo.Seen.{devices_seen}
use Rattle.sd_topotext.proofs.Entries.{devices_added}
use Rattle.sd_gen.specs.fabric.Fabrics.{device_named}
use Rattle.sd_gen.specs.fabric.Numbered.{device_at}
use Rattle.sd_gen.proofs.fabric.Numbering.{numbered}
use Rattle.sd_gen.proofs.fabric.Reading.{devices_are}
use Rattle.sd_gen.proofs.fabric.Tables.{device_new, one_seen}
use Rattle.sd_gen.proofs.fabric.parts.devices.Goals as goal

pub add_named-requires : goal.add_named-requires
add_named-requires c =
    device_new c.args.leaves c.args.spines c.requires.some c.requires.few_leaves c.requires.few_spines c.devices.devices c.devices.d c.as_str.result.now
    c.devices-test.true c.devices.invariant (c.as_str.ensures.value ∙ c.in_ok-name.ensures)

pub devices-preserved : goal.devices-preserved
devices-preserved c =
    one_seen (device_at c.args.spines) c.devices.d (devices_seen c.devices.devices) (devices_seen c.add_named.new.things) _
    (devices_added c.devices.devices c.add_named.new.things c.as_str.result.now _ c.in_ok-add_named.ensures.ok)
    (ap device_named (c.as_str.ensures.value ∙ c.in_ok-name.ensures)) c.devices.invariant

pub returns : goal.returns
returns c =
    let all : c.devices.d ≡ c.args.spines + c.args.leaves = omega (arith, c.devices.auto.d-end, c.devices-test.false) in
    c.devices.invariant ∙ ap (numbered (device_at c.args.spines)) all
    ∙ devices_are c.args.leaves c.args.spines c.requires.some c.requires.few_leaves c.requires.few_spines
