use Rattle.std.proofs.Common.{arith, ap, ◌∙◌, ◌≡◌, refl}
use Rattle.sd_plan.specs.topo.Seen.{domains_seen}
use Rattle.sd_topotext.proofs.Entries.{domains_added}
use Rattle.sd_gen.specs.fabric.Fabrics.{rack}
use Rattle.sd_gen.proofs.fabric.Numbering.{numbered}
use Rattle.sd_gen.proofs.fabric.Tables.{one_seen, rack_new}
use Rattle.sd_gen.proofs.fabric.parts.racks.Goals as goal

pub add_named-requires : goal.add_named-requires
add_named-requires c =
    rack_new c.args.leaves c.args.spines c.requires.some c.requires.few_leaves c.requires.few_spines c.racks.racks c.racks.leaf c.as_str.result.now
    c.racks-test.true c.racks.invariant (c.as_str.ensures.value ∙ c.in_ok-name.ensures)

pub racks-preserved : goal.racks-preserved
racks-preserved c =
    one_seen (rack c.args.spines) c.racks.leaf (domains_seen c.racks.racks) (domains_seen c.add_named.new.things) _
    (domains_added c.racks.racks c.add_named.new.things c.as_str.result.now c.in_ok-group.group c.in_ok-add_named.ensures.ok)
    (rw (c.as_str.ensures.value, c.in_ok-name.ensures, c.in_ok-group.ensures.devices, c.in_ok-group.ensures.links) refl) c.racks.invariant

pub returns : goal.returns
returns c =
    let all : c.racks.leaf ≡ c.args.leaves = omega (arith, c.racks.auto.leaf-end, c.racks-test.false) in
    c.racks.invariant ∙ ap (numbered (rack c.args.spines)) all
