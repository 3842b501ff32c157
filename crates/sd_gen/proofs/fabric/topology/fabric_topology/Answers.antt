use Rattle.std.proofs.Common.{arith, ◌∙◌, subst, sym}
use Rattle.sd_plan.specs.topo.Limits.{IsNetwork}
use Rattle.sd_gen.proofs.fabric.Reading.{fabric_is_network, from_zero, parts_are}
use Rattle.sd_gen.proofs.fabric.topology.fabric_topology.Goals as goal

pub new-requires : goal.new-requires
new-requires c =
    subst IsNetwork
    (sym (parts_are c.args.leaves c.args.spines _ _ _ _ c.in_ok-devices.ensures c.in_ok-links.ensures c.in_ok-domains.ensures
    (c.in_ok-roots.ensures ∙ from_zero c.args.spines)))
    (fabric_is_network c.args.leaves c.args.spines (omega (arith, c.requires.some_spines)) c.requires.few_leaves c.requires.few_spines)

pub returns : goal.returns
returns c =
    c.new.ensures
    ∙ parts_are c.args.leaves c.args.spines _ _ _ _ c.in_ok-devices.ensures c.in_ok-links.ensures c.in_ok-domains.ensures
    (c.in_ok-roots.ensures ∙ from_zero c.args.spines)
