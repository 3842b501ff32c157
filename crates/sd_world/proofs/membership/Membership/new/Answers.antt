use Rattle.std.proofs.Common.{sym, subst, length, List}
use Rattle.sd_plan.specs.topo.Topologies.{network}
use Rattle.sd_world.specs.declared.membership.plans.NumberedPlan.{NumberedPlan}
use Rattle.sd_world.specs.membership.Plans.{AreTables}
use Rattle.sd_world.specs.membership.Memberships.{Registers}
use Rattle.sd_world.proofs.membership.Tables.{tables_fit}
use Rattle.sd_world.proofs.membership.Beginning.{IsFirst, same_nothing, sound_beginning, counted_beginning, stands_beginning}
use Rattle.sd_world.proofs.membership.Membership.new.Goals as goal

-- what is made at last
abbrev made : goal.After-none → Registers
made c = record { plans = c.in_ok-numbered.numbered.items; world = c.in_ok-world.world; answers = c.in_ok-answers.answers.items }

begun : (c : goal.After-none) → IsFirst (made c) (network c.args.topo.now) c.args.plans.now c.devices.result c.links.result
begun c =
    record {
      numbers = c.in_ok-numbered.ensures;
      begun = c.in_ok-world.ensures.registers;
      nothing = same_nothing c.in_ok-answers.answers.items c.devices-2.result c.devices.result
          (length (network c.args.topo.now).devices) c.in_ok-answers.ensures c.devices-2.ensures c.devices.ensures;
      device_count = c.devices.ensures;
      link_count = c.links.ensures;
    }

pub invariant_of-result : goal.invariant_of-result
invariant_of-result c =
    record {
      sound = sound_beginning (made c) (network c.args.topo.now) c.args.plans.now c.devices.result c.links.result
          (begun c) c.args.topo.now.is_network c.requires.sound c.requires.some c.requires.count;
      counted = counted_beginning (made c) (network c.args.topo.now) c.args.plans.now c.devices.result c.links.result c.none.result (begun c) c.none.ensures;
    }

pub returns-clause-sound : goal.returns-clause-sound
returns-clause-sound c =
    sound_beginning (made c) (network c.args.topo.now) c.args.plans.now c.devices.result c.links.result
    (begun c) c.args.topo.now.is_network c.requires.sound c.requires.some c.requires.count

pub returns-clause-tables : goal.returns-clause-tables
returns-clause-tables c =
    subst (λ (ps : List NumberedPlan). AreTables (network c.args.topo.now) ps) (sym c.in_ok-numbered.ensures)
    (tables_fit (record { net = network c.args.topo.now; plans = c.args.plans.now }) c.args.topo.now.is_network c.requires.sound)

pub returns-clause-stands : goal.returns-clause-stands
returns-clause-stands c =
    stands_beginning (made c) (network c.args.topo.now) c.args.plans.now c.devices.result c.links.result (begun c)
    (sound_beginning (made c) (network c.args.topo.now) c.args.plans.now c.devices.result c.links.result
    (begun c) c.args.topo.now.is_network c.requires.sound c.requires.some c.requires.count) c.requires.sound
    c.in_ok-world.ensures.stands
