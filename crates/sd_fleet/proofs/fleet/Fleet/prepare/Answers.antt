use Rattle.std.proofs.Common.{◌∙◌, ◌≢◌, ℕ, sym, subst}
use Rattle.sd_history.specs.Nodes.{steps_of}
use Rattle.sd_fleet.proofs.Applying.{refused_fault, memory_fault, nodes_grown}
use Rattle.sd_fleet.proofs.fleet.Fleet.prepare.Goals as goal

pub returns-in-Some-clause-fault : goal.returns-in-Some-clause-fault
returns-in-Some-clause-fault g c =
    λ setting run stands. refused_fault c.args.self.now.fabric setting (steps_of run) c.args.event.now c.in-Some.fault stands.fabric
    (sym c.refusal.ensures ∙ c.in-Some.is)

pub invariant_of-self : goal.invariant_of-self
invariant_of-self g c =
    record { are_nodes = nodes_grown g.N.Node c.args.self.now.fabric c.ready.new.self c.args.self.now.nodes.items c.args.self.now.are_nodes c.ready.ensures.others }

pub returns-in-Err-clause-fault : goal.returns-in-Err-clause-fault
returns-in-Err-clause-fault g c =
    λ setting run stands.
    memory_fault c.args.self.now.fabric setting (steps_of run) c.args.event.now stands.fabric (sym c.refusal.ensures ∙ c.in_default.is)
    (subst (λ (n : ℕ). n ≢ 0) c.most_sent-most.ensures c.in-Err.ensures.memory)
