use Rattle.std.proofs.Common.{◌≤◌, arith}
use Rattle.sd_history.specs.Nodes.{steps_of}
use Rattle.sd_resume.proofs.Sending.{none_before, none_next}
use Rattle.sd_resume.proofs.messages.first_on_its_way.Goals as goal

pub loop-before-init : goal.loop-before-init
loop-before-init c = λ setting run stands. none_before setting (steps_of run) stands.fabric.accepted

pub loop-before-preserved : goal.loop-before-preserved
loop-before-preserved c =
    λ setting run stands.
    none_next (steps_of run) c.loop-before.before (c.loop-before.invariant setting run stands)
    (c.is_on_its_way.ensures.off c.if-is_on_its_way.false setting run stands)

pub returns-clause-none : goal.returns-clause-none
returns-clause-none c =
    λ is setting run stands n f small found.
    (let upto : n ≤ c.loop-before.before = omega (arith, small) in
    c.loop-before.invariant setting run stands n f upto found)
