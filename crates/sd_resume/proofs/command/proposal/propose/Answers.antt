use Rattle.std.proofs.Common.{◌≡◌, ◌≤◌, ℕ, min, ◌∙◌, ap, arith}
use Rattle.sd_resume.specs.Numbers.{shift_of}
use Rattle.sd_resume.specs.law.Shifts.{Shift}
use Rattle.sd_resume.specs.Fleets.{devices_of}
use Rattle.sd_resume.specs.Told.{stamp_at}
use Rattle.sd_resume.proofs.Told.{told_plans, told_is_between}
use Rattle.sd_resume.proofs.command.proposal.propose.Goals as goal

pub returns-clause-left : goal.returns-clause-left
returns-clause-left c =
    ap (λ (s : Shift). s.plans) c.loop-d.invariant
    ∙ told_plans c.args.left c.messages_of-messages.result (stamp_at c.args.one.now) (stamp_at c.args.other.now) c.loop-d.d

pub returns-clause-told : goal.returns-clause-told
returns-clause-told c =
    told_is_between c.args.one.now c.args.other.now c.args.left c.messages_of-messages.result (shift_of c.loop-d.shift) c.loop-d.d
    c.messages_of-messages.ensures
    (all c.loop-d.d c.devices_of_both-d-end.result (min (devices_of c.args.one.now) (devices_of c.args.other.now)) c.loop-d.auto.d-end
    c.loop-d-test.false c.devices_of_both-d-end.ensures)
    c.loop-d.invariant
  where
    all : (at end count : ℕ) → at ≤ end → end ≤ at → end ≡ count → at ≡ count
    all at end count upto done same = omega (arith, upto, done, same)
