-- A device that leads to one with no parent is on no loop; nor is one that does not come back in as many steps as there are devices.
use Rattle.std.proofs.Common.{◌∙◌, arith}
use Rattle.std.proofs.lemmas.Option.{none-some}
use Rattle.sd_replay.specs.watch.Watch.{parent_in}
use Rattle.sd_replay.proofs.watch.Following.{has_parent, led_on_loop}
use Rattle.sd_replay.proofs.watch.Settling.{only_within}
use Rattle.sd_replay.proofs.watch.Within.{back_within}
use Rattle.sd_replay.proofs.watch.loops.loop_at.Goals as goal

pub returns-in_default : goal.returns-in_default
returns-in_default c = (
  λ no. cc,
  λ loop. let next =
      has_parent (parent_in c.args.parents.now) c.steps.here
      (led_on_loop (parent_in c.args.parents.now) c.steps.counter c.args.d c.steps.here c.steps.invariant.here loop) in
      absurd (none-some next.0 (c.in_default.ensures ∙ next.1)),
)

pub returns : goal.returns
returns c = (
  λ no. cc,
  λ loop. let back = back_within (parent_in c.args.parents.now) c.args.d _ (only_within c.args.parents.now) loop in
      absurd (c.steps.invariant.not_back back.0 (omega (arith, back.1)) back.2),
)
