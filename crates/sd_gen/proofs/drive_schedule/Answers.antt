use Rattle.std.proofs.Common.{arith}
use Rattle.sd_gen.specs.Drafts.{draft_after, unstarted}
use Rattle.sd_gen.proofs.Making.{begun, gone, all_rounds}
use Rattle.sd_gen.proofs.drive_schedule.Goals as goal

pub loop-before-init : goal.loop-before-init
loop-before-init g c = λ setting net stands.
    begun g.D.Driven c.start_all.new.self setting c.args.number
    (c.in_ok-start_all.ensures setting (unstarted setting c.args.number) (c.in_ok-driver.ensures setting net stands))

pub loop-before-preserved : goal.loop-before-preserved
loop-before-preserved g c = λ setting net stands.
    gone g.D.Driven c.round.new.self setting c.args.number c.loop-before.before
    (c.in_ok-round.ensures setting (draft_after setting c.args.number c.loop-before.before) (c.loop-before.invariant setting net stands))

pub returns : goal.returns
returns g c = λ setting net stands.
    all_rounds g.D.Driven c.loop-before.driver c.into_driven.result setting c.args.number c.loop-before.before
    (omega (arith, c.loop-before.auto.before-end, c.loop-before-test.false)) c.into_driven.ensures
    (c.loop-before.invariant setting net stands)
