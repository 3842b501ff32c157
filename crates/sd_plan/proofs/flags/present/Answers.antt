use Rattle.sd_plan.proofs.Listing.{all_struck}
use Rattle.sd_plan.proofs.flags.present.Goals as goal

pub returns : goal.returns
returns c = all_struck c.args.absent.now c.loop-number.number-index c.args.count c.loop-number.flags.items c.loop-number-test.false c.loop-number.invariant.size
    c.loop-number.invariant.each
