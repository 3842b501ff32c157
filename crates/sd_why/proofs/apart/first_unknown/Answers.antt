use Rattle.std.proofs.Common.{None, get_or, length, sym}
use Rattle.sd_num.proofs.Firsts.{find_below_here, find_below_more}
use Rattle.sd_why.specs.Rings.{is_unknown}
use Rattle.sd_why.proofs.Judging.{none_if, some_if}
use Rattle.sd_why.proofs.apart.first_unknown.Goals as goal

pub returns-then-is_none : goal.returns-then-is_none
returns-then-is_none c =
    sym
    (find_below_here (is_unknown c.args.known.now) c.loop-d.d (length c.args.known.now) c.loop-d-test.true c.loop-d.invariant
    (none_if (get_or c.args.known.now c.loop-d.d None) c.if-is_none.ensures))

pub loop-d-preserved : goal.loop-d-preserved
loop-d-preserved c =
    find_below_more (is_unknown c.args.known.now) c.loop-d.d c.loop-d.invariant
    (some_if (get_or c.args.known.now c.loop-d.d None) c.if-is_none.ensures)
