use Rattle.std.proofs.Common.{◌≤◌, ◌+◌, ◌*◌, ◌-◌, ◌^◌, arith}
use Rattle.sd_planner.proofs.Least.{up_by, wait_enough, wait_least, wait_bound}
use Rattle.sd_planner.proofs.waits.wait_at.Goals as goal

pub returns-clause-enough : goal.returns-clause-enough
returns-clause-enough c x there = wait_enough c.args.rates c.args.long x c.requires.rates (rw (← c.from.ensures, ← c.from-left.ensures) there)

pub returns-clause-least : goal.returns-clause-least
returns-clause-least c x there = rw (c.from.ensures, c.from-left.ensures) (wait_least c.args.rates c.args.long x c.requires.rates c.requires.some there)

pub returns-clause-bound : goal.returns-clause-bound
returns-clause-bound c = rw (c.from.ensures, c.from-left.ensures) (wait_bound c.args.rates c.args.long c.requires.rates)

pub overflow_cast-result : goal.overflow_cast-result
overflow_cast-result c =
    let bound : up_by ((c.args.long + c.from.result) * 1000000) (1000000 - c.from-left.result) ≤ 2 * (c.args.long + 2 ^ 40) =
    rw (c.from.ensures, c.from-left.ensures) (wait_bound c.args.rates c.args.long c.requires.rates)
    in
    omega (arith, c.requires.bound, bound)
