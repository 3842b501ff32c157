use Rattle.std.proofs.Common.{◌<◌, length, arith, get_or}
use Rattle.std.proofs.lemmas.Option.{slice_get-get_or}
use Rattle.sd_num.proofs.Places.{has_at}
use Rattle.sd_planner.proofs.Setting.{set_more}
use Rattle.sd_planner.proofs.backups.flags.set_flags.Goals as goal

pub bounds-flags-number : goal.bounds-flags-number
bounds-flags-number c =
    let k = c.loop-number.number-index in
    let numbers = c.args.numbers.now in
    let within : k < length numbers = omega arith in
    let there = c.requires (get_or numbers k 0) (has_at numbers k (get_or numbers k 0) (slice_get-get_or numbers k 0 within)) in
    omega (arith, there, c.loop-number.invariant.size)

pub loop-number-preserved : goal.loop-number-preserved
loop-number-preserved c =
    let k = c.loop-number.number-index in
    let numbers = c.args.numbers.now in
    let within : k < length numbers = omega arith in
    let there = c.requires (get_or numbers k 0) (has_at numbers k (get_or numbers k 0) (slice_get-get_or numbers k 0 within)) in
    set_more numbers c.args.value c.args.flags.now c.loop-number.flags k within there c.loop-number.invariant
