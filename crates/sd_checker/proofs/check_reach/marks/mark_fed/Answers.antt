use Rattle.std.proofs.Common.{◌<◌, length, arith, get_or}
use Rattle.std.proofs.lemmas.Option.{slice_get-get_or}
use Rattle.sd_num.proofs.Places.{has_at}
use Rattle.sd_checker.proofs.check_reach.Following.{marked_more}
use Rattle.sd_checker.proofs.check_reach.marks.mark_fed.Goals as goal

pub bounds-marks-place : goal.bounds-marks-place
bounds-marks-place c =
    let k = c.loop-place.place-index in
    let trail = c.args.trail.now in
    let within : k < length trail = omega arith in
    let there = c.requires (get_or trail k 0) (has_at trail k (get_or trail k 0) (slice_get-get_or trail k 0 within)) in
    omega (arith, there, c.loop-place.invariant.size)

pub loop-place-preserved : goal.loop-place-preserved
loop-place-preserved c =
    let k = c.loop-place.place-index in
    let trail = c.args.trail.now in
    let within : k < length trail = omega arith in
    let there = c.requires (get_or trail k 0) (has_at trail k (get_or trail k 0) (slice_get-get_or trail k 0 within)) in
    marked_more trail c.args.marks.now c.loop-place.marks k within c.loop-place.invariant (omega (arith, there, c.loop-place.invariant.size))
