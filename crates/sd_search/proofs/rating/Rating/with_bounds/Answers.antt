use Rattle.std.proofs.Common.{◌<◌, length, take, arith}
use Rattle.std.proofs.lemmas.List.{length-take-le}
use Rattle.sd_search.proofs.Ratings.{unbounded_more, greatest_more, unbounded_most}
use Rattle.sd_search.proofs.rating.Rating.with_bounds.Goals as goal

pub with_bound-rating-requires : goal.with_bound-rating-requires
with_bound-rating-requires c =
    let bounds = c.args.bounds.now in
    let i = c.loop-bound.bound-index in
    let within : i < length bounds = omega (arith, c.loop-bound-test.true, c.loop-bound.auto.bound-index-end) in
    record {
      room = omega (
        arith,
        c.requires.room,
        c.loop-bound.invariant.unbounded,
        unbounded_most (take i bounds),
        length-take-le i bounds (omega (arith, within)),
        within,
      );
    }

pub loop-bound-preserved : goal.loop-bound-preserved
loop-bound-preserved c =
    let bounds = c.args.bounds.now in
    let i = c.loop-bound.bound-index in
    let within : i < length bounds = omega (arith, c.loop-bound-test.true, c.loop-bound.auto.bound-index-end) in
    record {
      unbounded = omega (arith, c.with_bound-rating.ensures.unbounded, c.loop-bound.invariant.unbounded, unbounded_more bounds i within);
      greatest = omega (arith, c.with_bound-rating.ensures.greatest, c.loop-bound.invariant.greatest, greatest_more bounds i within);
    }
