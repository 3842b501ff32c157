use Rattle.std.proofs.Common.{◌≡◌, ◌+◌, max, take}
use Rattle.sd_search.specs.Ratings.{unbounded, greatest}
use Rattle.sd_search.proofs.rating.Rating.with_bounds.Given as goal

-- the bounds so far have been added
abbrev pub invariant-loop-bound : goal.invariant-loop-bound
invariant-loop-bound l =
    record {
      unbounded : l.rating.unbounded ≡ l.fn.self.unbounded + unbounded (take l.bound-index l.bounds);
      greatest : l.rating.greatest ≡ max l.fn.self.greatest (greatest (take l.bound-index l.bounds));
    }
