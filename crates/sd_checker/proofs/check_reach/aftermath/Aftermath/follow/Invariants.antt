use Rattle.std.proofs.Common.{◌≡◌, ◌<◌, ℕ, true, length, Some, slice_get, sum_by, ◌⊎◌}
use Rattle.sd_num.specs.Lists.{has}
use Rattle.sd_checker.specs.check_reach.Aftermaths.{net_of, plan_of, domain_of, hit_of}
use Rattle.sd_checker.specs.check_reach.Reach.{Fed}
use Rattle.sd_checker.specs.check_reach.Turns.{AreMarks, IsTrail, weight}
use Rattle.sd_checker.specs.declared.check_reach.marks.Mark.TheVariants as mark
use Rattle.sd_checker.proofs.check_reach.aftermath.Aftermath.follow.Given as goal

abbrev pub invariant-loop-marks : goal.invariant-loop-marks
invariant-loop-marks l =
    record {
      range : l.place < length (hit_of l.self);
      size : length l.marks ≡ length l.fn.marks;
      right : AreMarks (net_of l.self) (plan_of l.self) (domain_of l.self) (hit_of l.self) (λ e. slice_get (hit_of l.self) l.place ≡ Some e) l.marks;
      trail : IsTrail (hit_of l.self) l.fn.marks l.marks l.trail.items;
      leads : (i x : ℕ) → has l.trail.items i ≡ true → slice_get (hit_of l.self) i ≡ Some x
          → (e : ℕ) → slice_get (hit_of l.self) l.place ≡ Some e → Fed (net_of l.self) (plan_of l.self) (domain_of l.self) e
          → Fed (net_of l.self) (plan_of l.self) (domain_of l.self) x;
      start : (l.place ≡ l.start) ⊎ (slice_get l.marks l.start ≡ Some mark.Unfed);
    }

abbrev pub decreases-loop-marks : goal.decreases-loop-marks
decreases-loop-marks l = sum_by weight l.marks
