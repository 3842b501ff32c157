use Rattle.std.proofs.Common.{◌≡◌, ◌<◌, ℕ, Some, slice_get}
use Rattle.sd_checker.specs.check_reach.Aftermaths.{net_of, plan_of, domain_of, hit_of}
use Rattle.sd_checker.specs.check_reach.Turns.{AreMarks}
use Rattle.sd_checker.specs.declared.check_reach.marks.Mark.TheVariants as mark
use Rattle.sd_checker.proofs.check_reach.aftermath.Aftermath.marks.Given as goal

abbrev pub invariant-loop-place : goal.invariant-loop-place
invariant-loop-place l =
    record {
      right : AreMarks (net_of l.self) (plan_of l.self) (domain_of l.self) (hit_of l.self) (λ e. ⊥) l.marks.items;
      seen : (i : ℕ) → i < l.place → slice_get l.marks.items i ≡ Some mark.Unseen → ⊥;
    }
