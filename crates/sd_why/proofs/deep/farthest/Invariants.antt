use Rattle.std.proofs.Common.{◌≡◌, ℕ, ◌<◌, ◌≤◌, Some, slice_get}
use Rattle.sd_why.proofs.deep.farthest.Given as goal

-- the first of the farthest devices so far
abbrev pub invariant-loop-d : goal.invariant-loop-d
invariant-loop-d l =
    record {
      found : 0 < l.far.hops → slice_get l.known l.far.device ≡ Some (Some l.far.hops);
      most : (d k : ℕ) → d < l.d → slice_get l.known d ≡ Some (Some k) → k ≤ l.far.hops;
      first : (d : ℕ) → d < l.far.device → slice_get l.known d ≡ Some (Some l.far.hops) → 0 < l.far.hops → ⊥;
      from : l.far.candidate ≡ l.candidate;
    }
