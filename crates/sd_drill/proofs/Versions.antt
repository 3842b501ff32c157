-- Bounds, and the lines that are printed of them, are the same over a network with each version.
use Rattle.std.specs.Prelude.{ℕ, List, [], ◌∷◌, Option, Some, None}
use Rattle.sd_plan.specs.topo.Network.{Network}
use Rattle.sd_plan.proofs.topo.Versions.{with_version}
use Rattle.sd_plan.specs.declared.domain.DomainId.{DomainId}
use Rattle.sd_plan.specs.declared.Plan.{Plan}
use Rattle.sd_checker.proofs.check_reach.Versions.{Fed-with_version}
use Rattle.sd_drill.specs.Bounds.{AreBounds, bound_at}
use Rattle.sd_drill.specs.Drill.{IsWorst, IsListed}
use Rattle.sd_drill.specs.Printed.{IsLinesOf, AreLines, IsDrill}
use Rattle.sd_drill.specs.declared.Budget.{Budget}

module _ (v w : ℕ) (net : Network) (plan : Plan) (budget : Budget) (f : DomainId) where
  IsWorst-with_version : (d x : ℕ) → IsWorst (with_version v net) plan budget f d x → IsWorst (with_version w net) plan budget f d x
  IsWorst-with_version d x worst =
      record {
        fed = Fed-with_version v w net plan f worst.fed;
        far = worst.far;
        is_far = record { hops = worst.is_far.hops; has = worst.is_far.has; reached = worst.is_far.reached; greatest = worst.is_far.greatest };
        long = worst.long;
        is_long = record { hops = worst.is_long.hops; has = worst.is_long.has; reached = worst.is_long.reached; greatest = worst.is_long.greatest };
        short_enough = worst.short_enough;
        oldest = worst.oldest;
        is_oldest = worst.is_oldest;
        sum = worst.sum;
      }

module _ (v w : ℕ) (net : Network) (plan : Plan) (budget : Budget) where
  IsListed-with_version : (f : DomainId) (d : ℕ) (o : Option ℕ) → IsListed (with_version v net) plan budget f d o
      → IsListed (with_version w net) plan budget f d o
  IsListed-with_version f d (Some x) listed = IsWorst-with_version v w net plan budget f d x listed
  IsListed-with_version f d None listed = λ x worst. listed x (IsWorst-with_version w v net plan budget f d x worst)

  AreBounds-with_version : (f : DomainId) (bounds : List (Option ℕ)) → AreBounds (with_version v net) plan budget f bounds
      → AreBounds (with_version w net) plan budget f bounds
  AreBounds-with_version f bounds are = record { each = are.each; listed = λ d within. IsListed-with_version f d (bound_at bounds d) (are.listed d within) }

  IsLinesOf-with_version : (f : DomainId) (lines : List ℕ) → IsLinesOf (with_version v net) plan budget f lines
      → IsLinesOf (with_version w net) plan budget f lines
  IsLinesOf-with_version f lines (bounds, are, printed) = (bounds, AreBounds-with_version f bounds are, printed)

  AreLines-with_version : (fs : List DomainId) (bytes : List ℕ) → AreLines (with_version v net) plan budget fs bytes
      → AreLines (with_version w net) plan budget fs bytes
  AreLines-with_version [] bytes are = are
  AreLines-with_version (f ∷ fs) bytes (lines, rest, first, others, whole) =
      (lines, rest, IsLinesOf-with_version f lines first, AreLines-with_version fs rest others, whole)

  pub IsDrill-with_version : (bytes : List ℕ) → IsDrill (with_version v net) plan budget bytes → IsDrill (with_version w net) plan budget bytes
  IsDrill-with_version bytes (lines, are, whole) = (lines, AreLines-with_version _ lines are, whole)
