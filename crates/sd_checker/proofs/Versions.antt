-- Verdicts and their lines are the same over a network with each version.
use Rattle.std.specs.Prelude.{◌≡◌, ℕ}
use Rattle.std.proofs.Common.{refl}
use Rattle.sd_plan.specs.topo.Network.{Network}
use Rattle.sd_plan.proofs.topo.Versions.{with_version}
use Rattle.sd_plan.specs.declared.domain.DomainId.{DomainId}
use Rattle.sd_plan.specs.declared.Plan.{Plan}
use Rattle.sd_checker.proofs.check_loop.Versions.{ShowsCycle-with_version}
use Rattle.sd_checker.proofs.check_reach.Versions.{DomainHolds-with_version, ShowsDevice-with_version, ReachHolds-with_version, IsShownChain-with_version}
use Rattle.sd_checker.specs.Conditions.{Condition, Holds, OfEachDomain, IsAccepted}
use Rattle.sd_checker.specs.Conditions as condition
use Rattle.sd_checker.specs.Text.{accepted_line, refused_line}
use Rattle.sd_checker.specs.Verdicts.{IsBreach, IsVerdict, Shows, IsFirstSuspect}
use Rattle.sd_checker.specs.declared.Breach.{Breach}
use Rattle.sd_checker.specs.declared.Breach.TheVariants.{Structure, Ancestor, Timing, Root, Loop, Domain, Reach}
use Rattle.sd_checker.specs.declared.Verdict.{Verdict}
use Rattle.sd_checker.specs.declared.Verdict.TheVariants.{Accepted, Refused}

module _ (v w : ℕ) (net : Network) where
  pub accepted_line-with_version : accepted_line (with_version v net) ≡ accepted_line (with_version w net)
  accepted_line-with_version = refl

  pub refused_line-with_version : (place : ℕ) (breach : Breach)
      → refused_line (with_version v net) place breach ≡ refused_line (with_version w net) place breach
  refused_line-with_version place breach = refl

  -- what is carried over for each domain is so for all
  pub OfEachDomain-with_version : {P Q : DomainId → Type 0} → ((f : DomainId) → P f → Q f) → OfEachDomain (with_version v net) P
      → OfEachDomain (with_version w net) Q
  OfEachDomain-with_version carried holds k f at = carried f (holds k f at)

  pub IsFirstSuspect-with_version : {P Q : DomainId → Type 0} (f : DomainId) → ((g : DomainId) → P g → Q g) → IsFirstSuspect (with_version v net) P f
      → IsFirstSuspect (with_version w net) Q f
  IsFirstSuspect-with_version f carried first = (first.0, first.1, λ j g less at. carried g (first.2 j g less at))

  module _ (plan : Plan) where
    pub Holds-with_version : (c : Condition) → Holds (with_version v net) plan c → Holds (with_version w net) plan c
    Holds-with_version condition.structure holds = holds
    Holds-with_version condition.ancestor holds = holds
    Holds-with_version condition.timing holds = holds
    Holds-with_version condition.root holds = holds
    Holds-with_version condition.loop holds = holds
    Holds-with_version condition.domain holds = OfEachDomain-with_version (DomainHolds-with_version v w net plan) holds
    Holds-with_version condition.reach holds = OfEachDomain-with_version (ReachHolds-with_version v w net plan) holds

    pub Shows-with_version : (breach : Breach) → Shows (with_version v net) plan breach → Shows (with_version w net) plan breach
    Shows-with_version (Structure rule device) shown = shown
    Shows-with_version (Ancestor device) shown = shown
    Shows-with_version (Timing t) shown = shown
    Shows-with_version (Root f at) shown = shown
    Shows-with_version (Loop f cycle) shown = (shown.0, ShowsCycle-with_version v w net plan f cycle shown.1)
    Shows-with_version (Domain f device) shown =
        (IsFirstSuspect-with_version f (DomainHolds-with_version v w net plan) shown.0, ShowsDevice-with_version v w net plan f device shown.1)
    Shows-with_version (Reach f chain) shown =
        (IsFirstSuspect-with_version f (ReachHolds-with_version v w net plan) shown.0, IsShownChain-with_version v w net plan f chain shown.1)

    pub IsAccepted-with_version : IsAccepted (with_version v net) plan → IsAccepted (with_version w net) plan
    IsAccepted-with_version holds =
        record {
          structure = holds.structure;
          ancestor = holds.ancestor;
          timing = holds.timing;
          root = holds.root;
          loop = holds.loop;
          domain = Holds-with_version condition.domain holds.domain;
          reach = Holds-with_version condition.reach holds.reach;
        }

    pub IsBreach-with_version : (breach : Breach) → IsBreach (with_version v net) plan breach → IsBreach (with_version w net) plan breach
    IsBreach-with_version breach shown =
        record { before = λ c earlier. Holds-with_version c (shown.before c earlier); shows = Shows-with_version breach shown.shows }

    pub IsVerdict-with_version : (verdict : Verdict) → IsVerdict (with_version v net) plan verdict → IsVerdict (with_version w net) plan verdict
    IsVerdict-with_version Accepted holds = IsAccepted-with_version holds
    IsVerdict-with_version (Refused breach) shown = IsBreach-with_version breach shown
