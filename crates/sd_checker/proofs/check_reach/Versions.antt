-- What is fed, cut off and shown is the same over a network with each version.
use Rattle.std.specs.Prelude.{ℕ, List}
use Rattle.std.proofs.Common.{inl, inr}
use Rattle.sd_plan.specs.topo.Network.{Network}
use Rattle.sd_plan.proofs.topo.Versions.{with_version, Joined-with_version}
use Rattle.sd_plan.specs.declared.domain.DomainId.{DomainId}
use Rattle.sd_plan.specs.declared.Plan.{Plan}
use Rattle.sd_checker.specs.check_reach.Reach.{is_sound, is_sound_link, CanReach, IsCut, Fed, acts, stands_by, spared, turns, LosesBackup, DomainHolds, ReachHolds}
use Rattle.sd_checker.specs.check_reach.ShownChains.{ShowsDevice, IsStarved, IsShownChain}

-- what is said of a network is carried over ..
module _ (v w : ℕ) (net : Network) (plan : Plan) (domain : DomainId) where
  pub Fed-with_version : {d : ℕ} → Fed (with_version v net) plan domain d → Fed (with_version w net) plan domain d
  Fed-with_version (acts sound acting) = acts sound acting
  Fed-with_version (stands_by sound backup_root) = stands_by sound backup_root
  Fed-with_version (spared sound unhit) = spared sound unhit
  Fed-with_version (turns hop sound hit next link parent fed) = turns hop sound hit next link parent (Fed-with_version fed)

  pub CanReach-with_version : (d : ℕ) → CanReach (with_version v net) plan domain d → CanReach (with_version w net) plan domain d
  CanReach-with_version d reaches = (reaches.0, Joined-with_version v w net (is_sound net plan domain) (is_sound_link net plan domain) reaches.1)

  pub LosesBackup-with_version : (d : ℕ) → LosesBackup (with_version v net) plan domain d → LosesBackup (with_version w net) plan domain d
  LosesBackup-with_version d loses =
      record {
        sound = loses.sound;
        no_root = loses.no_root;
        hit = loses.hit;
        not_cut = CanReach-with_version d loses.not_cut;
        backup = loses.backup;
        has_backup = loses.has_backup;
        lost = loses.lost;
      }

-- .. and so is what is denied of it
module _ (v w : ℕ) (net : Network) (plan : Plan) (domain : DomainId) where
  pub DomainHolds-with_version : DomainHolds (with_version v net) plan domain → DomainHolds (with_version w net) plan domain
  DomainHolds-with_version holds d loses = holds d (LosesBackup-with_version w v net plan domain d loses)

  pub ShowsDevice-with_version : (d : ℕ) → ShowsDevice (with_version v net) plan domain d → ShowsDevice (with_version w net) plan domain d
  ShowsDevice-with_version d shown =
      (LosesBackup-with_version v w net plan domain d shown.0, λ e less loses. shown.1 e less (LosesBackup-with_version w v net plan domain e loses))

  pub IsCut-with_version : (d : ℕ) → IsCut (with_version v net) plan domain d → IsCut (with_version w net) plan domain d
  IsCut-with_version d cut reaches = cut (CanReach-with_version w v net plan domain d reaches)

  pub ReachHolds-with_version : ReachHolds (with_version v net) plan domain → ReachHolds (with_version w net) plan domain
  ReachHolds-with_version holds d sound =
      elim (holds d sound) [ inl fed ↦ inl (Fed-with_version v w net plan domain fed) | inr cut ↦ inr (IsCut-with_version d cut) ]

  pub IsStarved-with_version : (d : ℕ) → IsStarved (with_version v net) plan domain d → IsStarved (with_version w net) plan domain d
  IsStarved-with_version d starved =
      (starved.0, (λ fed. starved.1 (Fed-with_version w v net plan domain fed)), CanReach-with_version v w net plan domain d starved.2)

module _ (v w : ℕ) (net : Network) (plan : Plan) (domain : DomainId) where
  pub IsShownChain-with_version : (chain : List ℕ) → IsShownChain (with_version v net) plan domain chain → IsShownChain (with_version w net) plan domain chain
  IsShownChain-with_version chain shown =
      record {
        first = shown.first;
        starved = IsStarved-with_version v w net plan domain shown.first shown.starved;
        least = λ d less starved. shown.least d less (IsStarved-with_version w v net plan domain d starved);
        begins = shown.begins;
        goes_on = shown.goes_on;
      }
