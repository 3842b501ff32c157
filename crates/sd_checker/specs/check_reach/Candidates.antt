-- Hit devices that are chosen, ascending.
use Rattle.std.specs.Prelude.{◌≡◌, ℕ, ◌<◌, Bool, true, false, ◌&&◌, ◌||◌, not, List, slice_get, Some, IsTrue, ◌⊎◌}
use Rattle.sd_num.specs.Lists.{map_or}
use Rattle.sd_plan.specs.topo.Network.{Network}
use Rattle.sd_plan.specs.domain.Domains.{holds_device, holds_link}
use Rattle.sd_plan.specs.declared.domain.DomainId.{DomainId}
use Rattle.sd_plan.specs.declared.Hop.{Hop}
use Rattle.sd_plan.specs.declared.Plan.{Plan}
use Rattle.sd_plan.specs.Plans.{backup_of}
use Rattle.sd_plan.specs.Walks.{is_hit, ends_walks}
use Rattle.sd_checker.specs.check_reach.Reach.{Fed, is_sound}

-- the list has, in order, the hit devices at places below k that pass
pub record Chooses (hit : List ℕ) (passes : ℕ → ℕ → Bool) (k : ℕ) (chosen : List ℕ) : Type 0 where
  pub each : (i d : ℕ) → slice_get chosen i ≡ Some d → (j : ℕ) × (j < k) × (slice_get hit j ≡ Some d) × (passes j d ≡ true)
  pub all : (j d : ℕ) → j < k → slice_get hit j ≡ Some d → passes j d ≡ true → (i : ℕ) × (slice_get chosen i ≡ Some d)
  pub rises : (i j d e : ℕ) → i < j → slice_get chosen i ≡ Some d → slice_get chosen j ≡ Some e → d < e

-- the domain takes the backup of the device, which it leaves and which is not the backup root
abbrev pub loses : Network → Plan → DomainId → ℕ → Bool
loses net plan domain d =
    not (holds_device net domain d) && not (ends_walks plan d)
    && map_or (backup_of plan d) false (λ hop. holds_link net domain hop.link || holds_device net domain hop.parent)

-- what makes a device break the domain condition, beside that it is not cut off
pub record IsLosing (net : Network) (plan : Plan) (domain : DomainId) (d : ℕ) : Type 0 where
  pub sound : IsTrue (is_sound net plan domain d)
  pub no_root : IsTrue (not (ends_walks plan d))
  pub hit : IsTrue (is_hit net plan domain d)
  pub backup : Hop
  pub has_backup : backup_of plan d ≡ Some backup
  pub lost : IsTrue (holds_link net domain backup.link || holds_device net domain backup.parent)

-- a sound device that does not come to hear the acting end
pub record IsUnheard (net : Network) (plan : Plan) (domain : DomainId) (d : ℕ) : Type 0 where
  pub sound : IsTrue (is_sound net plan domain d)
  pub unfed : ¬ Fed net plan domain d

-- each sound device comes to hear the acting end or is in the list
pub record AreDecided (net : Network) (plan : Plan) (domain : DomainId) (candidates : List ℕ) : Type 0 where
  pub decided : (d : ℕ) → IsTrue (is_sound net plan domain d) → Fed net plan domain d ⊎ ((i : ℕ) × (slice_get candidates i ≡ Some d))
