-- Which devices sound devices and links join to the acting end, and the searches that find this out.
use Rattle.std.specs.Prelude.{◌≡◌, ℕ, ◌<◌, Bool, true, false, ◌&&◌, not, List, length, slice_get, Option, Some, None, IsTrue, ◌⊎◌}
use Rattle.sd_num.specs.Lists.{has}
use Rattle.sd_plan.specs.topo.Network.{Network, joins}
use Rattle.sd_plan.specs.topo.Joined.{Joined}
use Rattle.sd_plan.specs.domain.Domains.{holds_device, holds_link}
use Rattle.sd_plan.specs.declared.domain.DomainId.{DomainId}
use Rattle.sd_plan.specs.declared.Plan.{Plan}
use Rattle.sd_checker.specs.check_reach.Reach.{acting_end, is_sound, is_sound_link}

-- sound devices and links join the device to the acting end
abbrev pub Reaches : Network → Plan → DomainId → ℕ → Type 0
Reaches net plan domain d = Joined net (is_sound net plan domain) (is_sound_link net plan domain) d (acting_end net plan domain)

-- the domain has neither the link nor the device that it leads to
abbrev pub is_left : Network → DomainId → ℕ → ℕ → Bool
is_left net domain l e = not (holds_link net domain l) && not (holds_device net domain e)

-- the backup root, if it is sound, is joined to the acting end
pub record BackupReaches (net : Network) (plan : Plan) (domain : DomainId) : Type 0 where
  pub reaches : IsTrue (is_sound net plan domain plan.backup_root) → Reaches net plan domain plan.backup_root

-- a list that keeps what it has, and to which only what P allows is added
pub record Grows (old new : List ℕ) (P : ℕ → Type 0) : Type 0 where
  pub kept : (i x : ℕ) → slice_get old i ≡ Some x → slice_get new i ≡ Some x
  pub had : (x : ℕ) → has old x ≡ true → has new x ≡ true
  pub added : (x : ℕ) → has new x ≡ true → (has old x ≡ true) ⊎ P x

-- each sound device that a sound link joins to d has been visited
pub record LeadsInto (net : Network) (plan : Plan) (domain : DomainId) (visited : List ℕ) (d : ℕ) : Type 0 where
  pub into : (e l : ℕ) → l < length net.links → IsTrue (is_sound_link net plan domain l) → IsTrue (joins net l d e) → IsTrue (is_sound net plan domain e)
      → has visited e ≡ true

-- what a search that has run dry has visited: sound links lead to nothing else, and not to the acting end
pub record IsDry (net : Network) (plan : Plan) (domain : DomainId) (visited : List ℕ) : Type 0 where
  pub within : (d : ℕ) → has visited d ≡ true → d < length net.devices
  pub lacks : has visited (acting_end net plan domain) ≡ false
  pub closed : (d : ℕ) → has visited d ≡ true → LeadsInto net plan domain visited d

-- a device that a search may add on its way from d
pub record IsStep (net : Network) (plan : Plan) (domain : DomainId) (d e : ℕ) : Type 0 where
  pub within : e < length net.devices
  pub other : (e ≡ acting_end net plan domain) → ⊥
  pub back : Reaches net plan domain e → Reaches net plan domain d

-- the first of the candidates that is joined to the acting end, if one is
abbrev pub FirstReached : Network → Plan → DomainId → List ℕ → Option ℕ → Type 0
FirstReached net plan domain candidates None = (i d : ℕ) → slice_get candidates i ≡ Some d → ¬ Reaches net plan domain d
FirstReached net plan domain candidates (Some d) =
    (i : ℕ) × (slice_get candidates i ≡ Some d) × Reaches net plan domain d
    × ((j e : ℕ) → j < i → slice_get candidates j ≡ Some e → ¬ Reaches net plan domain e)

-- the list has, ascending, just the devices with the property
pub record AreAll (Q : ℕ → Type 0) (candidates : List ℕ) : Type 0 where
  pub each : (i d : ℕ) → slice_get candidates i ≡ Some d → Q d
  pub all : (d : ℕ) → Q d → (i : ℕ) × (slice_get candidates i ≡ Some d)
  pub rises : (i j d e : ℕ) → i < j → slice_get candidates i ≡ Some d → slice_get candidates j ≡ Some e → d < e

-- what is added on the way over one link to its other end: this end, if the domain leaves it and it is not the acting end
pub record IsPassed (net : Network) (plan : Plan) (domain : DomainId) (l e x : ℕ) : Type 0 where
  pub same : x ≡ e
  pub left : is_left net domain l e ≡ true
  pub other : (e ≡ acting_end net plan domain) → ⊥
