-- Whatever one domain fails, each sound device is cut off by it or comes to hear the acting end again.
use Rattle.std.specs.Prelude.{◌≡◌, ℕ, Bool, ◌&&◌, not, IsTrue, Option, Some, ◌⊎◌, if◌then◌else◌, ◌||◌}
use Rattle.sd_plan.specs.topo.Network.{Network}
use Rattle.sd_plan.specs.topo.Joined.{Joined}
use Rattle.sd_plan.specs.domain.Domains.{holds_device, holds_link}
use Rattle.sd_plan.specs.declared.domain.DomainId.{DomainId}
use Rattle.sd_plan.specs.declared.Hop.{Hop}
use Rattle.sd_plan.specs.declared.Plan.{Plan}
use Rattle.sd_plan.specs.Plans.{is_member, is_present, backup_of, primary_of}
use Rattle.sd_plan.specs.Walks.{ends_walks, is_hit}
use Rattle.std.specs.Option.{option_or}

-- the root, or where the domain has it the backup root
abbrev pub acting_end : Network → Plan → DomainId → ℕ
acting_end net plan domain = if holds_device net domain plan.root then plan.backup_root else plan.root

-- a member that the domain does not have
abbrev pub is_sound : Network → Plan → DomainId → ℕ → Bool
is_sound net plan domain d = is_member plan d && not (holds_device net domain d)

-- a link that is neither left out nor in the domain
abbrev pub is_sound_link : Network → Plan → DomainId → ℕ → Bool
is_sound_link net plan domain l = is_present plan l && not (holds_link net domain l)

-- the acting end is outside the domain, and sound devices and links join the device to it
abbrev pub CanReach : Network → Plan → DomainId → ℕ → Type 0
CanReach net plan domain d =
    IsTrue (not (holds_device net domain (acting_end net plan domain)))
    × Joined net (is_sound net plan domain) (is_sound_link net plan domain) d (acting_end net plan domain)

-- the device is cut off from the acting end
abbrev pub IsCut : Network → Plan → DomainId → ℕ → Type 0
IsCut net plan domain d = ¬ CanReach net plan domain d

-- where a hit device turns: its backup, or its primary where it has none
abbrev pub next_hop : Plan → ℕ → Option Hop
next_hop plan d = option_or (backup_of plan d) (primary_of plan d)

-- the device comes to hear the acting end: the smallest relation on sound devices with these rules
pub data Fed (net : Network) (plan : Plan) (domain : DomainId) : ℕ → Type 0 where
  acts : {d : ℕ} → IsTrue (is_sound net plan domain d) → d ≡ acting_end net plan domain → Fed net plan domain d
  stands_by : {d : ℕ} → IsTrue (is_sound net plan domain d) → d ≡ plan.backup_root → Fed net plan domain d
  spared : {d : ℕ} → IsTrue (is_sound net plan domain d) → IsTrue (not (is_hit net plan domain d)) → Fed net plan domain d
  turns : {d : ℕ} (hop : Hop) → IsTrue (is_sound net plan domain d) → IsTrue (is_hit net plan domain d) → next_hop plan d ≡ Some hop
      → IsTrue (not (holds_link net domain hop.link)) → IsTrue (not (holds_device net domain hop.parent)) → Fed net plan domain hop.parent
      → Fed net plan domain d

-- the device breaks the domain condition: it is sound, no root, hit and not cut off, and the domain has its backup link or backup parent
pub record LosesBackup (net : Network) (plan : Plan) (domain : DomainId) (d : ℕ) : Type 0 where
  pub sound : IsTrue (is_sound net plan domain d)
  pub no_root : IsTrue (not (ends_walks plan d))
  pub hit : IsTrue (is_hit net plan domain d)
  pub not_cut : CanReach net plan domain d
  pub backup : Hop
  pub has_backup : backup_of plan d ≡ Some backup
  pub lost : IsTrue (holds_link net domain backup.link || holds_device net domain backup.parent)

-- no device breaks the domain condition under the domain
abbrev pub DomainHolds : Network → Plan → DomainId → Type 0
DomainHolds net plan domain = (d : ℕ) → ¬ LosesBackup net plan domain d

-- each sound device is fed or cut off
abbrev pub ReachHolds : Network → Plan → DomainId → Type 0
ReachHolds net plan domain = (d : ℕ) → IsTrue (is_sound net plan domain d) → Fed net plan domain d ⊎ IsCut net plan domain d
