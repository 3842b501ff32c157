-- For which lists the monitor of failures stands.
use Rattle.std.specs.Prelude.{◌≡◌, Bool, ◌&&◌, List, Option, Some, None, is_some, refl, if◌then◌else◌}
use Rattle.std.specs.Coded.{Coded, code_by, coded×, coded_bool}
use Rattle.std.specs.List.{list_any}
use Rattle.sd_plan.specs.topo.Network.{Network}
use Rattle.sd_plan.specs.declared.topo.Thing.{Thing}
use Rattle.sd_plan.specs.domain.Failing.{HasRoomFor}
use Rattle.sd_plan.specs.domain.Domains.{within_one}
use Rattle.sd_plan.specs.domain.Failures.{FailedThings, failed_code, nothing_of, with_thing, things_of, has_thing}
use Rattle.sd_plan.specs.domain.Things.{same_thing}
use Rattle.sd_history.specs.Things.{failure_of}
use Rattle.sd_history.specs.World.{Setting, Seen}
use Rattle.sd_history.specs.Premises.{failures_since_closing, domain_holds}

-- what is kept: what failed since the latest closing, and whether the premise holds
pub record DomainKept : Type 0 where
  pub failed : FailedThings
  pub holds : Bool

-- it is stored as the pair of its fields
abbrev pub domain_code : Coded DomainKept
domain_code = code_by (FailedThings × Bool) (coded× failed_code coded_bool) (λ k. (k.failed, k.holds)) (λ p. record { failed = p.0; holds = p.1 }) (λ _. refl)

-- one thing more failed
abbrev pub with_failure : Network → Option Thing → DomainKept → DomainKept
with_failure net None kept = kept
with_failure net (Some x) kept =
    record { failed = with_thing kept.failed x; holds = kept.holds && is_some (within_one net (things_of (with_thing kept.failed x))) }

-- a closing forgets what failed
abbrev pub if_closed : Bool → DomainKept → DomainKept
if_closed closed kept = if closed then record kept { failed = nothing_of kept.failed.device_room kept.failed.link_room } else kept

-- an event more
abbrev pub domain_after : Network → Seen → DomainKept → DomainKept
domain_after net s kept = if_closed s.closed (with_failure net (failure_of s.event) kept)

-- what is kept stands for what was seen
pub record DomainStands (setting : Setting) (kept : DomainKept) (seen : List Seen) : Type 0 where
  pub holds : kept.holds ≡ domain_holds setting seen
  pub room : HasRoomFor setting.net kept.failed
  pub failed : (x : Thing) → has_thing kept.failed x ≡ list_any (same_thing x) (failures_since_closing seen)
