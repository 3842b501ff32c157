-- The reach condition is needed. Where a device is starved by a domain, that is neither fed nor cut off, there is a history that breaks no premise, in
-- which only things of this domain fail, and after which this device never hears again: however the history goes on, so long as no plan is staged and
-- nothing more fails, the device is up and accepts no message.
--
-- The one hypothesis beside structure is that a history may have as many events as this one (event_bound).
use Rattle.std.specs.Prelude.{ℕ, ◌^◌, ◌≤◌, Bool, ◌||◌, not, List, ◌++◌, is_some, IsTrue, Some, ◌≡◌}
use Rattle.std.specs.List.{list_all}
use Rattle.sd_plan.specs.topo.Network.{Network}
use Rattle.sd_plan.specs.topo.Limits.{IsNetwork}
use Rattle.sd_plan.specs.domain.Domains.{holds}
use Rattle.sd_plan.specs.domain.Lone.{IsDomain}
use Rattle.sd_plan.specs.declared.domain.DomainId.{DomainId}
use Rattle.sd_plan.specs.declared.Plan.{Plan}
use Rattle.sd_plan.specs.Plans.{Fits}
use Rattle.sd_checker.specs.check_reach.ShownChains.{IsStarved, begins_with}
use Rattle.sd_checker.specs.Conditions.{Holds}
use Rattle.sd_checker.specs.Conditions as condition
use Rattle.sd_checker.specs.Verdicts.{IsBreach}
use Rattle.sd_checker.specs.declared.Breach.TheVariants as breach
use Rattle.sd_device.specs.Calls.{Past}
use Rattle.sd_device.specs.Words.{accepted_over}
use Rattle.sd_sched.specs.declared.Event.{Event}
use Rattle.sd_sched.specs.Events.{is_stage}
use Rattle.sd_history.specs.Things.{failure_of}
use Rattle.sd_history.specs.World.{is_up, alone}
use Rattle.sd_history.specs.Steps.{Step, seen_of}
use Rattle.sd_history.specs.Chronicle.{chronicle, past_in, IsHistory}
use Rattle.sd_beside.specs.needed.Alone.{IsClean}
use Rattle.sd_beside.specs.needed.Loops.{event_bound}

-- no call of the device's life has accepted a message
abbrev pub HasHeardNothing : List Step → ℕ → Type 0
HasHeardNothing steps d =
    (past : Past) → past_in steps d ≡ Some past → IsTrue (list_all (λ x. not (is_some (accepted_over x.transition))) past.did)

-- none of the events stages a plan or fails a thing
abbrev pub leaves_as_is : List Event → Bool
leaves_as_is events = list_all (λ e. not (is_stage e || is_some (failure_of e))) events

-- a clean history in which only things of the domain fail, and after which the device is up and hears nothing
pub record StaysDeaf (net : Network) (plan : Plan) (f : DomainId) (d : ℕ) : Type 0 where
  pub history : List Event
  pub clean : IsClean net plan (holds net f) history
  pub up : (more : List Event) → IsHistory (alone net plan) (more ++ history) → IsTrue (leaves_as_is more)
      → IsTrue (is_up (seen_of (chronicle (alone net plan) (more ++ history))) d)
  pub deaf : (more : List Event) → IsHistory (alone net plan) (more ++ history) → IsTrue (leaves_as_is more)
      → HasHeardNothing (chronicle (alone net plan) (more ++ history)) d

-- each device that a domain starves can stay deaf
abbrev pub ReachIsNeeded : Network → Plan → Type 0
ReachIsNeeded net plan =
    IsNetwork net → Fits net plan → Holds net plan condition.structure → event_bound net plan ≤ 2 ^ 26
    → (f : DomainId) → IsDomain net f → (d : ℕ) → IsStarved net plan f d → StaysDeaf net plan f d

-- so wherever the checker refuses a plan for its reach, the first device that it shows can stay deaf
abbrev pub ReachRefusalIsRight : Network → Plan → Type 0
ReachRefusalIsRight net plan =
    IsNetwork net → Fits net plan → event_bound net plan ≤ 2 ^ 26
    → (f : DomainId) (chain : List ℕ) → IsBreach net plan (breach.Reach f chain)
    → (first : ℕ) × IsTrue (begins_with chain first) × StaysDeaf net plan f first
