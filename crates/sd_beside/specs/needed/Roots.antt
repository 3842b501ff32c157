-- The root condition is needed, as far as it forbids two acting roots. Where a domain without the root hits the path of the backup root, and also takes
-- something of what it falls back on, there is a history that breaks no premise, in which only things of the domain other than both roots fail, and at whose
-- end root and backup root both act.
--
-- The one hypothesis beside structure and timing is that a history may have as many events as this one (events_until). It lasts as long as both waits of
-- the backup root, and each device ticks there once a tick.
use Rattle.std.specs.Prelude.{◌≡◌, ℕ, Bool, true, false, ◌+◌, ◌^◌, ◌≤◌, ◌&&◌, not, List, [], ◌∷◌, ◌++◌, map, IsTrue}
use Rattle.std.specs.List.{list_any}
use Rattle.sd_num.specs.Lists.{has}
use Rattle.sd_plan.specs.topo.Network.{Network}
use Rattle.sd_plan.specs.topo.Limits.{IsNetwork}
use Rattle.sd_plan.specs.declared.topo.Thing.{Thing}
use Rattle.sd_plan.specs.declared.topo.Thing.TheVariants as thing
use Rattle.sd_plan.specs.domain.Domains.{holds_device}
use Rattle.sd_plan.specs.domain.Lone.{IsDomain}
use Rattle.sd_plan.specs.declared.domain.DomainId.{DomainId}
use Rattle.sd_plan.specs.declared.Plan.{Plan}
use Rattle.sd_plan.specs.Plans.{Fits}
use Rattle.sd_plan.specs.Walks.{path}
use Rattle.sd_checker.specs.check_root.Roots.{fallback_devices, fallback_links}
use Rattle.sd_checker.specs.Conditions.{Holds}
use Rattle.sd_checker.specs.Conditions as condition
use Rattle.sd_checker.specs.Verdicts.{IsBreach}
use Rattle.sd_checker.specs.declared.Breach.TheVariants as breach
use Rattle.sd_sched.specs.declared.Event.{Event}
use Rattle.sd_history.specs.Chronicle.{chronicle}
use Rattle.sd_history.specs.Lines.{Line, RootsAlarm, roots, lines_of}
use Rattle.sd_history.specs.World.{alone}
use Rattle.sd_beside.specs.needed.Alone.{holds_besides, IsClean}
use Rattle.sd_beside.specs.needed.Loops.{ticks_until, events_until}

-- the root and the backup root of a plan
abbrev pub both_roots : Plan → List ℕ
both_roots plan = plan.root ∷ plan.backup_root ∷ []

-- what the backup root falls back on: the devices of the walk from its backup parent other than the root, its backup link and the links of that walk
abbrev pub fallback : Network → Plan → List Thing
fallback net plan = map thing.Device (fallback_devices net plan) ++ map thing.Link (fallback_links net plan)

-- the domain without the root hits the path of the backup root, and takes something of its fallback
pub record TakesBoth (net : Network) (plan : Plan) (f : DomainId) : Type 0 where
  pub path : IsTrue (list_any (holds_besides net f (plan.root ∷ [])) (path net plan plan.backup_root))
  pub fallback : IsTrue (list_any (holds_besides net f (plan.root ∷ [])) (fallback net plan))

-- a clean history in which nothing fails but things of the domain other than both roots, and at whose end both are up and act as root
pub record MakesTwoRoots (net : Network) (plan : Plan) (f : DomainId) : Type 0 where
  pub history : List Event
  pub clean : IsClean net plan (holds_besides net f (both_roots plan)) history
  pub root : IsTrue (has (roots (alone net plan) (chronicle (alone net plan) history)) plan.root)
  pub backup_root : IsTrue (has (roots (alone net plan) (chronicle (alone net plan) history)) plan.backup_root)

-- how many ticks it takes until the backup root moves, and then until it takes over
abbrev pub ticks_of_takeover : Network → Plan → ℕ
ticks_of_takeover net plan = ticks_until net plan.wait_first + ticks_until net plan.wait_second

-- each domain that takes path and fallback can make a second acting root
abbrev pub RootIsNeeded : Network → Plan → Type 0
RootIsNeeded net plan =
    IsNetwork net → Fits net plan → Holds net plan condition.structure → Holds net plan condition.timing
    → events_until net plan (ticks_of_takeover net plan) ≤ 2 ^ 26
    → (f : DomainId) → IsDomain net f → TakesBoth net plan f → MakesTwoRoots net plan f

-- So each plan that the checker refuses for its roots makes two acting ones, where the domain that is shown has not both roots and hits the path of the
-- backup root without the root too.
abbrev pub RootRefusalIsRight : Network → Plan → Type 0
RootRefusalIsRight net plan =
    IsNetwork net → Fits net plan → events_until net plan (ticks_of_takeover net plan) ≤ 2 ^ 26
    → (f : DomainId) (x : Thing) → IsBreach net plan (breach.Root f x)
    → IsTrue (not (holds_device net f plan.root && holds_device net f plan.backup_root))
    → IsTrue (list_any (holds_besides net f (plan.root ∷ [])) (path net plan plan.backup_root)) → MakesTwoRoots net plan f

-- in particular where the domain has not the root
abbrev pub RefusalBesidesRootIsRight : Network → Plan → Type 0
RefusalBesidesRootIsRight net plan =
    IsNetwork net → Fits net plan → events_until net plan (ticks_of_takeover net plan) ≤ 2 ^ 26
    → (f : DomainId) (x : Thing) → IsBreach net plan (breach.Root f x) → IsTrue (not (holds_device net f plan.root)) → MakesTwoRoots net plan f

-- the line is the alarm of two roots
abbrev pub is_roots_alarm : Line → Bool
is_roots_alarm (RootsAlarm one other) = true
is_roots_alarm _ = false

-- after some event of the history, its latest ones left out, this alarm is printed
pub record IsAlarmed (net : Network) (plan : Plan) (history : List Event) : Type 0 where
  pub latest : List Event
  pub until : List Event
  pub whole : latest ++ until ≡ history
  pub alarm : IsTrue (list_any is_roots_alarm (lines_of (alone net plan) (chronicle (alone net plan) until)))

-- in such a history an onlooker counts two acting roots: the alarm is printed
abbrev pub TwoRootsAreSeen : Network → Plan → Type 0
TwoRootsAreSeen net plan =
    Holds net plan condition.structure → (f : DomainId) → (makes : MakesTwoRoots net plan f) → IsAlarmed net plan makes.history
