-- The loop condition is needed. Where some devices may follow each other in a ring while things of a domain fail, there is a history that breaks no
-- premise, in which only things of this domain fail and none of these devices, and at whose end each of them follows the next, and the last the first.
--
-- One hypothesis stands beside structure: that a history may have as many events as this one (event_bound). A schedule has at most 2 ^ 26. The history
-- lasts as long as the wait of the plan, and each device ticks there once a tick.
use Rattle.std.specs.Prelude.{◌≡◌, ℕ, ◌+◌, ◌-◌, ◌*◌, ◌/◌, ◌^◌, ◌≤◌, List, [], ◌∷◌, ◌++◌, length, sum_by, is_some, IsTrue, Some}
use Rattle.sd_plan.specs.topo.Network.{Network, device_numbers}
use Rattle.sd_plan.specs.topo.Limits.{IsNetwork}
use Rattle.sd_plan.specs.domain.Lone.{IsDomain}
use Rattle.sd_plan.specs.declared.domain.DomainId.{DomainId}
use Rattle.sd_plan.specs.declared.Hop.{Hop}
use Rattle.sd_plan.specs.declared.Plan.{Plan}
use Rattle.sd_plan.specs.Plans.{Fits}
use Rattle.sd_plan.specs.Walks.{end_of}
use Rattle.sd_plan.specs.Duties.{ends_of}
use Rattle.sd_checker.specs.check_loop.Loops.{is_walk}
use Rattle.sd_checker.specs.check_loop.ShownCycles.{LeadsTo, IsChain, AreDifferent}
use Rattle.sd_checker.specs.Conditions.{Holds}
use Rattle.sd_checker.specs.Conditions as condition
use Rattle.sd_checker.specs.Verdicts.{IsBreach}
use Rattle.sd_checker.specs.declared.Breach.TheVariants as breach
use Rattle.sd_sched.specs.declared.Event.{Event}
use Rattle.sd_history.specs.Chronicle.{chronicle}
use Rattle.sd_history.specs.Lines.{counted_parent, first_on_loop}
use Rattle.sd_history.specs.World.{alone}
use Rattle.sd_beside.specs.needed.Alone.{holds_besides, IsClean}

-- different devices each of which may follow the next while things of the domain fail, and the last of them the first
pub record IsRing (net : Network) (plan : Plan) (f : DomainId) (first : ℕ) (others : List ℕ) : Type 0 where
  pub different : AreDifferent (first ∷ others)
  pub leads : IsChain (LeadsTo net plan f) (first ∷ (others ++ first ∷ []))

-- a clean history in which nothing fails but things of the domain, none of the ring among them, and at whose end the live parents of its devices are the ring
pub record ClosesLoop (net : Network) (plan : Plan) (f : DomainId) (first : ℕ) (others : List ℕ) : Type 0 where
  pub history : List Event
  pub clean : IsClean net plan (holds_besides net f (first ∷ others)) history
  pub follows : IsChain (λ d e. counted_parent (alone net plan) (chronicle (alone net plan) history) d ≡ Some e) (first ∷ (others ++ first ∷ []))

-- how many ticks of a device it takes until so long a time is over
abbrev pub ticks_until : Network → ℕ → ℕ
ticks_until net time = (time + net.params.tick - 1) / net.params.tick

-- how many it takes until its wait is over
abbrev pub ticks_of_wait : Network → Plan → ℕ
ticks_of_wait net plan = ticks_until net plan.wait

-- the hops of a plan, counted by the devices to which they lead: over how many ends all devices send, each once
abbrev pub hop_count : Network → Plan → ℕ
hop_count net plan = sum_by (λ d. length (ends_of net plan d)) (device_numbers net)

-- how many events a history has at most in which each device ticks so often: things fail and devices start; each device ticks once more, and over each hop
-- two messages come for each tick
abbrev pub events_until : Network → Plan → ℕ → ℕ
events_until net plan ticks = 2 * length net.devices + length net.links + (ticks + 1) * (length net.devices + 2 * hop_count net plan)

-- how many such a history has until the wait is over
abbrev pub event_bound : Network → Plan → ℕ
event_bound net plan = events_until net plan (ticks_of_wait net plan)

-- each ring that the loop condition forbids can come about
abbrev pub LoopIsNeeded : Network → Plan → Type 0
LoopIsNeeded net plan =
    IsNetwork net → Fits net plan → Holds net plan condition.structure → event_bound net plan ≤ 2 ^ 26
    → (f : DomainId) → IsDomain net f → (first : ℕ) (others : List ℕ) → IsRing net plan f first others → ClosesLoop net plan f first others

-- so each plan that the checker refuses for a loop closes the very loop that is shown
abbrev pub LoopRefusalIsRight : Network → Plan → Type 0
LoopRefusalIsRight net plan =
    IsNetwork net → Fits net plan → event_bound net plan ≤ 2 ^ 26
    → (f : DomainId) (first : ℕ) (others : List ℕ) → IsBreach net plan (breach.Loop f (first ∷ others)) → ClosesLoop net plan f first others

-- at the end of such a history an onlooker finds a loop, which is an alarm of the lines of a history
abbrev pub LoopIsSeen : Network → Plan → Type 0
LoopIsSeen net plan =
    (f : DomainId) (first : ℕ) (others : List ℕ) → AreDifferent (first ∷ others) → (closes : ClosesLoop net plan f first others)
    → IsTrue (is_some (first_on_loop (alone net plan) (chronicle (alone net plan) closes.history)))

-- wherever the condition fails, that is a walk comes back to where it began, some ring comes about so
abbrev pub CycleIsNeeded : Network → Plan → Type 0
CycleIsNeeded net plan =
    IsNetwork net → Fits net plan → Holds net plan condition.structure → event_bound net plan ≤ 2 ^ 26
    → (f : DomainId) → IsDomain net f → (d : ℕ) (hop : Hop) (hops : List Hop) → IsTrue (is_walk net plan f d (hop ∷ hops)) → end_of hop.parent hops ≡ d
    → (first : ℕ) × ((others : List ℕ) × AreDifferent (first ∷ others) × ClosesLoop net plan f first others)
