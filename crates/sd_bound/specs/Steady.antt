-- The bound of a drill, and how soon all hear again, from what safety uses alone: under a plan that meets five conditions, while all premises but start
-- hold, in a history of any length. Bound and Hearing have what follows of accepted plans, and of histories in which no premise is broken.
use Rattle.std.specs.Prelude.{◌≡◌, ℕ, ◌+◌, ◌-◌, ◌*◌, ◌<◌, ◌≤◌, ◌||◌, not, List, ◌∷◌, ◌++◌, nat_le, is_some, true, IsTrue, Some}
use Rattle.std.specs.List.{list_all, list_any}
use Rattle.sd_num.specs.Lists.{map_or}
use Rattle.sd_plan.specs.topo.Network.{Network, rates_of}
use Rattle.sd_plan.specs.topo.Limits.{IsNetwork}
use Rattle.sd_plan.specs.domain.Domains.{holds}
use Rattle.sd_plan.specs.declared.domain.DomainId.{DomainId}
use Rattle.sd_plan.specs.declared.Plan.{Plan}
use Rattle.sd_plan.specs.Plans.{Fits}
use Rattle.sd_checker.specs.check_root.Timing.{silence}
use Rattle.sd_drill.specs.declared.Budget.{Budget}
use Rattle.sd_drill.specs.Drill.{IsWorst}
use Rattle.sd_num.specs.declared.clock.Report.{Report}
use Rattle.sd_sched.specs.declared.Event.{Event}
use Rattle.sd_sched.specs.Events.{reference_of, is_stage}
use Rattle.sd_history.specs.Things.{failure_of}
use Rattle.sd_history.specs.World.{is_counted, alone}
use Rattle.sd_history.specs.Steps.{Step, seen_of}
use Rattle.sd_history.specs.Chronicle.{chronicle}
use Rattle.sd_history.specs.Admitted.{IsAdmitted}
use Rattle.sd_history.specs.Lines.{asked_report}
use Rattle.sd_safety.specs.invariant.Guarded.{IsGuarded, all_but_start_hold}
use Rattle.sd_bound.specs.Bound.{no_stage, within_base, within_hold, FailsSo}
use Rattle.sd_bound.specs.Recovering.{steps_under}
use Rattle.sd_bound.specs.Hearing.{IsServed, recovery}

-- The bound

-- A history of any length under one guarded plan that is never renewed: all premises but start hold, clocks are set within the base, acting roots hold
-- their estimates no longer than the budget says, and nothing fails or all things of one domain do so at one reference.
pub record RecoversSteadily (net : Network) (plan : Plan) (budget : Budget) (f : DomainId) (history : List Event) : Type 0 where
  pub network : IsNetwork net
  pub fits : Fits net plan
  pub guarded : IsGuarded net plan
  pub is : IsAdmitted (alone net plan) history
  pub premises : IsTrue (all_but_start_hold (alone net plan) (seen_of (steps_under net plan history)))
  pub unstaged : IsTrue (no_stage (seen_of (steps_under net plan history)))
  pub based : IsTrue (within_base budget (seen_of (steps_under net plan history)))
  pub held : IsTrue (within_hold budget (steps_under net plan history))
  pub failed : FailsSo net f (seen_of (steps_under net plan history))

-- no report of the device, while it is live, is above w: as StaysBelow, on such a history
abbrev pub AlwaysBelow : Network → Plan → Budget → DomainId → (d w : ℕ) → Type 0
AlwaysBelow net plan budget f d w =
    (history : List Event) (later : List Step) (s : Step) (earlier : List Step) (report : Report)
    → RecoversSteadily net plan budget f history → chronicle (alone net plan) history ≡ later ++ s ∷ earlier
    → asked_report s ≡ Some (d, report) → IsTrue (is_counted (alone net plan) (seen_of earlier) d)
    → report.eps ≤ w

-- the bound of each device is one that its reports stay below
abbrev pub AlwaysBounded : Network → Plan → Budget → DomainId → Type 0
AlwaysBounded net plan budget f = (d w : ℕ) → IsWorst net plan budget f d w → AlwaysBelow net plan budget f d w

-- Hearing again

-- A history of any length of one guarded plan in which all premises but start hold, only things of the domain fail, and nothing fails later than the
-- reference. It has begun by then.
pub record IsSteadySince (net : Network) (plan : Plan) (f : DomainId) (since : ℕ) (history : List Event) : Type 0 where
  pub network : IsNetwork net
  pub fits : Fits net plan
  pub guarded : IsGuarded net plan
  pub is : IsAdmitted (alone net plan) history
  pub premises : IsTrue (all_but_start_hold (alone net plan) (seen_of (steps_under net plan history)))
  pub inside : IsTrue (list_all (λ e. map_or (failure_of e) true (holds net f)) history)
  pub unstaged : IsTrue (list_all (λ e. not (is_stage e)) history)
  pub unfailed : IsTrue (list_all (λ e. not (is_some (failure_of e)) || nat_le (reference_of e) since) history)
  pub begun : IsTrue (list_any (λ e. nat_le (reference_of e) since) history)

-- as HearsWithin, on such a history
abbrev pub AlwaysHearsWithin : Network → Plan → DomainId → (d time : ℕ) → Type 0
AlwaysHearsWithin net plan f d time =
    (since : ℕ) (e : Event) (history : List Event) → IsSteadySince net plan f since (e ∷ history)
    → IsTrue (is_counted (alone net plan) (seen_of (steps_under net plan history)) d) → since + time < reference_of e
    → IsServed (steps_under net plan history) d since (reference_of e - silence net)

-- each device that has a bound of the drill hears again
abbrev pub AlwaysHearsAgain : Network → Plan → DomainId → Type 0
AlwaysHearsAgain net plan f = (budget : Budget) (d w : ℕ) → IsWorst net plan budget f d w → AlwaysHearsWithin net plan f d (recovery net plan)

-- so it does within the age of which the drill speaks
abbrev pub AlwaysHearsByAge : Network → Plan → DomainId → Type 0
AlwaysHearsByAge net plan f = (budget : Budget) (d w : ℕ) (worst : IsWorst net plan budget f d w) → AlwaysHearsWithin net plan f d worst.oldest

-- and within any time in which its oscillator may drift by more than its bound
abbrev pub AlwaysHearsByBound : Network → Plan → DomainId → Type 0
AlwaysHearsByBound net plan f =
    (budget : Budget) (d w : ℕ) → IsWorst net plan budget f d w
    → (time : ℕ) → 1000000 * w < (rates_of net d).ppm * time → AlwaysHearsWithin net plan f d time
