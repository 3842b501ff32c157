-- What the drill promises of every history: no report of a live device is above its bound.
use Rattle.std.specs.Prelude.{◌≡◌, ℕ, ◌-◌, ◌≤◌, Bool, true, ◌&&◌, not, List, ◌∷◌, ◌++◌, filter_map, nat_eq, nat_le, IsTrue, Some, None, ◌⊎◌, [], ◌||◌}
use Rattle.std.specs.List.{list_all, list_any}
use Rattle.sd_num.specs.Lists.{map_or}
use Rattle.sd_plan.specs.declared.topo.Thing.{Thing}
use Rattle.sd_plan.specs.domain.Domains.{holds}
use Rattle.sd_plan.specs.domain.Things.{same_thing}
use Rattle.sd_plan.specs.declared.domain.DomainId.{DomainId}
use Rattle.sd_plan.specs.declared.Plan.{Plan}
use Rattle.sd_plan.specs.topo.Network.{Network}
use Rattle.sd_num.specs.declared.clock.Report.{Report}
use Rattle.sd_device.specs.Words.{estimate_now}
use Rattle.sd_sched.specs.declared.Event.{Event}
use Rattle.sd_sched.specs.Events.{reference_of, device_of, counter_of, is_stage}
use Rattle.sd_history.specs.Things.{failure_of}
use Rattle.sd_history.specs.World.{Seen, is_counted, setting_over, alone}
use Rattle.sd_history.specs.Steps.{Step, seen_of, acts_in}
use Rattle.sd_history.specs.Chronicle.{chronicle, past_in, IsHistory}
use Rattle.sd_sched.specs.Honesty.{clock_set}
use Rattle.sd_history.specs.Premises.{all_hold}
use Rattle.sd_history.specs.Lines.{asked_report}
use Rattle.sd_drill.specs.declared.Budget.{Budget}

-- no window was opened
abbrev pub no_stage : List Seen → Bool
no_stage seen = list_all (λ s. not (is_stage s.event)) seen

-- each clock that is set is set with an uncertainty of at most the base
abbrev pub within_base : Budget → List Seen → Bool
within_base budget seen = list_all (λ s. map_or (clock_set s.event) true (λ set. nat_le set.1 budget.base)) seen

-- where the event read a counter and its device acts as root after it, the device's estimate is at most the hold old
abbrev pub held_briefly : Budget → List Step → Event → Bool
held_briefly budget steps e =
    map_or (device_of e) true (λ d.
    map_or (counter_of e) true (λ c.
    not (acts_in steps d) || map_or (past_in steps d) true (λ past. nat_le (c - (estimate_now past).at) budget.hold)))

-- at each step an acting device holds at most what the budget says
abbrev pub within_hold : Budget → List Step → Bool
within_hold budget [] = true
within_hold budget (s ∷ earlier) = within_hold budget earlier && held_briefly budget (s ∷ earlier) s.seen.event

-- the things that failed, each with its reference
abbrev pub failures : List Seen → List (Thing × ℕ)
failures seen = filter_map (λ s. map_or (failure_of s.event) None (λ x. Some (x, reference_of s.event))) seen

-- all things of the domain failed at this reference, and nothing else failed
pub record FailsAtOnce (net : Network) (f : DomainId) (seen : List Seen) (reference : ℕ) : Type 0 where
  pub all : (x : Thing) → IsTrue (holds net f x) → IsTrue (list_any (λ y. same_thing x y.0) (failures seen))
  pub only : IsTrue (list_all (λ y. holds net f y.0 && nat_eq y.1 reference) (failures seen))

-- nothing fails, or the domain does so
abbrev pub FailsSo : Network → DomainId → List Seen → Type 0
FailsSo net f seen = (failures seen ≡ []) ⊎ ((reference : ℕ) × FailsAtOnce net f seen reference)

-- No report of the device while it is live is above w: on every history without a stage under this plan, whatever plans come after it, in which
-- nothing fails or the domain fails at once, while no premise is broken, clocks are set within the base, and acting roots hold their estimates
-- no longer than the budget says. All this is said of the whole history; the report may come anywhere in it, also while some things of the
-- domain have failed and others are yet to. Live is who is up and a member of this plan.
abbrev pub StaysBelow : Network → Plan → Budget → DomainId → (d w : ℕ) → Type 0
StaysBelow net plan budget f d w =
    (others : List Plan) (history : List Event) (later : List Step) (s : Step) (earlier : List Step) (report : Report)
    → IsHistory (setting_over net (plan ∷ others)) history → chronicle (setting_over net (plan ∷ others)) history ≡ later ++ s ∷ earlier
    → IsTrue (all_hold (setting_over net (plan ∷ others)) (seen_of (later ++ s ∷ earlier)))
    → IsTrue (no_stage (seen_of (later ++ s ∷ earlier))) → IsTrue (within_base budget (seen_of (later ++ s ∷ earlier)))
    → IsTrue (within_hold budget (later ++ s ∷ earlier))
    → FailsSo net f (seen_of (later ++ s ∷ earlier))
    → asked_report s ≡ Some (d, report) → IsTrue (is_counted (alone net plan) (seen_of earlier) d)
    → report.eps ≤ w
