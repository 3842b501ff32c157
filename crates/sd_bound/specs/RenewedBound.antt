-- After a renewal things of one domain fail: how soon all hear again, how old an estimate is when it is reported, and what the number of the drill then is
-- worth. The plan in force may have come in by any number of renewals, and much may have failed before the latest.
use Rattle.std.specs.Prelude.{◌≡◌, ℕ, ◌+◌, ◌-◌, ◌<◌, ◌≤◌, true, false, ◌||◌, not, List, ◌∷◌, Some, nat_eq, nat_le, is_some, IsTrue}
use Rattle.std.specs.List.{list_all}
use Rattle.sd_num.specs.Lists.{leading}
use Rattle.sd_plan.specs.topo.Network.{rates_of}
use Rattle.sd_plan.specs.domain.Domains.{holds}
use Rattle.sd_plan.specs.declared.domain.DomainId.{DomainId}
use Rattle.sd_checker.specs.check_root.Timing.{silence}
use Rattle.sd_drill.specs.ages.Ages.{ageing}
use Rattle.sd_drill.specs.declared.Budget.{Budget}
use Rattle.sd_drill.specs.Drill.{IsWorst}
use Rattle.sd_device.specs.Calls.{Past}
use Rattle.sd_device.specs.Words.{estimate_now, report_at}
use Rattle.sd_sched.specs.declared.Event.{Event}
use Rattle.sd_sched.specs.declared.Event.TheVariants as event
use Rattle.sd_sched.specs.Events.{reference_of}
use Rattle.sd_history.specs.Things.{failure_of}
use Rattle.sd_history.specs.World.{Setting, Seen, window_is_open, epoch_in_force, in_force, is_counted}
use Rattle.sd_history.specs.Steps.{Step, seen_of, acts_in}
use Rattle.sd_history.specs.Chronicle.{past_in, chronicle}
use Rattle.sd_history.specs.Premises.{failures_since_closing}
use Rattle.sd_safety.specs.invariant.Guarded.{AreGuarded, IsSteady}
use Rattle.sd_bound.specs.Halves.{IsBased, IsCovered}
use Rattle.sd_bound.specs.Hearing.{IsServed, recovery}

-- A plan was brought in, no window is open, and what failed since the latest closing is of the domain.
pub record IsHitRenewed (setting : Setting) (f : DomainId) (steps : List Step) : Type 0 where
  pub renewed : 1 < epoch_in_force (seen_of steps)
  pub shut : window_is_open (seen_of steps) ≡ false
  pub inside : IsTrue (list_all (holds setting.net f) (failures_since_closing (seen_of steps)))

-- Hearing again

-- And no window closes, and nothing fails, later than the reference.
pub record IsRenewedSince (setting : Setting) (f : DomainId) (since : ℕ) (e : Event) (history : List Event) : Type 0 where
  pub hit : IsHitRenewed setting f (chronicle setting history)
  pub closed : IsTrue (list_all (λ (s : Seen). not s.closed || nat_le (reference_of s.event) since) (seen_of (chronicle setting history)))
  pub unfailed : IsTrue (list_all (λ y. not (is_some (failure_of y)) || nat_le (reference_of y) since) (e ∷ history))

-- Each device that has a bound of the drill, by the plan in force, hears again: so long after the latest closing and the latest failure at most as under a
-- first plan.
abbrev pub HearsAgainRenewed : Setting → DomainId → Type 0
HearsAgainRenewed setting f =
    (since : ℕ) (e : Event) (history : List Event) → AreGuarded setting → IsSteady setting (e ∷ history) → IsRenewedSince setting f since e history
    → (budget : Budget) (d w : ℕ) → IsWorst setting.net (in_force setting (seen_of (chronicle setting history))) budget f d w
    → IsTrue (is_counted setting (seen_of (chronicle setting history)) d)
    → since + recovery setting.net (in_force setting (seen_of (chronicle setting history))) < reference_of e
    → IsServed (chronicle setting history) d since (reference_of e - silence setting.net)

-- The bound

-- And all that failed since the closing failed at the reference.
pub record IsHitOnce (setting : Setting) (f : DomainId) (at : ℕ) (steps : List Step) : Type 0 where
  pub hit : IsHitRenewed setting f steps
  pub once : IsTrue (list_all (λ (s : Seen). not (is_some (failure_of s.event)) || nat_eq (reference_of s.event) at) (leading (λ (s : Seen). not s.closed) (seen_of steps)))

-- A report of a live device that does not act is at most the uncertainty with which its estimate was set, and what its oscillator adds in the time for which
-- the drill counts.
abbrev pub AgesHoldRenewed : Setting → DomainId → Type 0
AgesHoldRenewed setting f =
    (at reference d counter : ℕ) (history : List Event) (past : Past) → AreGuarded setting → IsSteady setting (event.Ask reference d counter ∷ history)
    → IsHitOnce setting f at (chronicle setting history) → IsTrue (is_counted setting (seen_of (chronicle setting history)) d)
    → past_in (chronicle setting history) d ≡ Some past → acts_in (chronicle setting history) d ≡ false
    → (far oldest : ℕ) → IsCovered setting.net (in_force setting (seen_of (chronicle setting history))) f d far oldest
    → (report_at past counter).eps ≤ (estimate_now past).base + ageing (rates_of setting.net d) oldest

-- So it is at most the number of the drill, where the estimate was set with no more than the drill says (IsBased). Of a device that acts the estimate is held
-- as long as the budget says, at most.
abbrev pub BoundHoldsRenewed : Setting → Budget → DomainId → Type 0
BoundHoldsRenewed setting budget f =
    (at reference d counter : ℕ) (history : List Event) (past : Past) → AreGuarded setting → IsSteady setting (event.Ask reference d counter ∷ history)
    → IsHitOnce setting f at (chronicle setting history) → IsTrue (is_counted setting (seen_of (chronicle setting history)) d)
    → past_in (chronicle setting history) d ≡ Some past
    → (acts_in (chronicle setting history) d ≡ true → counter - (estimate_now past).at ≤ budget.hold)
    → IsBased setting.net (in_force setting (seen_of (chronicle setting history))) budget f (chronicle setting history) d (estimate_now past).base
    → (w : ℕ) → IsWorst setting.net (in_force setting (seen_of (chronicle setting history))) budget f d w → (report_at past counter).eps ≤ w
