-- The event before lies at most a tick gap back, where a member is up.
use Rattle.std.specs.Prelude.{◌≡◌, ℕ, ◌+◌, ◌-◌, ◌<◌, ◌≤◌, true, ◌&&◌, ◌||◌, not, max, List, ◌∷◌, length, nat_le}
use Rattle.std.proofs.Common.{arith}
use Rattle.std.proofs.lemmas.Bool.{and_parts, and_from, or_left, leb-true}
use Rattle.sd_plan.specs.Plans.{is_member}
use Rattle.sd_sched.specs.declared.Event.{Event}
use Rattle.sd_sched.specs.Events.{reference_of}
use Rattle.sd_history.specs.World.{Setting, is_up, is_staged_member, latest_reference}
use Rattle.sd_history.specs.Steps.{Step, seen_of}
use Rattle.sd_history.specs.Chronicle.{chronicle}
use Rattle.sd_history.specs.Premises.{latest_tick, is_current_member}
use Rattle.sd_history.proofs.Among.{passes}
use Rattle.sd_safety.specs.invariant.Bounds.{tick_gap}
use Rattle.sd_safety.specs.invariant.Eras.{plan_now}
use Rattle.sd_safety.specs.invariant.Coming.{IsNextEvent}
use Rattle.sd_safety.proofs.invariant.Sides.{implied}
use Rattle.sd_history.proofs.Known.{admitted_up_is_known}
use Rattle.sd_safety.proofs.timers.Periods.{tick_within}
use Rattle.sd_safety.proofs.waits.Standing.{times, steps_timed}
use Rattle.sd_history.proofs.Shared.{among_below}

pub next_event : (setting : Setting) (x : Event) (h : List Event) (e : Event) → IsNextEvent setting (x ∷ h) e → (d : ℕ)
    → is_up (seen_of (chronicle setting (x ∷ h))) d ≡ true → is_member (plan_now setting (chronicle setting (x ∷ h))) d ≡ true
    → reference_of e ≤ latest_reference (seen_of (chronicle setting (x ∷ h))) + tick_gap setting.net
next_event setting x h e comes d up member =
    let steps : List Step = chronicle setting (x ∷ h) in
    let known : d < length setting.net.devices = admitted_up_is_known setting (x ∷ h) comes.clean.is.0 d up in
    let current : is_current_member setting (seen_of steps) d ≡ true =
    or_left (is_member (plan_now setting steps) d) (is_staged_member setting (seen_of steps) d) member in
    let each = (and_parts _ _ (and_parts _ _ (times setting x h e comes).ticks).1).0 in
    let one = passes (λ k. not (is_up (seen_of steps) k && is_current_member setting (seen_of steps) k)
    || nat_le (reference_of e) (latest_tick (seen_of steps) k + setting.net.params.tick)) (among_below (length setting.net.devices) d known) each in
    let ticked : reference_of e ≤ latest_tick (seen_of steps) d + setting.net.params.tick =
    leb-true (reference_of e) (latest_tick (seen_of steps) d + setting.net.params.tick)
    (implied (is_up (seen_of steps) d && is_current_member setting (seen_of steps) d) _ one
    (and_from (is_up (seen_of steps) d) (is_current_member setting (seen_of steps) d) up current)) in
    let last = tick_within setting steps (steps_timed setting x h e comes) d in
    omega (arith, ticked, last)

-- by the later of h and r0 + Q, with a gap more
pub always_sum : (r l h r0 q u p a b lo : ℕ) → r ≤ l + q → l ≤ max h (r0 + q) + a + b → r0 ≤ h → p ≡ u + q → lo ≤ u → q < lo → r - h ≤ a + p + b
always_sum r l h r0 q u p a b lo gap by began is least less = omega (arith, gap, by, began, is, least, less)

pub apart_low : (a q lo : ℕ) → a + q < lo → q < lo
apart_low a q lo less = omega (arith, less)
