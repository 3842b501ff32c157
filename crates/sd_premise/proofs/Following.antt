-- What an event that can follow is for each monitor.
use Rattle.std.proofs.Common.{◌≡◌, ℕ, ◌+◌, ◌<◌, ◌≤◌, Bool, true, false, ◌||◌, List, [], ◌∷◌, length, get_or, nat_le, Option, Some, None, ◌⊎◌, inl, inr, refl, arith}
use Rattle.std.specs.Prelude.{Contains, if◌then◌else◌}
use Rattle.std.proofs.lemmas.Bool.{le-leb}
use Rattle.std.proofs.lemmas.List.Elements.{Contains-append_cases, All-contains}
use Rattle.sd_num.specs.Lists.{map_or, same_number}
use Rattle.sd_plan.specs.topo.Network.{delay_of}
use Rattle.sd_device.specs.declared.msg.Flight.{Flight}
use Rattle.sd_sched.specs.Events.{reference_of, ticked}
use Rattle.sd_history.specs.World.{Setting, Seen, makes, latest_reference}
use Rattle.sd_history.specs.Premises.{reaching_flights, latest_tick}
use Rattle.sd_history.proofs.Shared.{time_rises}
use Rattle.sd_monitors.specs.loss.rounds.Order as rounds
use Rattle.sd_monitors.proofs.loss.rounds.InOrder.{le_greatest}
use Rattle.sd_premise.specs.Order.{IsSentAt, CanFollow, ComesInOrder}

-- for the monitor of loss
pub follows : (setting : Setting) (earlier : List Seen) (s : Seen) → CanFollow setting earlier s → rounds.Follows setting earlier s
follows setting earlier s can = record {
  allowed = can.allowed;
  due = λ k f within. (let due : (get_or s.sent k f).due
      ≡ reference_of s.event + (delay_of setting.net (get_or s.sent k f).link (get_or s.sent k f).receiver).max = (can.sent k f within).due in
      omega (arith, due));
  numbers = can.numbers;
  taken = by s.taken refl;
}
  where
    by : (o : Option Flight) → s.taken ≡ o → map_or o true (λ f. nat_le f.number (rounds.last_sent earlier)) ≡ true
    by None is = refl
    by (Some f) is = le-leb f.number (rounds.last_sent earlier) (le_greatest (reaching_flights earlier) f (can.taken f is).sent)

-- each flight that was sent goes over a link of the network
pub sent_known : (setting : Setting) (seen : List Seen) (f : Flight) → ComesInOrder setting seen → Contains (reaching_flights seen) f → f.link < length setting.net.links
sent_known setting [] f order (k, within, at) = absurd (omega (arith, within))
sent_known setting (s ∷ earlier) f order sent =
    by (Contains-append_cases s.sent (reaching_flights earlier) f sent) (λ before. sent_known setting earlier f order.0 before)
  where
    by : Contains s.sent f ⊎ Contains (reaching_flights earlier) f → (Contains (reaching_flights earlier) f → f.link < length setting.net.links)
        → f.link < length setting.net.links
    by (inl now) rest = (All-contains (λ (g : Flight). IsSentAt setting (reference_of s.event) g) s.sent f order.1.sent now).link
    by (inr before) rest = rest before

-- the latest tick of a device comes no later than the latest event
latest_low : (setting : Setting) (seen : List Seen) (d : ℕ) → ComesInOrder setting seen → latest_tick seen d ≤ latest_reference seen
latest_low setting [] d order = omega arith
latest_low setting (s ∷ earlier) d order = by (same_number (ticked s.event) d || makes d s.event) (latest_low setting earlier d order.0)
  where
    by : (b : Bool) → latest_tick earlier d ≤ latest_reference earlier
        → map_or (if b then Some (reference_of s.event) else None) (latest_tick earlier d) (λ t. t) ≤ reference_of s.event
    by true before = omega arith
    by false before = omega (arith, before, time_rises setting earlier s.event order.1.allowed)

-- nor than an event that follows
pub tick_before : (setting : Setting) (earlier : List Seen) (s : Seen) (d t : ℕ) → ComesInOrder setting earlier → CanFollow setting earlier s
    → reference_of s.event ≡ t → latest_tick earlier d ≤ t
tick_before setting earlier s d t order can at =
    omega (arith, latest_low setting earlier d order, time_rises setting earlier s.event can.allowed, at)
