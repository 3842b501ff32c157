-- What holds of events that come in order.
use Rattle.std.proofs.Common.{◌≡◌, ℕ, zero, suc, ◌+◌, ◌<◌, ◌≤◌, max, true, false, List, [], ◌∷◌, ◌++◌, map, Option, Some, None, nat_eq, nat_le, nat_lt, ◌⊎◌, inl, inr, refl, ap, arith}
use Rattle.std.specs.List.{Contains, list_any}
use Rattle.std.proofs.lemmas.Bool.{or_cases, or_from, and_parts, le-ltb, leb-true, eqb-true, eq-eqb, ne_eqb}
use Rattle.std.proofs.lemmas.List.Folds.{list_any_at}
use Rattle.sd_num.specs.Lists.{map_or, ascends}
use Rattle.sd_device.specs.declared.msg.Flight.{Flight}
use Rattle.sd_sched.specs.declared.Event.{Event}
use Rattle.sd_sched.specs.Events.{reference_of}
use Rattle.sd_history.specs.World.{Setting, Seen, latest_reference}
use Rattle.sd_history.specs.Refusals.{unknown_device, unknown_link}
use Rattle.sd_history.specs.Open.{may_be_seen}
use Rattle.sd_history.specs.Premises.{reaching_flights, is_overdue, was_received}
use Rattle.sd_history.proofs.Shared.{seen_parts, time_rises}
use Rattle.sd_monitors.specs.loss.rounds.Order.{last_sent, IsInOrder}
use Rattle.sd_monitors.proofs.loss.rounds.Sending.{greatest_of}

-- An event that may be seen

pub device_known : (setting : Setting) (earlier : List Seen) (e : Event) → may_be_seen setting earlier e ≡ true → unknown_device setting e ≡ false
device_known setting earlier e allowed = (seen_parts setting earlier e allowed).0

pub link_known : (setting : Setting) (earlier : List Seen) (e : Event) → may_be_seen setting earlier e ≡ true → unknown_link setting e ≡ false
link_known setting earlier e allowed = (seen_parts setting earlier e allowed).1

-- Numbers

pub le_greatest : (fs : List Flight) (f : Flight) → Contains fs f → f.number ≤ greatest_of fs
le_greatest [] f (k, within, at) = absurd (omega arith)
le_greatest (g ∷ gs) f (zero, within, at) = let same : g.number ≡ f.number = ap (λ (h : Flight). h.number) at in omega (arith, same)
le_greatest (g ∷ gs) f (suc k, within, at) = let rest : f.number ≤ greatest_of gs = le_greatest gs f (k, omega (arith, within), at) in omega (arith, rest)

pub greatest-append : (fs gs : List Flight) → greatest_of (fs ++ gs) ≡ max (greatest_of fs) (greatest_of gs)
greatest-append [] gs = omega arith
greatest-append (f ∷ fs) gs = let rest : greatest_of (fs ++ gs) ≡ max (greatest_of fs) (greatest_of gs) = greatest-append fs gs in omega (arith, rest)

pub last_sent_with : (s : Seen) (earlier : List Seen) → last_sent (s ∷ earlier) ≡ max (greatest_of s.sent) (last_sent earlier)
last_sent_with s earlier = greatest-append s.sent (reaching_flights earlier)

pub last_sent_more : (s : Seen) (earlier : List Seen) → last_sent earlier ≤ last_sent (s ∷ earlier)
last_sent_more s earlier = omega (arith, last_sent_with s earlier)

-- flights whose numbers ascend from above the floor

pub sent_above : (floor : ℕ) (fs : List Flight) (f : Flight) → ascends (floor ∷ map (λ (g : Flight). g.number) fs) ≡ true → Contains fs f → floor < f.number
sent_above floor [] f up (k, within, at) = absurd (omega arith)
sent_above floor (g ∷ gs) f up (zero, within, at) =
    let same : g.number ≡ f.number = ap (λ (h : Flight). h.number) at in
    let above : floor + 1 ≤ g.number = leb-true (floor + 1) g.number (and_parts _ _ up).0 in
    omega (arith, same, above)
sent_above floor (g ∷ gs) f up (suc k, within, at) =
    let above : floor + 1 ≤ g.number = leb-true (floor + 1) g.number (and_parts _ _ up).0 in
    let rest : g.number < f.number = sent_above g.number gs f ((and_parts _ _ up).1) (k, omega (arith, within), at) in
    omega (arith, above, rest)

pub has_sent : (fs : List Flight) (f : Flight) → Contains fs f → list_any (λ g. nat_eq g.number f.number) fs ≡ true
has_sent fs f (k, within, at) = list_any_at (λ g. nat_eq g.number f.number) fs k f within (eq-eqb _ f.number (ap (λ (g : Flight). g.number) at))

pub has_not_sent : (floor n : ℕ) (fs : List Flight) → ascends (floor ∷ map (λ (g : Flight). g.number) fs) ≡ true → n ≤ floor
    → list_any (λ g. nat_eq g.number n) fs ≡ false
has_not_sent floor n [] up low = refl
has_not_sent floor n (g ∷ gs) up low =
    let above : floor + 1 ≤ g.number = leb-true (floor + 1) g.number (and_parts _ _ up).0 in
    or_from (nat_eq g.number n) (list_any (λ h. nat_eq h.number n) gs) (ne_eqb g.number n (λ e. omega (arith, above, low, e)))
    (has_not_sent g.number n gs ((and_parts _ _ up).1) (omega (arith, above, low)))

-- Dues and receipts

-- a flight that is due no sooner than the latest event is not overdue
pub not_overdue : (setting : Setting) (seen : List Seen) (f : Flight) → IsInOrder setting seen → latest_reference seen ≤ f.due → is_overdue seen f ≡ false
not_overdue setting [] f order late = refl
not_overdue setting (s ∷ earlier) f order late =
    or_from (nat_lt f.due (reference_of s.event)) (is_overdue earlier f) (le-ltb f.due (reference_of s.event) late)
    (not_overdue setting earlier f order.0 (omega (arith, late, time_rises setting earlier s.event order.1.allowed)))

pub taken_low : (taken : Option Flight) (n last : ℕ) → map_or taken true (λ f. nat_le f.number last) ≡ true
    → map_or taken false (λ f. nat_eq f.number n) ≡ true → n ≤ last
taken_low None n last low here = cc
taken_low (Some f) n last low here = omega (arith, leb-true f.number last low, eqb-true f.number n here)

-- what was received was sent before
pub received_low : (setting : Setting) (seen : List Seen) (n : ℕ) → IsInOrder setting seen → was_received seen n ≡ true → n ≤ last_sent seen
received_low setting [] n order was = cc
received_low setting (s ∷ earlier) n order was =
    by_case (or_cases (map_or s.taken false (λ f. nat_eq f.number n)) (was_received earlier n) was) (λ before. received_low setting earlier n order.0 before)
  where
    by_case : (map_or s.taken false (λ f. nat_eq f.number n) ≡ true) ⊎ (was_received earlier n ≡ true)
        → (was_received earlier n ≡ true → n ≤ last_sent earlier) → n ≤ last_sent (s ∷ earlier)
    by_case (inl here) rest = let low : n ≤ last_sent earlier = taken_low s.taken n (last_sent earlier) order.1.taken here in
        omega (arith, low, last_sent_more s earlier)
    by_case (inr before) rest = let low : n ≤ last_sent earlier = rest before in omega (arith, low, last_sent_more s earlier)
