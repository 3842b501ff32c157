-- One number for each thing tells which flights its failures interrupted.
use Rattle.std.proofs.Common.{◌≡◌, ℕ, ◌<◌, ◌≤◌, Bool, true, false, cond, ◌||◌, List, [], ◌∷◌, nat_le, ◌⊎◌, inl, inr, refl, sym, ◌∙◌, ap, arith}
use Rattle.std.specs.List.{Contains, list_any}
use Rattle.std.proofs.lemmas.Bool.{cond_both, le-leb, lt-leb}
use Rattle.std.proofs.lemmas.List.Elements.{Contains-append_cases}
use Rattle.sd_plan.specs.declared.topo.Thing.{Thing}
use Rattle.sd_plan.specs.declared.topo.Thing.TheVariants as thing
use Rattle.sd_device.specs.declared.msg.Flight.{Flight}
use Rattle.sd_history.specs.World.{Setting, Seen, fails}
use Rattle.sd_history.specs.Premises.{reaching_flights, seen_since_sending, was_interrupted}
use Rattle.sd_monitors.specs.loss.rounds.Order.{last_sent, IsInOrder}
use Rattle.sd_monitors.specs.loss.flights.Kept.{kept_of}
use Rattle.sd_monitors.specs.loss.flights.Interrupted.{is_interrupted}
use Rattle.sd_monitors.specs.loss.rounds.Loss.{mark_in}
use Rattle.sd_monitors.proofs.loss.rounds.InOrder.{last_sent_more, le_greatest, sent_above, has_sent, has_not_sent}

-- the number is below all that are sent with the latest event
mark_before : (s : Seen) (earlier : List Seen) (x : Thing) → mark_in earlier x ≤ last_sent earlier → mark_in (s ∷ earlier) x ≤ last_sent earlier
mark_before s earlier x low = cond_both (fails x s.event) (last_sent earlier) (mark_in earlier x) (λ n. n ≤ last_sent earlier) (λ e. omega arith) (λ e. low)

mark_low : (seen : List Seen) (x : Thing) → mark_in seen x ≤ last_sent seen
mark_low [] x = omega arith
mark_low (s ∷ earlier) x =
    let before : mark_in (s ∷ earlier) x ≤ last_sent earlier = mark_before s earlier x (mark_low earlier x) in
    omega (arith, before, last_sent_more s earlier)

by_failure : (b rest : Bool) (n last before : ℕ) → n ≤ last → rest ≡ nat_le n before → (b || rest) ≡ nat_le n (cond b last before)
by_failure true rest n last before low same = sym (le-leb n last low)
by_failure false rest n last before low same = same

-- whether the thing failed after the flight was sent
failed_since : (setting : Setting) (seen : List Seen) (f : Flight) (x : Thing) → IsInOrder setting seen → Contains (reaching_flights seen) f
    → list_any (λ s. fails x s.event) (seen_since_sending seen f.number) ≡ nat_le f.number (mark_in seen x)
failed_since setting [] f x order (k, within, at) = absurd (omega arith)
failed_since setting (s ∷ earlier) f x order sent =
    by_place (Contains-append_cases s.sent (reaching_flights earlier) f sent) (λ before. failed_since setting earlier f x order.0 before)
  where
    by_place : Contains s.sent f ⊎ Contains (reaching_flights earlier) f
        → (Contains (reaching_flights earlier) f → list_any (λ e. fails x e.event) (seen_since_sending earlier f.number) ≡ nat_le f.number (mark_in earlier x))
        → list_any (λ e. fails x e.event) (seen_since_sending (s ∷ earlier) f.number) ≡ nat_le f.number (mark_in (s ∷ earlier) x)
    by_place (inl now) rest =
        let above : last_sent earlier < f.number = sent_above (last_sent earlier) s.sent f order.1.numbers now in
        let low : mark_in (s ∷ earlier) x ≤ last_sent earlier = mark_before s earlier x (mark_low earlier x) in
        rw (has_sent s.sent f now) (sym (lt-leb f.number (mark_in (s ∷ earlier) x) (omega (arith, above, low))))
    by_place (inr before) rest =
        let low : f.number ≤ last_sent earlier = le_greatest (reaching_flights earlier) f before in
        rw (has_not_sent (last_sent earlier) f.number s.sent order.1.numbers low)
        (by_failure (fails x s.event) (list_any (λ e. fails x e.event) (seen_since_sending earlier f.number)) f.number (last_sent earlier) (mark_in earlier x) low
        (rest before))

either : (a b c d : Bool) → ((a || b) || (c || d)) ≡ ((a || c) || (b || d))
either true b c d = refl
either false true true d = refl
either false true false d = refl
either false false c d = refl

any_either : (p q : Seen → Bool) (xs : List Seen) → list_any (λ s. p s || q s) xs ≡ (list_any p xs || list_any q xs)
any_either p q [] = refl
any_either p q (s ∷ xs) = ap (λ b. (p s || q s) || b) (any_either p q xs) ∙ either (p s) (q s) (list_any p xs) (list_any q xs)

-- a flight was interrupted where it is cut by these numbers
pub was_interrupted_by : (setting : Setting) (seen : List Seen) (f : Flight) → IsInOrder setting seen → Contains (reaching_flights seen) f
    → was_interrupted seen f ≡ is_interrupted (mark_in seen) (kept_of f)
was_interrupted_by setting seen f order sent =
    let since = seen_since_sending seen f.number in
    let by : Thing → Seen → Bool = λ x s. fails x s.event in
    let sender = thing.Device f.sender in
    let receiver = thing.Device f.receiver in
    let link = thing.Link f.link in
    any_either (λ s. by sender s || by receiver s) (by link) since
    ∙ ap (λ b. b || list_any (by link) since) (any_either (by sender) (by receiver) since)
    ∙ ap (λ b. (b || list_any (by receiver) since) || list_any (by link) since) (failed_since setting seen f sender order sent)
    ∙ ap (λ b. (nat_le f.number (mark_in seen sender) || b) || list_any (by link) since) (failed_since setting seen f receiver order sent)
    ∙ ap (λ b. (nat_le f.number (mark_in seen sender) || nat_le f.number (mark_in seen receiver)) || b) (failed_since setting seen f link order sent)
