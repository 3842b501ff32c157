-- The flights that are sent are added one after the other.
use Rattle.std.proofs.Common.{◌≡◌, ℕ, suc, ◌+◌, ◌<◌, max, cond, List, [], ◌∷◌, length, map, get_or, drop, Option, Some, nat_eq, sym, ◌∙◌, ap, arith, add-one, drop-cons}
use Rattle.sd_num.specs.Lists.{greatest}
use Rattle.sd_device.specs.declared.msg.Flight.{Flight}
use Rattle.sd_monitors.specs.declared.loss.flights.WaitingFlight.{WaitingFlight}
use Rattle.sd_monitors.specs.loss.flights.Kept.{kept_of}
use Rattle.sd_monitors.specs.loss.rounds.Loss.{with_sent}

-- equal beginnings come to the same
pub with_sent_same : (fs : List Flight) (v w : ℕ → Option WaitingFlight) → ((n : ℕ) → v n ≡ w n) → (n : ℕ) → with_sent fs v n ≡ with_sent fs w n
with_sent_same [] v w same n = same n
with_sent_same (f ∷ fs) v w same n =
    with_sent_same fs (λ m. cond (nat_eq f.number m) (Some (kept_of f)) (v m)) (λ m. cond (nat_eq f.number m) (Some (kept_of f)) (w m))
    (λ m. ap (cond (nat_eq f.number m) (Some (kept_of f))) (same m)) n

-- the first of those that are left
first_left : (fs : List Flight) (i : ℕ) (f : Flight) → i < length fs → get_or fs i f ≡ f → drop i fs ≡ f ∷ drop (i + 1) fs
first_left fs i f within at = rw (add-one, drop-cons fs i f) (ap (λ g. g ∷ drop (suc i) fs) at)

-- what is left to add, after one more
pub with_sent_more : (fs : List Flight) (i : ℕ) (v w : ℕ → Option WaitingFlight) (f : Flight) → i < length fs → get_or fs i f ≡ f
    → ((n : ℕ) → w n ≡ cond (nat_eq f.number n) (Some (kept_of f)) (v n))
    → (n : ℕ) → with_sent (drop (i + 1) fs) w n ≡ with_sent (drop i fs) v n
with_sent_more fs i v w f within at is n =
    with_sent_same (drop (i + 1) fs) w (λ m. cond (nat_eq f.number m) (Some (kept_of f)) (v m)) is n ∙ sym (ap (λ gs. with_sent gs v n) (first_left fs i f within at))

abbrev pub greatest_of : List Flight → ℕ
greatest_of fs = greatest (map (λ f. f.number) fs)

-- and the greatest number
pub greatest_more : (fs : List Flight) (i last : ℕ) (f : Flight) → i < length fs → get_or fs i f ≡ f
    → max (max last f.number) (greatest_of (drop (i + 1) fs)) ≡ max last (greatest_of (drop i fs))
greatest_more fs i last f within at =
    let grouped : max (max last f.number) (greatest_of (drop (i + 1) fs)) ≡ max last (max f.number (greatest_of (drop (i + 1) fs))) = omega arith in
    grouped ∙ sym (ap (λ gs. max last (greatest_of gs)) (first_left fs i f within at))
