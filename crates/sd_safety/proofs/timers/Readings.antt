-- Timer low and timer high for two readings of one life of a device: where the drift premise holds at each event, the counters' advance
-- bounds the references' advance from below and from above. By induction on what is seen.
use Rattle.std.specs.Prelude.{◌≡◌, ℕ, ◌-◌, Bool, true, false, ◌||◌, List, Option, Some, None}
use Rattle.std.specs.List.{list_all}
use Rattle.std.proofs.Common.{ap, subst}
use Rattle.sd_num.specs.Lists.{map_or}
use Rattle.sd_num.specs.Numbers.{keeps_rate}
use Rattle.sd_num.specs.declared.Rates.{Rates}
use Rattle.sd_plan.specs.topo.Network.{rates_of}
use Rattle.sd_num.proofs.Shared.{same_number-some}
use Rattle.sd_sched.specs.Events.{reference_of, device_of, counter_of}
use Rattle.sd_history.specs.World.{Setting, Seen, makes}
use Rattle.sd_history.specs.Premises.{readings, reads_honestly}
use Rattle.sd_history.proofs.Among.{Among, passes}

-- two readings keep the rates
abbrev pub Keeps : Rates → ℕ × ℕ → ℕ × ℕ → Type 0
Keeps rates new old = keeps_rate rates (new.1 - old.1) (new.0 - old.0) ≡ true

some_number : {x y : ℕ} → Some x ≡ Some y → x ≡ y
some_number {x = x} same = ap (λ o. map_or o x (λ z. z)) same

-- an honest event's reading keeps the rates with each reading before it
pub honest_reading : (setting : Setting) (s : Seen) (earlier : List Seen) (d c : ℕ) (x : ℕ × ℕ) → reads_honestly setting s earlier ≡ true
    → device_of s.event ≡ Some d → counter_of s.event ≡ Some c → makes d s.event ≡ false
    → Among x (readings earlier d) → Keeps (rates_of setting.net d) (reference_of s.event, c) x
honest_reading setting s earlier d c x honest same_number-some reads none a =
    passes (λ r. keeps_rate (rates_of setting.net d) (c - r.1) (reference_of s.event - r.0)) a
    (by_device (device_of s.event) same_number-some (by_counter (counter_of s.event) reads) honest)
  where
    not_made : (b all : Bool) → b ≡ false → (b || all) ≡ true → all ≡ true
    not_made true all none' h = cc
    not_made false all none' h = h

    by_counter : (o : Option ℕ) → o ≡ Some c
        → map_or o true
        (λ c'. makes d s.event || list_all (λ r. keeps_rate (rates_of setting.net d) (c' - r.1) (reference_of s.event - r.0)) (readings earlier d)) ≡ true
        → list_all (λ r. keeps_rate (rates_of setting.net d) (c - r.1) (reference_of s.event - r.0)) (readings earlier d) ≡ true
    by_counter None same h = cc
    by_counter (Some c') same h =
        not_made (makes d s.event) _ none
        (subst (λ n. (makes d s.event || list_all (λ r. keeps_rate (rates_of setting.net d) (n - r.1) (reference_of s.event - r.0)) (readings earlier d))
        ≡ true) (some_number same) h)

    by_device : (o : Option ℕ) → o ≡ Some d
        → (map_or (counter_of s.event) true (λ c'. makes d s.event
        || list_all (λ r. keeps_rate (rates_of setting.net d) (c' - r.1) (reference_of s.event - r.0)) (readings earlier d)) ≡ true
        → list_all (λ r. keeps_rate (rates_of setting.net d) (c - r.1) (reference_of s.event - r.0)) (readings earlier d) ≡ true)
        → map_or o true (λ d'.
        map_or (counter_of s.event) true (λ c'. makes d' s.event
        || list_all (λ r. keeps_rate (rates_of setting.net d') (c' - r.1) (reference_of s.event - r.0)) (readings earlier d'))) ≡ true
        → list_all (λ r. keeps_rate (rates_of setting.net d) (c - r.1) (reference_of s.event - r.0)) (readings earlier d) ≡ true
    by_device None same go h = cc
    by_device (Some d') same go h =
        go (subst (λ n. map_or (counter_of s.event) true (λ c'. makes n s.event
        || list_all (λ r. keeps_rate (rates_of setting.net n) (c' - r.1) (reference_of s.event - r.0)) (readings earlier n)) ≡ true)
        (some_number same) h)
