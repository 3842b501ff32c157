-- Counters that count from the latest start or join of their device: moved by the counter of that start or join, they are those of before.
use Rattle.std.specs.Prelude.{◌≡◌, ℕ, ◌+◌, ◌-◌, ◌≤◌, Bool, true, false, ◌||◌, List, [], ◌∷◌, nat_eq, Option, Some, None, is_some, refl, if◌then◌else◌}
use Rattle.std.proofs.Common.{arith, sym, ◌∙◌, ap, subst, cond, eqb-true, eq-eqb}
use Rattle.std.proofs.lemmas.List.Sums.{sum_by-cons}
use Rattle.sd_num.specs.Lists.{map_or, same_number}
use Rattle.sd_sched.specs.declared.Event.{Event}
use Rattle.sd_sched.specs.declared.Event.TheVariants as event
use Rattle.sd_sched.specs.Events.{device_of, counter_of}
use Rattle.sd_history.specs.World.{Setting, makes, latest_reading}
use Rattle.sd_history.specs.Steps.{seen_of}
use Rattle.sd_history.specs.Refusals.{makes_some}
use Rattle.sd_history.specs.Chronicle.{chronicle}
use Rattle.sd_history.specs.Admitted.{IsAdmitted}
use Rattle.sd_history.proofs.Readings.{not_falling, admitted_goes_forward}
use Rattle.sd_beside.specs.translation.Counters.{life_of, number_of, counter_moved, counters_moved, made_at, counter_lowered, counters_of_lives, NeverBelowMaking}
use Rattle.sd_beside.specs.translation.Laws.{SaysTheSame, LivesChangeNothing}
use Rattle.sd_beside.proofs.translation.Readings.{maker_reads}
use Rattle.sd_beside.proofs.translation.Laws.{counters_moved_change_nothing}

-- Events

lowered_device : (by : ℕ) (e : Event) → device_of (counter_lowered by e) ≡ device_of e
lowered_device by (event.Start reference device counter clock eps) = refl
lowered_device by _ = refl

lowered_makes : (by d : ℕ) (e : Event) → makes d (counter_lowered by e) ≡ makes d e
lowered_makes by d (event.Start reference device counter clock eps) = refl
lowered_makes by d _ = refl

back : (by counter : ℕ) → by ≤ counter → (counter - by) + by ≡ counter
back by counter le = omega (arith, le)

lowered_and_moved : (by : ℕ) (e : Event) → ((c : ℕ) → counter_of e ≡ Some c → by ≤ c) → counter_moved by (counter_lowered by e) ≡ e
lowered_and_moved by (event.Start reference device counter clock eps) le = ap (λ c. event.Start reference device c clock eps) (back by counter (le counter refl))
lowered_and_moved by (event.Tick reference device counter) le = ap (λ c. event.Tick reference device c) (back by counter (le counter refl))
lowered_and_moved by (event.Recv reference device counter message) le = ap (λ c. event.Recv reference device c message) (back by counter (le counter refl))
lowered_and_moved by (event.Fix reference device counter clock eps) le = ap (λ c. event.Fix reference device c clock eps) (back by counter (le counter refl))
lowered_and_moved by (event.Ask reference device counter) le = ap (λ c. event.Ask reference device c) (back by counter (le counter refl))
lowered_and_moved by (event.Commit reference device counter) le = ap (λ c. event.Commit reference device c) (back by counter (le counter refl))
lowered_and_moved by (event.Join reference device counter clock eps) le = ap (λ c. event.Join reference device c clock eps) (back by counter (le counter refl))
lowered_and_moved by _ le = refl

-- an event that names a device makes it where it makes some device
makes_named : (e : Event) (d : ℕ) → same_number (device_of e) d ≡ true → makes_some e ≡ makes d e
makes_named (event.Start reference device counter clock eps) d named = ap (λ b. b || false) (sym named)
makes_named (event.Join reference device counter clock eps) d named = sym named
makes_named _ d named = refl

-- Lives

life_step : (e : Event) (earlier : List Event) (d : ℕ) → life_of (e ∷ earlier) d ≡ cond (makes d e) 1 0 + life_of earlier d
life_step e earlier d = sum_by-cons (λ (f : Event). cond (makes d f) 1 0) e earlier

life_grows : (e : Event) (earlier : List Event) (d : ℕ) → life_of earlier d ≤ life_of (e ∷ earlier) d
life_grows e earlier d = go (makes d e) (life_step e earlier d)
  where
    go : (b : Bool) → life_of (e ∷ earlier) d ≡ cond b 1 0 + life_of earlier d → life_of earlier d ≤ life_of (e ∷ earlier) d
    go true is = omega (arith, is)
    go false is = omega (arith, is)

lowered_life : (events : List Event) (d : ℕ) → life_of (counters_of_lives events) d ≡ life_of events d
lowered_life [] d = refl
lowered_life (e ∷ earlier) d =
    life_step (counter_lowered (map_or (device_of e) 0 (made_at (e ∷ earlier))) e) (counters_of_lives earlier) d
    ∙ (λ i. cond (lowered_makes (map_or (device_of e) 0 (made_at (e ∷ earlier))) d e i) 1 0 + lowered_life earlier d i)
    ∙ sym (life_step e earlier d)

-- The numbers: of each life the counter at its start or join.

numbers : List Event → ℕ → ℕ → ℕ
numbers [] d life = 0
numbers (e ∷ earlier) d life = if nat_eq life (life_of (e ∷ earlier) d) then made_at (e ∷ earlier) d else numbers earlier d life

-- the numbers are those of the lives, after each event
abbrev Fit : (ℕ → ℕ → ℕ) → List Event → Type 0
Fit by [] = Unit {0}
Fit by (e ∷ earlier) = Fit by earlier × ((d : ℕ) → by d (life_of (e ∷ earlier) d) ≡ made_at (e ∷ earlier) d)

fit_more : (by more : ℕ → ℕ → ℕ) (events : List Event) → ((d life : ℕ) → life ≤ life_of events d → more d life ≡ by d life) → Fit by events → Fit more events
fit_more by more [] same fit = tt
fit_more by more (e ∷ earlier) same fit = (
  fit_more by more earlier (λ d life le. same d life (omega (arith, le, life_grows e earlier d))) fit.0,
  λ d. same d (life_of (e ∷ earlier) d) (omega arith) ∙ fit.1 d,
)

number_now : (events : List Event) (d : ℕ) → numbers events d (life_of events d) ≡ made_at events d
unfolding numbers
number_now [] d = refl
number_now (e ∷ earlier) d =
    ap (λ b. if b then made_at (e ∷ earlier) d else numbers earlier d (life_of (e ∷ earlier) d))
    (eq-eqb (life_of (e ∷ earlier) d) (life_of (e ∷ earlier) d) refl)

-- earlier lives keep their numbers
number_kept : (e : Event) (earlier : List Event) (d life : ℕ) → life ≤ life_of earlier d → numbers (e ∷ earlier) d life ≡ numbers earlier d life
unfolding numbers
number_kept e earlier d life le = go (nat_eq life (life_of (e ∷ earlier) d)) refl
  where
    present : (made : Bool) → makes d e ≡ made → life ≡ life_of (e ∷ earlier) d → made_at (e ∷ earlier) d ≡ numbers earlier d life
    present true makes' is =
        let step : life_of (e ∷ earlier) d ≡ 1 + life_of earlier d = life_step e earlier d ∙ ap (λ b. cond b 1 0 + life_of earlier d) makes' in
        absurd (omega (arith, le, is, step))
    present false makes' is =
        let step : life_of (e ∷ earlier) d ≡ 0 + life_of earlier d = life_step e earlier d ∙ ap (λ b. cond b 1 0 + life_of earlier d) makes' in
        let same : life_of earlier d ≡ life = omega (arith, is, step) in
        ap (λ b. map_or (if b then counter_of e else None) (made_at earlier d) (λ told. told)) makes'
        ∙ sym (number_now earlier d) ∙ ap (numbers earlier d) same

    go : (b : Bool) → nat_eq life (life_of (e ∷ earlier) d) ≡ b → (if b then made_at (e ∷ earlier) d else numbers earlier d life) ≡ numbers earlier d life
    go true is = present (makes d e) refl (eqb-true life (life_of (e ∷ earlier) d) is)
    go false is = refl

fit : (events : List Event) → Fit (numbers events) events
fit [] = tt
fit (e ∷ earlier) = (fit_more (numbers earlier) (numbers (e ∷ earlier)) earlier (number_kept e earlier) (fit earlier), number_now (e ∷ earlier))

-- moved by these numbers, the counters are those of before
restored : (by : ℕ → ℕ → ℕ) (events : List Event) → Fit by events → NeverBelowMaking events → counters_moved by (counters_of_lives events) ≡ events
restored by [] fit' never = refl
restored by (e ∷ earlier) fit' never =
    λ i. (ap (λ n. counter_moved n (counter_lowered off e)) number ∙ lowered_and_moved off e (least (device_of e) refl)) i ∷ restored by earlier fit'.0 never.0 i
  where
    off : ℕ
    off = map_or (device_of e) 0 (made_at (e ∷ earlier))

    number : number_of by (counters_of_lives (e ∷ earlier)) ≡ off
    number = λ i. map_or (lowered_device off e i) 0 (λ d. (ap (by d) (lowered_life (e ∷ earlier) d) ∙ fit'.1 d) i)

    least : (o : Option ℕ) → device_of e ≡ o → (c : ℕ) → counter_of e ≡ Some c → map_or o 0 (made_at (e ∷ earlier)) ≤ c
    least None named c reads = omega arith
    least (Some d) named c reads = never.1 d c (ap (λ o. same_number o d) named ∙ eq-eqb d d refl) reads

-- counters of lives change nothing
pub counters_of_lives_change_nothing : (setting : Setting) → LivesChangeNothing setting
counters_of_lives_change_nothing setting events never =
    back_again (subst (λ (one : List Event). SaysTheSame setting one (counters_of_lives events)) (restored (numbers events) events (fit events) never)
    (counters_moved_change_nothing setting (numbers events) (counters_of_lives events)))
  where
    back_again : SaysTheSame setting events (counters_of_lives events) → SaysTheSame setting (counters_of_lives events) events
    back_again h =
        record {
          admitted = (h.admitted.1, h.admitted.0);
          accepted = (h.accepted.1, h.accepted.0);
          told = sym h.told;
          flights = sym h.flights;
          lines = sym h.lines;
          reports = sym h.reports;
          broken = sym h.broken;
        }

-- In an admitted history no counter is below that of the latest making.

-- the counter at the latest making is no greater than the latest reading
below_reading : (setting : Setting) (events : List Event) → IsAdmitted setting events → (d : ℕ) → made_at events d ≤ latest_reading (seen_of (chronicle setting events)) d
below_reading setting [] is d = omega arith
below_reading setting (e ∷ earlier) is d =
    go (makes d e) (same_number (device_of e) d) (counter_of e) refl refl refl (below_reading setting earlier is.0 d)
  where
    go : (made named : Bool) (counter : Option ℕ) → makes d e ≡ made → same_number (device_of e) d ≡ named → counter_of e ≡ counter
        → made_at earlier d ≤ latest_reading (seen_of (chronicle setting earlier)) d
        → map_or (if made then counter else None) (made_at earlier d) (λ told. told)
        ≤ map_or (if named then counter else None) (latest_reading (seen_of (chronicle setting earlier)) d) (λ told. told)
    go true true (Some c) makes' names reads before = omega arith
    go true true None makes' names reads before =
        let some : is_some (counter_of e) ≡ true = (maker_reads e d makes').1 in
        let none : is_some (counter_of e) ≡ false = ap is_some reads in
        cc
    go true false counter makes' names reads before = let named : same_number (device_of e) d ≡ true = (maker_reads e d makes').0 in cc
    go false true (Some c) makes' names reads before =
        let rises : latest_reading (seen_of (chronicle setting earlier)) d ≤ c =
        not_falling (makes_some e) (device_of e) (counter_of e) (latest_reading (seen_of (chronicle setting earlier)))
        (admitted_goes_forward setting (chronicle setting earlier) e is.1) (makes_named e d names ∙ makes') d c names reads in
        omega (arith, before, rises)
    go false true None makes' names reads before = before
    go false false counter makes' names reads before = before

pub admitted_never_below : (setting : Setting) (events : List Event) → IsAdmitted setting events → NeverBelowMaking events
admitted_never_below setting [] is = tt
admitted_never_below setting (e ∷ earlier) is = (admitted_never_below setting earlier is.0, least)
  where
    least : (d c : ℕ) → same_number (device_of e) d ≡ true → counter_of e ≡ Some c → made_at (e ∷ earlier) d ≤ c
    least d c named reads =
        subst (λ reading. made_at (e ∷ earlier) d ≤ reading)
        ((λ i. map_or (if named i then reads i else None) (latest_reading (seen_of (chronicle setting earlier)) d) (λ told. told)))
        (below_reading setting (e ∷ earlier) is d)
