-- A moved history breaks the premises that the other breaks, each at the same event.
use Rattle.std.specs.Prelude.{◌≡◌, ℕ, ◌+◌, Bool, true, false, ◌&&◌, ◌||◌, not, List, [], ◌∷◌, ◌++◌, length, map, filter, filter_map, nat_eq, nat_le, nat_lt, Option, Some, None, is_some, option_map, option_to_list, refl, if◌then◌else◌}
use Rattle.std.specs.List.{list_any, list_all}
use Rattle.std.proofs.Common.{arith, sym, ◌∙◌, ap, eq-eqb}
use Rattle.std.proofs.lemmas.Bool.Decides.{nat_tests}
use Rattle.std.proofs.lemmas.List.{map-append}
use Rattle.std.proofs.lemmas.List.Folds.{list_all-map}
use mathlib.Core.Path.{fun_ext}
use Rattle.sd_num.specs.Lists.{has, map_or, same_number, leading}
use Rattle.sd_num.specs.Numbers.{keeps_rate}
use Rattle.sd_num.specs.declared.Rates.{Rates}
use Rattle.sd_plan.specs.topo.Network.{rates_of, delay_of, device_numbers, link_numbers}
use Rattle.sd_plan.specs.topo.Joined.{joined_within}
use Rattle.sd_plan.specs.declared.topo.Thing.TheVariants as thing
use Rattle.sd_plan.specs.domain.Domains.{within_one}
use Rattle.sd_plan.specs.Plans.{is_member, members}
use Rattle.sd_device.specs.declared.msg.Flight.{Flight}
use Rattle.sd_sched.specs.Honesty.{sets_true_clock, keeps_reading}
use Rattle.sd_sched.specs.Events.{reference_of, device_of, counter_of, joined, given, ticked, is_stage, is_seal}
use Rattle.sd_history.specs.Things.{failure_of, mended}
use Rattle.sd_history.specs.World.{Setting, Seen, makes, fails, is_up, is_untouched, plan_numbered}
use Rattle.sd_history.specs.Premises.{at_each, start_holds, readings, reads_honestly, drift_holds, is_in_time, arrives_in_time, delay_holds, latest_tick, is_current_member, first_reference, ticks_in_time, tick_holds, reaching_flights, was_received, is_overdue, was_interrupted, spoils, spoiled_rounds, all_from, loss_holds, failures_since_closing, fails_within_one, domain_holds, was_given, leaves_out_cleanly, leaves_out_failed, is_prepared, commits_orderly, has_seal, seals_orderly, has_mend, fails_orderly, begins_orderly, renew_holds, broken_in, newly, breaks}
use Rattle.sd_beside.specs.translation.Moves.{moved_flight}
use Rattle.sd_beside.proofs.translation.Lists.{any_mapped, leading_mapped, filter_mapped, map_mapped, kept_mapped}
use Rattle.sd_beside.proofs.translation.Pasts.{same_difference}
use Rattle.sd_beside.proofs.translation.Words.{EventWords, reference_moved, counter_moved, clock_same}
use Rattle.sd_beside.proofs.translation.Views.{Marked, plain_seen, moved_seens, seen_moved, words_same, makes_same, fails_same, any_same, up_same, failed_same, untouched_same, by_window_same, in_window_same, commit_same, joined_same, in_force_same, staged_same, staged_member_same, entered_same}
use Rattle.sd_beside.proofs.translation.Lives.{life_in, AreOfLives, life_kept}
use Rattle.sd_beside.proofs.translation.Readings.{maker_reads}

same_order : (a b c by : ℕ) → nat_le (a + by) (b + by + c) ≡ nat_le a (b + c)
same_order a b c by = grind (arith, nat_tests)

same_below : (a b by : ℕ) → nat_lt (a + by) (b + by) ≡ nat_lt a b
same_below a b by = grind (arith, nat_tests)

module _ (time : ℕ) where
  -- a test at each event

  each_same : (test : Seen → List Seen → Bool)
      → ((x : Marked) (earlier : List Marked) → test (seen_moved time x) (moved_seens time earlier) ≡ test x.step.seen (plain_seen earlier))
      → (xs : List Marked) → at_each test (moved_seens time xs) ≡ at_each test (plain_seen xs)
  each_same test same [] = refl
  each_same test same (x ∷ earlier) = λ i. each_same test same earlier i && same x earlier i

  all_same : (test : Seen → Bool) → ((x : Marked) → test (seen_moved time x) ≡ test x.step.seen) → (xs : List Marked)
      → list_all test (moved_seens time xs) ≡ list_all test (plain_seen xs)
  all_same test same xs =
      list_all-map test (seen_moved time) xs ∙ ap (λ (t : Marked → Bool). list_all t xs) (fun_ext same)
      ∙ sym (list_all-map test (λ (x : Marked). x.step.seen) xs)

  -- Start

  start_same : (xs : List Marked) → start_holds (moved_seens time xs) ≡ start_holds (plain_seen xs)
  start_same xs = all_same (λ s. sets_true_clock s.event) (λ x. clock_same time x.by x.step.seen.event) xs

  -- Drift: only here counters come in, so the numbers have to be those of lives.

  abbrev moved_reading : (by : ℕ) → ℕ × ℕ → ℕ × ℕ
  moved_reading by reading = (reading.0 + time, reading.1 + by)

  -- the readings of a device with those of an event
  abbrev with_reading : (named made : Bool) → (reference : ℕ) → (counter : Option ℕ) → List (ℕ × ℕ) → List (ℕ × ℕ)
  with_reading named made reference counter earlier =
      if named then (let here = option_to_list (option_map (λ c. (reference, c)) counter) in if made then here else here ++ earlier)
      else earlier

  module _ (lives : ℕ → ℕ → ℕ) where
    readings_moved : (xs : List Marked) → AreOfLives lives xs → (d : ℕ)
        → readings (moved_seens time xs) d ≡ map (moved_reading (lives d (life_in xs d))) (readings (plain_seen xs) d)
    readings_moved [] of_lives d = refl
    readings_moved (x ∷ earlier) of_lives d =
        (λ i. with_reading (same_number (words_same time x i).device d) (makes_same time d x i) (reference_moved time x.by x.step.seen.event i)
        (counter_moved time x.by x.step.seen.event i) (readings_moved earlier of_lives.0 d i))
        ∙ go (same_number (device_of x.step.seen.event) d) (makes d x.step.seen.event) refl refl
      where
        here : (by : ℕ) → x.by ≡ by → (counter : Option ℕ)
            → option_to_list (option_map (λ c. (reference_of x.step.seen.event + time, c)) (option_map (λ c. c + x.by) counter))
            ≡ map (moved_reading by) (option_to_list (option_map (λ c. (reference_of x.step.seen.event, c)) counter))
        here by is None = refl
        here by is (Some c) = ap (λ n. (reference_of x.step.seen.event + time, c + n) ∷ []) is

        number : same_number (device_of x.step.seen.event) d ≡ true → x.by ≡ lives d (life_in (x ∷ earlier) d)
        number names = of_lives.1.number d names

        kept : makes d x.step.seen.event ≡ false → lives d (life_in earlier d) ≡ lives d (life_in (x ∷ earlier) d)
        kept unmade = ap (lives d) (sym (life_kept x earlier d unmade))

        go : (named made : Bool) → same_number (device_of x.step.seen.event) d ≡ named → makes d x.step.seen.event ≡ made
            → with_reading named made (reference_of x.step.seen.event + time) (option_map (λ c. c + x.by) (counter_of x.step.seen.event))
            (map (moved_reading (lives d (life_in earlier d))) (readings (plain_seen earlier) d))
            ≡ map (moved_reading (lives d (life_in (x ∷ earlier) d)))
            (with_reading named made (reference_of x.step.seen.event) (counter_of x.step.seen.event) (readings (plain_seen earlier) d))
        go true true names makes' = here (lives d (life_in (x ∷ earlier) d)) (number names) (counter_of x.step.seen.event)
        go true false names makes' =
            (λ i. here (lives d (life_in (x ∷ earlier) d)) (number names) (counter_of x.step.seen.event) i
            ++ map (moved_reading (kept makes' i)) (readings (plain_seen earlier) d))
            ∙ sym (map-append (moved_reading (lives d (life_in (x ∷ earlier) d)))
            (option_to_list (option_map (λ c. (reference_of x.step.seen.event, c)) (counter_of x.step.seen.event))) (readings (plain_seen earlier) d))
        go false true names makes' = let named : same_number (device_of x.step.seen.event) d ≡ true = (maker_reads x.step.seen.event d makes').0 in cc
        go false false names makes' = ap (λ by. map (moved_reading by) (readings (plain_seen earlier) d)) (kept makes')

    keeps_same : (rates : Rates) (by : ℕ) (now before : ℕ × ℕ) → keeps_reading rates (moved_reading by now) (moved_reading by before) ≡ keeps_reading rates now before
    keeps_same rates by now before = λ i. keeps_rate rates (same_difference now.1 before.1 by i) (same_difference now.0 before.0 time i)

    reads_same : (setting : Setting) (x : Marked) (earlier : List Marked) → AreOfLives lives (x ∷ earlier)
        → reads_honestly setting (seen_moved time x) (moved_seens time earlier) ≡ reads_honestly setting x.step.seen (plain_seen earlier)
    reads_same setting x earlier of_lives =
        (λ i. map_or (words_same time x i).device true (λ d.
        map_or (counter_moved time x.by x.step.seen.event i) true (λ c.
        makes_same time d x i
        || list_all (keeps_reading (rates_of setting.net d) (reference_moved time x.by x.step.seen.event i, c)) (readings_moved earlier of_lives.0 d i))))
        ∙ go (device_of x.step.seen.event) (counter_of x.step.seen.event) refl
      where
        by_made : (d c : ℕ) (made : Bool) → device_of x.step.seen.event ≡ Some d → makes d x.step.seen.event ≡ made
            → (made || list_all (keeps_reading (rates_of setting.net d) (reference_of x.step.seen.event + time, c + x.by))
            (map (moved_reading (lives d (life_in earlier d))) (readings (plain_seen earlier) d)))
            ≡ (made || list_all (keeps_reading (rates_of setting.net d) (reference_of x.step.seen.event, c)) (readings (plain_seen earlier) d))
        by_made d c true named makes' = refl
        by_made d c false named makes' =
            ap (λ by. list_all (keeps_reading (rates_of setting.net d) (reference_of x.step.seen.event + time, c + by))
            (map (moved_reading (lives d (life_in earlier d))) (readings (plain_seen earlier) d)))
            (of_lives.1.number d (ap (λ o. same_number o d) named ∙ eq-eqb d d refl) ∙ ap (lives d) (life_kept x earlier d makes'))
            ∙ list_all-map (keeps_reading (rates_of setting.net d) (reference_of x.step.seen.event + time, c + lives d (life_in earlier d)))
            (moved_reading (lives d (life_in earlier d))) (readings (plain_seen earlier) d)
            ∙ ap (λ (t : ℕ × ℕ → Bool). list_all t (readings (plain_seen earlier) d))
            (fun_ext (keeps_same (rates_of setting.net d) (lives d (life_in earlier d)) (reference_of x.step.seen.event, c)))

        go : (o k : Option ℕ) → device_of x.step.seen.event ≡ o
            → map_or o true (λ d. map_or (option_map (λ c. c + x.by) k) true (λ c.
            makes d x.step.seen.event || list_all (keeps_reading (rates_of setting.net d) (reference_of x.step.seen.event + time, c))
            (map (moved_reading (lives d (life_in earlier d))) (readings (plain_seen earlier) d))))
            ≡ map_or o true (λ d. map_or k true (λ c.
            makes d x.step.seen.event || list_all (keeps_reading (rates_of setting.net d) (reference_of x.step.seen.event, c)) (readings (plain_seen earlier) d)))
        go None k named = refl
        go (Some d) None named = refl
        go (Some d) (Some c) named = by_made d c (makes d x.step.seen.event) named refl

    drift_same : (setting : Setting) (xs : List Marked) → AreOfLives lives xs → drift_holds setting (moved_seens time xs) ≡ drift_holds setting (plain_seen xs)
    drift_same setting [] of_lives = refl
    drift_same setting (x ∷ earlier) of_lives = λ i. drift_same setting earlier of_lives.0 i && reads_same setting x earlier of_lives i

  -- Delay

  in_time_same : (setting : Setting) (reference : ℕ) (f : Flight) → is_in_time setting (reference + time) (moved_flight time f) ≡ is_in_time setting reference f
  in_time_same setting reference f =
      λ i. let age = same_difference reference f.sent_at time i in
      nat_le (delay_of setting.net f.link f.receiver).min age && nat_le age (delay_of setting.net f.link f.receiver).max

  arrives_same : (setting : Setting) (x : Marked) → arrives_in_time setting (seen_moved time x) ≡ arrives_in_time setting x.step.seen
  arrives_same setting x =
      ap (λ r. map_or (option_map (moved_flight time) x.step.seen.taken) true (is_in_time setting r)) (reference_moved time x.by x.step.seen.event) ∙ go x.step.seen.taken
    where
      go : (o : Option Flight) → map_or (option_map (moved_flight time) o) true (is_in_time setting (reference_of x.step.seen.event + time))
          ≡ map_or o true (is_in_time setting (reference_of x.step.seen.event))
      go None = refl
      go (Some f) = in_time_same setting (reference_of x.step.seen.event) f

  delay_same : (setting : Setting) (xs : List Marked) → delay_holds setting (moved_seens time xs) ≡ delay_holds setting (plain_seen xs)
  delay_same setting xs = all_same (arrives_in_time setting) (arrives_same setting) xs

  -- Tick

  -- the latest tick of a device that is up: it was made
  tick_moved : (xs : List Marked) (d : ℕ) → is_up (plain_seen xs) d ≡ true → latest_tick (moved_seens time xs) d ≡ latest_tick (plain_seen xs) d + time
  tick_moved [] d up = cc
  tick_moved (x ∷ earlier) d up =
      (λ i. map_or (if same_number (words_same time x i).ticked d || makes_same time d x i then Some (reference_moved time x.by x.step.seen.event i) else None)
      (latest_tick (moved_seens time earlier) d) (λ told. told))
      ∙ go (same_number (ticked x.step.seen.event) d) (makes d x.step.seen.event) (fails (thing.Device d) x.step.seen.event) up (tick_moved earlier d)
    where
      go : (tick made failed : Bool) → map_or (if made then Some true else if failed then Some false else None) (is_up (plain_seen earlier) d) (λ told. told) ≡ true
          → (is_up (plain_seen earlier) d ≡ true → latest_tick (moved_seens time earlier) d ≡ latest_tick (plain_seen earlier) d + time)
          → map_or (if tick || made then Some (reference_of x.step.seen.event + time) else None) (latest_tick (moved_seens time earlier) d) (λ told. told)
          ≡ map_or (if tick || made then Some (reference_of x.step.seen.event) else None) (latest_tick (plain_seen earlier) d) (λ told. told) + time
      go true made failed is rest = refl
      go false true failed is rest = refl
      go false false true is rest = cc
      go false false false is rest = rest is

  first_moved : (earlier : List Marked) (x : Marked)
      → first_reference (moved_seens time earlier) (seen_moved time x) ≡ first_reference (plain_seen earlier) x.step.seen + time
  first_moved [] x = reference_moved time x.by x.step.seen.event
  first_moved (y ∷ earlier) x = first_moved earlier y

  current_member_same : (setting : Setting) (xs : List Marked) → is_current_member setting (moved_seens time xs) ≡ is_current_member setting (plain_seen xs)
  current_member_same setting xs = λ i. λ d. is_member (in_force_same time setting xs i) d || staged_member_same time setting xs i d

  ticks_same : (setting : Setting) (x : Marked) (earlier : List Marked)
      → ticks_in_time setting (seen_moved time x) (moved_seens time earlier) ≡ ticks_in_time setting x.step.seen (plain_seen earlier)
  ticks_same setting x earlier =
      (λ i. list_all (λ d. not (up_same time earlier i d && current_member_same setting earlier i d)
      || nat_le (reference_moved time x.by x.step.seen.event i) (latest_tick (moved_seens time earlier) d + setting.net.params.tick)) (device_numbers setting.net)
      && list_all (λ d. not (untouched_same time earlier i d)
      || nat_le (reference_moved time x.by x.step.seen.event i) (first_moved earlier x i + setting.net.params.tick)) (members setting.net (plan_numbered setting 1)))
      ∙ (λ i. list_all (λ d. due d (is_up (plain_seen earlier) d) (is_current_member setting (plain_seen earlier) d) refl i) (device_numbers setting.net)
      && list_all (λ d. not (is_untouched (plain_seen earlier) d)
      || same_order (reference_of x.step.seen.event) (first_reference (plain_seen earlier) x.step.seen) setting.net.params.tick time i)
      (members setting.net (plan_numbered setting 1)))
    where
      due : (d : ℕ) (up member : Bool) → is_up (plain_seen earlier) d ≡ up
          → (not (up && member) || nat_le (reference_of x.step.seen.event + time) (latest_tick (moved_seens time earlier) d + setting.net.params.tick))
          ≡ (not (up && member) || nat_le (reference_of x.step.seen.event) (latest_tick (plain_seen earlier) d + setting.net.params.tick))
      due d true true is =
          ap (λ t. nat_le (reference_of x.step.seen.event + time) (t + setting.net.params.tick)) (tick_moved earlier d is)
          ∙ same_order (reference_of x.step.seen.event) (latest_tick (plain_seen earlier) d) setting.net.params.tick time
      due d true false is = refl
      due d false member is = refl

  tick_same : (setting : Setting) (xs : List Marked) → tick_holds setting (moved_seens time xs) ≡ tick_holds setting (plain_seen xs)
  tick_same setting xs = each_same (ticks_in_time setting) (ticks_same setting) xs

  -- Loss

  reaching_moved : (xs : List Marked) → reaching_flights (moved_seens time xs) ≡ map (moved_flight time) (reaching_flights (plain_seen xs))
  reaching_moved [] = refl
  reaching_moved (x ∷ earlier) =
      ap (λ fs. map (moved_flight time) x.step.seen.sent ++ fs) (reaching_moved earlier)
      ∙ sym (map-append (moved_flight time) x.step.seen.sent (reaching_flights (plain_seen earlier)))

  received_same : (xs : List Marked) (n : ℕ) → was_received (moved_seens time xs) n ≡ was_received (plain_seen xs) n
  received_same xs n =
      any_same time (λ s. map_or s.taken false (λ f. nat_eq f.number n)) (λ s. map_or s.taken false (λ f. nat_eq f.number n)) (λ x. go x.step.seen.taken) xs
    where
      go : (o : Option Flight) → map_or (option_map (moved_flight time) o) false (λ f. nat_eq f.number n) ≡ map_or o false (λ f. nat_eq f.number n)
      go None = refl
      go (Some f) = refl

  late_same : (x : Marked) (f : Flight) → nat_lt (f.due + time) (reference_of (seen_moved time x).event) ≡ nat_lt f.due (reference_of x.step.seen.event)
  late_same x f = ap (nat_lt (f.due + time)) (reference_moved time x.by x.step.seen.event) ∙ same_below f.due (reference_of x.step.seen.event) time

  overdue_same : (xs : List Marked) (f : Flight) → is_overdue (moved_seens time xs) (moved_flight time f) ≡ is_overdue (plain_seen xs) f
  overdue_same xs f =
      any_same time (λ s. nat_lt (f.due + time) (reference_of s.event)) (λ s. nat_lt f.due (reference_of s.event)) (λ x. late_same x f) xs

  abbrev interrupts : Flight → Seen → Bool
  interrupts f s = fails (thing.Device f.sender) s.event || fails (thing.Device f.receiver) s.event || fails (thing.Link f.link) s.event

  interrupted_same : (xs : List Marked) (f : Flight) → was_interrupted (moved_seens time xs) (moved_flight time f) ≡ was_interrupted (plain_seen xs) f
  interrupted_same xs f =
      ap (list_any (interrupts f))
      (leading_mapped (seen_moved time) (λ s. not (list_any (λ g. nat_eq g.number f.number) s.sent)) still_unsent
      (λ x. ap not (any_mapped (moved_flight time) (λ g. nat_eq g.number f.number) (λ g. nat_eq g.number f.number) (λ g. refl) x.step.seen.sent)) xs)
      ∙ any_same time (interrupts f) (interrupts f)
      (λ x. λ i. fails_same time (thing.Device f.sender) x i || fails_same time (thing.Device f.receiver) x i || fails_same time (thing.Link f.link) x i)
      (leading still_unsent xs)
      ∙ ap (list_any (interrupts f))
      (sym (leading_mapped (λ (x : Marked). x.step.seen) (λ s. not (list_any (λ g. nat_eq g.number f.number) s.sent)) still_unsent (λ x. refl) xs))
    where
      still_unsent : Marked → Bool
      still_unsent = λ x. not (list_any (λ g. nat_eq g.number f.number) x.step.seen.sent)

  spoils_same : (xs : List Marked) (f : Flight) → spoils (moved_seens time xs) (moved_flight time f) ≡ spoils (plain_seen xs) f
  spoils_same [] f = refl
  spoils_same (x ∷ earlier) f =
      λ i. if overdue_same earlier f i then spoils_same earlier f i
      else late_same x f i && not (received_same (x ∷ earlier) f.number i) && not (interrupted_same (x ∷ earlier) f i)

  spoiled_same : (xs : List Marked) → spoiled_rounds (moved_seens time xs) ≡ spoiled_rounds (plain_seen xs)
  spoiled_same xs =
      ap (λ fs. map (λ f. f.message.stamp) (filter (spoils (moved_seens time xs)) fs)) (reaching_moved xs)
      ∙ ap (map (λ f. f.message.stamp))
      (filter_mapped (moved_flight time) (spoils (moved_seens time xs)) (spoils (plain_seen xs)) (spoils_same xs) (reaching_flights (plain_seen xs)))
      ∙ map_mapped (moved_flight time) (λ f. f.message.stamp) (λ f. f.message.stamp) (λ f. refl) (filter (spoils (plain_seen xs)) (reaching_flights (plain_seen xs)))

  loss_same : (setting : Setting) (xs : List Marked) → loss_holds setting (moved_seens time xs) ≡ loss_holds setting (plain_seen xs)
  loss_same setting xs =
      ap (λ rounds. list_all (λ r. not (all_from rounds r.term r.round (setting.net.params.loss + 1))) rounds) (spoiled_same xs)

  -- Domain

  failures_same : (xs : List Marked) → failures_since_closing (moved_seens time xs) ≡ failures_since_closing (plain_seen xs)
  failures_same xs =
      ap (filter_map (λ s. failure_of s.event)) (leading_mapped (seen_moved time) (λ s. not s.closed) (λ x. not x.step.seen.closed) (λ x. refl) xs)
      ∙ kept_mapped (seen_moved time) (λ s. failure_of s.event) (λ x. failure_of x.step.seen.event) (λ x. ap (λ (w : EventWords). w.failure) (words_same time x))
      (leading (λ x. not x.step.seen.closed) xs)
      ∙ sym (kept_mapped (λ (x : Marked). x.step.seen) (λ s. failure_of s.event) (λ x. failure_of x.step.seen.event) (λ x. refl)
      (leading (λ x. not x.step.seen.closed) xs))
      ∙ ap (filter_map (λ s. failure_of s.event)) (sym (leading_mapped (λ (x : Marked). x.step.seen) (λ s. not s.closed) (λ x. not x.step.seen.closed) (λ x. refl) xs))

  domain_same : (setting : Setting) (xs : List Marked) → domain_holds setting (moved_seens time xs) ≡ domain_holds setting (plain_seen xs)
  domain_same setting xs =
      each_same (fails_within_one setting)
      (λ x earlier. λ i. is_some (within_one setting.net (option_to_list (words_same time x i).failure ++ failures_same earlier i))) xs

  -- Renew

  -- the device was given its duty since its latest join, of these events
  abbrev given_since_joined : ℕ → List Seen → Bool
  given_since_joined d w = list_any (λ s. same_number (given s.event) d) (leading (λ s. not (same_number (joined s.event) d)) w)

  given_same : (xs : List Marked) → was_given (moved_seens time xs) ≡ was_given (plain_seen xs)
  given_same xs = fun_ext (λ d. by_window_same time false (given_since_joined d) (given_since_joined d) (in_window d) xs)
    where
      in_window : (d : ℕ) (w : List Marked) → given_since_joined d (moved_seens time w) ≡ given_since_joined d (plain_seen w)
      in_window d w =
          ap (list_any (λ s. same_number (given s.event) d))
          (leading_mapped (seen_moved time) (λ s. not (same_number (joined s.event) d)) (λ x. not (same_number (joined x.step.seen.event) d))
          (λ x. ap (λ (v : EventWords). not (same_number v.joined d)) (words_same time x)) w)
          ∙ any_same time (λ s. same_number (given s.event) d) (λ s. same_number (given s.event) d)
          (λ x. ap (λ (v : EventWords). same_number v.given d) (words_same time x)) (leading (λ x. not (same_number (joined x.step.seen.event) d)) w)
          ∙ ap (list_any (λ s. same_number (given s.event) d))
          (sym (leading_mapped (λ (x : Marked). x.step.seen) (λ s. not (same_number (joined s.event) d)) (λ x. not (same_number (joined x.step.seen.event) d)) (λ x. refl) w))

  out_cleanly_same : (setting : Setting) (xs : List Marked) → leaves_out_cleanly setting (moved_seens time xs) ≡ leaves_out_cleanly setting (plain_seen xs)
  out_cleanly_same setting xs =
      λ i. λ plan. list_all (λ d. not (up_same time xs i d && not (is_member plan d)
      && joined_within setting.net (up_same time xs i) (λ l. not (failed_same time xs i (thing.Link l))) (length setting.net.devices) d plan.root))
      (device_numbers setting.net)

  out_failed_same : (setting : Setting) (xs : List Marked) → leaves_out_failed setting (moved_seens time xs) ≡ leaves_out_failed setting (plain_seen xs)
  out_failed_same setting xs =
      λ i. λ plan. list_all (λ l. not (failed_same time xs i (thing.Link l)) || has plan.absent.links l) (link_numbers setting.net)

  prepared_same : (setting : Setting) (xs : List Marked) → is_prepared setting (moved_seens time xs) ≡ is_prepared setting (plain_seen xs)
  prepared_same setting xs =
      λ i. λ d. up_same time xs i d && given_same xs i d && (is_member (in_force_same time setting xs i) d || joined_same time xs i d)

  commits_same : (setting : Setting) (x : Marked) (earlier : List Marked)
      → commits_orderly setting (seen_moved time x) (moved_seens time earlier) ≡ commits_orderly setting x.step.seen (plain_seen earlier)
  commits_same setting x earlier =
      λ i. not (words_same time x i).is_commit
      || (x.step.seen.acted
      && map_or (staged_same time setting earlier i) true (λ plan.
      list_all (prepared_same setting earlier i) (members setting.net plan)
      && out_failed_same setting earlier i plan
      && out_cleanly_same setting earlier i plan))

  seal_same : (xs : List Marked) → has_seal (moved_seens time xs) ≡ has_seal (plain_seen xs)
  seal_same xs = in_window_same time (λ s. is_seal s.event) (λ x. ap (λ (w : EventWords). w.is_seal) (words_same time x)) xs

  seals_same : (setting : Setting) (x : Marked) (earlier : List Marked)
      → seals_orderly setting (seen_moved time x) (moved_seens time earlier) ≡ seals_orderly setting x.step.seen (plain_seen earlier)
  seals_same setting x earlier =
      λ i. not (words_same time x i).is_seal || seal_same earlier i
      || map_or (staged_same time setting earlier i) true (λ plan.
      list_all (λ d. not (up_same time earlier i d) || entered_same time earlier i d) (members setting.net plan))

  mend_same : (xs : List Marked) → has_mend (moved_seens time xs) ≡ has_mend (plain_seen xs)
  mend_same xs = in_window_same time (λ s. is_some (mended s.event)) (λ x. ap (λ (w : EventWords). is_some w.mended) (words_same time x)) xs

  fails_orderly_same : (x : Marked) (earlier : List Marked)
      → fails_orderly (seen_moved time x) (moved_seens time earlier) ≡ fails_orderly x.step.seen (plain_seen earlier)
  fails_orderly_same x earlier =
      λ i. not (is_some (words_same time x i).failure) || not (mend_same earlier i || commit_same time earlier i)

  begins_same : (setting : Setting) (x : Marked) (earlier : List Marked)
      → begins_orderly setting (seen_moved time x) (moved_seens time earlier) ≡ begins_orderly setting x.step.seen (plain_seen earlier)
  begins_same setting x earlier =
      λ i. not (is_some (words_same time x i).started && stages i)
      && map_or (words_same time x i).joined true (λ d. not (is_member (in_force_same time setting earlier i) d && untouched_same time earlier i d))
    where
      stages : list_any (λ s. is_stage s.event) (moved_seens time earlier) ≡ list_any (λ s. is_stage s.event) (plain_seen earlier)
      stages =
          any_same time (λ s. is_stage s.event) (λ s. is_stage s.event) (λ y. ap (λ (w : EventWords). w.is_stage) (words_same time y)) earlier

  renew_same : (setting : Setting) (xs : List Marked) → renew_holds setting (moved_seens time xs) ≡ renew_holds setting (plain_seen xs)
  renew_same setting xs =
      each_same (λ s earlier. commits_orderly setting s earlier && seals_orderly setting s earlier && fails_orderly s earlier && begins_orderly setting s earlier)
      (λ x earlier. λ i. commits_same setting x earlier i && seals_same setting x earlier i && fails_orderly_same x earlier i && begins_same setting x earlier i)
      xs

  -- All

  pub broken_same : (lives : ℕ → ℕ → ℕ) (setting : Setting) (xs : List Marked) → AreOfLives lives xs
      → broken_in setting (moved_seens time xs) ≡ broken_in setting (plain_seen xs)
  broken_same lives setting xs of_lives =
      λ i. record {
        start = not (start_same xs i);
        drift = not (drift_same lives setting xs of_lives i);
        delay = not (delay_same setting xs i);
        tick = not (tick_same setting xs i);
        loss = not (loss_same setting xs i);
        domain = not (domain_same setting xs i);
        renew = not (renew_same setting xs i);
      }

  pub breaks_same : (lives : ℕ → ℕ → ℕ) (setting : Setting) (xs : List Marked) → AreOfLives lives xs
      → breaks setting (moved_seens time xs) ≡ breaks setting (plain_seen xs)
  breaks_same lives setting [] of_lives = refl
  breaks_same lives setting (x ∷ earlier) of_lives =
      λ i. newly (broken_same lives setting earlier of_lives.0 i) (broken_same lives setting (x ∷ earlier) of_lives i)
