-- The latest reading of a device that is up, and when a counter falls.
use Rattle.std.specs.Prelude.{◌≡◌, ℕ, ◌+◌, Bool, true, false, ◌&&◌, ◌||◌, not, List, [], ◌∷◌, ◌⊎◌, nat_eq, nat_lt, Option, Some, None, is_some, option_map, refl, if◌then◌else◌}
use Rattle.std.proofs.Common.{arith, sym, ◌∙◌, ap, subst, inl, inr, eq-eqb}
use Rattle.std.proofs.lemmas.Bool.Decides.{nat_tests}
use Rattle.sd_num.specs.Lists.{map_or, same_number}
use Rattle.sd_plan.specs.declared.topo.Thing.TheVariants as thing
use Rattle.sd_sched.specs.declared.Event.{Event}
use Rattle.sd_sched.specs.declared.Event.TheVariants as event
use Rattle.sd_sched.specs.Events.{device_of, counter_of}
use Rattle.sd_history.specs.Things.{failure_of, mended}
use Rattle.sd_history.specs.World.{makes, fails, is_up, latest_reading}
use Rattle.sd_history.specs.Refusals.{makes_some, counter_falls, not_started}
use Rattle.sd_history.proofs.Known.{up_case}
use Rattle.sd_beside.specs.translation.Moves.{moved_event}
use Rattle.sd_beside.proofs.translation.Lists.{MovedOrNone}
use Rattle.sd_beside.proofs.translation.Words.{words_of, same_words, counter_moved}
use Rattle.sd_beside.proofs.translation.Views.{Marked, plain_seen, moved_seens, words_same}
use Rattle.sd_beside.proofs.translation.Lives.{life_in, AreOfLives, life_kept}

-- Events

-- an event that makes a device names it, and is a reading
pub maker_reads : (e : Event) (d : ℕ) → makes d e ≡ true → (same_number (device_of e) d ≡ true) × (is_some (counter_of e) ≡ true)
maker_reads (event.Start reference device counter clock eps) d made = (alone (nat_eq device d) made, refl)
  where
    alone : (b : Bool) → (b || false) ≡ true → b ≡ true
    alone true is = refl
    alone false is = is
maker_reads (event.Join reference device counter clock eps) d made = (made, refl)
maker_reads _ d made = cc

-- an event that makes some device does, and no other
unmade : (e : Event) (d : ℕ) → makes_some e ≡ false → makes d e ≡ false
unmade (event.Start reference device counter clock eps) d is = cc
unmade (event.Join reference device counter clock eps) d is = cc
unmade _ d is = refl

-- a reading neither fails nor mends a thing
reading_changes_none : (e : Event) → is_some (counter_of e) ≡ true → (is_some (failure_of e) || is_some (mended e)) ≡ false
reading_changes_none (event.Start reference device counter clock eps) is = refl
reading_changes_none (event.Tick reference device counter) is = refl
reading_changes_none (event.Recv reference device counter message) is = refl
reading_changes_none (event.Fix reference device counter clock eps) is = refl
reading_changes_none (event.Ask reference device counter) is = refl
reading_changes_none (event.Commit reference device counter) is = refl
reading_changes_none (event.Join reference device counter clock eps) is = refl
reading_changes_none _ is = cc

-- counters below the latest reading

pub below_moved : (n m m' by : ℕ) → (m' ≡ m + by) ⊎ ((m' ≡ 0) × (m ≡ 0)) → nat_lt (n + by) m' ≡ nat_lt n m
below_moved n m m' by (inl moved) = grind (arith, nat_tests, moved)
below_moved n m m' by (inr none) = grind (arith, nat_tests, none.0, none.1)

-- Where a counter falls, of devices alone that are up if the numbers are those of lives, and of all where each device has one number.
module _ (time : ℕ) (lives : ℕ → ℕ → ℕ) where
  -- the latest reading of a device that is up
  pub reading_moved : (xs : List Marked) → AreOfLives lives xs → (d : ℕ) → is_up (plain_seen xs) d ≡ true
      → latest_reading (moved_seens time xs) d ≡ latest_reading (plain_seen xs) d + lives d (life_in xs d)
  reading_moved [] of_lives d up = cc
  reading_moved (x ∷ earlier) of_lives d up =
      (λ i. map_or (if same_number (words_same time x i).device d then counter_moved time x.by x.step.seen.event i else None) (latest_reading (moved_seens time earlier) d)
      (λ told. told))
      ∙ go (same_number (device_of x.step.seen.event) d) (counter_of x.step.seen.event) (makes d x.step.seen.event) refl refl refl
      (reading_moved earlier of_lives.0 d)
    where
      -- it was up before, in the same life
      before : makes d x.step.seen.event ≡ false
          → (is_up (plain_seen earlier) d ≡ true → latest_reading (moved_seens time earlier) d ≡ latest_reading (plain_seen earlier) d + lives d (life_in earlier d))
          → latest_reading (moved_seens time earlier) d ≡ latest_reading (plain_seen earlier) d + lives d (life_in (x ∷ earlier) d)
      before unmade' rest =
          rest (up_case (makes d x.step.seen.event) (fails (thing.Device d) x.step.seen.event) (is_up (plain_seen earlier) d) up unmade')
          ∙ ap (λ n. latest_reading (plain_seen earlier) d + lives d n) (sym (life_kept x earlier d unmade'))

      go : (named : Bool) (counter : Option ℕ) (made : Bool) → same_number (device_of x.step.seen.event) d ≡ named → counter_of x.step.seen.event ≡ counter
          → makes d x.step.seen.event ≡ made
          → (is_up (plain_seen earlier) d ≡ true → latest_reading (moved_seens time earlier) d ≡ latest_reading (plain_seen earlier) d + lives d (life_in earlier d))
          → map_or (if named then option_map (λ c. c + x.by) counter else None) (latest_reading (moved_seens time earlier) d) (λ told. told)
          ≡ map_or (if named then counter else None) (latest_reading (plain_seen earlier) d) (λ told. told) + lives d (life_in (x ∷ earlier) d)
      go true (Some c) made names reads makes' rest = ap (λ n. c + n) (of_lives.1.number d names)
      go true None true names reads makes' rest =
          let some : is_some (counter_of x.step.seen.event) ≡ true = (maker_reads x.step.seen.event d makes').1 in
          let none : is_some (counter_of x.step.seen.event) ≡ false = ap is_some reads in
          cc
      go true None false names reads makes' rest = before makes' rest
      go false counter true names reads makes' rest =
          let named : same_number (device_of x.step.seen.event) d ≡ true = (maker_reads x.step.seen.event d makes').0 in
          cc
      go false counter false names reads makes' rest = before makes' rest

  -- a counter falls below the latest reading of a device that is up where it did before
  pub falls_of_life : (xs : List Marked) → AreOfLives lives xs → (by : ℕ) (e : Event)
      → ((d : ℕ) → same_number (device_of e) d ≡ true → makes d e ≡ false → by ≡ lives d (life_in xs d))
      → not_started (plain_seen xs) e ≡ false → counter_falls (moved_seens time xs) (moved_event time by e) ≡ counter_falls (plain_seen xs) e
  falls_of_life xs of_lives by e number started' =
      (λ i. not (is_some (same_words time by e i).started || is_some (same_words time by e i).joined)
      && map_or (same_words time by e i).device false (λ d. map_or (counter_moved time by e i) false (λ c. nat_lt c (latest_reading (moved_seens time xs) d))))
      ∙ go (makes_some e) (device_of e) (counter_of e) refl refl refl
    where
      up_of : (a b up : Bool) → b ≡ false → a ≡ false → (not (a || b) && not up) ≡ false → up ≡ true
      up_of a b true none some is = refl
      up_of a b false none some is =
          let both : (a || b) ≡ false = rw (none, some) refl in
          let all : (not (a || b) && true) ≡ true = rw both refl in
          cc

      up : (d c : ℕ) → makes_some e ≡ false → device_of e ≡ Some d → counter_of e ≡ Some c → is_up (plain_seen xs) d ≡ true
      up d c some named reads =
          up_of (makes_some e) (is_some (failure_of e) || is_some (mended e)) (is_up (plain_seen xs) d)
          (reading_changes_none e (ap is_some reads)) some
          (regroup (makes_some e) (is_some (failure_of e)) (is_some (mended e)) (not (is_up (plain_seen xs) d))
          ∙ ap (λ o. not (makes_some e || is_some (failure_of e) || is_some (mended e)) && map_or o false (λ x. not (is_up (plain_seen xs) x))) (sym named) ∙ started')
        where
          regroup : (a b c' u : Bool) → (not (a || (b || c')) && u) ≡ (not (a || b || c') && u)
          regroup true b c' u = refl
          regroup false b c' u = refl

      go : (some : Bool) (o k : Option ℕ) → makes_some e ≡ some → device_of e ≡ o → counter_of e ≡ k
          → (not some && map_or o false (λ d. map_or (option_map (λ c. c + by) k) false (λ c. nat_lt c (latest_reading (moved_seens time xs) d))))
          ≡ (not some && map_or o false (λ d. map_or k false (λ c. nat_lt c (latest_reading (plain_seen xs) d))))
      go true o k some named reads = refl
      go false None k some named reads = refl
      go false (Some d) None some named reads = refl
      go false (Some d) (Some c) some named reads =
          (λ i. nat_lt (c + number d (ap (λ o. same_number o d) named ∙ eq-eqb d d refl) (unmade e d some) i) (latest_reading (moved_seens time xs) d))
          ∙ below_moved c (latest_reading (plain_seen xs) d) (latest_reading (moved_seens time xs) d) (lives d (life_in xs d))
          (inl (reading_moved xs of_lives d (up d c some named reads)))

-- Where each device has one number for all of its lives, a counter falls where it did before, whether its device is up or not.
module _ (time : ℕ) (number : ℕ → ℕ) where
  reading_of_device : (xs : List Marked) → AreOfLives (λ d life. number d) xs → (d : ℕ)
      → MovedOrNone (number d) (latest_reading (moved_seens time xs) d) (latest_reading (plain_seen xs) d)
  reading_of_device [] of_lives d = inr (refl, refl)
  reading_of_device (x ∷ earlier) of_lives d =
      subst (λ reading. MovedOrNone (number d) reading (latest_reading (plain_seen (x ∷ earlier)) d)) (sym words)
      (go (same_number (device_of x.step.seen.event) d) (counter_of x.step.seen.event) refl (reading_of_device earlier of_lives.0 d))
    where
      words : latest_reading (moved_seens time (x ∷ earlier)) d
          ≡ map_or (if same_number (device_of x.step.seen.event) d then option_map (λ c. c + x.by) (counter_of x.step.seen.event) else None)
          (latest_reading (moved_seens time earlier) d) (λ told. told)
      words =
          λ i. map_or (if same_number (words_same time x i).device d then counter_moved time x.by x.step.seen.event i else None)
          (latest_reading (moved_seens time earlier) d) (λ told. told)

      go : (named : Bool) (counter : Option ℕ) → same_number (device_of x.step.seen.event) d ≡ named
          → MovedOrNone (number d) (latest_reading (moved_seens time earlier) d) (latest_reading (plain_seen earlier) d)
          → MovedOrNone (number d) (map_or (if named then option_map (λ c. c + x.by) counter else None) (latest_reading (moved_seens time earlier) d) (λ told. told))
          (map_or (if named then counter else None) (latest_reading (plain_seen earlier) d) (λ told. told))
      go true (Some c) names rest = inl (ap (λ n. c + n) (of_lives.1.number d names))
      go true None names rest = rest
      go false counter names rest = rest

  pub falls_of_device : (xs : List Marked) → AreOfLives (λ d life. number d) xs → (e : Event)
      → counter_falls (moved_seens time xs) (moved_event time (map_or (device_of e) 0 number) e) ≡ counter_falls (plain_seen xs) e
  falls_of_device xs of_lives e =
      (λ i. not (is_some (words i).started || is_some (words i).joined)
      && map_or (words i).device false (λ d. map_or (counter_moved time (map_or (device_of e) 0 number) e i) false
      (λ c. nat_lt c (latest_reading (moved_seens time xs) d))))
      ∙ ap (λ b. not (makes_some e) && b) (go (device_of e) (counter_of e))
    where
      words : words_of (moved_event time (map_or (device_of e) 0 number) e) ≡ words_of e
      words = same_words time (map_or (device_of e) 0 number) e

      go : (o k : Option ℕ)
          → map_or o false (λ d. map_or (option_map (λ c. c + map_or o 0 number) k) false (λ c. nat_lt c (latest_reading (moved_seens time xs) d)))
          ≡ map_or o false (λ d. map_or k false (λ c. nat_lt c (latest_reading (plain_seen xs) d)))
      go None k = refl
      go (Some d) None = refl
      go (Some d) (Some c) =
          below_moved c (latest_reading (plain_seen xs) d) (latest_reading (moved_seens time xs) d) (number d) (reading_of_device xs of_lives d)
