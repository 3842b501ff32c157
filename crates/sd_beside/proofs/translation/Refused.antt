-- The rules admit a moved event where they admit the event: each cause of a refusal holds of both or of none.
use Rattle.std.specs.Prelude.{◌≡◌, ℕ, ◌+◌, ◌^◌, Bool, true, false, ◌&&◌, ◌||◌, not, List, [], ◌∷◌, ◌⊎◌, length, max, nat_eq, nat_le, nat_lt, Option, Some, None, is_some, option_map, refl, IsTrue}
use Rattle.std.specs.List.{list_any, list_all}
use Rattle.std.proofs.Common.{arith, sym, ◌∙◌, ap, subst, inl, inr}
use Rattle.std.proofs.lemmas.List.{length-map}
use Rattle.sd_num.specs.Lists.{map_or, same_number, leading}
use Rattle.sd_plan.specs.declared.topo.Thing.TheVariants as thing
use Rattle.sd_plan.specs.Plans.{is_member}
use Rattle.sd_device.specs.declared.msg.Flight.{Flight}
use Rattle.sd_sched.specs.declared.Event.{Event}
use Rattle.sd_sched.specs.Events.{reference_of, device_of, message_of, received}
use Rattle.sd_history.specs.declared.ApplyFault.{ApplyFault}
use Rattle.sd_history.specs.declared.ApplyFault.TheVariants as fault
use Rattle.sd_history.specs.World.{Setting, Seen, makes, is_up, is_thing, has_failed, fails, was_made, latest_reference, window_is_open, has_commit, epoch_in_force, staged_epoch, in_force, staged, is_staged_member, joined_in_window}
use Rattle.sd_history.specs.Steps.{Step, seen_of, flight_numbered}
use Rattle.sd_history.specs.Refusals.{since_sending, was_used, was_swept, is_spent, unknown_device, unknown_link, dead_device, dead_link, unknown_message, spent_message, wrong_device, time_falls, counter_falls, not_started, started_twice, no_plan_left, window_order, after_end, not_failed, not_member, too_many, causes, refusal}
use Rattle.sd_history.specs.Admitted.{is_count, Admits}
use Rattle.sd_history.proofs.Clear.{few_events}
use Rattle.sd_history.proofs.Admitted.{accepted_is_admitted, admitted_is_accepted}
use Rattle.sd_beside.specs.translation.Moves.{moved_event, moved_flight, moved_step}
use Rattle.sd_beside.proofs.translation.Lists.{any_mapped, leading_mapped, MovedOrNone}
use Rattle.sd_beside.proofs.translation.Words.{EventWords, words_of, same_words, reference_moved}
use Rattle.sd_beside.proofs.translation.Views.{Marked, plain, moved, moved_seens, words_same, up_same, failed_same, made_same, latest_moved, open_same, commit_same, joined_same, epoch_same, staged_epoch_same, ended_same, in_force_same, staged_same, staged_member_same}
use Rattle.sd_beside.proofs.translation.Lives.{life_in, AreOfLives}
use Rattle.sd_beside.proofs.translation.Steps.{moved_steps_seen, plain_steps_seen, of_steps, epoch_in_same, given_in_same, count_same, numbered_moved}
use Rattle.sd_beside.proofs.translation.Readings.{below_moved, falls_of_life}

past_moved : (last reference m m' by : ℕ) → (m' ≡ m + by) ⊎ ((m' ≡ 0) × (m ≡ 0))
    → nat_lt (last + by) (max (reference + by) m') ≡ nat_lt last (max reference m)
past_moved last reference m m' by h = ap (nat_lt (last + by)) (greater h) ∙ below_moved last (max reference m) (max reference m + by) by (inl refl)
  where
    greater : (m' ≡ m + by) ⊎ ((m' ≡ 0) × (m ≡ 0)) → max (reference + by) m' ≡ max reference m + by
    greater (inl is) = omega (arith, is)
    greater (inr none) = omega (arith, none.0, none.1)

module _ (time : ℕ) (xs : List Marked) where
  -- a flight is over

  any_step_same : (test : Step → Bool) → ((x : Marked) → test (moved_step time x.by x.step) ≡ test x.step) → (ys : List Marked)
      → list_any test (moved time ys) ≡ list_any test (plain ys)
  any_step_same test same ys =
      any_mapped (λ (x : Marked). moved_step time x.by x.step) test (λ x. test x.step) same ys
      ∙ sym (any_mapped (λ (x : Marked). x.step) test (λ x. test x.step) (λ x. refl) ys)

  used_same : (n : ℕ) → was_used (moved time xs) n ≡ was_used (plain xs) n
  used_same n =
      any_step_same (λ s. same_number (message_of s.seen.event) n) (λ x. ap (λ (w : EventWords). same_number w.message n) (words_same time x)) xs

  -- what came after the flight was sent, of marked steps
  abbrev marked_since : ℕ → List Marked
  marked_since n = leading (λ x. not (list_any (λ f. nat_eq f.number n) x.step.sent)) xs

  moved_since : (n : ℕ) → since_sending (moved time xs) n ≡ moved time (marked_since n)
  moved_since n =
      leading_mapped (λ (x : Marked). moved_step time x.by x.step) (λ s. not (list_any (λ f. nat_eq f.number n) s.sent))
      (λ x. not (list_any (λ f. nat_eq f.number n) x.step.sent))
      (λ x. ap not (any_mapped (moved_flight time) (λ f. nat_eq f.number n) (λ f. nat_eq f.number n) (λ f. refl) x.step.sent)) xs

  plain_since : (n : ℕ) → since_sending (plain xs) n ≡ plain (marked_since n)
  plain_since n =
      leading_mapped (λ (x : Marked). x.step) (λ s. not (list_any (λ f. nat_eq f.number n) s.sent))
      (λ x. not (list_any (λ f. nat_eq f.number n) x.step.sent)) (λ x. refl) xs

  abbrev sweeps : Flight → Step → Bool
  sweeps f s = fails (thing.Link f.link) s.seen.event || fails (thing.Device f.receiver) s.seen.event

  swept_same : (f : Flight) → was_swept (moved time xs) (moved_flight time f) ≡ was_swept (plain xs) f
  swept_same f =
      ap (list_any (sweeps f)) (moved_since f.number)
      ∙ any_step_same (sweeps f)
      (λ x. ap (λ (w : EventWords). is_thing w.failure (thing.Link f.link) || is_thing w.failure (thing.Device f.receiver)) (words_same time x))
      (marked_since f.number)
      ∙ ap (list_any (sweeps f)) (sym (plain_since f.number))

  latest_step_moved : MovedOrNone time (latest_reference (seen_of (moved time xs))) (latest_reference (seen_of (plain xs)))
  latest_step_moved =
      subst (λ (seen : List Seen). MovedOrNone time (latest_reference seen) (latest_reference (seen_of (plain xs)))) (sym (moved_steps_seen time xs))
      (subst (λ (seen : List Seen). MovedOrNone time (latest_reference (moved_seens time xs)) (latest_reference seen)) (sym (plain_steps_seen time xs))
      (latest_moved time xs))

  spent_same : (reference : ℕ) (f : Flight) → is_spent (moved time xs) (reference + time) (moved_flight time f) ≡ is_spent (plain xs) reference f
  spent_same reference f =
      λ i. used_same f.number i || swept_same f i
      || past_moved f.last reference (latest_reference (seen_of (plain xs))) (latest_reference (seen_of (moved time xs))) time latest_step_moved i
      || not f.reaches

  -- single causes

  abbrev failed_of : has_failed (seen_of (moved time xs)) ≡ has_failed (seen_of (plain xs))
  failed_of = of_steps time xs has_failed (failed_same time)

  -- all causes of a refusal, where it is told whether a counter falls
  abbrev pub causes_but : Setting → Event → (falls : Bool) → List (ApplyFault × Bool)
  causes_but setting e falls =
      (fault.UnknownDevice, unknown_device setting e)
      ∷ (fault.UnknownLink, unknown_link setting e)
      ∷ (fault.DeadDevice, dead_device (seen_of (plain xs)) e)
      ∷ (fault.DeadLink, dead_link (seen_of (plain xs)) e)
      ∷ (fault.UnknownMessage, unknown_message (plain xs) e)
      ∷ (fault.SpentMessage, spent_message (plain xs) e)
      ∷ (fault.WrongDevice, wrong_device (plain xs) e)
      ∷ (fault.TimeFalls, time_falls (seen_of (plain xs)) e)
      ∷ (fault.CounterFalls, falls)
      ∷ (fault.NotStarted, not_started (seen_of (plain xs)) e)
      ∷ (fault.StartedTwice, started_twice setting (seen_of (plain xs)) e)
      ∷ (fault.NoPlanLeft, no_plan_left setting (seen_of (plain xs)) e)
      ∷ (fault.WindowOrder, window_order setting (plain xs) e)
      ∷ (fault.AfterEnd, after_end (seen_of (plain xs)))
      ∷ (fault.NotFailed, not_failed (seen_of (plain xs)) e)
      ∷ (fault.NotMember, not_member setting (seen_of (plain xs)) e)
      ∷ (fault.TooManyEvents, too_many (seen_of (plain xs)))
      ∷ []

  module _ (setting : Setting) (by : ℕ) (e : Event) where
    abbrev words : words_of (moved_event time by e) ≡ words_of e
    words = same_words time by e

    spent_message_same : spent_message (moved time xs) (moved_event time by e) ≡ spent_message (plain xs) e
    spent_message_same =
        (λ i. map_or (words i).message false (λ n. map_or (numbered_moved time setting xs n i) false (is_spent (moved time xs) (reference_moved time by e i))))
        ∙ go (message_of e)
      where
        found : (o : Option Flight)
            → map_or (option_map (moved_flight time) o) false (is_spent (moved time xs) (reference_of e + time)) ≡ map_or o false (is_spent (plain xs) (reference_of e))
        found None = refl
        found (Some f) = spent_same (reference_of e) f

        go : (o : Option ℕ)
            → map_or o false (λ n. map_or (option_map (moved_flight time) (flight_numbered (plain xs) n)) false (is_spent (moved time xs) (reference_of e + time)))
            ≡ map_or o false (λ n. map_or (flight_numbered (plain xs) n) false (is_spent (plain xs) (reference_of e)))
        go None = refl
        go (Some n) = found (flight_numbered (plain xs) n)

    wrong_device_same : wrong_device (moved time xs) (moved_event time by e) ≡ wrong_device (plain xs) e
    wrong_device_same =
        (λ i. map_or (words i).received false (λ n. map_or (numbered_moved time setting xs n i) false (λ f. not (same_number (words i).device f.receiver))))
        ∙ go (received e)
      where
        found : (o : Option Flight)
            → map_or (option_map (moved_flight time) o) false (λ f. not (same_number (device_of e) f.receiver))
            ≡ map_or o false (λ f. not (same_number (device_of e) f.receiver))
        found None = refl
        found (Some f) = refl

        go : (o : Option ℕ)
            → map_or o false (λ n. map_or (option_map (moved_flight time) (flight_numbered (plain xs) n)) false (λ f. not (same_number (device_of e) f.receiver)))
            ≡ map_or o false (λ n. map_or (flight_numbered (plain xs) n) false (λ f. not (same_number (device_of e) f.receiver)))
        go None = refl
        go (Some n) = found (flight_numbered (plain xs) n)

    time_falls_same : time_falls (seen_of (moved time xs)) (moved_event time by e) ≡ time_falls (seen_of (plain xs)) e
    time_falls_same =
        ap (λ r. nat_lt r (latest_reference (seen_of (moved time xs)))) (reference_moved time by e)
        ∙ below_moved (reference_of e) (latest_reference (seen_of (plain xs))) (latest_reference (seen_of (moved time xs))) time latest_step_moved

    window_order_same : window_order setting (moved time xs) (moved_event time by e) ≡ window_order setting (plain xs) e
    window_order_same =
        λ i. (((words i).is_stage && of_steps time xs window_is_open (open_same time) i)
        || ((is_some (words i).given || is_some (words i).joined || is_some (words i).mended || (words i).is_commit)
        && (not (of_steps time xs window_is_open (open_same time) i) || of_steps time xs has_commit (commit_same time) i))
        || ((words i).is_commit && map_or (words i).device false
        (λ d. not (map_or (of_steps time xs (staged setting) (staged_same time setting) i) false (λ plan. nat_eq plan.root d))))
        || ((words i).is_seal && (not (of_steps time xs window_is_open (open_same time) i) || not (of_steps time xs has_commit (commit_same time) i))))
        || map_or (words i).device false (λ d.
        ((words i).is_commit && not (same_number (given_in_same time xs i d) (of_steps time xs staged_epoch (staged_epoch_same time) i)))
        || ((words i).is_seal && not (same_number (epoch_in_same time xs i d) (of_steps time xs staged_epoch (staged_epoch_same time) i))))

    too_many_same : too_many (seen_of (moved time xs)) ≡ too_many (seen_of (plain xs))
    too_many_same = ap (nat_le (2 ^ 26)) (length-map (moved time xs) (λ s. s.seen) ∙ length-map xs (λ x. moved_step time x.by x.step)
        ∙ sym (length-map xs (λ x. x.step)) ∙ sym (length-map (plain xs) (λ s. s.seen)))

    pub causes_are : causes setting (moved time xs) (moved_event time by e) ≡ causes_but setting e (counter_falls (seen_of (moved time xs)) (moved_event time by e))
    causes_are =
        λ i. (fault.UnknownDevice, map_or (words i).device false (λ d. nat_le (length setting.net.devices) d))
        ∷ (fault.UnknownLink, map_or (words i).link false (λ l. nat_le (length setting.net.links) l))
        ∷ (fault.DeadDevice, not (is_some (words i).mended) && map_or (words i).device false (λ d. failed_of i (thing.Device d)))
        ∷ (fault.DeadLink, not (is_some (words i).mended) && map_or (words i).link false (λ l. failed_of i (thing.Link l)))
        ∷ (fault.UnknownMessage, map_or (words i).message false (λ n. nat_eq n 0 || nat_lt (count_same time xs i) n))
        ∷ (fault.SpentMessage, spent_message_same i)
        ∷ (fault.WrongDevice, wrong_device_same i)
        ∷ (fault.TimeFalls, time_falls_same i)
        ∷ (fault.CounterFalls, counter_falls (seen_of (moved time xs)) (moved_event time by e))
        ∷ (
          fault.NotStarted,
          not ((is_some (words i).started || is_some (words i).joined) || is_some (words i).failure || is_some (words i).mended)
              && map_or (words i).device false (λ d. not (of_steps time xs is_up (up_same time) i d)),
        )
        ∷ (
          fault.StartedTwice,
          map_or (words i).started false (of_steps time xs was_made (made_same time) i)
              || map_or (words i).joined false (λ d. of_steps time xs is_up (up_same time) i d
              && (is_member (of_steps time xs (in_force setting) (in_force_same time setting) i) d || of_steps time xs joined_in_window (joined_same time) i d)),
        )
        ∷ (
          fault.NoPlanLeft,
          (words i).is_stage && not (of_steps time xs window_is_open (open_same time) i)
              && nat_le (length setting.plans) (of_steps time xs epoch_in_force (epoch_same time) i),
        )
        ∷ (fault.WindowOrder, window_order_same i)
        ∷ (fault.AfterEnd, of_steps time xs after_end (ended_same time) i)
        ∷ (fault.NotFailed, map_or (words i).mended false (λ x. not (failed_of i x)))
        ∷ (
          fault.NotMember,
          map_or (words i).started false (λ d. not (is_member (of_steps time xs (in_force setting) (in_force_same time setting) i) d))
              || map_or (words i).given false (λ d. not (of_steps time xs (is_staged_member setting) (staged_member_same time setting) i d))
              || map_or (words i).joined false (λ d. not (of_steps time xs (is_staged_member setting) (staged_member_same time setting) i d)),
        )
        ∷ (fault.TooManyEvents, too_many_same i)
        ∷ []

-- Whether a counter falls counts only where the device has started.

abbrev passes : List (ApplyFault × Bool) → Bool
passes cs = list_all (λ cause. not cause.1 || is_count cause.0) cs

counts_not : (a b c d e f g h falls still unstarted k l m n o p q : Bool) → (unstarted ≡ false → still ≡ falls)
    → passes ((fault.UnknownDevice, a) ∷ (fault.UnknownLink, b) ∷ (fault.DeadDevice, c) ∷ (fault.DeadLink, d) ∷ (fault.UnknownMessage, e) ∷ (fault.SpentMessage, f)
    ∷ (fault.WrongDevice, g) ∷ (fault.TimeFalls, h) ∷ (fault.CounterFalls, still) ∷ (fault.NotStarted, unstarted) ∷ (fault.StartedTwice, k) ∷ (fault.NoPlanLeft, l)
    ∷ (fault.WindowOrder, m) ∷ (fault.AfterEnd, n) ∷ (fault.NotFailed, o) ∷ (fault.NotMember, p) ∷ (fault.TooManyEvents, q) ∷ [])
    ≡ passes ((fault.UnknownDevice, a) ∷ (fault.UnknownLink, b) ∷ (fault.DeadDevice, c) ∷ (fault.DeadLink, d) ∷ (fault.UnknownMessage, e) ∷ (fault.SpentMessage, f)
    ∷ (fault.WrongDevice, g) ∷ (fault.TimeFalls, h) ∷ (fault.CounterFalls, falls) ∷ (fault.NotStarted, unstarted) ∷ (fault.StartedTwice, k) ∷ (fault.NoPlanLeft, l)
    ∷ (fault.WindowOrder, m) ∷ (fault.AfterEnd, n) ∷ (fault.NotFailed, o) ∷ (fault.NotMember, p) ∷ (fault.TooManyEvents, q) ∷ [])
counts_not a b c d e f g h falls still false k l m n o p q same = rw (same refl) refl
counts_not a b c d e f g h true true true k l m n o p q same = refl
counts_not a b c d e f g h true false true k l m n o p q same = refl
counts_not a b c d e f g h false true true k l m n o p q same = refl
counts_not a b c d e f g h false false true k l m n o p q same = refl

module _ (time : ℕ) (lives : ℕ → ℕ → ℕ) (setting : Setting) (xs : List Marked) (of_lives : AreOfLives lives xs) (by : ℕ) (e : Event)
    (number : (d : ℕ) → same_number (device_of e) d ≡ true → makes d e ≡ false → by ≡ lives d (life_in xs d)) where
  falls_same : not_started (seen_of (plain xs)) e ≡ false
      → counter_falls (seen_of (moved time xs)) (moved_event time by e) ≡ counter_falls (seen_of (plain xs)) e
  falls_same started =
      ap (λ seen. counter_falls seen (moved_event time by e)) (moved_steps_seen time xs)
      ∙ falls_of_life time lives xs of_lives by e number (ap (λ seen. not_started seen e) (sym (plain_steps_seen time xs)) ∙ started)
      ∙ ap (λ seen. counter_falls seen e) (sym (plain_steps_seen time xs))

  -- the rules admit both events or none
  pub passes_same : passes (causes setting (moved time xs) (moved_event time by e)) ≡ passes (causes setting (plain xs) e)
  passes_same =
      ap passes (causes_are time xs setting by e)
      ∙ counts_not (unknown_device setting e) (unknown_link setting e) (dead_device (seen_of (plain xs)) e) (dead_link (seen_of (plain xs)) e)
      (unknown_message (plain xs) e) (spent_message (plain xs) e) (wrong_device (plain xs) e) (time_falls (seen_of (plain xs)) e)
      (counter_falls (seen_of (plain xs)) e) (counter_falls (seen_of (moved time xs)) (moved_event time by e)) (not_started (seen_of (plain xs)) e)
      (started_twice setting (seen_of (plain xs)) e) (no_plan_left setting (seen_of (plain xs)) e) (window_order setting (plain xs) e) (after_end (seen_of (plain xs)))
      (not_failed (seen_of (plain xs)) e) (not_member setting (seen_of (plain xs)) e) (too_many (seen_of (plain xs))) falls_same

  pub admits_moved : Admits setting (plain xs) e → Admits setting (moved time xs) (moved_event time by e)
  admits_moved admits = subst IsTrue (sym passes_same) admits

  pub admits_unmoved : Admits setting (moved time xs) (moved_event time by e) → Admits setting (plain xs) e
  admits_unmoved admits = subst IsTrue passes_same admits

  pub accepts_moved : refusal setting (plain xs) e ≡ None → refusal setting (moved time xs) (moved_event time by e) ≡ None
  accepts_moved none =
      admitted_is_accepted setting (moved time xs) (moved_event time by e) (admits_moved (accepted_is_admitted setting (plain xs) e none))
      (too_many_same time xs setting by e ∙ few_events setting (plain xs) e none)

  pub accepts_unmoved : refusal setting (moved time xs) (moved_event time by e) ≡ None → refusal setting (plain xs) e ≡ None
  accepts_unmoved none =
      admitted_is_accepted setting (plain xs) e (admits_unmoved (accepted_is_admitted setting (moved time xs) (moved_event time by e) none))
      (sym (too_many_same time xs setting by e) ∙ few_events setting (moved time xs) (moved_event time by e) none)
