-- After steps that agree, the rules admit an event where they admit the raised one.
use Rattle.std.specs.Prelude.{◌≡◌, ℕ, ◌+◌, ◌≤◌, Bool, true, false, ◌&&◌, ◌||◌, not, List, [], ◌∷◌, ◌++◌, length, max, nat_eq, nat_le, nat_lt, Option, Some, None, is_some, option_map, option_and_then, refl}
use Rattle.std.specs.List.{list_all}
use Rattle.std.proofs.Common.{arith, sym, ◌∙◌, ap}
use Rattle.std.proofs.lemmas.Bool.Decides.{nat_tests}
use Rattle.std.proofs.lemmas.List.{length-append}
use Rattle.sd_num.specs.Lists.{map_or, same_number}
use Rattle.sd_plan.specs.topo.Network.{Network}
use Rattle.sd_plan.specs.declared.topo.Thing.TheVariants as thing
use Rattle.sd_plan.specs.declared.topo.Thing.{Thing}
use Rattle.sd_plan.specs.declared.Plan.{Plan}
use Rattle.sd_plan.specs.Plans.{is_member}
use Rattle.sd_plan.specs.declared.Duty.{Duty}
use Rattle.sd_device.specs.declared.msg.Flight.{Flight}
use Rattle.sd_sched.specs.declared.Event.{Event}
use Rattle.sd_sched.specs.declared.Event.TheVariants as event
use Rattle.sd_sched.specs.Events.{reference_of, device_of, counter_of, link_of, message_of, received, started, joined, given, is_stage, is_commit, is_seal}
use Rattle.sd_history.specs.Things.{failure_of, mended}
use Rattle.sd_history.specs.World.{is_counted, Setting, setting_over, Seen, is_up, was_made, has_failed, latest_reference, latest_reading, window_is_open, has_commit, epoch_in_force, staged_epoch, in_force, staged, is_staged_member}
use Rattle.sd_history.specs.Steps.{Answers, Step, seen_of, live_answers, flights, flight_count, flight_numbered, epoch_in, given_in}
use Rattle.sd_history.specs.Refusals.{makes_some, was_used, was_swept, is_spent, unknown_device, unknown_link, dead_device, dead_link, unknown_message, spent_message, wrong_device, time_falls, counter_falls, not_started, started_twice, no_plan_left, past_preparing, window_order_seen, window_order_within, window_order, after_end, not_failed, not_member, too_many, causes}
use Rattle.sd_history.specs.declared.ApplyFault.{ApplyFault}
use Rattle.sd_history.specs.declared.ApplyFault.TheVariants as fault
use Rattle.sd_history.specs.Admitted.{is_count}
use Rattle.sd_history.proofs.flights.Finds.{found_number}
use Rattle.sd_resume.specs.law.Shifts.{Shift, raised_epoch, raised_duty, raised_flight, raised_event}
use Rattle.sd_resume.specs.law.Agreement.{raised_answers, StepsAgree}
use Rattle.sd_resume.specs.law.Law.{whole, NamesSome}
use Rattle.sd_resume.proofs.law.Words.{EventWords, words_of, same_words, raised_number, raised_received}
use Rattle.sd_resume.proofs.law.Stamps.{same_epoch}
use Rattle.sd_resume.proofs.law.Plans.{staged_same, staged_raised, staged_member_same, open_same, commit_same, counted_same}
use Rattle.sd_resume.proofs.law.Acts.{epoch_of_same}

-- All causes but the number of events: the rules admit what none of them refuses.

abbrev none_of : (a b c d e f g h i j k l m n o p : Bool) → Bool
none_of a b c d e f g h i j k l m n o p =
    list_all (λ x. not x || false) (a ∷ b ∷ c ∷ d ∷ e ∷ f ∷ g ∷ h ∷ i ∷ j ∷ k ∷ l ∷ m ∷ n ∷ o ∷ p ∷ [])

-- whether the rules admit an event
abbrev pub is_admitted : Setting → List Step → Event → Bool
is_admitted setting steps e = list_all (λ cause. not cause.1 || is_count cause.0) (causes setting steps e)

-- the causes of the two are alike; a counter that falls need only be where the device has started
none_same : (a b c d e f g h i j k l m n o p a' b' c' d' e' f' g' h' i' j' k' l' m' n' o' p' : Bool)
    → a ≡ a' → b ≡ b' → c ≡ c' → d ≡ d' → e ≡ e' → f ≡ f' → g ≡ g' → h ≡ h' → (j' ≡ false → i ≡ i') → j ≡ j' → k ≡ k' → l ≡ l' → m ≡ m' → n ≡ n' → o ≡ o'
    → p ≡ p' → none_of a b c d e f g h i j k l m n o p ≡ none_of a' b' c' d' e' f' g' h' i' j' k' l' m' n' o' p'
none_same a b c d e f g h i j k l m n o p a' b' c' d' e' f' g' h' i' j' k' l' m' n' o' p' ha hb hc hd he hf hg hh hi hj hk hl hm hn ho hp =
    rw (ha, hb, hc, hd, he, hf, hg, hh, hj, hk, hl, hm, hn, ho, hp) (go i i' j' hi)
  where
    go : (i i' j : Bool) → (j ≡ false → i ≡ i') → none_of a' b' c' d' e' f' g' h' i j k' l' m' n' o' p' ≡ none_of a' b' c' d' e' f' g' h' i' j k' l' m' n' o' p'
    go i i' false same = rw (same refl) refl
    go true true true same = refl
    go true false true same = refl
    go false true true same = refl
    go false false true same = refl

-- the sixteen causes, without the number of events
by_sixteen : (setting : Setting) (steps : List Step) (e : Event)
    → is_admitted setting steps e
    ≡ none_of (unknown_device setting e) (unknown_link setting e) (dead_device (seen_of steps) e) (dead_link (seen_of steps) e) (unknown_message steps e)
    (spent_message steps e) (wrong_device steps e) (time_falls (seen_of steps) e) (counter_falls (seen_of steps) e) (not_started (seen_of steps) e)
    (started_twice setting (seen_of steps) e) (no_plan_left setting (seen_of steps) e) (window_order setting steps e) (after_end (seen_of steps))
    (not_failed (seen_of steps) e) (not_member setting (seen_of steps) e)
by_sixteen setting steps e =
    last (unknown_device setting e) (unknown_link setting e) (dead_device (seen_of steps) e) (dead_link (seen_of steps) e) (unknown_message steps e)
    (spent_message steps e) (wrong_device steps e) (time_falls (seen_of steps) e) (counter_falls (seen_of steps) e) (not_started (seen_of steps) e)
    (started_twice setting (seen_of steps) e) (no_plan_left setting (seen_of steps) e) (window_order setting steps e) (after_end (seen_of steps))
    (not_failed (seen_of steps) e) (not_member setting (seen_of steps) e) (too_many (seen_of steps))
  where
    last : (a b c d e f g h i j k l m n o p q : Bool)
        → list_all (λ (cause : ApplyFault × Bool). not cause.1 || is_count cause.0)
        ((fault.UnknownDevice, a) ∷ (fault.UnknownLink, b) ∷ (fault.DeadDevice, c) ∷ (fault.DeadLink, d) ∷ (fault.UnknownMessage, e) ∷ (fault.SpentMessage, f)
        ∷ (fault.WrongDevice, g) ∷ (fault.TimeFalls, h) ∷ (fault.CounterFalls, i) ∷ (fault.NotStarted, j) ∷ (fault.StartedTwice, k) ∷ (fault.NoPlanLeft, l)
        ∷ (fault.WindowOrder, m) ∷ (fault.AfterEnd, n) ∷ (fault.NotFailed, o) ∷ (fault.NotMember, p) ∷ (fault.TooManyEvents, q) ∷ [])
        ≡ none_of a b c d e f g h i j k l m n o p
    last a b c d e f g h i j k l m n o p true = refl
    last a b c d e f g h i j k l m n o p false = refl

-- an event that comes where the window does not allow it, by what is seen
abbrev order_by : EventWords → (open_ past : Bool) → Option Plan → (committed : Bool) → Bool
order_by w open_ past plan committed =
    (w.is_stage && open_)
    || ((is_some w.given || is_some w.joined || is_some w.mended || w.is_commit) && past)
    || (w.is_commit && map_or w.device false (λ d. not (map_or plan false (λ p. nat_eq p.root d))))
    || (w.is_seal && (not open_ || not committed))

-- and by what its device answers
abbrev within_by : (commits seals has is : Bool) → Bool
within_by commits seals has is = (commits && not has) || (seals && not is)

abbrev given_by : Option Answers → Option ℕ
given_by a = option_and_then (λ (x : Answers). option_map (λ (u : Duty). u.epoch) x.given) a

abbrev member_by : (start give join : Option ℕ) → Plan → (ℕ → Bool) → Bool
member_by start give join plan is =
    map_or start false (λ d. not (is_member plan d)) || map_or give false (λ d. not (is d)) || map_or join false (λ d. not (is d))

-- Single causes

number_known : (n count by : ℕ) → 1 ≤ n → (nat_eq (n + by) 0 || nat_lt (count + by) (n + by)) ≡ (nat_eq n 0 || nat_lt count n)
number_known n count by some = grind (arith, nat_tests, some)

module _ (shift : Shift) (net : Network) (front plans : List Plan) (behind : shift.plans ≡ length front) (one other : List Step)
    (agree : StepsAgree shift one other) where
  abbrev seen_one : List Seen
  seen_one = seen_of one

  abbrev seen_other : List Seen
  seen_other = seen_of other

  spent_same : (n : ℕ) (f : Flight) (reference : ℕ) → 1 ≤ n → flight_numbered other n ≡ Some f → is_spent one reference (raised_flight shift f) ≡ is_spent other reference f
  spent_same n f reference some found =
      let number : f.number ≡ n = found_number n (flights other) f found in
      ap (λ b. b || was_swept one (raised_flight shift f) || nat_lt f.last (max reference (latest_reference seen_one)) || not f.reaches)
      (agree.used f.number (rw number some))
      ∙ ap (λ b. was_used other f.number || b || nat_lt f.last (max reference (latest_reference seen_one)) || not f.reaches) (agree.swept n f some found)
      ∙ ap (λ t. was_used other f.number || was_swept other f || nat_lt f.last (max reference t) || not f.reaches) agree.seen.time

  module _ (e : Event) (some : NamesSome e) (no_start : started e ≡ None) where
    words : words_of (raised_event shift e) ≡ words_of e
    words = same_words shift e

    device_known : unknown_device (whole net front plans) (raised_event shift e) ≡ unknown_device (setting_over net plans) e
    device_known = ap (λ w. map_or w.device false (λ d. nat_le (length net.devices) d)) words

    link_known : unknown_link (whole net front plans) (raised_event shift e) ≡ unknown_link (setting_over net plans) e
    link_known = ap (λ w. map_or w.link false (λ l. nat_le (length net.links) l)) words

    device_dead : dead_device seen_one (raised_event shift e) ≡ dead_device seen_other e
    device_dead =
        ap (λ w. not (is_some w.mended) && map_or w.device false (λ d. has_failed seen_one (thing.Device d))) words
        ∙ ap (λ b. not (is_some (mended e)) && b) (go (device_of e))
      where
        go : (o : Option ℕ) → map_or o false (λ d. has_failed seen_one (thing.Device d)) ≡ map_or o false (λ d. has_failed seen_other (thing.Device d))
        go None = refl
        go (Some d) = agree.seen.failed (thing.Device d)

    link_dead : dead_link seen_one (raised_event shift e) ≡ dead_link seen_other e
    link_dead =
        ap (λ w. not (is_some w.mended) && map_or w.link false (λ l. has_failed seen_one (thing.Link l))) words
        ∙ ap (λ b. not (is_some (mended e)) && b) (go (link_of e))
      where
        go : (o : Option ℕ) → map_or o false (λ l. has_failed seen_one (thing.Link l)) ≡ map_or o false (λ l. has_failed seen_other (thing.Link l))
        go None = refl
        go (Some l) = agree.seen.failed (thing.Link l)

    message_known : unknown_message one (raised_event shift e) ≡ unknown_message other e
    message_known =
        ap (λ m. map_or m false (λ n. nat_eq n 0 || nat_lt (flight_count one) n)) (raised_number shift e)
        ∙ ap (λ c. map_or (option_map (λ n. n + shift.messages) (message_of e)) false (λ n. nat_eq n 0 || nat_lt c n)) agree.count
        ∙ go (message_of e) some
      where
        go : (m : Option ℕ) → ((n : ℕ) → m ≡ Some n → 1 ≤ n)
            → map_or (option_map (λ n. n + shift.messages) m) false (λ n. nat_eq n 0 || nat_lt (flight_count other + shift.messages) n)
            ≡ map_or m false (λ n. nat_eq n 0 || nat_lt (flight_count other) n)
        go None named = refl
        go (Some n) named = number_known n (flight_count other) shift.messages (named n refl)

    message_spent : spent_message one (raised_event shift e) ≡ spent_message other e
    message_spent =
        ap (λ m. map_or m false (λ n. map_or (flight_numbered one n) false (is_spent one (reference_of (raised_event shift e))))) (raised_number shift e)
        ∙ ap (λ w. map_or (option_map (λ n. n + shift.messages) (message_of e)) false (λ n. map_or (flight_numbered one n) false (is_spent one w.reference))) words
        ∙ go (message_of e) some
      where
        by : (n : ℕ) → 1 ≤ n → (o : Option Flight) → flight_numbered other n ≡ o
            → map_or (option_map (raised_flight shift) o) false (is_spent one (reference_of e)) ≡ map_or o false (is_spent other (reference_of e))
        by n least None found = refl
        by n least (Some f) found = spent_same n f (reference_of e) least found

        go : (m : Option ℕ) → ((n : ℕ) → m ≡ Some n → 1 ≤ n)
            → map_or (option_map (λ n. n + shift.messages) m) false (λ n. map_or (flight_numbered one n) false (is_spent one (reference_of e)))
            ≡ map_or m false (λ n. map_or (flight_numbered other n) false (is_spent other (reference_of e)))
        go None named = refl
        go (Some n) named =
            ap (λ o. map_or o false (is_spent one (reference_of e))) (agree.numbered n (named n refl)) ∙ by n (named n refl) (flight_numbered other n) refl

    device_wrong : wrong_device one (raised_event shift e) ≡ wrong_device other e
    device_wrong =
        ap (λ m. map_or m false (λ n. map_or (flight_numbered one n) false (λ f. not (same_number (device_of (raised_event shift e)) f.receiver))))
        (raised_received shift e)
        ∙ ap (λ w. map_or (option_map (λ n. n + shift.messages) (received e)) false (λ n. map_or (flight_numbered one n) false
        (λ f. not (same_number w.device f.receiver)))) words
        ∙ go (received e) (λ n is. some n (named e n is))
      where
        named : (e : Event) (n : ℕ) → received e ≡ Some n → message_of e ≡ Some n
        named (event.Recv reference device counter message) n is = is
        named _ n is = cc

        by : (o : Option Flight)
            → map_or (option_map (raised_flight shift) o) false (λ f. not (same_number (device_of e) f.receiver)) ≡ map_or o false (λ f. not (same_number (device_of e) f.receiver))
        by None = refl
        by (Some f) = refl

        go : (m : Option ℕ) → ((n : ℕ) → m ≡ Some n → 1 ≤ n)
            → map_or (option_map (λ n. n + shift.messages) m) false (λ n. map_or (flight_numbered one n) false (λ f. not (same_number (device_of e) f.receiver)))
            ≡ map_or m false (λ n. map_or (flight_numbered other n) false (λ f. not (same_number (device_of e) f.receiver)))
        go None least = refl
        go (Some n) least =
            ap (λ o. map_or o false (λ (f : Flight). not (same_number (device_of e) f.receiver))) (agree.numbered n (least n refl)) ∙ by (flight_numbered other n)

    time_same : time_falls seen_one (raised_event shift e) ≡ time_falls seen_other e
    time_same = ap (λ w. nat_lt w.reference (latest_reference seen_one)) words ∙ ap (λ t. nat_lt (reference_of e) t) agree.seen.time

    start_same : not_started seen_one (raised_event shift e) ≡ not_started seen_other e
    start_same =
        ap (λ w. not ((is_some w.started || is_some w.joined) || is_some w.failure || is_some w.mended) && map_or w.device false (λ d. not (is_up seen_one d))) words
        ∙ ap (λ b. not (makes_some e || is_some (failure_of e) || is_some (mended e)) && b) (go (device_of e))
      where
        go : (o : Option ℕ) → map_or o false (λ d. not (is_up seen_one d)) ≡ map_or o false (λ d. not (is_up seen_other d))
        go None = refl
        go (Some d) = ap not (agree.seen.up d)

    counter_same : not_started seen_other e ≡ false → counter_falls seen_one (raised_event shift e) ≡ counter_falls seen_other e
    counter_same there =
        ap (λ w. not (is_some w.started || is_some w.joined) && map_or w.device false (λ d. map_or w.counter false (λ c. nat_lt c (latest_reading seen_one d)))) words
        ∙ by e there
      where
        same_reading : (m : Bool) (o : Option ℕ) (c : Option ℕ) → (not m && map_or o false (λ d. not (is_up seen_other d))) ≡ false
            → (not m && map_or o false (λ d. map_or c false (λ x. nat_lt x (latest_reading seen_one d))))
            ≡ (not m && map_or o false (λ d. map_or c false (λ x. nat_lt x (latest_reading seen_other d))))
        same_reading true o c started_ = refl
        same_reading false None c started_ = refl
        same_reading false (Some d) None started_ = refl
        same_reading false (Some d) (Some c) started_ = ap (nat_lt c) (agree.seen.reading d (up (is_up seen_other d) started_))
          where
            up : (b : Bool) → not b ≡ false → b ≡ true
            up true is = refl
            up false is = cc

        by : (e : Event) → not_started seen_other e ≡ false
            → (not (makes_some e) && map_or (device_of e) false (λ d. map_or (counter_of e) false (λ c. nat_lt c (latest_reading seen_one d)))) ≡ counter_falls seen_other e
        by (event.Tick reference device counter) there' = same_reading false (Some device) (Some counter) there'
        by (event.Recv reference device counter message) there' = same_reading false (Some device) (Some counter) there'
        by (event.Fix reference device counter clock eps) there' = same_reading false (Some device) (Some counter) there'
        by (event.Ask reference device counter) there' = same_reading false (Some device) (Some counter) there'
        by (event.Commit reference device counter) there' = same_reading false (Some device) (Some counter) there'
        by _ there' = refl

    twice_same : started_twice (whole net front plans) seen_one (raised_event shift e) ≡ started_twice (setting_over net plans) seen_other e
    twice_same =
        ap (λ w. map_or w.started false (was_made seen_one) || map_or w.joined false (is_counted (whole net front plans) seen_one)) words
        ∙ ap (λ o. map_or o false (was_made seen_one) || map_or (joined e) false (is_counted (whole net front plans) seen_one)) no_start
        ∙ go (joined e)
        ∙ ap (λ o. map_or o false (was_made seen_other) || map_or (joined e) false (is_counted (setting_over net plans) seen_other)) (sym no_start)
      where
        go : (o : Option ℕ) → map_or o false (is_counted (whole net front plans) seen_one) ≡ map_or o false (is_counted (setting_over net plans) seen_other)
        go None = refl
        go (Some d) = counted_same shift net front plans behind seen_one seen_other agree.seen d

    left_same : no_plan_left (whole net front plans) seen_one (raised_event shift e) ≡ no_plan_left (setting_over net plans) seen_other e
    left_same =
        ap (λ w. w.is_stage && not (window_is_open seen_one) && nat_le (length (front ++ plans)) (epoch_in_force seen_one)) words
        ∙ ap (λ b. is_stage e && not b && nat_le (length (front ++ plans)) (epoch_in_force seen_one)) (open_same shift net front plans behind seen_one seen_other agree.seen)
        ∙ ap (λ b. is_stage e && not (window_is_open seen_other) && b)
        (go (length (front ++ plans)) (length front) (length plans) (epoch_in_force seen_one) (epoch_in_force seen_other) shift.plans
        (length-append front plans) behind agree.seen.epoch)
      where
        go : (all a b x y k : ℕ) → all ≡ a + b → k ≡ a → x ≡ y + k → nat_le all x ≡ nat_le b y
        go all a b x y k together same counted = grind (arith, nat_tests, together, same, counted)

    preparing_same : past_preparing seen_one ≡ past_preparing seen_other
    preparing_same =
        ap (λ b. not b || has_commit seen_one) (open_same shift net front plans behind seen_one seen_other agree.seen)
        ∙ ap (λ b. not (window_is_open seen_other) || b) (commit_same shift net front plans behind seen_one seen_other agree.seen)

    order_seen_same : window_order_seen (whole net front plans) seen_one (raised_event shift e) ≡ window_order_seen (setting_over net plans) seen_other e
    order_seen_same =
        ap (λ w. order_by w (window_is_open seen_one) (past_preparing seen_one) (staged (whole net front plans) seen_one) (has_commit seen_one)) words
        ∙ ap (λ b. order_by (words_of e) b (past_preparing seen_one) (staged (whole net front plans) seen_one) (has_commit seen_one))
        (open_same shift net front plans behind seen_one seen_other agree.seen)
        ∙ ap (λ b. order_by (words_of e) (window_is_open seen_other) b (staged (whole net front plans) seen_one) (has_commit seen_one)) preparing_same
        ∙ ap (λ s. order_by (words_of e) (window_is_open seen_other) (past_preparing seen_other) s (has_commit seen_one))
        (staged_same shift net front plans behind seen_one seen_other agree.seen)
        ∙ ap (λ b. order_by (words_of e) (window_is_open seen_other) (past_preparing seen_other) (staged (setting_over net plans) seen_other) b)
        (commit_same shift net front plans behind seen_one seen_other agree.seen)

    given_same : (d epoch : ℕ) → same_number (given_in one d) (raised_epoch shift epoch) ≡ same_number (given_in other d) epoch
    given_same d epoch = ap (λ a. same_number (given_by a) (raised_epoch shift epoch)) (agree.answers d) ∙ go (live_answers other d)
      where
        by : (epoch : ℕ) (o : Option Duty) → same_number (option_map (λ (u : Duty). u.epoch) (option_map (raised_duty shift) o)) (raised_epoch shift epoch)
            ≡ same_number (option_map (λ (u : Duty). u.epoch) o) epoch
        by n None = refl
        by n (Some u) = same_epoch shift u.epoch n

        go : (a : Option Answers) → same_number (given_by (option_map (raised_answers shift) a)) (raised_epoch shift epoch) ≡ same_number (given_by a) epoch
        go None = refl
        go (Some a) = by epoch a.given

    order_within_same : window_order_within one (raised_event shift e) ≡ window_order_within other e
    order_within_same =
        ap (λ w. map_or w.device false (λ d. within_by w.is_commit w.is_seal (same_number (given_in one d) (staged_epoch seen_one)) (same_number (epoch_in one d) (staged_epoch seen_one))))
        words
        ∙ ap (λ n. map_or (device_of e) false (λ d. within_by (is_commit e) (is_seal e) (same_number (given_in one d) n) (same_number (epoch_in one d) n)))
        (staged_raised shift net front plans behind seen_one seen_other agree.seen)
        ∙ go (device_of e)
      where
        go : (o : Option ℕ)
            → map_or o false (λ d. within_by (is_commit e) (is_seal e) (same_number (given_in one d) (raised_epoch shift (staged_epoch seen_other)))
            (same_number (epoch_in one d) (raised_epoch shift (staged_epoch seen_other))))
            ≡ map_or o false (λ d. within_by (is_commit e) (is_seal e) (same_number (given_in other d) (staged_epoch seen_other))
            (same_number (epoch_in other d) (staged_epoch seen_other)))
        go None = refl
        go (Some d) =
            ap (λ b. within_by (is_commit e) (is_seal e) b (same_number (epoch_in one d) (raised_epoch shift (staged_epoch seen_other))))
            (given_same d (staged_epoch seen_other))
            ∙ ap (within_by (is_commit e) (is_seal e) (same_number (given_in other d) (staged_epoch seen_other)))
            (epoch_of_same shift one other agree d (staged_epoch seen_other))

    order_same : window_order (whole net front plans) one (raised_event shift e) ≡ window_order (setting_over net plans) other e
    order_same =
        ap (λ b. b || window_order_within one (raised_event shift e)) order_seen_same
        ∙ ap (λ b. window_order_seen (setting_over net plans) seen_other e || b) order_within_same

    mended_same : not_failed seen_one (raised_event shift e) ≡ not_failed seen_other e
    mended_same = ap (λ w. map_or w.mended false (λ x. not (has_failed seen_one x))) words ∙ go (mended e)
      where
        go : (o : Option Thing) → map_or o false (λ x. not (has_failed seen_one x)) ≡ map_or o false (λ x. not (has_failed seen_other x))
        go None = refl
        go (Some x) = ap not (agree.seen.failed x)

    member_same : not_member (whole net front plans) seen_one (raised_event shift e) ≡ not_member (setting_over net plans) seen_other e
    member_same =
        ap (λ w. member_by w.started w.given w.joined (in_force (whole net front plans) seen_one) (is_staged_member (whole net front plans) seen_one)) words
        ∙ ap (λ o. member_by o (given e) (joined e) (in_force (whole net front plans) seen_one) (is_staged_member (whole net front plans) seen_one)) no_start
        ∙ ap (λ b. b || map_or (joined e) false (λ d. not (is_staged_member (whole net front plans) seen_one d))) (go (given e))
        ∙ ap (λ b. map_or (given e) false (λ d. not (is_staged_member (setting_over net plans) seen_other d)) || b) (go (joined e))
        ∙ ap (λ o. member_by o (given e) (joined e) (in_force (setting_over net plans) seen_other) (is_staged_member (setting_over net plans) seen_other)) (sym no_start)
      where
        go : (o : Option ℕ) → map_or o false (λ d. not (is_staged_member (whole net front plans) seen_one d))
            ≡ map_or o false (λ d. not (is_staged_member (setting_over net plans) seen_other d))
        go None = refl
        go (Some d) = ap not (staged_member_same shift net front plans behind seen_one seen_other agree.seen d)

    -- the rules admit both or none
    pub admitted_same : is_admitted (whole net front plans) one (raised_event shift e) ≡ is_admitted (setting_over net plans) other e
    admitted_same =
        by_sixteen (whole net front plans) one (raised_event shift e)
        ∙ none_same _ _ _ _ _ _ _ _ _ _ _ _ _ _ _ _ _ _ _ _ _ _ _ _ _ _ _ _ _ _ _ _ device_known link_known device_dead link_dead message_known message_spent
        device_wrong time_same counter_same start_same twice_same left_same order_same agree.seen.ended mended_same member_same
        ∙ sym (by_sixteen (setting_over net plans) other e)
