-- What breaks in the second of two histories that agree breaks in the first, as an event comes and its raised one.
use Rattle.std.specs.Prelude.{◌≡◌, ℕ, zero, suc, ◌+◌, ◌≤◌, Bool, true, false, ◌&&◌, ◌||◌, not, List, [], ◌∷◌, ◌++◌, length, map, filter_map, nat_eq, nat_le, Option, Some, None, is_some, option_map, option_to_list, refl, if◌then◌else◌}
use Rattle.std.specs.List.{list_any, list_all, cons_option}
use Rattle.std.proofs.Common.{arith, sym, ◌∙◌, ap, subst}
use Rattle.std.proofs.lemmas.Bool.{eq-eqb, and_parts, and_from, leb-true, le-leb}
use Rattle.std.proofs.lemmas.List.Folds.{list_all-append}
use Rattle.sd_num.specs.Lists.{map_or, same_number, find_map_or, leading, has}
use Rattle.sd_plan.specs.topo.Network.{Network, rates_of, device_numbers, link_numbers, joins}
use Rattle.sd_plan.specs.topo.Joined.{joined_within}
use Rattle.sd_plan.specs.declared.topo.Thing.{Thing}
use Rattle.sd_plan.specs.declared.topo.Thing.TheVariants as thing
use Rattle.sd_plan.specs.domain.Domains.{within_one}
use Rattle.sd_plan.specs.domain.Things.{same_thing}
use Rattle.sd_plan.proofs.domain.Within.{within_one_same}
use Rattle.sd_plan.specs.declared.Plan.{Plan}
use Rattle.sd_plan.specs.Plans.{is_member, members}
use Rattle.sd_device.specs.declared.msg.Flight.{Flight}
use Rattle.sd_sched.specs.Honesty.{sets_true_clock, keeps_reading}
use Rattle.sd_sched.specs.declared.Event.{Event}
use Rattle.sd_sched.specs.declared.Event.TheVariants as event
use Rattle.sd_sched.specs.Events.{reference_of, device_of, counter_of, started, joined, given, ticked, is_stage, is_commit, is_seal}
use Rattle.sd_history.specs.Things.{failure_of, mended}
use Rattle.sd_history.specs.World.{Setting, setting_over, Seen, makes, fails, is_thing, is_up, latest_reference, latest_reading, link_has_failed, was_made, has_ever_failed, is_untouched, window, has_commit, in_force, staged, is_staged_member, plan_numbered, joined_in_window, has_entered}
use Rattle.sd_history.specs.Refusals.{counter_falls, makes_some}
use Rattle.sd_history.specs.Premises.{readings, reads_honestly, is_in_time, arrives_in_time, latest_tick, is_current_member, first_reference, ticks_in_time, failures_since_closing, fails_within_one, was_given, leaves_out_cleanly, leaves_out_failed, is_prepared, commits_orderly, has_seal, seals_orderly, has_mend, fails_orderly, begins_orderly}
use Rattle.sd_resume.specs.law.Shifts.{Shift, raised_flight, raised_event, raised_seen}
use Rattle.sd_resume.specs.law.Views.{LooksAlike}
use Rattle.sd_resume.specs.law.Law.{whole}
use Rattle.sd_resume.specs.law.Premised.{PremisesAgree}
use Rattle.sd_resume.specs.law.Cuts.{keeps_with}
use Rattle.sd_resume.proofs.law.Words.{EventWords, words_of, same_words}
use Rattle.sd_resume.proofs.law.Plans.{in_force_same, staged_same, staged_member_same, in_window_same, commit_same, joined_same}
use Rattle.sd_resume.proofs.law.Views.{told, reading_by, made_reads}
use Rattle.sd_resume.proofs.law.Acts.{all_same, any_same}
use Rattle.sd_history.proofs.Known.{up_case}
use Rattle.sd_history.proofs.Readings.{not_falling}

and_on : (a b c d : Bool) → (a ≡ true → b ≡ true) → (c ≡ true → d ≡ true) → (a && c) ≡ true → (b && d) ≡ true
and_on a b c d first second both = let parts : (a ≡ true) × (c ≡ true) = and_parts a c both in and_from b d (first parts.0) (second parts.1)

pub all_on : {A : Type 0} (p q : A → Bool) → ((x : A) → p x ≡ true → q x ≡ true) → (xs : List A) → list_all p xs ≡ true → list_all q xs ≡ true
all_on p q each [] all = refl
all_on p q each (x ∷ xs) all = and_on (p x) (q x) (list_all p xs) (list_all q xs) (each x) (all_on p q each xs) all

by_equal : (a b : Bool) → a ≡ b → a ≡ true → b ≡ true
by_equal a b same is = sym same ∙ is

-- Start

clock_same : (shift : Shift) (e : Event) → sets_true_clock (raised_event shift e) ≡ sets_true_clock e
clock_same shift (event.Start reference device counter clock eps) = refl
clock_same shift _ = refl

-- the staged plan is prepared for and leaves out what it must
abbrev ready : Setting → List Seen → Plan → Bool
ready setting seen plan =
    list_all (is_prepared setting seen) (members setting.net plan) && leaves_out_failed setting seen plan && leaves_out_cleanly setting seen plan

-- each member of the plan that is up has entered it
abbrev entered : Network → List Seen → Plan → Bool
entered net seen plan = list_all (λ d. not (is_up seen d) || has_entered seen d) (members net plan)

-- Windows

any_raised_leading : (shift : Shift) (stays stays' test test' : Seen → Bool) → ((s : Seen) → stays (raised_seen shift s) ≡ stays' s)
    → ((s : Seen) → test (raised_seen shift s) ≡ test' s) → (w : List Seen)
    → list_any test (leading stays (map (raised_seen shift) w)) ≡ list_any test' (leading stays' w)
any_raised_leading shift stays stays' test test' same same' [] = refl
any_raised_leading shift stays stays' test test' same same' (s ∷ w) =
    ap (λ b. list_any test (if b then raised_seen shift s ∷ leading stays (map (raised_seen shift) w) else [])) (same s)
    ∙ go (stays' s) (any_raised_leading shift stays stays' test test' same same' w)
  where
    go : (b : Bool) → list_any test (leading stays (map (raised_seen shift) w)) ≡ list_any test' (leading stays' w)
        → list_any test (if b then raised_seen shift s ∷ leading stays (map (raised_seen shift) w) else []) ≡ list_any test' (if b then s ∷ leading stays' w else [])
    go true rest = ap (λ b. b || list_any test (leading stays (map (raised_seen shift) w))) (same' s) ∙ ap (λ b. test' s || b) rest
    go false rest = refl

entered_raised : (shift : Shift) (d : ℕ) (w : List Seen)
    → find_map_or (λ s. if same_number s.activated d then Some true else if makes d s.event then Some false else None) (map (raised_seen shift) w) false
    ≡ find_map_or (λ s. if same_number s.activated d then Some true else if makes d s.event then Some false else None) w false
entered_raised shift d [] = refl
entered_raised shift d (s ∷ w) =
    ap (λ (v : EventWords). map_or (if same_number s.activated d then Some true else if same_number v.started d || same_number v.joined d then Some false else None)
    (find_map_or (λ x. if same_number x.activated d then Some true else if makes d x.event then Some false else None) (map (raised_seen shift) w) false) (λ t. t))
    (same_words shift s.event)
    ∙ ap (λ b. map_or (if same_number s.activated d then Some true else if makes d s.event then Some false else None) b (λ t. t)) (entered_raised shift d w)

joined_alike : (net : Network) (pass pass' cross cross' : ℕ → Bool) → ((d : ℕ) → pass d ≡ pass' d) → ((l : ℕ) → cross l ≡ cross' l) → (n d x : ℕ)
    → joined_within net pass cross n d x ≡ joined_within net pass' cross' n d x
joined_alike net pass pass' cross cross' same same' zero d x = refl
joined_alike net pass pass' cross cross' same same' (suc n) d x =
    ap (λ b. nat_eq d x || b)
    (any_same (λ e. (pass e && list_any (λ l. cross l && joins net l d e) (link_numbers net)) && joined_within net pass cross n e x)
    (λ e. (pass' e && list_any (λ l. cross' l && joins net l d e) (link_numbers net)) && joined_within net pass' cross' n e x)
    (λ e. three (pass e) (pass' e) (list_any (λ l. cross l && joins net l d e) (link_numbers net)) (list_any (λ l. cross' l && joins net l d e) (link_numbers net))
    (joined_within net pass cross n e x) (joined_within net pass' cross' n e x) (same e)
    (any_same (λ l. cross l && joins net l d e) (λ l. cross' l && joins net l d e) (λ l. ap (λ b. b && joins net l d e) (same' l)) (link_numbers net))
    (joined_alike net pass pass' cross cross' same same' n e x))
    (device_numbers net))
  where
    three : (a a' b b' c c' : Bool) → a ≡ a' → b ≡ b' → c ≡ c' → ((a && b) && c) ≡ ((a' && b') && c')
    three a a' b b' c c' first second third = rw (first, second, third) refl

module _ (shift : Shift) (net : Network) (front plans : List Plan) (behind : shift.plans ≡ length front) (one other : List Seen) (h : LooksAlike shift one other) where
  given_alike : (d : ℕ) → was_given one d ≡ was_given other d
  given_alike d =
      ap (λ w. map_or w false (λ x. list_any (λ s. same_number (given s.event) d) (leading (λ s. not (same_number (joined s.event) d)) x))) h.window
      ∙ go (window other)
    where
      go : (w : Option (List Seen))
          → map_or (option_map (map (raised_seen shift)) w) false (λ x. list_any (λ s. same_number (given s.event) d) (leading (λ s. not (same_number (joined s.event) d)) x))
          ≡ map_or w false (λ x. list_any (λ s. same_number (given s.event) d) (leading (λ s. not (same_number (joined s.event) d)) x))
      go None = refl
      go (Some w) =
          any_raised_leading shift (λ s. not (same_number (joined s.event) d)) (λ s. not (same_number (joined s.event) d)) (λ s. same_number (given s.event) d)
          (λ s. same_number (given s.event) d) (λ s. ap (λ v. not (same_number v.joined d)) (same_words shift s.event))
          (λ s. ap (λ v. same_number v.given d) (same_words shift s.event)) w

  entered_alike : (d : ℕ) → has_entered one d ≡ has_entered other d
  entered_alike d =
      ap (λ w. map_or w false (λ x. find_map_or (λ s. if same_number s.activated d then Some true else if makes d s.event then Some false else None) x false)) h.window
      ∙ go (window other)
    where
      go : (w : Option (List Seen))
          → map_or (option_map (map (raised_seen shift)) w) false (λ x. find_map_or (λ s. if same_number s.activated d then Some true else if makes d s.event then Some false else None) x false)
          ≡ map_or w false (λ x. find_map_or (λ s. if same_number s.activated d then Some true else if makes d s.event then Some false else None) x false)
      go None = refl
      go (Some w) = entered_raised shift d w

  prepared_alike : (d : ℕ) → is_prepared (whole net front plans) one d ≡ is_prepared (setting_over net plans) other d
  prepared_alike d =
      ap (λ b. b && was_given one d && (is_member (in_force (whole net front plans) one) d || joined_in_window one d)) (h.up d)
      ∙ ap (λ b. is_up other d && b && (is_member (in_force (whole net front plans) one) d || joined_in_window one d)) (given_alike d)
      ∙ ap (λ p. is_up other d && was_given other d && (is_member p d || joined_in_window one d)) (in_force_same shift net front plans behind one other h)
      ∙ ap (λ b. is_up other d && was_given other d && (is_member (in_force (setting_over net plans) other) d || b)) (joined_same shift net front plans behind one other h d)

  out_failed_alike : (plan : Plan) → leaves_out_failed (whole net front plans) one plan ≡ leaves_out_failed (setting_over net plans) other plan
  out_failed_alike plan =
      all_same (λ l. not (link_has_failed one l) || has plan.absent.links l) (λ l. not (link_has_failed other l) || has plan.absent.links l)
      (λ l. ap (λ b. not b || has plan.absent.links l) (h.failed (thing.Link l))) (link_numbers net)

  out_cleanly_alike : (plan : Plan) → leaves_out_cleanly (whole net front plans) one plan ≡ leaves_out_cleanly (setting_over net plans) other plan
  out_cleanly_alike plan =
      all_same (λ d. not (is_up one d && not (is_member plan d) && joined_within net (is_up one) (λ l. not (link_has_failed one l)) (length net.devices) d plan.root))
      (λ d. not (is_up other d && not (is_member plan d) && joined_within net (is_up other) (λ l. not (link_has_failed other l)) (length net.devices) d plan.root))
      (λ d. ap (λ b. not (b && not (is_member plan d) && joined_within net (is_up one) (λ l. not (link_has_failed one l)) (length net.devices) d plan.root)) (h.up d)
      ∙ ap (λ b. not (is_up other d && not (is_member plan d) && b))
      (joined_alike net (is_up one) (is_up other) (λ l. not (link_has_failed one l)) (λ l. not (link_has_failed other l)) h.up
      (λ l. ap not (h.failed (thing.Link l))) (length net.devices) d plan.root))
      (device_numbers net)

  commits_alike : (s : Seen) → commits_orderly (whole net front plans) (raised_seen shift s) one ≡ commits_orderly (setting_over net plans) s other
  commits_alike s =
      ap (λ w. not w.is_commit || (s.acted && map_or (staged (whole net front plans) one) true (ready (whole net front plans) one))) (same_words shift s.event)
      ∙ ap (λ p. not (is_commit s.event) || (s.acted && map_or p true (ready (whole net front plans) one))) (staged_same shift net front plans behind one other h)
      ∙ ap (λ b. not (is_commit s.event) || (s.acted && b)) (go (staged (setting_over net plans) other))
    where
      go : (p : Option Plan) → map_or p true (ready (whole net front plans) one) ≡ map_or p true (ready (setting_over net plans) other)
      go None = refl
      go (Some plan) =
          three (list_all (is_prepared (whole net front plans) one) (members net plan)) (list_all (is_prepared (setting_over net plans) other) (members net plan))
          (leaves_out_failed (whole net front plans) one plan) (leaves_out_failed (setting_over net plans) other plan)
          (leaves_out_cleanly (whole net front plans) one plan) (leaves_out_cleanly (setting_over net plans) other plan)
          (all_same (is_prepared (whole net front plans) one) (is_prepared (setting_over net plans) other) prepared_alike (members net plan))
          (out_failed_alike plan) (out_cleanly_alike plan)
        where
          three : (a a' b b' c c' : Bool) → a ≡ a' → b ≡ b' → c ≡ c' → (a && b && c) ≡ (a' && b' && c')
          three a a' b b' c c' first second third = rw (first, second, third) refl

  seals_alike : (s : Seen) → seals_orderly (whole net front plans) (raised_seen shift s) one ≡ seals_orderly (setting_over net plans) s other
  seals_alike s =
      ap (λ w. not w.is_seal || has_seal one || map_or (staged (whole net front plans) one) true (entered net one)) (same_words shift s.event)
      ∙ ap (λ b. not (is_seal s.event) || b || map_or (staged (whole net front plans) one) true (entered net one))
      (in_window_same shift net front plans behind one other h (λ x. is_seal x.event) (λ x. is_seal x.event) (λ x. ap (λ w. w.is_seal) (same_words shift x.event)))
      ∙ ap (λ p. not (is_seal s.event) || has_seal other || map_or p true (entered net one)) (staged_same shift net front plans behind one other h)
      ∙ ap (λ b. not (is_seal s.event) || has_seal other || b) (go (staged (setting_over net plans) other))
    where
      go : (p : Option Plan) → map_or p true (entered net one) ≡ map_or p true (entered net other)
      go None = refl
      go (Some plan) =
          all_same (λ d. not (is_up one d) || has_entered one d) (λ d. not (is_up other d) || has_entered other d)
          (λ d. ap (λ b. not b || has_entered one d) (h.up d) ∙ ap (λ b. not (is_up other d) || b) (entered_alike d)) (members net plan)

  fails_alike : (s : Seen) → fails_orderly (raised_seen shift s) one ≡ fails_orderly s other
  fails_alike s =
      ap (λ w. not (is_some w.failure) || not (has_mend one || has_commit one)) (same_words shift s.event)
      ∙ ap (λ b. not (is_some (failure_of s.event)) || not (b || has_commit one))
      (in_window_same shift net front plans behind one other h (λ x. is_some (mended x.event)) (λ x. is_some (mended x.event)) (λ x. ap (λ w. is_some w.mended) (same_words shift x.event)))
      ∙ ap (λ b. not (is_some (failure_of s.event)) || not (has_mend other || b)) (commit_same shift net front plans behind one other h)

  current_alike : (d : ℕ) → is_current_member (whole net front plans) one d ≡ is_current_member (setting_over net plans) other d
  current_alike d =
      ap (λ p. is_member p d || is_staged_member (whole net front plans) one d) (in_force_same shift net front plans behind one other h)
      ∙ ap (λ b. is_member (in_force (setting_over net plans) other) d || b) (staged_member_same shift net front plans behind one other h d)

-- Words of an event, as the premises read them

abbrev is_made_by : EventWords → ℕ → Bool
is_made_by w d = same_number w.started d || same_number w.joined d

abbrev honest_by : Network → EventWords → List Seen → Bool
honest_by net w earlier =
    map_or w.device true (λ d.
    map_or w.counter true (λ c. is_made_by w d || list_all (keeps_reading (rates_of net d) (w.reference, c)) (readings earlier d)))

abbrev here_by : EventWords → List (ℕ × ℕ)
here_by w = option_to_list (option_map (λ c. (w.reference, c)) w.counter)

abbrev readings_by : EventWords → ℕ → List (ℕ × ℕ) → List (ℕ × ℕ)
readings_by w d old = if same_number w.device d then (if is_made_by w d then here_by w else here_by w ++ old) else old

abbrev tick_by : EventWords → ℕ → Option ℕ
tick_by w d = if same_number w.ticked d || is_made_by w d then Some w.reference else None

abbrev untouched_by : EventWords → ℕ → (made failed : Bool) → Bool
untouched_by w d made failed = not (is_made_by w d || made) && not (is_thing w.failure (thing.Device d) || failed)

last_on : (a b c d d' : Bool) → (d ≡ true → d' ≡ true) → (a && b && c && d) ≡ true → (a && b && c && d') ≡ true
last_on true true true d d' on is = on is
last_on true true false d d' on is = cc
last_on true false c d d' on is = cc
last_on false b c d d' on is = cc

-- an event that names a device and does not make it makes none
unmade_some : (e : Event) (d : ℕ) → same_number (device_of e) d ≡ true → makes d e ≡ false → makes_some e ≡ false
unmade_some (event.Start reference m counter clock eps) d named unmade = never (nat_eq m d) named unmade
  where
    never : (b : Bool) → b ≡ true → (b || false) ≡ false → true ≡ false
    never true is apart = apart
    never false is apart = cc
unmade_some (event.Join reference m counter clock eps) d named unmade = sym named ∙ unmade
unmade_some _ d named unmade = refl

later_tick : (reference one other q : ℕ) → one ≤ other → nat_le reference (one + q) ≡ true → nat_le reference (other + q) ≡ true
later_tick reference one other q le due = let h : reference ≤ one + q = leb-true reference (one + q) due in le-leb reference (other + q) (omega (arith, le, h))

module _ (shift : Shift) (net : Network) (front plans : List Plan) (behind : shift.plans ≡ length front) (one other : List Seen) (h : LooksAlike shift one other)
    (agree : PremisesAgree (whole net front plans) (setting_over net plans) one other) (s : Seen) (no_start : started s.event ≡ None)
    (there : (d c : ℕ) → device_of s.event ≡ Some d → counter_of s.event ≡ Some c → makes d s.event ≡ false → is_up other d ≡ true)
    (goes : latest_reference other ≤ reference_of s.event) (falls : counter_falls other s.event ≡ false) where
  words : words_of (raised_event shift s.event) ≡ words_of s.event
  words = same_words shift s.event

  -- a device that is up with this event and was not made by it was up before
  was_up : (d : ℕ) → is_up (s ∷ other) d ≡ true → makes d s.event ≡ false → is_up other d ≡ true
  was_up d up unmade = up_case (makes d s.event) (fails (thing.Device d) s.event) (is_up other d) up unmade

  -- its counter does not fall
  rises : (d c : ℕ) → same_number (device_of s.event) d ≡ true → counter_of s.event ≡ Some c → makes d s.event ≡ false → latest_reading other d ≤ c
  rises d c named reads unmade =
      not_falling (makes_some s.event) (device_of s.event) (counter_of s.event) (latest_reading other) falls (unmade_some s.event d named unmade) d c named reads

  reads_on : reads_honestly (whole net front plans) (raised_seen shift s) one ≡ true → reads_honestly (setting_over net plans) s other ≡ true
  reads_on is = go (device_of s.event) (counter_of s.event) refl refl (by_equal _ _ (ap (λ w. honest_by net w one) words) is)
    where
      by : (d c : ℕ) (m : Bool) → makes d s.event ≡ m → device_of s.event ≡ Some d → counter_of s.event ≡ Some c
          → (m || list_all (keeps_reading (rates_of net d) (reference_of s.event, c)) (readings one d)) ≡ true
          → (m || list_all (keeps_reading (rates_of net d) (reference_of s.event, c)) (readings other d)) ≡ true
      by d c true made named reads is' = refl
      by d c false made named reads is' =
          agree.readings d (reference_of s.event) c (there d c named reads made) goes (rises d c (ap (λ o. same_number o d) named ∙ eq-eqb d d refl) reads made) is'

      go : (o k : Option ℕ) → device_of s.event ≡ o → counter_of s.event ≡ k
          → map_or o true (λ d. map_or k true (λ c. makes d s.event || list_all (keeps_reading (rates_of net d) (reference_of s.event, c)) (readings one d))) ≡ true
          → map_or o true (λ d. map_or k true (λ c. makes d s.event || list_all (keeps_reading (rates_of net d) (reference_of s.event, c)) (readings other d))) ≡ true
      go None k named reads is' = refl
      go (Some d) None named reads is' = refl
      go (Some d) (Some c) named reads is' = by d c (makes d s.event) refl named reads is'

  arrives_alike : arrives_in_time (whole net front plans) (raised_seen shift s) ≡ arrives_in_time (setting_over net plans) s
  arrives_alike = ap (λ w. map_or (option_map (raised_flight shift) s.taken) true (is_in_time (whole net front plans) w.reference)) words ∙ go s.taken
    where
      go : (o : Option Flight) → map_or (option_map (raised_flight shift) o) true (is_in_time (whole net front plans) (reference_of s.event))
          ≡ map_or o true (is_in_time (setting_over net plans) (reference_of s.event))
      go None = refl
      go (Some f) = refl

  ticks_on : ticks_in_time (whole net front plans) (raised_seen shift s) one ≡ true → ticks_in_time (setting_over net plans) s other ≡ true
  ticks_on is =
      and_from _ _
      (all_on (λ d. not (is_up one d && is_current_member (whole net front plans) one d)
      || nat_le (reference_of (raised_event shift s.event)) (latest_tick one d + net.params.tick))
      (λ d. not (is_up other d && is_current_member (setting_over net plans) other d) || nat_le (reference_of s.event) (latest_tick other d + net.params.tick))
      (λ d due. on d (is_up other d) (is_current_member (setting_over net plans) other d) refl
      (by_equal _ _
      (ap (λ w. not (is_up one d && is_current_member (whole net front plans) one d) || nat_le w.reference (latest_tick one d + net.params.tick)) words
      ∙ ap (λ b. not (b && is_current_member (whole net front plans) one d) || nat_le (reference_of s.event) (latest_tick one d + net.params.tick)) (h.up d)
      ∙ ap (λ b. not (is_up other d && b) || nat_le (reference_of s.event) (latest_tick one d + net.params.tick)) (current_alike shift net front plans behind one other h d))
      due))
      (device_numbers net)
      (and_parts _ _ is).0)
      (all_on (λ d. not (is_untouched other d)) (λ d. not (is_untouched other d) || nat_le (reference_of s.event) (first_reference other s + net.params.tick))
      (λ d touched. either (not (is_untouched other d)) (nat_le (reference_of s.event) (first_reference other s + net.params.tick)) touched)
      (members net (plan_numbered (setting_over net plans) 1)) agree.members)
    where
      either : (a b : Bool) → a ≡ true → (a || b) ≡ true
      either true b is' = refl
      either false b is' = cc

      on : (d : ℕ) (up current : Bool) → is_up other d ≡ up
          → (not (up && current) || nat_le (reference_of s.event) (latest_tick one d + net.params.tick)) ≡ true
          → (not (up && current) || nat_le (reference_of s.event) (latest_tick other d + net.params.tick)) ≡ true
      on d false current up' due = refl
      on d true false up' due = refl
      on d true true up' due = later_tick (reference_of s.event) (latest_tick one d) (latest_tick other d) net.params.tick (agree.ticks d up') due

  fails_within_alike : fails_within_one (whole net front plans) (raised_seen shift s) one ≡ fails_within_one (setting_over net plans) s other
  fails_within_alike =
      ap (λ w. is_some (within_one net (option_to_list w.failure ++ failures_since_closing one))) words ∙ ap is_some (by (failure_of s.event))
    where
      by : (o : Option Thing)
          → within_one net (option_to_list o ++ failures_since_closing one) ≡ within_one net (option_to_list o ++ failures_since_closing other)
      by None = within_one_same net (failures_since_closing one) (failures_since_closing other) agree.failures
      by (Some y) =
          within_one_same net (y ∷ failures_since_closing one) (y ∷ failures_since_closing other) (λ x. ap (λ b. same_thing x y || b) (agree.failures x))

  begins_on : begins_orderly (whole net front plans) (raised_seen shift s) one ≡ true → begins_orderly (setting_over net plans) s other ≡ true
  begins_on is =
      by_equal (map_or (joined s.event) true (λ d. not (is_member (in_force (setting_over net plans) other) d && is_untouched other d)))
      (begins_orderly (setting_over net plans) s other)
      (ap (λ o. not (is_some o && list_any (λ x. is_stage x.event) other)
      && map_or (joined s.event) true (λ d. not (is_member (in_force (setting_over net plans) other) d && is_untouched other d))) (sym no_start))
      (go (joined s.event)
      (by_equal _ _
      (ap (λ w. map_or w.joined true (λ d. not (is_member (in_force (whole net front plans) one) d && is_untouched one d))) words
      ∙ ap (λ p. map_or (joined s.event) true (λ d. not (is_member p d && is_untouched one d))) (in_force_same shift net front plans behind one other h))
      (and_parts _ _ is).1))
    where
      by : (d : ℕ) (m now before : Bool) → (now ≡ true → before ≡ true) → not (m && before) ≡ true → not (m && now) ≡ true
      by d false now before on is' = refl
      by d true false before on is' = refl
      by d true true before on is' = let yes : before ≡ true = on refl in let no : not before ≡ true = is' in absurd (both before yes no)
        where
          both : (b : Bool) → b ≡ true → not b ≡ true → ⊥
          both true x y = cc
          both false x y = cc

      go : (o : Option ℕ) → map_or o true (λ d. not (is_member (in_force (setting_over net plans) other) d && is_untouched one d)) ≡ true
          → map_or o true (λ d. not (is_member (in_force (setting_over net plans) other) d && is_untouched other d)) ≡ true
      go None is' = refl
      go (Some d) is' = by d (is_member (in_force (setting_over net plans) other) d) (is_untouched other d) (is_untouched one d) (agree.untouched d) is'

  renews_on : (commits_orderly (whole net front plans) (raised_seen shift s) one && seals_orderly (whole net front plans) (raised_seen shift s) one
      && fails_orderly (raised_seen shift s) one && begins_orderly (whole net front plans) (raised_seen shift s) one) ≡ true
      → (commits_orderly (setting_over net plans) s other && seals_orderly (setting_over net plans) s other && fails_orderly s other
      && begins_orderly (setting_over net plans) s other) ≡ true
  renews_on is =
      last_on (commits_orderly (setting_over net plans) s other) (seals_orderly (setting_over net plans) s other) (fails_orderly s other)
      (begins_orderly (whole net front plans) (raised_seen shift s) one) (begins_orderly (setting_over net plans) s other) begins_on
      (by_equal _ _
      (three (commits_orderly (whole net front plans) (raised_seen shift s) one) (commits_orderly (setting_over net plans) s other)
      (seals_orderly (whole net front plans) (raised_seen shift s) one) (seals_orderly (setting_over net plans) s other)
      (fails_orderly (raised_seen shift s) one) (fails_orderly s other) (begins_orderly (whole net front plans) (raised_seen shift s) one)
      (commits_alike shift net front plans behind one other h s) (seals_alike shift net front plans behind one other h s) (fails_alike shift net front plans behind one other h s))
      is)
    where
      three : (a a' b b' c c' d : Bool) → a ≡ a' → b ≡ b' → c ≡ c' → (a && b && c && d) ≡ (a' && b' && c' && d)
      three a a' b b' c c' d first second third = rw (first, second, third) refl

  -- what is kept

  -- what all readings pass, where those of before do
  readings_kept : (d : ℕ) (test : ℕ × ℕ → Bool)
      → (makes d s.event ≡ false → list_all test (readings one d) ≡ true → list_all test (readings other d) ≡ true)
      → list_all test (readings (raised_seen shift s ∷ one) d) ≡ true → list_all test (readings (s ∷ other) d) ≡ true
  readings_kept d test before all =
      go (same_number (device_of s.event) d) (makes d s.event) refl refl (by_equal _ _ (ap (λ w. list_all test (readings_by w d (readings one d))) words) all)
    where
      both : (xs ys zs : List (ℕ × ℕ)) → (list_all test ys ≡ true → list_all test zs ≡ true) → list_all test (xs ++ ys) ≡ true → list_all test (xs ++ zs) ≡ true
      both xs ys zs on is = by_equal _ _ (sym (list_all-append test xs zs))
          (and_on (list_all test xs) (list_all test xs) (list_all test ys) (list_all test zs) (λ x. x) on (by_equal _ _ (list_all-append test xs ys) is))

      unmade : (m : Bool) → makes d s.event ≡ m → same_number (device_of s.event) d ≡ false → makes d s.event ≡ false
      unmade false made apart = made
      unmade true made apart =
          let reads : (c : ℕ) × (reading_by (words_of s.event) d ≡ Some c) = made_reads s.event d made in
          let none : reading_by (words_of s.event) d ≡ None = ap (λ b. if b then counter_of s.event else None) apart in
          let no : None ≡ Some reads.0 = sym none ∙ reads.1 in
          cc

      go : (b m : Bool) → same_number (device_of s.event) d ≡ b → makes d s.event ≡ m
          → list_all test (if b then (if m then here_by (words_of s.event) else here_by (words_of s.event) ++ readings one d) else readings one d) ≡ true
          → list_all test (if b then (if m then here_by (words_of s.event) else here_by (words_of s.event) ++ readings other d) else readings other d) ≡ true
      go true true named made is = is
      go true false named made is = both (here_by (words_of s.event)) (readings one d) (readings other d) (before made) is
      go false m named made is = before (unmade (makes d s.event) refl named) is

  readings_on : (d reference counter : ℕ) → is_up (s ∷ other) d ≡ true → latest_reference (s ∷ other) ≤ reference
      → latest_reading (s ∷ other) d ≤ counter → keeps_with (setting_over net plans) (raised_seen shift s ∷ one) d reference counter ≡ true
      → keeps_with (setting_over net plans) (s ∷ other) d reference counter ≡ true
  readings_on d reference counter up later further all =
      readings_kept d (keeps_reading (rates_of net d) (reference, counter))
      (λ unmade. agree.readings d reference counter (was_up d up unmade) (on (latest_reference other) (reference_of s.event) reference goes later)
      (before unmade (same_number (device_of s.event) d) (counter_of s.event) refl refl further)) all
    where
      on : (a b c : ℕ) → a ≤ b → b ≤ c → a ≤ c
      on a b c first second = omega (arith, first, second)

      before : makes d s.event ≡ false → (b : Bool) (o : Option ℕ) → same_number (device_of s.event) d ≡ b → counter_of s.event ≡ o
          → told (if b then o else None) (latest_reading other d) ≤ counter → latest_reading other d ≤ counter
      before unmade true (Some c) named reads within = on (latest_reading other d) c counter (rises d c named reads unmade) within
      before unmade true None named reads within = within
      before unmade false o named reads within = within

  ticks_kept : (d : ℕ) → is_up (s ∷ other) d ≡ true → latest_tick (raised_seen shift s ∷ one) d ≤ latest_tick (s ∷ other) d
  ticks_kept d up =
      subst (λ n. n ≤ latest_tick (s ∷ other) d) (sym (ap (λ w. told (tick_by w d) (latest_tick one d)) words))
      (go (same_number (ticked s.event) d) (makes d s.event) refl)
    where
      go : (t m : Bool) → makes d s.event ≡ m
          → told (if t || m then Some (reference_of s.event) else None) (latest_tick one d) ≤ told (if t || m then Some (reference_of s.event) else None) (latest_tick other d)
      go true m made = omega arith
      go false true made = omega arith
      go false false made = agree.ticks d (was_up d up made)

  members_kept : list_all (λ d. not (is_untouched (s ∷ other) d)) (members net (plan_numbered (setting_over net plans) 1)) ≡ true
  members_kept =
      all_on (λ d. not (is_untouched other d)) (λ d. not (is_untouched (s ∷ other) d))
      (λ d touched. go (makes d s.event) (fails (thing.Device d) s.event) (was_made other d) (has_ever_failed other d) touched)
      (members net (plan_numbered (setting_over net plans) 1)) agree.members
    where
      go : (m k w f : Bool) → not (not w && not f) ≡ true → not (not (m || w) && not (k || f)) ≡ true
      go true k w f is = refl
      go false true true f is = refl
      go false true false f is = refl
      go false false w f is = is

  untouched_kept : (d : ℕ) → is_untouched (s ∷ other) d ≡ true → is_untouched (raised_seen shift s ∷ one) d ≡ true
  untouched_kept d is =
      by_equal _ _ (sym (ap (λ w. untouched_by w d (was_made one d) (has_ever_failed one d)) words))
      (go (makes d s.event) (fails (thing.Device d) s.event) (was_made other d) (has_ever_failed other d) (was_made one d) (has_ever_failed one d) (agree.untouched d) is)
    where
      go : (m k w f w' f' : Bool) → ((not w && not f) ≡ true → (not w' && not f') ≡ true) → (not (m || w) && not (k || f)) ≡ true → (not (m || w') && not (k || f')) ≡ true
      go true k w f w' f' on is' = cc
      go false true true f w' f' on is' = cc
      go false true false f w' f' on is' = cc
      go false false w f w' f' on is' = on is'

  failures_kept : (y : Thing) → list_any (same_thing y) (failures_since_closing (raised_seen shift s ∷ one))
      ≡ list_any (same_thing y) (failures_since_closing (s ∷ other))
  failures_kept y = go s.closed
    where
      on : (o : Option Thing)
          → list_any (same_thing y) (cons_option o (failures_since_closing one)) ≡ list_any (same_thing y) (cons_option o (failures_since_closing other))
      on None = agree.failures y
      on (Some z) = ap (λ b. same_thing y z || b) (agree.failures y)

      go : (c : Bool)
          → list_any (same_thing y) (filter_map (λ (x : Seen). failure_of x.event) (if not c then raised_seen shift s ∷ leading (λ x. not x.closed) one else []))
          ≡ list_any (same_thing y) (filter_map (λ (x : Seen). failure_of x.event) (if not c then s ∷ leading (λ x. not x.closed) other else []))
      go true = refl
      go false = ap (λ w. list_any (same_thing y) (cons_option w.failure (failures_since_closing one))) words ∙ on (failure_of s.event)

  -- With the event, each premise that holds of the first holds of the second.
  pub premises_agree_after : PremisesAgree (whole net front plans) (setting_over net plans) (raised_seen shift s ∷ one) (s ∷ other)
  premises_agree_after =
      record {
        start = and_on _ _ _ _ (by_equal _ _ (clock_same shift s.event)) agree.start;
        drift = and_on _ _ _ _ agree.drift reads_on;
        delay = and_on _ _ _ _ (by_equal _ _ arrives_alike) agree.delay;
        tick = and_on _ _ _ _ agree.tick ticks_on;
        domain = and_on _ _ _ _ agree.domain (by_equal _ _ fails_within_alike);
        renew = and_on _ _ _ _ agree.renew renews_on;
        readings = readings_on;
        ticks = ticks_kept;
        members = members_kept;
        untouched = untouched_kept;
        failures = failures_kept;
      }
