-- A history in which no plan is staged is one of its first plan alone: nothing in it depends on the plans that come after.
use Rattle.std.specs.Prelude.{◌≡◌, ℕ, ◌+◌, Bool, true, false, ◌&&◌, ◌||◌, not, List, [], ◌∷◌, length, count_by, find, filter, nat_eq, nat_le, Some, None, is_some, option_map, refl, if◌then◌else◌}
use Rattle.std.specs.List.{list_any, list_all}
use Rattle.std.proofs.Common.{sym, ◌∙◌, ap, subst, cond}
use Rattle.std.proofs.lemmas.Bool.{and_parts, and_from, not-true}
use Rattle.std.proofs.lemmas.List.Sums.{sum_by-cons}
use Rattle.sd_num.specs.Lists.{map_or}
use Rattle.sd_plan.specs.topo.Network.{Network, device_numbers}
use Rattle.sd_plan.specs.declared.Plan.{Plan}
use Rattle.sd_plan.specs.declared.End.{End}
use Rattle.sd_plan.specs.Plans.{members, is_member}
use Rattle.sd_plan.specs.Duties.{duty_of, ends_of}
use Rattle.sd_device.specs.declared.msg.Flight.{Flight}
use Rattle.sd_device.specs.declared.msg.Message.{Message}
use Rattle.sd_device.specs.declared.Effect.{Effect}
use Rattle.sd_device.specs.declared.Effect.TheVariants.{Quiet, Send}
use Rattle.sd_device.specs.Calls as calls
use Rattle.sd_sched.specs.declared.Event.{Event}
use Rattle.sd_sched.specs.declared.Event.TheVariants as event
use Rattle.sd_sched.specs.Events.{reference_of, device_of, started, joined, given, is_stage, is_commit, is_seal}
use Rattle.sd_history.specs.declared.ApplyFault.{ApplyFault}
use Rattle.sd_history.specs.declared.ApplyFault.TheVariants as fault
use Rattle.sd_history.specs.Things.{mended}
use Rattle.sd_history.specs.World.{Setting, Seen, setting_over, alone, is_up, was_made, is_untouched, window, window_is_open, has_commit, epoch_in_force, staged_epoch, plan_numbered, in_force, staged, current_plan, is_staged_member, joined_in_window, has_entered}
use Rattle.sd_history.specs.Steps.{Act, Makes, Calls, Passes, Told, Step, seen_of, changed, act_by, flight_count, flight_to, flights_to, flights_by, flights_of, ends_at, can_close, has_settled, taken_by, acted_by, activated_by, complete}
use Rattle.sd_history.specs.Refusals.{unknown_device, unknown_link, dead_device, dead_link, unknown_message, spent_message, wrong_device, time_falls, counter_falls, not_started, started_twice, no_plan_left, window_order, window_order_within, past_preparing, after_end, not_failed, not_member, too_many, refusal}
use Rattle.sd_history.specs.Chronicle.{told_by, next_step, chronicle, IsHistory}
use Rattle.sd_history.specs.Premises.{at_each, start_holds, drift_holds, delay_holds, loss_holds, domain_holds, renew_holds, all_hold, latest_tick, first_reference, ticks_in_time, was_given, leaves_out_failed, leaves_out_cleanly, has_seal, commits_orderly, seals_orderly, fails_orderly, begins_orderly}

-- no plan was staged, and no window closed
abbrev pub is_first_era : List Seen → Bool
is_first_era seen = list_all (λ s. not (is_stage s.event) && not s.closed) seen

unstaged_first : (s : Seen) (seen : List Seen) → is_first_era (s ∷ seen) ≡ true → is_stage s.event ≡ false
unstaged_first s seen first =
    not-true (is_stage s.event)
    (and_parts (not (is_stage s.event)) (not s.closed) (and_parts (not (is_stage s.event) && not s.closed) (is_first_era seen) first).0).0

open_first : (s : Seen) (seen : List Seen) → is_first_era (s ∷ seen) ≡ true → s.closed ≡ false
open_first s seen first =
    not-true s.closed (and_parts (not (is_stage s.event)) (not s.closed) (and_parts (not (is_stage s.event) && not s.closed) (is_first_era seen) first).0).1

rest_first : (s : Seen) (seen : List Seen) → is_first_era (s ∷ seen) ≡ true → is_first_era seen ≡ true
rest_first s seen first = (and_parts (not (is_stage s.event) && not s.closed) (is_first_era seen) first).1

no_window : (seen : List Seen) → is_first_era seen ≡ true → window seen ≡ None
no_window [] first = refl
no_window (s ∷ seen) first =
    (λ i. if open_first s seen first i then None else if unstaged_first s seen first i then Some []
    else option_map (λ w. s ∷ w) (no_window seen (rest_first s seen first) i))

none_closed : (seen : List Seen) → is_first_era seen ≡ true → count_by (λ s. s.closed) seen ≡ 0
none_closed [] first = refl
none_closed (s ∷ seen) first =
    sum_by-cons (λ s. cond s.closed 1 0) s seen ∙ (λ i. cond (open_first s seen first i) 1 0 + none_closed seen (rest_first s seen first) i)

first_epoch : (seen : List Seen) → is_first_era seen ≡ true → epoch_in_force seen ≡ 1
first_epoch seen first = ap (λ n. n + 1) (none_closed seen first)

-- what is asked of each event and those before it is the same where both tests are
each_same : (test other : Seen → List Seen → Bool) → ((s : Seen) (earlier : List Seen) → is_first_era earlier ≡ true → test s earlier ≡ other s earlier)
    → (seen : List Seen) → is_first_era seen ≡ true → at_each test seen ≡ at_each other seen
each_same test other same [] first = refl
each_same test other same (s ∷ earlier) first =
    λ i. each_same test other same earlier (rest_first s earlier first) i && same s earlier (rest_first s earlier first) i

module _ (net : Network) (plan : Plan) (others : List Plan) where
  abbrev many : Setting
  many = setting_over net (plan ∷ others)

  abbrev one : Setting
  one = alone net plan

  -- Plans

  in_force_same : (seen : List Seen) → is_first_era seen ≡ true → in_force many seen ≡ in_force one seen
  in_force_same seen first = ap (plan_numbered many) (first_epoch seen first) ∙ sym (ap (plan_numbered one) (first_epoch seen first))

  staged_same : (seen : List Seen) → is_first_era seen ≡ true → staged many seen ≡ staged one seen
  staged_same seen first =
      ap (option_map (λ w. plan_numbered many (staged_epoch seen))) (no_window seen first)
      ∙ sym (ap (option_map (λ w. plan_numbered one (staged_epoch seen))) (no_window seen first))

  current_same : (seen : List Seen) → is_first_era seen ≡ true → (epoch : ℕ) → current_plan many seen epoch ≡ current_plan one seen epoch
  current_same seen first epoch =
      λ i. if nat_eq epoch (epoch_in_force seen) then Some (in_force_same seen first i)
      else if nat_eq epoch (staged_epoch seen) then staged_same seen first i
      else None

  staged_member_same : (seen : List Seen) → is_first_era seen ≡ true → (d : ℕ) → is_staged_member many seen d ≡ is_staged_member one seen d
  staged_member_same seen first d = λ i. map_or (staged_same seen first i) false (λ p. is_member p d)

  -- Steps

  module _ (steps : List Step) (first : is_first_era (seen_of steps) ≡ true) where
    act_same : (e : Event) → act_by many steps e ≡ act_by one steps e
    act_same (event.Start reference device counter clock eps) =
        λ i. Makes device (calls.Started (duty_of net (in_force_same (seen_of steps) first i) (epoch_in_force (seen_of steps)) device) counter clock eps)
    act_same (event.Give reference device) =
        λ i. map_or (staged_same (seen_of steps) first i) Passes (λ p. Calls device (calls.Give (duty_of net p (staged_epoch (seen_of steps)) device)))
    act_same _ = refl

    flights_to_same : (reference sender : ℕ) (message : Message) (number : ℕ) (ends : List End)
        → flights_to many steps reference sender message number ends ≡ flights_to one steps reference sender message number ends
    flights_to_same reference sender message number [] = refl
    flights_to_same reference sender message number (x ∷ ends) =
        λ i. flight_to one steps reference sender message number x ∷ flights_to_same reference sender message (number + 1) ends i

    flights_by_same : (reference d epoch : ℕ) (effect : Effect)
        → flights_by many steps reference d epoch effect ≡ flights_by one steps reference d epoch effect
    flights_by_same reference d epoch Quiet = refl
    flights_by_same reference d epoch (Send message) =
        flights_to_same reference d message (flight_count steps + 1) (ends_at many steps epoch d)
        ∙ (λ i. flights_to one steps reference d message (flight_count steps + 1)
        (map_or (current_same (seen_of steps) first epoch i) [] (λ p. ends_of net p d)))

    flights_same : (reference : ℕ) (act : Act) (told : Told) → flights_of many steps reference act told ≡ flights_of one steps reference act told
    flights_same reference act told =
        λ i. map_or (changed act) [] (λ d. map_or told.answers [] (λ a. flights_by_same reference d a.epoch told.effect i))

    -- no window closes
    closes_none : (setting : Setting) → can_close setting steps ≡ false
    closes_none setting =
        λ i. map_or (no_window (seen_of steps) first i) false (list_any (λ s. is_commit s.event))
        && map_or (staged setting (seen_of steps)) false (λ p.
        let present = filter (is_up (seen_of steps)) (members setting.net p) in
        nat_le 1 (length present) && list_all (has_settled steps (staged_epoch (seen_of steps))) present)

  module _ (steps : List Step) (first : is_first_era (seen_of steps) ≡ true) (e : Event) (unstaged : is_stage e ≡ false) where
    -- the step before it is known what it closes
    abbrev made : Act → Told → List Flight → Step
    made act told sent =
        record {
          seen =
              record {
                event = e;
                taken = taken_by steps e;
                sent = filter (λ f. f.reaches) sent;
                activated = None;
                acted = acted_by steps e;
                closed = false;
              };
          act = act;
          told = told;
          sent = sent;
        }

    abbrev act : Act
    act = act_by one steps e

    abbrev sent : List Flight
    sent = flights_of one steps (reference_of e) act (told_by steps act)

    made_first : is_first_era (seen_of (made act (told_by steps act) sent ∷ steps)) ≡ true
    made_first = λ i. (not (unstaged i) && not false) && first i

    next_same : next_step many steps e ≡ next_step one steps e
    next_same =
        (λ i. complete many steps (made (act_same steps first e i) (told_by steps (act_same steps first e i))
        (flights_of many steps (reference_of e) (act_same steps first e i) (told_by steps (act_same steps first e i)))))
        ∙ (λ i. complete many steps (made act (told_by steps act) (flights_same steps first (reference_of e) act (told_by steps act) i)))
        ∙ (λ i. record {
          seen =
              record {
                event = e;
                taken = taken_by steps e;
                sent = filter (λ f. f.reaches) sent;
                activated = activated_by steps (made act (told_by steps act) sent);
                acted = acted_by steps e;
                closed = both i;
              };
          act = act;
          told = told_by steps act;
          sent = sent;
        })
      where
        both : can_close many (made act (told_by steps act) sent ∷ steps) ≡ can_close one (made act (told_by steps act) sent ∷ steps)
        both =
            closes_none (made act (told_by steps act) sent ∷ steps) made_first many
            ∙ sym (closes_none (made act (told_by steps act) sent ∷ steps) made_first one)

    next_first : is_first_era (seen_of (next_step one steps e ∷ steps)) ≡ true
    next_first = λ i. (not (unstaged i) && not (closes_none (made act (told_by steps act) sent ∷ steps) made_first one i)) && first i

    -- Refusals

    plan_left_same : no_plan_left many (seen_of steps) e ≡ no_plan_left one (seen_of steps) e
    plan_left_same =
        (λ i. unstaged i && not (window_is_open (seen_of steps)) && nat_le (length many.plans) (epoch_in_force (seen_of steps)))
        ∙ sym (λ i. unstaged i && not (window_is_open (seen_of steps)) && nat_le (length one.plans) (epoch_in_force (seen_of steps)))

    order_same : window_order many steps e ≡ window_order one steps e
    order_same =
        λ i. ((is_stage e && window_is_open (seen_of steps))
        || ((is_some (given e) || is_some (joined e) || is_some (mended e) || is_commit e) && past_preparing (seen_of steps))
        || (is_commit e
        && map_or (device_of e) false (λ d. not (map_or (staged_same (seen_of steps) first i) false (λ p. nat_eq p.root d))))
        || (is_seal e && (not (window_is_open (seen_of steps)) || not (has_commit (seen_of steps)))))
        || window_order_within steps e

    twice_same : started_twice many (seen_of steps) e ≡ started_twice one (seen_of steps) e
    twice_same =
        λ i. map_or (started e) false (was_made (seen_of steps))
        || map_or (joined e) false (λ d.
        is_up (seen_of steps) d && (is_member (in_force_same (seen_of steps) first i) d || joined_in_window (seen_of steps) d))

    member_same : not_member many (seen_of steps) e ≡ not_member one (seen_of steps) e
    member_same =
        λ i. map_or (started e) false (λ d. not (is_member (in_force_same (seen_of steps) first i) d))
        || map_or (given e) false (λ d. not (staged_member_same (seen_of steps) first d i))
        || map_or (joined e) false (λ d. not (staged_member_same (seen_of steps) first d i))

    refusal_same : refusal many steps e ≡ refusal one steps e
    refusal_same =
        λ i. option_map (λ (cause : ApplyFault × Bool). cause.0) (find (λ (cause : ApplyFault × Bool). cause.1)
        ((fault.UnknownDevice, unknown_device one e)
        ∷ (fault.UnknownLink, unknown_link one e)
        ∷ (fault.DeadDevice, dead_device (seen_of steps) e)
        ∷ (fault.DeadLink, dead_link (seen_of steps) e)
        ∷ (fault.UnknownMessage, unknown_message steps e)
        ∷ (fault.SpentMessage, spent_message steps e)
        ∷ (fault.WrongDevice, wrong_device steps e)
        ∷ (fault.TimeFalls, time_falls (seen_of steps) e)
        ∷ (fault.CounterFalls, counter_falls (seen_of steps) e)
        ∷ (fault.NotStarted, not_started (seen_of steps) e)
        ∷ (fault.StartedTwice, twice_same i)
        ∷ (fault.NoPlanLeft, plan_left_same i)
        ∷ (fault.WindowOrder, order_same i)
        ∷ (fault.AfterEnd, after_end (seen_of steps))
        ∷ (fault.NotFailed, not_failed (seen_of steps) e)
        ∷ (fault.NotMember, member_same i)
        ∷ (fault.TooManyEvents, too_many (seen_of steps))
        ∷ []))

  -- Histories

  abbrev none_staged : List Event → Bool
  none_staged history = list_all (λ e. not (is_stage e)) history

  unstaged_now : (e : Event) (history : List Event) → none_staged (e ∷ history) ≡ true → is_stage e ≡ false
  unstaged_now e history none = not-true (is_stage e) (and_parts (not (is_stage e)) (none_staged history) none).0

  unstaged_before : (e : Event) (history : List Event) → none_staged (e ∷ history) ≡ true → none_staged history ≡ true
  unstaged_before e history none = (and_parts (not (is_stage e)) (none_staged history) none).1

  pub stays_first : (history : List Event) → none_staged history ≡ true → is_first_era (seen_of (chronicle one history)) ≡ true
  stays_first [] none = refl
  stays_first (e ∷ history) none =
      next_first (chronicle one history) (stays_first history (unstaged_before e history none)) e (unstaged_now e history none)

  pub chronicle_same : (history : List Event) → none_staged history ≡ true → chronicle many history ≡ chronicle one history
  chronicle_same [] none = refl
  chronicle_same (e ∷ history) none =
      (λ i. next_step many (chronicle_same history (unstaged_before e history none) i) e ∷ chronicle_same history (unstaged_before e history none) i)
      ∙ (λ i. next_same (chronicle one history) (stays_first history (unstaged_before e history none)) e (unstaged_now e history none) i
      ∷ chronicle one history)

  pub history_alone : (history : List Event) → none_staged history ≡ true → IsHistory many history → IsHistory one history
  history_alone [] none is = tt
  history_alone (e ∷ history) none is =
      let before : none_staged history ≡ true = unstaged_before e history none in (
        history_alone history before is.0,
        sym (refusal_same (chronicle one history) (stays_first history before) e (unstaged_now e history none))
            ∙ subst (λ (steps : List Step). refusal many steps e ≡ None) (chronicle_same history before) is.1,
      )

  -- Premises

  ticks_same : (s : Seen) (earlier : List Seen) → is_first_era earlier ≡ true → ticks_in_time many s earlier ≡ ticks_in_time one s earlier
  ticks_same s earlier first =
      λ i. list_all (λ d. not (is_up earlier d && (is_member (in_force_same earlier first i) d || staged_member_same earlier first d i))
      || nat_le (reference_of s.event) (latest_tick earlier d + net.params.tick)) (device_numbers net)
      && list_all (λ d. not (is_untouched earlier d)
      || nat_le (reference_of s.event) (first_reference earlier s + net.params.tick)) (members net plan)

  commits_same : (s : Seen) (earlier : List Seen) → is_first_era earlier ≡ true → commits_orderly many s earlier ≡ commits_orderly one s earlier
  commits_same s earlier first =
      λ i. not (is_commit s.event)
      || (s.acted
      && map_or (staged_same earlier first i) true (λ p.
      list_all (λ d. is_up earlier d && was_given earlier d && (is_member (in_force_same earlier first i) d || joined_in_window earlier d)) (members net p)
      && leaves_out_failed one earlier p
      && leaves_out_cleanly one earlier p))

  seals_same : (s : Seen) (earlier : List Seen) → is_first_era earlier ≡ true → seals_orderly many s earlier ≡ seals_orderly one s earlier
  seals_same s earlier first =
      λ i. not (is_seal s.event) || has_seal earlier
      || map_or (staged_same earlier first i) true (λ p. list_all (λ d. not (is_up earlier d) || has_entered earlier d) (members net p))

  begins_same : (s : Seen) (earlier : List Seen) → is_first_era earlier ≡ true → begins_orderly many s earlier ≡ begins_orderly one s earlier
  begins_same s earlier first =
      λ i. not (is_some (started s.event) && list_any (λ x. is_stage x.event) earlier)
      && map_or (joined s.event) true (λ d. not (is_member (in_force_same earlier first i) d && is_untouched earlier d))

  renewals_same : (seen : List Seen) → is_first_era seen ≡ true → renew_holds many seen ≡ renew_holds one seen
  renewals_same =
      each_same (λ s earlier. commits_orderly many s earlier && seals_orderly many s earlier && fails_orderly s earlier && begins_orderly many s earlier)
      (λ s earlier. commits_orderly one s earlier && seals_orderly one s earlier && fails_orderly s earlier && begins_orderly one s earlier)
      (λ s earlier first. λ i. commits_same s earlier first i && seals_same s earlier first i && fails_orderly s earlier && begins_same s earlier first i)

  pub premises_same : (seen : List Seen) → is_first_era seen ≡ true → all_hold many seen ≡ all_hold one seen
  premises_same seen first =
      λ i. start_holds seen && drift_holds one seen && delay_holds one seen && each_same (ticks_in_time many) (ticks_in_time one) ticks_same seen first i
      && loss_holds one seen && domain_holds one seen && renewals_same seen first i

  -- no event of the history stages a plan where none of its steps does
  pub none_staged_in : (setting : Setting) (history : List Event) → list_all (λ s. not (is_stage s.event)) (seen_of (chronicle setting history)) ≡ true
      → none_staged history ≡ true
  none_staged_in setting [] none = refl
  none_staged_in setting (e ∷ history) none =
      let (now, before) = and_parts (not (is_stage e)) (list_all (λ s. not (is_stage s.event)) (seen_of (chronicle setting history))) none in
      and_from (not (is_stage e)) (none_staged history) now (none_staged_in setting history before)
