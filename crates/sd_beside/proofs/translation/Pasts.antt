-- A device whose counters and clocks are moved does at each call what it did before: what it sends and reports is moved, and it answers the same.
use Rattle.std.specs.Prelude.{◌≡◌, ℕ, ◌+◌, ◌-◌, Bool, true, false, ◌&&◌, ◌||◌, not, ◌⊎◌, List, [], ◌∷◌, map, max, nat_eq, nat_le, Option, Some, None, is_some, option_map, option_and_then, refl, if◌then◌else◌}
use Rattle.std.specs.List.{list_any}
use Rattle.std.proofs.Common.{arith, ◌∙◌, ap, inl, inr}
use Rattle.sd_num.specs.Lists.{map_or, find_map_or}
use Rattle.sd_plan.specs.declared.Duty.{Duty}
use Rattle.sd_plan.specs.declared.Edge.{Edge}
use Rattle.sd_plan.specs.declared.Role.TheVariants as role
use Rattle.sd_num.specs.declared.clock.Estimate.{Estimate}
use Rattle.sd_num.specs.declared.Rates.{Rates}
use Rattle.sd_num.specs.Numbers.{grow}
use Rattle.sd_num.specs.clock.Estimates.{report_of}
use Rattle.sd_device.specs.declared.msg.Stamp.{Stamp}
use Rattle.sd_device.specs.msg.Stamps.{is_newer, message_of}
use Rattle.sd_device.specs.declared.Effect.TheVariants.{Send}
use Rattle.sd_device.specs.Calls.{Making, Started, Joined, Call, Tick, Receive, Fix, Give, Commit, Seal, Transition, Entered, Committed, Recommitted, Accepted, Moved, TookOver, Emitted, Nothing, CallDone, Past}
use Rattle.sd_device.specs.Words.{making_counter, counter_of, taken_up, takes_up, accepted_over, is_move, is_takeover, since_entry, later_entry, first_duty, duty_now, epoch_now, first_rates, rates_now, is_seal, is_sealed, duty_given, given_now, heard, has_moved, moved_at, starts_as_root, is_commit, is_acting, parent_edge, received_stamp, stamp_after, stamp_of, stamp_now, emits, sent_at, first_estimate, estimate_set, estimate_now, report_at, wait_to_move, may_move, moves_at, is_backup_root_now, takes_over_at, emits_at, over_link, entered_by, accepted_by, transition_of, after, relayed, emitted, effect_of_latest, effect_of}
use Rattle.sd_history.specs.Chronicle.{answers_by}
use Rattle.sd_beside.specs.translation.Moves.{moved_report, moved_estimate, moved_message, moved_effect, moved_making, moved_call}
use Rattle.sd_beside.proofs.translation.Lists.{any_mapped, told_mapped, leading_mapped, find_mapped, look_up_moved, number_moved, MovedOrNone}

-- a call with what it did, and the past of a device
abbrev pub moved_did : (time by : ℕ) → CallDone → CallDone
moved_did time by x = record { call = moved_call time by x.call; transition = x.transition }

abbrev pub moved_past : (time by : ℕ) → Past → Past
moved_past time by past = record { making = moved_making time by past.making; did = map (moved_did time by) past.did }

pub same_difference : (a b by : ℕ) → (a + by) - (b + by) ≡ a - b
same_difference a b by = omega arith

module _ (time by : ℕ) where
  -- the makings and the calls

  first_duty_same : (making : Making) → first_duty (moved_making time by making) ≡ first_duty making
  first_duty_same (Started duty counter clock eps) = refl
  first_duty_same (Joined rates counter clock eps) = refl

  first_rates_same : (making : Making) → first_rates (moved_making time by making) ≡ first_rates making
  first_rates_same (Started duty counter clock eps) = refl
  first_rates_same (Joined rates counter clock eps) = refl

  starts_same : (making : Making) → starts_as_root (moved_making time by making) ≡ starts_as_root making
  starts_same (Started duty counter clock eps) = refl
  starts_same (Joined rates counter clock eps) = refl

  making_counter_moved : (making : Making) → making_counter (moved_making time by making) ≡ making_counter making + by
  making_counter_moved (Started duty counter clock eps) = refl
  making_counter_moved (Joined rates counter clock eps) = refl

  first_estimate_moved : (making : Making) → first_estimate (moved_making time by making) ≡ moved_estimate time by (first_estimate making)
  first_estimate_moved (Started duty counter clock eps) = refl
  first_estimate_moved (Joined rates counter clock eps) = refl

  seal_same : (call : Call) → is_seal (moved_call time by call) ≡ is_seal call
  seal_same (Tick counter) = refl
  seal_same _ = refl

  duty_given_same : (call : Call) → duty_given (moved_call time by call) ≡ duty_given call
  duty_given_same (Tick counter) = refl
  duty_given_same _ = refl

  counter_moved : (call : Call) → counter_of (moved_call time by call) ≡ option_map (λ n. n + by) (counter_of call)
  counter_moved (Tick counter) = refl
  counter_moved _ = refl

  received_stamp_same : (call : Call) (before : Stamp) → received_stamp (moved_call time by call) before ≡ received_stamp call before
  received_stamp_same (Tick counter) before = refl
  received_stamp_same _ before = refl

  -- what a device answers

  since_entry_moved : (past : Past) → since_entry (moved_past time by past) ≡ map (moved_did time by) (since_entry past)
  since_entry_moved past = leading_mapped (moved_did time by) (λ x. not (takes_up x)) (λ x. not (takes_up x)) (λ x. refl) past.did

  later_entry_moved : (past : Past) → later_entry (moved_past time by past) ≡ option_map (moved_did time by) (later_entry past)
  later_entry_moved past = find_mapped (moved_did time by) takes_up takes_up (λ x. refl) past.did

  any_since_same : (test : CallDone → Bool) → ((x : CallDone) → test (moved_did time by x) ≡ test x) → (past : Past)
      → list_any test (since_entry (moved_past time by past)) ≡ list_any test (since_entry past)
  any_since_same test same past =
      ap (list_any test) (since_entry_moved past) ∙ any_mapped (moved_did time by) test test same (since_entry past)

  pub duty_same : (past : Past) → duty_now (moved_past time by past) ≡ duty_now past
  duty_same past =
      told_mapped (moved_did time by) (λ x. option_map Some (taken_up x.transition)) (λ x. option_map Some (taken_up x.transition)) (λ x. refl) past.did (first_duty (moved_making time by past.making))
      ∙ ap (find_map_or (λ x. option_map Some (taken_up x.transition)) past.did) (first_duty_same past.making)

  pub epoch_same : (past : Past) → epoch_now (moved_past time by past) ≡ epoch_now past
  epoch_same past = ap (λ (o : Option Duty). map_or o 0 (λ duty. duty.epoch)) (duty_same past)

  rates_same : (past : Past) → rates_now (moved_past time by past) ≡ rates_now past
  rates_same past = λ i. map_or (duty_same past i) (first_rates_same past.making i) (λ duty. duty.rates)

  entered_same : (past : Past) → is_some (later_entry (moved_past time by past)) ≡ is_some (later_entry past)
  entered_same past = ap is_some (later_entry_moved past) ∙ go (later_entry past)
    where
      go : (o : Option CallDone) → is_some (option_map (moved_did time by) o) ≡ is_some o
      go None = refl
      go (Some x) = refl

  sealed_same : (past : Past) → is_sealed (moved_past time by past) ≡ is_sealed past
  sealed_same past = λ i. not (entered_same past i) || any_since_same (λ x. is_seal x.call) (λ x. seal_same x.call) past i

  pub given_same : (past : Past) → given_now (moved_past time by past) ≡ given_now past
  given_same past =
      ap (λ xs. find_map_or (λ x. option_map Some (duty_given x.call)) xs None) (since_entry_moved past)
      ∙ told_mapped (moved_did time by) (λ x. option_map Some (duty_given x.call)) (λ x. option_map Some (duty_given x.call))
      (λ x. ap (option_map Some) (duty_given_same x.call)) (since_entry past) None

  has_moved_same : (past : Past) → has_moved (moved_past time by past) ≡ has_moved past
  has_moved_same past = any_since_same (λ x. is_move x.transition) (λ x. refl) past

  acting_same : (past : Past) → is_acting (moved_past time by past) ≡ is_acting past
  acting_same past = λ i. by_entry i || any_since_same (λ x. is_takeover x.transition) (λ x. refl) past i
    where
      go : (o : Option CallDone) {b c : Bool} → b ≡ c
          → map_or (option_map (moved_did time by) o) b (λ entry. is_commit entry.transition) ≡ map_or o c (λ entry. is_commit entry.transition)
      go None same = same
      go (Some x) same = refl

      by_entry : map_or (later_entry (moved_past time by past)) (starts_as_root (moved_making time by past.making)) (λ entry. is_commit entry.transition)
          ≡ map_or (later_entry past) (starts_as_root past.making) (λ entry. is_commit entry.transition)
      by_entry =
          ap (λ o. map_or o (starts_as_root (moved_making time by past.making)) (λ entry. is_commit entry.transition)) (later_entry_moved past)
          ∙ go (later_entry past) (starts_same past.making)

  parent_edge_same : (past : Past) → parent_edge (moved_past time by past) ≡ parent_edge past
  parent_edge_same past =
      λ i. if acting_same past i then None else if has_moved_same past i then map_or (duty_same past i) None (λ duty. duty.backup)
      else map_or (duty_same past i) None (λ duty. duty.primary)

  pub answers_same : (past : Past) → answers_by (moved_past time by past) ≡ answers_by past
  answers_same past =
      λ i. record {
        parent = option_map (λ (edge : Edge). edge.parent) (parent_edge_same past i);
        acts = acting_same past i;
        epoch = epoch_same past i;
        given = given_same past i;
        sealed = sealed_same past i;
      }

  stamp_of_same : (did : List CallDone) → stamp_of (map (moved_did time by) did) ≡ stamp_of did
  stamp_of_same [] = refl
  stamp_of_same (x ∷ did) = ap (stamp_after (moved_did time by x)) (stamp_of_same did) ∙ go x.transition
    where
      before : Stamp
      before = stamp_of did

      go : (transition : Transition)
          → stamp_after (record { call = moved_call time by x.call; transition = transition }) before
          ≡ stamp_after (record { call = x.call; transition = transition }) before
      go (Entered duty edge) = received_stamp_same x.call before
      go (Accepted edge) = received_stamp_same x.call before
      go _ = refl

  stamp_same : (past : Past) → stamp_now (moved_past time by past) ≡ stamp_now past
  stamp_same past = stamp_of_same past.did

  -- the counters and the estimate that it keeps

  heard_moved : (past : Past) → heard (moved_past time by past) ≡ heard past + by
  heard_moved past =
      ap (find_map_or (λ x. option_and_then (λ edge. counter_of x.call) (accepted_over x.transition)) (map (moved_did time by) past.did)) (making_counter_moved past.making)
      ∙ look_up_moved (moved_did time by) (λ n. n + by) (λ x. option_and_then (λ edge. counter_of x.call) (accepted_over x.transition))
      (λ x. option_and_then (λ edge. counter_of x.call) (accepted_over x.transition)) (λ x. go x.call (accepted_over x.transition)) past.did (making_counter past.making)
    where
      go : (call : Call) (o : Option Edge) → option_and_then (λ edge. counter_of (moved_call time by call)) o
          ≡ option_map (λ n. n + by) (option_and_then (λ edge. counter_of call) o)
      go call None = refl
      go call (Some edge) = counter_moved call

  moved_at_moved : (past : Past) → MovedOrNone by (moved_at (moved_past time by past)) (moved_at past)
  moved_at_moved past =
      number_moved by (moved_did time by) (λ x. if is_move x.transition then counter_of x.call else None)
      (λ x. if is_move x.transition then counter_of x.call else None) (λ x. go x.call (is_move x.transition)) past.did
    where
      go : (call : Call) (b : Bool) → (if b then counter_of (moved_call time by call) else None) ≡ option_map (λ n. n + by) (if b then counter_of call else None)
      go call true = counter_moved call
      go call false = refl

  sent_moved : (past : Past) → sent_at (moved_past time by past) ≡ sent_at past + by
  sent_moved past =
      ap (find_map_or emits (map (moved_did time by) past.did)) (making_counter_moved past.making)
      ∙ look_up_moved (moved_did time by) (λ n. n + by) emits emits (λ x. go x.call x.transition) past.did (making_counter past.making)
    where
      go : (call : Call) (transition : Transition) → emits (record { call = moved_call time by call; transition = transition })
          ≡ option_map (λ n. n + by) (emits (record { call = call; transition = transition }))
      go call (Entered duty edge) = refl
      go call (Committed duty) = counter_moved call
      go call (Recommitted duty) = refl
      go call (Accepted edge) = refl
      go call Moved = refl
      go call TookOver = counter_moved call
      go call Emitted = counter_moved call
      go call Nothing = refl

  estimate_moved : (past : Past) → estimate_now (moved_past time by past) ≡ moved_estimate time by (estimate_now past)
  estimate_moved past =
      ap (find_map_or estimate_set (map (moved_did time by) past.did)) (first_estimate_moved past.making)
      ∙ look_up_moved (moved_did time by) (moved_estimate time by) estimate_set estimate_set (λ x. go x.call (accepted_over x.transition) x.transition refl) past.did
      (first_estimate past.making)
    where
      later : (clock mid : ℕ) → clock + time + mid ≡ clock + mid + time
      later clock mid = omega arith

      go : (call : Call) (o : Option Edge) (transition : Transition) → accepted_over transition ≡ o
          → estimate_set (record { call = moved_call time by call; transition = transition })
          ≡ option_map (moved_estimate time by) (estimate_set (record { call = call; transition = transition }))
      go (Tick counter) o transition is = refl
      go (Receive link message counter) o transition is = brought (accepted_over transition)
        where
          brought : (o : Option Edge)
              → option_map (λ (edge : Edge). record { clock = message.clock + time + edge.bounds.mid; base = message.eps + edge.bounds.half; at = counter + by }) o
              ≡ option_map (moved_estimate time by)
              (option_map (λ (edge : Edge). record { clock = message.clock + edge.bounds.mid; base = message.eps + edge.bounds.half; at = counter }) o)
          brought None = refl
          brought (Some edge) = λ i. Some (record { clock = later message.clock edge.bounds.mid i; base = message.eps + edge.bounds.half; at = counter + by })
      go (Fix counter clock eps) o transition is = refl
      go (Give duty) o transition is = refl
      go (Commit counter) o transition is = refl
      go Seal o transition is = refl

  report_of_moved : (rates : Rates) (estimate : Estimate) (counter : ℕ)
      → report_of rates (moved_estimate time by estimate) (counter + by) ≡ moved_report time (report_of rates estimate counter)
  report_of_moved rates estimate counter =
      λ i. record {
        clock = later estimate.clock (counter + by) (estimate.at + by) (counter - estimate.at) (same_difference counter estimate.at by) i;
        eps = estimate.base + rates.grain + grow rates.ppm (same_difference counter estimate.at by i);
      }
    where
      later : (clock c a gone : ℕ) → c - a ≡ gone → clock + time + (c - a) ≡ clock + gone + time
      later clock c a gone is = omega (arith, is)

  pub report_moved : (past : Past) (counter : ℕ) → report_at (moved_past time by past) (counter + by) ≡ moved_report time (report_at past counter)
  report_moved past counter =
      (λ i. report_of (rates_same past i) (estimate_moved past i) (counter + by))
      ∙ report_of_moved (rates_now past) (estimate_now past) counter

  -- what a call does

  emits_at_same : (past : Past) (counter : ℕ) → emits_at (moved_past time by past) (counter + by) ≡ emits_at past counter
  emits_at_same past counter =
      λ i. acting_same past i
      && map_or (duty_same past i) false (λ duty. nat_le duty.period (gone (counter + by) (sent_at (moved_past time by past)) (sent_moved past) i))
    where
      gone : (c s : ℕ) → s ≡ sent_at past + by → (counter + by) - s ≡ counter - sent_at past
      gone c s is = omega (arith, is)

  takes_over_same : (past : Past) (counter : ℕ) → takes_over_at (moved_past time by past) (counter + by) ≡ takes_over_at past counter
  takes_over_same past counter =
      λ i. is_backup i && has_moved_same past i && not (acting_same past i)
      && map_or (duty_same past i) false (λ duty. nat_le duty.wait_second (gone (moved_at_moved past) i))
    where
      is_backup : is_backup_root_now (moved_past time by past) ≡ is_backup_root_now past
      is_backup = ap (λ (o : Option Duty). map_or o false (λ duty. elim duty.role [ role.BackupRoot ↦ true | _ ↦ false ])) (duty_same past)

      apart : (c h h' m m' : ℕ) → h' ≡ h + by → (m' ≡ m + by) ⊎ ((m' ≡ 0) × (m ≡ 0)) → (c + by) - max h' m' ≡ c - max h m
      apart c h h' m m' heard (inl moved) = omega (arith, heard, moved)
      apart c h h' m m' heard (inr none) = omega (arith, heard, none.0, none.1)

      gone : MovedOrNone by (moved_at (moved_past time by past)) (moved_at past)
          → (counter + by) - max (heard (moved_past time by past)) (moved_at (moved_past time by past)) ≡ counter - max (heard past) (moved_at past)
      gone h =
          apart counter (heard past) (heard (moved_past time by past)) (moved_at past) (moved_at (moved_past time by past)) (heard_moved past) h

  may_move_same : (past : Past) → may_move (moved_past time by past) ≡ may_move past
  may_move_same past =
      ap (λ o. map_or o (is_some (first_duty (moved_making time by past.making))) (λ entry. not (is_commit entry.transition))) (later_entry_moved past)
      ∙ go (later_entry past) (ap is_some (first_duty_same past.making))
    where
      go : (o : Option CallDone) {b c : Bool} → b ≡ c
          → map_or (option_map (moved_did time by) o) b (λ entry. not (is_commit entry.transition)) ≡ map_or o c (λ entry. not (is_commit entry.transition))
      go None same = same
      go (Some x) same = refl

  moves_same : (past : Past) (counter : ℕ) → moves_at (moved_past time by past) (counter + by) ≡ moves_at past counter
  moves_same past counter =
      λ i. may_move_same past i && not (has_moved_same past i) && sealed_same past i
      && map_or (option_and_then wait_to_move (duty_same past i)) false (λ wait. nat_le wait (gone (heard (moved_past time by past)) (heard_moved past) i))
    where
      gone : (h : ℕ) → h ≡ heard past + by → (counter + by) - h ≡ counter - heard past
      gone h is = omega (arith, is)

  pub transition_same : (past : Past) (call : Call) → transition_of (moved_past time by past) (moved_call time by call) ≡ transition_of past call
  transition_same past (Tick counter) =
      λ i. if emits_at_same past counter i then Emitted
      else if takes_over_same past counter i then TookOver
      else if moves_same past counter i then Moved
      else Nothing
  transition_same past (Receive link message counter) = λ i. map_or (entered i) (map_or (accepted i) Nothing (λ transition. transition)) (λ transition. transition)
    where
      entered : entered_by (moved_past time by past) link (moved_message time message) ≡ entered_by past link message
      entered =
          λ i. option_and_then (λ (duty : Duty). if nat_eq duty.epoch message.epoch then option_map (Entered duty) (option_and_then (over_link link) duty.primary) else None)
          (given_same past i)

      accepted : accepted_by (moved_past time by past) link (moved_message time message) ≡ accepted_by past link message
      accepted =
          λ i. if nat_eq (epoch_same past i) message.epoch && is_newer message.stamp (stamp_same past i)
          then option_map Accepted (option_and_then (over_link link) (parent_edge_same past i))
          else None
  transition_same past (Commit counter) = λ i. map_or (given_same past i) Nothing (λ duty. if acting_same past i then Recommitted duty else Committed duty)
  transition_same past _ = refl

  pub after_moved : (past : Past) (call : Call) → after (moved_past time by past) (moved_call time by call) ≡ moved_past time by (after past call)
  after_moved past call =
      λ i. record {
        making = moved_making time by past.making;
        did = record { call = moved_call time by call; transition = transition_same past call i } ∷ map (moved_did time by) past.did;
      }

  -- what it sends

  relayed_moved : (past : Past) → relayed (moved_past time by past) ≡ moved_message time (relayed past)
  relayed_moved past =
      λ i. record {
        epoch = epoch_same past i;
        stamp = stamp_same past i;
        clock = (estimate_moved past i).clock;
        eps = (estimate_moved past i).base;
      }

  emitted_moved : (past : Past) (at : Option ℕ) → emitted (moved_past time by past) (option_map (λ n. n + by) at) ≡ moved_effect time (emitted past at)
  emitted_moved past None = refl
  emitted_moved past (Some counter) = λ i. Send (message_of (epoch_same past i) (stamp_same past i) (report_moved past counter i))

  latest_moved : (past : Past) (x : CallDone) → effect_of_latest (moved_past time by past) (moved_did time by x) ≡ moved_effect time (effect_of_latest past x)
  latest_moved past x = go x.transition
    where
      sends : emitted (moved_past time by past) (counter_of (moved_call time by x.call)) ≡ moved_effect time (emitted past (counter_of x.call))
      sends = ap (emitted (moved_past time by past)) (counter_moved x.call) ∙ emitted_moved past (counter_of x.call)

      go : (transition : Transition) → effect_of_latest (moved_past time by past) (record { call = moved_call time by x.call; transition = transition })
          ≡ moved_effect time (effect_of_latest past (record { call = x.call; transition = transition }))
      go (Entered duty edge) = ap Send (relayed_moved past)
      go (Committed duty) = refl
      go (Recommitted duty) = refl
      go (Accepted edge) = ap Send (relayed_moved past)
      go Moved = refl
      go TookOver = sends
      go Emitted = sends
      go Nothing = refl

  pub effect_moved : (past : Past) (call : Call)
      → effect_of (moved_past time by past) (moved_call time by call) ≡ moved_effect time (effect_of past call)
  effect_moved past call =
      (λ i. effect_of_latest (after_moved past call i) (record { call = moved_call time by call; transition = transition_same past call i }))
      ∙ latest_moved (after past call) (record { call = call; transition = transition_of past call })
