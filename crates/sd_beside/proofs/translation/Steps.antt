-- A moved history has the moved chronicle: each event does the same, and each device answers the same.
use Rattle.std.specs.Prelude.{true, ◌≡◌, ℕ, ◌+◌, ◌*◌, false, ◌&&◌, not, List, [], ◌∷◌, ◌++◌, length, map, find, filter, nat_eq, nat_le, Option, Some, None, option_map, option_and_then, refl, if◌then◌else◌}
use Rattle.std.specs.List.{list_all}
use Rattle.std.proofs.Common.{arith, sym, ◌∙◌, ap, cond, eqb-true}
use Rattle.std.proofs.lemmas.List.{map-append, length-map}
use Rattle.std.proofs.lemmas.List.Sums.{sum_by-cons}
use Rattle.sd_num.specs.Lists.{map_or, same_number}
use Rattle.sd_plan.specs.topo.Network.{delay_of}
use Rattle.sd_plan.specs.declared.Plan.{Plan}
use Rattle.sd_plan.specs.declared.Duty.{Duty}
use Rattle.sd_plan.specs.declared.End.{End}
use Rattle.sd_plan.specs.Plans.{members}
use Rattle.sd_plan.specs.Duties.{duty_of, ends_of}
use Rattle.sd_plan.specs.declared.topo.Thing.TheVariants as thing
use Rattle.sd_device.specs.declared.msg.Message.{Message}
use Rattle.sd_device.specs.declared.msg.Flight.{Flight}
use Rattle.sd_device.specs.declared.Effect.{Effect}
use Rattle.sd_device.specs.declared.Effect.TheVariants.{Quiet, Send}
use Rattle.sd_device.specs.Calls as calls
use Rattle.sd_device.specs.Calls.{Past}
use Rattle.sd_device.specs.Words.{after, effect_of, report_at}
use Rattle.sd_sched.specs.declared.Event.{Event}
use Rattle.sd_sched.specs.declared.Event.TheVariants as event
use Rattle.sd_sched.specs.Events.{device_of, reference_of, received}
use Rattle.sd_history.specs.World.{Setting, Seen, makes, is_up, link_has_failed, has_commit, window_is_open, epoch_in_force, staged_epoch, in_force, staged, current_plan}
use Rattle.sd_history.specs.Steps.{Act, Makes, Calls, Asks, Passes, Answers, Told, tells_nothing, tells_made, tells_called, Step, seen_of, changed, answers_in, live_answers, parent_in, acts_in, epoch_in, given_in, has_settled, flights, flight_numbered, flight_count, flight_to, flights_to, ends_at, flights_by, flights_of, act_by, can_close, taken_by, acted_by, first_step, has_turned, activated_by, complete, step_of}
use Rattle.sd_history.specs.Nodes.{addressed}
use Rattle.sd_history.specs.Chronicle.{answers_by, new_past, past_in, told_by, next_step, chronicle}
use Rattle.sd_beside.specs.translation.Moves.{moved_event, moved_events, moved_message, moved_flight, moved_effect, moved_call, moved_act, moved_told, moved_step}
use Rattle.sd_beside.proofs.translation.Lists.{told_mapped, find_mapped, filter_mapped, map_mapped}
use Rattle.sd_beside.proofs.translation.Pasts.{moved_past, answers_same, after_moved, effect_moved, report_moved}
use Rattle.sd_beside.proofs.translation.Words.{EventWords, same_words, reference_moved}
use Rattle.sd_beside.specs.translation.Counters.{life_of, number_of}
use Rattle.sd_beside.proofs.translation.Lives.{life_in, IsOf, AreOfLives, life_kept, act_is_of, makes_none, past_moved}
use Rattle.sd_beside.proofs.translation.Views.{Marked, plain, plain_seen, moved, seen_moved, moved_seens, up_same, failed_same, open_same, commit_same, epoch_same, staged_epoch_same, in_force_same, staged_same, current_same}

changed_same : (time by : ℕ) (act : Act) → changed (moved_act time by act) ≡ changed act
changed_same time by (Makes d making) = refl
changed_same time by _ = refl

-- What moved steps are made of.
module _ (time : ℕ) (xs : List Marked) where
  pub moved_steps_seen : seen_of (moved time xs) ≡ moved_seens time xs
  moved_steps_seen = map_mapped (λ (x : Marked). moved_step time x.by x.step) (λ s. s.seen) (seen_moved time) (λ x. refl) xs

  pub plain_steps_seen : seen_of (plain xs) ≡ plain_seen xs
  plain_steps_seen = map_mapped (λ (x : Marked). x.step) (λ s. s.seen) (λ x. x.step.seen) (λ x. refl) xs

  -- what is the same of what is seen is the same of the steps
  pub of_steps : {C : Type 0} (view : List Seen → C) → ((ys : List Marked) → view (moved_seens time ys) ≡ view (plain_seen ys))
      → view (seen_of (moved time xs)) ≡ view (seen_of (plain xs))
  of_steps view same = ap view moved_steps_seen ∙ same xs ∙ sym (ap view plain_steps_seen)

  answers_in_same : (d : ℕ) → answers_in (moved time xs) d ≡ answers_in (plain xs) d
  answers_in_same d =
      told_mapped (λ (x : Marked). moved_step time x.by x.step) (λ s. if same_number (changed s.act) d then Some s.told.answers else None)
      (λ x. if same_number (changed x.step.act) d then Some x.step.told.answers else None)
      (λ x. ap (λ o. if same_number o d then Some x.step.told.answers else None) (changed_same time x.by x.step.act)) xs None
      ∙ sym (told_mapped (λ (x : Marked). x.step) (λ s. if same_number (changed s.act) d then Some s.told.answers else None)
      (λ x. if same_number (changed x.step.act) d then Some x.step.told.answers else None) (λ x. refl) xs None)

  pub live_same : live_answers (moved time xs) ≡ live_answers (plain xs)
  live_same = λ i. λ d. if of_steps is_up (up_same time) i d then answers_in_same d i else None

  pub parent_same : parent_in (moved time xs) ≡ parent_in (plain xs)
  parent_same = λ i. λ d. option_and_then (λ (a : Answers). a.parent) (live_same i d)

  pub acts_same : acts_in (moved time xs) ≡ acts_in (plain xs)
  acts_same = λ i. λ d. map_or (live_same i d) false (λ a. a.acts)

  pub epoch_in_same : epoch_in (moved time xs) ≡ epoch_in (plain xs)
  epoch_in_same = λ i. λ d. option_map (λ (a : Answers). a.epoch) (live_same i d)

  pub given_in_same : given_in (moved time xs) ≡ given_in (plain xs)
  given_in_same = λ i. λ d. option_and_then (λ (a : Answers). option_map (λ (duty : Duty). duty.epoch) a.given) (live_same i d)

  settled_same : has_settled (moved time xs) ≡ has_settled (plain xs)
  settled_same = λ i. λ epoch d. map_or (live_same i d) false (λ a. nat_eq a.epoch epoch && a.sealed)

pub flights_moved : (time : ℕ) (xs : List Marked) → flights (moved time xs) ≡ map (moved_flight time) (flights (plain xs))
flights_moved time [] = refl
flights_moved time (x ∷ earlier) =
    ap (λ fs. map (moved_flight time) x.step.sent ++ fs) (flights_moved time earlier) ∙ sym (map-append (moved_flight time) x.step.sent (flights (plain earlier)))

pub count_same : (time : ℕ) (xs : List Marked) → flight_count (moved time xs) ≡ flight_count (plain xs)
count_same time [] = refl
count_same time (x ∷ earlier) =
    sum_by-cons (λ (s : Step). length s.sent) (moved_step time x.by x.step) (moved time earlier)
    ∙ (λ i. length-map x.step.sent (moved_flight time) i + count_same time earlier i)
    ∙ sym (sum_by-cons (λ (s : Step). length s.sent) x.step (plain earlier))

module _ (time : ℕ) (setting : Setting) (xs : List Marked) where
  abbrev steps : List Step
  steps = plain xs

  abbrev later_steps : List Step
  later_steps = moved time xs

  -- messages

  pub numbered_moved : (n : ℕ) → flight_numbered later_steps n ≡ option_map (moved_flight time) (flight_numbered steps n)
  numbered_moved n = ap (find (λ f. nat_eq f.number n)) (flights_moved time xs) ∙ find_mapped (moved_flight time) (λ f. nat_eq f.number n) (λ f. nat_eq f.number n) (λ f. refl) (flights steps)

  later : (a b c : ℕ) → a + b + c ≡ a + c + b
  later a b c = omega arith

  flight_to_moved : (reference sender : ℕ) (message : Message) (number : ℕ) (downstream : End)
      → flight_to setting later_steps (reference + time) sender (moved_message time message) number downstream
      ≡ moved_flight time (flight_to setting steps reference sender message number downstream)
  flight_to_moved reference sender message number downstream =
      λ i. record {
        number = number;
        link = downstream.link;
        sender = sender;
        receiver = downstream.device;
        sent_at = reference + time;
        due = later reference time (delay_of setting.net downstream.link downstream.device).max i;
        last = later reference time (2 * (delay_of setting.net downstream.link downstream.device).max) i;
        reaches = not (of_steps time xs link_has_failed link_same i downstream.link) && of_steps time xs is_up (up_same time) i downstream.device;
        message = moved_message time message;
      }
    where
      link_same : (ys : List Marked) → link_has_failed (moved_seens time ys) ≡ link_has_failed (plain_seen ys)
      link_same ys = λ i. λ l. failed_same time ys i (thing.Link l)

  flights_to_moved : (reference sender : ℕ) (message : Message) (number : ℕ) (ends : List End)
      → flights_to setting later_steps (reference + time) sender (moved_message time message) number ends
      ≡ map (moved_flight time) (flights_to setting steps reference sender message number ends)
  flights_to_moved reference sender message number [] = refl
  flights_to_moved reference sender message number (downstream ∷ others) =
      λ i. flight_to_moved reference sender message number downstream i ∷ flights_to_moved reference sender message (number + 1) others i

  flights_by_moved : (reference d epoch : ℕ) (effect : Effect)
      → flights_by setting later_steps (reference + time) d epoch (moved_effect time effect)
      ≡ map (moved_flight time) (flights_by setting steps reference d epoch effect)
  flights_by_moved reference d epoch Quiet = refl
  flights_by_moved reference d epoch (Send message) =
      (λ i. flights_to setting later_steps (reference + time) d (moved_message time message) (count_same time xs i + 1)
      (map_or (of_steps time xs (λ seen. current_plan setting seen epoch) (λ ys. current_same time setting ys epoch) i) [] (λ plan. ends_of setting.net plan d)))
      ∙ flights_to_moved reference d message (flight_count steps + 1) (ends_at setting steps epoch d)

  flights_of_moved : (reference by : ℕ) (act : Act) (told : Told)
      → flights_of setting later_steps (reference + time) (moved_act time by act) (moved_told time told)
      ≡ map (moved_flight time) (flights_of setting steps reference act told)
  flights_of_moved reference by act told =
      ap (λ o. map_or o [] (λ d. map_or told.answers [] (λ a. flights_by setting later_steps (reference + time) d a.epoch (moved_effect time told.effect))))
      (changed_same time by act)
      ∙ go (changed act) told.answers
    where
      go : (o : Option ℕ) (answers : Option Answers)
          → map_or o [] (λ d. map_or answers [] (λ a. flights_by setting later_steps (reference + time) d a.epoch (moved_effect time told.effect)))
          ≡ map (moved_flight time) (map_or o [] (λ d. map_or answers [] (λ a. flights_by setting steps reference d a.epoch told.effect)))
      go None answers = refl
      go (Some d) None = refl
      go (Some d) (Some a) = flights_by_moved reference d a.epoch told.effect

  -- what an event does, and what its device tells

  act_moved : (by : ℕ) (e : Event) → act_by setting later_steps (moved_event time by e) ≡ moved_act time by (act_by setting steps e)
  act_moved by (event.Start reference device counter clock eps) =
      λ i. Makes device (calls.Started
      (duty_of setting.net (of_steps time xs (in_force setting) (in_force_same time setting) i) (of_steps time xs epoch_in_force (epoch_same time) i) device)
      (counter + by) (clock + time) eps)
  act_moved by (event.Recv reference device counter message) =
      ap (λ o. map_or o Passes (λ f. Calls device (calls.Receive f.link f.message (counter + by)))) (numbered_moved message)
      ∙ go (flight_numbered steps message)
    where
      go : (o : Option Flight)
          → map_or (option_map (moved_flight time) o) Passes (λ f. Calls device (calls.Receive f.link f.message (counter + by)))
          ≡ moved_act time by (map_or o Passes (λ f. Calls device (calls.Receive f.link f.message counter)))
      go None = refl
      go (Some f) = refl
  act_moved by (event.Give reference device) =
      (λ i. map_or (of_steps time xs (staged setting) (staged_same time setting) i) Passes
      (λ plan. Calls device (calls.Give (duty_of setting.net plan (of_steps time xs staged_epoch (staged_epoch_same time) i) device))))
      ∙ go (staged setting (seen_of steps))
    where
      go : (o : Option Plan)
          → map_or o Passes (λ plan. Calls device (calls.Give (duty_of setting.net plan (staged_epoch (seen_of steps)) device)))
          ≡ moved_act time by (map_or o Passes (λ plan. Calls device (calls.Give (duty_of setting.net plan (staged_epoch (seen_of steps)) device))))
      go None = refl
      go (Some plan) = refl
  act_moved by _ = refl

  told_moved : (lives : ℕ → ℕ → ℕ) → AreOfLives lives xs → (by : ℕ) (act : Act) → ((d : ℕ) → addressed act ≡ Some d → by ≡ lives d (life_in xs d))
      → told_by later_steps (moved_act time by act) ≡ moved_told time (told_by steps act)
  told_moved lives of_lives by (Makes d making) number = ap tells_made (answers_same time by (new_past making))
  told_moved lives of_lives by (Calls d call) number =
      (λ i. map_or (past_moved time lives xs of_lives d i) tells_nothing
      (λ past. tells_called (effect_of past (moved_call time (number d refl i) call)) (answers_by (after past (moved_call time (number d refl i) call)))))
      ∙ go (lives d (life_in xs d)) (past_in steps d)
    where
      go : (k : ℕ) (o : Option Past)
          → map_or (option_map (moved_past time k) o) tells_nothing
          (λ past. tells_called (effect_of past (moved_call time k call)) (answers_by (after past (moved_call time k call))))
          ≡ moved_told time (map_or o tells_nothing (λ past. tells_called (effect_of past call) (answers_by (after past call))))
      go k None = refl
      go k (Some past) =
          λ i. tells_called (effect_moved time k past call i) ((ap answers_by (after_moved time k past call) ∙ answers_same time k (after past call)) i)
  told_moved lives of_lives by (Asks d counter) number =
      (λ i. record { effect = Quiet; answers = None; report = option_map (λ past. report_at past (counter + number d refl i)) (past_moved time lives xs of_lives d i) })
      ∙ go (lives d (life_in xs d)) (past_in steps d)
    where
      go : (k : ℕ) (o : Option Past)
          → record { effect = Quiet; answers = None; report = option_map (λ past. report_at past (counter + k)) (option_map (moved_past time k) o) }
          ≡ moved_told time (record { effect = Quiet; answers = None; report = option_map (λ past. report_at past counter) o })
      go k None = refl
      go k (Some past) = λ i. record { effect = Quiet; answers = None; report = Some (report_moved time k past counter i) }
  told_moved lives of_lives by Passes number = refl

  -- closing a window

  pub closes_same : can_close setting later_steps ≡ can_close setting steps
  closes_same =
      λ i. of_steps time xs has_commit (commit_same time) i
      && map_or (of_steps time xs (staged setting) (staged_same time setting) i) false
      (λ plan. let present = filter (of_steps time xs is_up (up_same time) i) (members setting.net plan) in
      nat_le 1 (length present) && list_all (settled_same time xs i (of_steps time xs staged_epoch (staged_epoch_same time) i)) present)

  -- the step

  taken_moved : (by : ℕ) (e : Event) → taken_by later_steps (moved_event time by e) ≡ option_map (moved_flight time) (taken_by steps e)
  taken_moved by e = ap (λ (w : EventWords). option_and_then (flight_numbered later_steps) w.received) (same_words time by e) ∙ go (received e)
    where
      go : (o : Option ℕ) → option_and_then (flight_numbered later_steps) o ≡ option_map (moved_flight time) (option_and_then (flight_numbered steps) o)
      go None = refl
      go (Some n) = numbered_moved n

  acted_same : (by : ℕ) (e : Event) → acted_by later_steps (moved_event time by e) ≡ acted_by steps e
  acted_same by e = λ i. map_or (same_words time by e i).device false (acts_same time xs i)

  first_moved : (by : ℕ) (e : Event) (told : Told) → first_step setting later_steps (moved_event time by e) (moved_told time told) ≡ moved_step time by (first_step setting steps e told)
  first_moved by e told =
      λ i. record {
        seen = record {
          event = moved_event time by e;
          taken = taken_moved by e i;
          sent = reaching i;
          activated = None;
          acted = acted_same by e i;
          closed = false;
        };
        act = act_moved by e i;
        told = moved_told time told;
        sent = sent i;
      }
    where
      sent : flights_of setting later_steps (reference_of (moved_event time by e)) (act_by setting later_steps (moved_event time by e)) (moved_told time told)
          ≡ map (moved_flight time) (flights_of setting steps (reference_of e) (act_by setting steps e) told)
      sent =
          (λ i. flights_of setting later_steps (reference_moved time by e i) (act_moved by e i) (moved_told time told))
          ∙ flights_of_moved (reference_of e) by (act_by setting steps e) told

      reaching : filter (λ f. f.reaches) (flights_of setting later_steps (reference_of (moved_event time by e)) (act_by setting later_steps (moved_event time by e)) (moved_told time told))
          ≡ map (moved_flight time) (filter (λ f. f.reaches) (flights_of setting steps (reference_of e) (act_by setting steps e) told))
      reaching =
          ap (filter (λ f. f.reaches)) sent
          ∙ filter_mapped (moved_flight time) (λ f. f.reaches) (λ f. f.reaches) (λ f. refl) (flights_of setting steps (reference_of e) (act_by setting steps e) told)

module _ (time : ℕ) (setting : Setting) (xs : List Marked) where
  complete_moved : (by : ℕ) (s : Step) → complete setting (moved time xs) (moved_step time by s) ≡ moved_step time by (complete setting (plain xs) s)
  complete_moved by s =
      λ i. record {
        seen = record {
          event = moved_event time by s.seen.event;
          taken = option_map (moved_flight time) s.seen.taken;
          sent = map (moved_flight time) s.seen.sent;
          activated = activated i;
          acted = s.seen.acted;
          closed = closes_same time setting (record { step = s; by = by } ∷ xs) i;
        };
        act = moved_act time by s.act;
        told = moved_told time s.told;
        sent = map (moved_flight time) s.sent;
      }
    where
      turned : has_turned (moved time xs) (moved_step time by s) ≡ has_turned (plain xs) s
      turned =
          λ i. λ d. of_steps time xs window_is_open (open_same time) i
          && same_number (epoch_in_same time (record { step = s; by = by } ∷ xs) i d) (of_steps time xs staged_epoch (staged_epoch_same time) i)
          && not (same_number (epoch_in_same time xs i d) (of_steps time xs staged_epoch (staged_epoch_same time) i))

      activated : activated_by (moved time xs) (moved_step time by s) ≡ activated_by (plain xs) s
      activated = λ i. map_or (same_words time by s.seen.event i).device None (λ d. if turned i d then Some d else None)

  step_moved : (by : ℕ) (e : Event) (told : Told)
      → step_of setting (moved time xs) (moved_event time by e) (moved_told time told) ≡ moved_step time by (step_of setting (plain xs) e told)
  step_moved by e told = ap (complete setting (moved time xs)) (first_moved time setting xs by e told) ∙ complete_moved by (first_step setting (plain xs) e told)

  -- the next step, where its event is moved by the number of the life that its device then has
  pub next_moved : (lives : ℕ → ℕ → ℕ) → AreOfLives lives xs → (by : ℕ) (e : Event)
      → ((d : ℕ) → addressed (act_by setting (plain xs) e) ≡ Some d → by ≡ lives d (life_in xs d))
      → next_step setting (moved time xs) (moved_event time by e) ≡ moved_step time by (next_step setting (plain xs) e)
  next_moved lives of_lives by e number =
      ap (step_of setting (moved time xs) (moved_event time by e))
      (ap (told_by (moved time xs)) (act_moved time setting xs by e) ∙ told_moved time setting xs lives of_lives by (act_by setting (plain xs) e) number)
      ∙ step_moved by e (told_by (plain xs) (act_by setting (plain xs) e))

-- The chronicle of events, each step with the number of the life of its device.
pub marked : Setting → (ℕ → ℕ → ℕ) → List Event → List Marked
marked setting lives [] = []
marked setting lives (e ∷ earlier) =
    record { step = next_step setting (chronicle setting earlier) e; by = number_of lives (e ∷ earlier) } ∷ marked setting lives earlier

module _ (setting : Setting) (lives : ℕ → ℕ → ℕ) where
  pub plain_is : (events : List Event) → plain (marked setting lives events) ≡ chronicle setting events
  unfolding marked
  plain_is [] = refl
  plain_is (e ∷ earlier) = ap (λ steps. next_step setting (chronicle setting earlier) e ∷ steps) (plain_is earlier)

  life_is : (events : List Event) (d : ℕ) → life_in (marked setting lives events) d ≡ life_of events d
  unfolding marked
  life_is [] d = refl
  life_is (e ∷ earlier) d =
      sum_by-cons (λ (x : Marked). cond (makes d x.step.seen.event) 1 0) (record { step = next_step setting (chronicle setting earlier) e; by = number_of lives (e ∷ earlier) })
      (marked setting lives earlier)
      ∙ ap (λ n. cond (makes d e) 1 0 + n) (life_is earlier d)
      ∙ sym (sum_by-cons (λ (f : Event). cond (makes d f) 1 0) e earlier)

  -- the number of the device that an event names
  named_number : (e : Event) (earlier : List Event) (d : ℕ) → same_number (device_of e) d ≡ true
      → number_of lives (e ∷ earlier) ≡ lives d (life_in (marked setting lives (e ∷ earlier)) d)
  named_number e earlier d named =
      of_named (device_of e) (λ x. lives x (life_of (e ∷ earlier) x)) named ∙ ap (lives d) (sym (life_is (e ∷ earlier) d))
    where
      of_named : (o : Option ℕ) (f : ℕ → ℕ) → same_number o d ≡ true → map_or o 0 f ≡ f d
      of_named None f is = cc
      of_named (Some x) f is = ap f (eqb-true x d is)

  pub are_of_lives : (events : List Event) → AreOfLives lives (marked setting lives events)
  unfolding marked
  are_of_lives [] = tt
  are_of_lives (e ∷ earlier) =
      (are_of_lives earlier, record { number = named_number e earlier; act = act_is_of setting (chronicle setting earlier) e })

  -- an event that does not make its device goes on with the number of the life that the device has
  pub number_before : (e : Event) (earlier : List Event) (d : ℕ) → same_number (device_of e) d ≡ true → makes d e ≡ false
      → number_of lives (e ∷ earlier) ≡ lives d (life_in (marked setting lives earlier) d)
  unfolding marked
  number_before e earlier d named unmade =
      named_number e earlier d named
      ∙ ap (lives d) (life_kept (record { step = next_step setting (chronicle setting earlier) e; by = number_of lives (e ∷ earlier) }) (marked setting lives earlier) d unmade)

-- the chronicle of a moved history is the moved chronicle
pub chronicle_moved : (time : ℕ) (lives : ℕ → ℕ → ℕ) (setting : Setting) (events : List Event)
    → chronicle setting (moved_events time lives events) ≡ moved time (marked setting lives events)
unfolding marked
chronicle_moved time lives setting [] = refl
chronicle_moved time lives setting (e ∷ earlier) =
    (λ i. let steps = chronicle_moved time lives setting earlier i in next_step setting steps (moved_event time (number_of lives (e ∷ earlier)) e) ∷ steps)
    ∙ ap (λ s. s ∷ moved time (marked setting lives earlier))
    (next_moved time setting (marked setting lives earlier) lives (are_of_lives setting lives earlier) (number_of lives (e ∷ earlier)) e number
    ∙ ap (λ steps. moved_step time (number_of lives (e ∷ earlier)) (next_step setting steps e)) (plain_is setting lives earlier))
  where
    number : (d : ℕ) → addressed (act_by setting (plain (marked setting lives earlier)) e) ≡ Some d
        → number_of lives (e ∷ earlier) ≡ lives d (life_in (marked setting lives earlier) d)
    number d is =
        let act : IsOf e (act_by setting (plain (marked setting lives earlier)) e) = act_is_of setting (plain (marked setting lives earlier)) e in
        number_before setting lives e earlier d (act.called d is) (act.made d ∙ makes_none (act_by setting (plain (marked setting lives earlier)) e) d is)
