-- How the registers go on standing for the history as an event is added.
use Rattle.std.proofs.Common.{◌≡◌, ℕ, ◌+◌, Bool, true, false, ◌||◌, List, ◌∷◌, None, IsTrue, refl, sym, ap, ◌∙◌, subst, arith, length, add-one}
use Rattle.std.proofs.lemmas.List.Sums.{sum_by-cons}
use Rattle.std.specs.Prelude.{count_by, cond}
use Rattle.sd_num.specs.Lists.{map_or}
use Rattle.sd_sched.specs.declared.Event.{Event}
use Rattle.sd_sched.specs.Events.{reference_of, counter_of, is_end_event, is_ask}
use Rattle.sd_commands.specs.solo.Histories.{Situation, situation, refusal_in, is_start, is_known, estimate_set, IsHistory, refusal}
use Rattle.sd_commands.specs.solo.Registers.{StandsFor, situation_of}
use Rattle.sd_commands.specs.declared.solo.Solo.{Solo}

-- what a refusal turns on after one event more
abbrev pub situation_after : Situation → Event → Situation
situation_after past e =
    record {
      reference = reference_of e;
      counter = map_or (counter_of e) past.counter (λ c. c);
      started = is_start e || past.started;
      ended = is_end_event e || past.ended;
      count = past.count + 1;
    }

-- what a refusal turns on, of a history with one event more
situation-cons : (events : List Event) (e : Event) → situation (e ∷ events) ≡ situation_after (situation events) e
situation-cons events e = rw (add-one (length events)) refl

counted_more : (t : Bool) (n : ℕ) → cond t (n + 1) n ≡ cond t 1 0 + n
counted_more true n = omega arith
counted_more false n = omega arith

-- an accepted event makes a history of one event more
pub history_after : (old : Solo) (e : Event) (events : List Event) → IsTrue (is_known e) → refusal_in (situation_of old) e ≡ None → StandsFor old events
    → IsHistory (e ∷ events)
unfolding IsHistory
history_after old e events known accepted h = (h.history, known, subst (λ (past : Situation). refusal_in past e ≡ None) h.situation accepted)

-- the registers go on standing for the history, where the event is accepted and they do what it says
pub stands_after : (old new : Solo) (e : Event) (events : List Event) → IsTrue (is_known e) → refusal_in (situation_of old) e ≡ None
    → situation_of new ≡ situation_after (situation_of old) e → new.estimate ≡ map_or (estimate_set e) old.estimate (λ x. x)
    → new.reports ≡ cond (is_ask e) (old.reports + 1) old.reports
    → StandsFor old events → StandsFor new (e ∷ events)
stands_after old new e events known accepted situated estimated counted h =
    record {
      history = history_after old e events known accepted h;
      situation = situated ∙ ap (λ past. situation_after past e) h.situation ∙ sym (situation-cons events e);
      estimate = estimated ∙ ap (λ x. map_or (estimate_set e) x (λ told. told)) h.estimate;
      reports = counted ∙ ap (λ n. cond (is_ask e) (n + 1) n) h.reports ∙ counted_more (is_ask e) (count_by is_ask events)
          ∙ sym (sum_by-cons (λ x. cond (is_ask x) 1 0) e events);
    }

-- the latest event of a history that a device stands for was accepted
pub latest_accepted : (device : Solo) (e : Event) (events : List Event) → StandsFor device (e ∷ events) → refusal events e ≡ None
unfolding IsHistory
latest_accepted device e events h = h.history.2
