-- How a schedule is read: the same by both commands, and as a history.
use Rattle.std.proofs.Common.{◌≡◌, ℕ, ◌+◌, List, [], ◌∷◌, length, Option, Some, None, Result, Ok, Err, refl, ap}
use Rattle.std.specs.Prelude.{IfOk}
use Rattle.sd_io.specs.stream.Lines.{lines}
use Rattle.sd_sched.specs.declared.Event.{Event}
use Rattle.sd_sched.specs.declared.LineFault.{LineFault}
use Rattle.sd_sched.specs.Lines.{event_of_line}
use Rattle.sd_history.specs.declared.ApplyFault.{ApplyFault}
use Rattle.sd_history.specs.World.{Setting}
use Rattle.sd_history.specs.Chronicle.{chronicle, IsHistory}
use Rattle.sd_history.specs.Refusals.{refusal}
use Rattle.sd_replay.proofs.Kept.{reports_contain}
use Rattle.sd_files.specs.work.Works.{Reading, judged, length_fault, read_on, reading, reading_from, refused_part, text_behind, unless_too_long}
use Rattle.sd_commands.specs.replay.Replays.{accepted, event_said, order_work, replay_work, unless_refused}
use Rattle.sd_commands.specs.replay.Promises.{ReportsTruly}

-- Alike

read_alike : (said : Result Event (List ℕ)) (events : List Event) (next other : Event → Reading Event) → ((e : Event) → next e ≡ other e)
    → read_on said events next ≡ read_on said events other
read_alike (Ok e) events next other same = same e
read_alike (Err why) events next other same = refl

alike_from : (setting : Setting) (total start : ℕ) (events : List Event) (ls : List (List ℕ))
    → reading_from (order_work setting) total start events ls ≡ reading_from (replay_work setting) total start events ls
unfolding reading_from
alike_from setting total start events [] = refl
alike_from setting total start events (line ∷ others) =
    read_alike (judged (replay_work setting) total start events line) events
    (λ e. reading_from (order_work setting) total (start + length line + 1) (e ∷ events) others)
    (λ e. reading_from (replay_work setting) total (start + length line + 1) (e ∷ events) others)
    (λ e. alike_from setting total (start + length line + 1) (e ∷ events) others)

pub read_as_replay : (setting : Setting) (text : List ℕ) → reading (order_work setting) text ≡ reading (replay_work setting) text
unfolding reading
read_as_replay setting text = alike_from setting (length text) 0 [] (lines text)

pub refused_as_replay : (setting : Setting) (text : List ℕ) → refused_part (order_work setting) text ≡ refused_part (replay_work setting) text
refused_as_replay setting text = ap (λ (r : Reading Event). text_behind (length r.taken) text) (read_as_replay setting text)

-- As a history

module _ (setting : Setting) where
  -- the event is accepted after these
  abbrev GoesOn : List Event → Event → Type 0
  GoesOn events e = refusal setting (chronicle setting events) e ≡ None

  goes_on : (events : List Event) (said : Result Event LineFault) → IfOk (accepted setting events said) (GoesOn events)
  goes_on events (Err why) = tt
  goes_on events (Ok e) = by (refusal setting (chronicle setting events) e) refl
    where
      by : (refused : Option ApplyFault) → refusal setting (chronicle setting events) e ≡ refused → IfOk (unless_refused refused e) (GoesOn events)
      by None is = is
      by (Some why) is = tt

  unless_long : (events : List Event) (long : Option (List ℕ)) (said : Result Event (List ℕ)) → IfOk said (GoesOn events)
      → IfOk (unless_too_long long said) (GoesOn events)
  unless_long events None said on = on
  unless_long events (Some why) said on = tt

  read_history : (judgement : Result Event (List ℕ)) (events : List Event) (next : Event → Reading Event) → IsHistory setting events
      → IfOk judgement (GoesOn events)
      → ((e : Event) → IsHistory setting (e ∷ events) → IsHistory setting (next e).taken) → IsHistory setting (read_on judgement events next).taken
  read_history (Err why) events next history on later = history
  read_history (Ok e) events next history on later = later e (history, on)

  history_from : (total start : ℕ) (events : List Event) (ls : List (List ℕ)) → IsHistory setting events
      → IsHistory setting (reading_from (replay_work setting) total start events ls).taken
  unfolding reading_from
  history_from total start events [] history = history
  history_from total start events (line ∷ others) history =
      read_history (judged (replay_work setting) total start events line) events
      (λ e. reading_from (replay_work setting) total (start + length line + 1) (e ∷ events) others) history
      (unless_long events (length_fault total start line) (event_said setting events line) (goes_on events (event_of_line line)))
      (λ e longer. history_from total (start + length line + 1) (e ∷ events) others longer)

  -- the events of a reading are a history
  pub reading_is_history : (text : List ℕ) → IsHistory setting (reading (replay_work setting) text).taken
  unfolding reading
  reading_is_history text = history_from (length text) 0 [] (lines text) tt

  -- of each history the reports tell truly
  pub history_tells : (events : List Event) → IsHistory setting events → ReportsTruly setting events
  history_tells [] history = tt
  history_tells (e ∷ earlier) history = (history_tells earlier history.0, λ honest. reports_contain setting (e ∷ earlier) history honest)
