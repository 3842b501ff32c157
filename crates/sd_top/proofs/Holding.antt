-- What is promised besides of the texts: the events of a schedule that is read are a history, so the reports of an honest one have their reference times
-- inside; and the bounds of links hold of the exchanges over them.
use Rattle.std.proofs.Common.{◌≡◌, ℕ, ◌+◌, Bool, true, false, cond, List, [], ◌∷◌, map, Option, Some, None, Result, Ok, Err, IfOk, refl, ◌∙◌, length}
use Rattle.std.specs.Prelude.{IsTrue}
use Rattle.sd_io.specs.stream.Lines.{lines}
use Rattle.sd_sched.specs.Lines.{event_of_line, first_field}
use Rattle.sd_sched.specs.declared.Event.{Event}
use Rattle.sd_sched.specs.declared.LineFault.{LineFault}
use Rattle.sd_sched.specs.declared.LineFault.TheVariants.{UnknownWord}
use Rattle.sd_commands.specs.solo.Histories.{IsHistory, is_known, refusal}
use Rattle.sd_commands.specs.solo.Lines.{knows, solo_event}
use Rattle.sd_commands.specs.declared.solo.SoloFault.{SoloFault}
use Rattle.sd_commands.proofs.solo.Contained.{reports_contain}
use Rattle.sd_commands.proofs.solo.Known.{known_as_word}
use Rattle.sd_commands.proofs.twoway.Bounding.{bounds_hold}
use Rattle.sd_commands.proofs.replay.Lawful.{order_reports_truly, reports_truly as replay_reports_truly}
use Rattle.sd_files.specs.Texts.{texts_of}
use Rattle.sd_top.specs.Promise.{KeepsPromise, task_of}
use Rattle.sd_files.specs.work.Works.{Reading, judged, length_fault, read_on, reading, reading_from, unless_too_long}
use Rattle.sd_top.specs.Schedules.{ReportsTruly, accepted, solo_work, unless_refused}
use Rattle.sd_top.specs.Words.{Command, command_of}
use Rattle.sd_top.specs.Words.Command.{Solo, Replay, Order, Twoway}

-- an event of a known word, which is accepted after these
abbrev GoesOn : List Event → Event → Type 0
GoesOn events e = IsTrue (is_known e) × (refusal events e ≡ None)

-- an event that is known as its word is, where that is known
of_known : (event : Result Event LineFault) (known : Bool) → known ≡ true → IfOk event (λ e. is_known e ≡ known) → IfOk event (λ e. IsTrue (is_known e))
of_known (Ok e) known is same = same ∙ is
of_known (Err why) known is same = tt

known_event : (line : List ℕ) → IfOk (solo_event line) (λ e. IsTrue (is_known e))
unfolding solo_event
known_event line = by (knows (first_field line)) refl
  where
    by : (known : Bool) → knows (first_field line) ≡ known → IfOk (cond known (event_of_line line) (Err UnknownWord)) (λ e. IsTrue (is_known e))
    by true is = of_known (event_of_line line) (knows (first_field line)) is (known_as_word line)
    by false is = tt

goes_on : (events : List Event) (event : Result Event LineFault) → IfOk event (λ e. IsTrue (is_known e)) → IfOk (accepted events event) (GoesOn events)
goes_on events (Err why) known = tt
goes_on events (Ok e) known = by (refusal events e) refl
  where
    by : (refused : Option SoloFault) → refusal events e ≡ refused → IfOk (unless_refused refused e) (GoesOn events)
    by None is = (known, is)
    by (Some why) is = tt

unless_long : (events : List Event) (long : Option (List ℕ)) (event : Result Event (List ℕ)) → IfOk event (GoesOn events)
    → IfOk (unless_too_long long event) (GoesOn events)
unless_long events None event on = on
unless_long events (Some why) event on = tt

read_history : (judgement : Result Event (List ℕ)) (events : List Event) (next : Event → Reading Event) → IsHistory events → IfOk judgement (GoesOn events)
    → ((e : Event) → IsHistory (e ∷ events) → IsHistory (next e).taken)
    → IsHistory (read_on judgement events next).taken
unfolding IsHistory
read_history (Err why) events next history on later = history
read_history (Ok e) events next history on later = later e (history, on.0, on.1)

history_from : (total start : ℕ) (events : List Event) (ls : List (List ℕ)) → IsHistory events → IsHistory (reading_from solo_work total start events ls).taken
unfolding reading_from
history_from total start events [] history = history
history_from total start events (line ∷ others) history =
    read_history (judged solo_work total start events line) events (λ e. reading_from solo_work total (start + length line + 1) (e ∷ events) others) history
    (unless_long events (length_fault total start line) (accepted events (solo_event line)) (goes_on events (solo_event line) (known_event line)))
    (λ e longer. history_from total (start + length line + 1) (e ∷ events) others longer)

-- the events of a reading are a history
pub reading_is_history : (text : List ℕ) → IsHistory (reading solo_work text).taken
unfolding reading IsHistory
reading_is_history text = history_from (length text) 0 [] (lines text) tt

reports_truly : (events : List Event) → IsHistory events → ReportsTruly events
unfolding IsHistory
reports_truly [] history = tt
reports_truly (e ∷ earlier) history = (reports_truly earlier history.0, λ start drift. reports_contain e earlier history start drift)

pub keeps_promise : (held : Option (List ℕ → Option (List ℕ))) (words : List (List ℕ)) → KeepsPromise held words
unfolding KeepsPromise
keeps_promise None words = tt
keeps_promise (Some h) words = by (command_of words)
  where
    by : (command : Option Command) → (task_of command).holds (texts_of h)
    by (Some (Solo schedule)) = reports_truly (reading solo_work (texts_of h schedule)).taken (reading_is_history (texts_of h schedule))
    by (Some (Replay topology plans schedule)) = replay_reports_truly (texts_of h topology) (map (texts_of h) plans) (texts_of h schedule)
    by (Some (Order topology plans schedule)) = order_reports_truly (texts_of h topology) (map (texts_of h) plans) (texts_of h schedule)
    by (Some (Twoway topology exchanges)) = λ net read. bounds_hold net (texts_of h exchanges)
    by _ = tt
