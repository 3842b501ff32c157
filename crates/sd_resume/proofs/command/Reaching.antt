-- How far a text has been played, line by line, and how it ends.
use Rattle.std.specs.Prelude.{◌≡◌, ℕ, ◌+◌, Bool, true, false, List, [], length, Option, Some, None, IfErr, IfSome, OnOk, Result, Ok, Err}
use Rattle.std.specs.List.{concat}
use Rattle.std.proofs.Common.{refl, sym, ap, ◌∙◌, subst}
use Rattle.sd_io.specs.outside.Pieces.{Pieces, piece_of}
use Rattle.sd_io.specs.outside.Rests.{RestIs}
use Rattle.sd_io.specs.declared.outside.shelf.Shelf.{Ghosts}
use Rattle.sd_io.proofs.outside.Adding.{concat_piece}
use Rattle.sd_io.specs.stream.Lines.{lines}
use Rattle.sd_io.specs.stream.Reader.{text_left, bytes_before, GoesPast}
use Rattle.sd_io.specs.declared.stream.buffer.Buffer.{Buffer}
use Rattle.sd_io.specs.declared.stream.reader.LineReader.{LineReader}
use Rattle.sd_sched.specs.declared.Event.{Event}
use Rattle.sd_history.specs.World.{Setting}
use Rattle.sd_files.specs.Texts.{texts_of}
use Rattle.sd_files.specs.Writes.{IsAllowed}
use Rattle.sd_files.specs.declared.Status.{Status}
use Rattle.sd_files.specs.declared.Status.TheVariants.{Done, InputRefused}
use Rattle.sd_files.specs.declared.command_error.Answer.{Answer}
use Rattle.sd_files.specs.declared.command_error.CommandError.TheVariants as ended
use Rattle.sd_files.specs.declared.planfiles.setup_error.SetupError.{SetupError}
use Rattle.sd_files.specs.declared.planfiles.setup_error.SetupError.TheVariants.{Answered, Stopped}
use Rattle.sd_files.specs.planfiles.Refusing.{Nothing}
use Rattle.sd_files.specs.planfiles.SetupError.{made_of}
use Rattle.sd_files.specs.work.Comes.{HasCome}
use Rattle.sd_files.specs.work.Nexts.{AddsNext, HoldsNext, MakesNext}
use Rattle.sd_files.specs.work.Steps.{Step, Last, step_of}
use Rattle.sd_files.specs.work.Works.{Reading, Work, last_pieces_for, reading, reading_from, refused_line, status_for, text_behind}
use Rattle.sd_files.proofs.work.Coming.{told_comes, told_comes_on}
use Rattle.sd_files.proofs.work.Reading.{EndsWith, reads_end}
use Rattle.sd_resume.specs.command.Parts.{AfterLines, AfterPart, part_work}
use Rattle.sd_replay.specs.Devices.{QuietReplay}
use Rattle.sd_resume.specs.command.Played.{ComesTo, HasPlayed, HasRead, StepsOn}

-- the work is that over a text of this name, and the replay has played these events
abbrev pub Plays : (word : List ℕ) → Setting → QuietReplay → Work Event → List Event → Type 0
Plays word setting replay work events = (work ≡ part_work word setting) × HasPlayed replay setting events

-- the lines before the reader were accepted, and the replay has played them
abbrev pub HasReached : {S : Type 0} (g : Ghosts S) (word : List ℕ) (setting : Setting) (text : List ℕ) → LineReader S Buffer g → QuietReplay → Type 0
HasReached g word setting text reader replay =
    HasCome g (part_work word setting) (Plays word setting replay (part_work word setting)) text reader None None

-- before the first line
pub reaches_none : {S : Type 0} (g : Ghosts S) (word : List ℕ) (setting : Setting) (rest : Option (List ℕ)) (reader : LineReader S Buffer g)
    (replay : QuietReplay) → HasPlayed replay setting [] → text_left g reader ≡ rest → bytes_before reader ≡ 0
    → IfSome rest (λ text. HasReached g word setting text reader replay)
reaches_none g word setting rest reader replay played left none =
    told_comes g (part_work word setting) (Plays word setting replay (part_work word setting)) rest reader None (refl, played) left none

makes_next : (word : List ℕ) (was now : QuietReplay) (left : Option (List ℕ)) (before : ℕ) (setting : Setting)
    → HoldsNext (StepsOn word was now (Ok true)) left before → MakesNext left before (Plays word setting was) (Plays word setting now) (Ok None)
makes_next word was now None before setting steps = tt
makes_next word was now (Some text) before setting steps =
    λ work events plays. let made = steps work events setting plays.0 plays.1 in (made.0, made.1, (plays.0, made.2))

adds_nothing : (word : List ℕ) (setting : Setting) (was : QuietReplay) (left : Option (List ℕ)) (before : ℕ)
    → AddsNext {T = Option Status} left before (Plays word setting was) None None (Ok None)
adds_nothing word setting was None before = tt
adds_nothing word setting was (Some text) before = λ work events plays. refl

-- after a line that was accepted
pub reaches_on : {S : Type 0} (g : Ghosts S) (word : List ℕ) (setting : Setting) (rest : Option (List ℕ)) (old new : LineReader S Buffer g)
    (was now : QuietReplay) → IfSome rest (λ text. HasReached g word setting text old was)
    → HoldsNext (StepsOn word was now (Ok true)) (text_left g old) (bytes_before old)
    → IfSome (text_left g old) (GoesPast (bytes_before old) (bytes_before new) (text_left g new))
    → IfSome rest (λ text. HasReached g word setting text new now)
reaches_on g word setting rest old new was now reached steps past =
    told_comes_on g (part_work word setting) (Plays word setting was) (Plays word setting now) rest old new None None None reached
    (makes_next word was now (text_left g old) (bytes_before old) setting steps)
    (adds_nothing word setting was (text_left g old) (bytes_before old)) past

same_line : (one other : List ℕ) → piece_of one ≡ piece_of other → one ≡ other
same_line one other same = sym (concat_piece one) ∙ ap concat same ∙ concat_piece other

-- a reading that ends with a refusal
refused_at : (word : List ℕ) (setting : Setting) (r : Reading Event) (events : List Event) (why : List ℕ) (answer : Answer)
    → EndsWith (part_work word setting) r events (piece_of (refused_line (part_work word setting) (length events + 1) why)) InputRefused
    → answer.text.items ≡ refused_line (part_work word setting) (length events + 1) why → answer.status ≡ InputRefused
    → AfterLines (part_work word setting) r.taken r.refused Nothing answer.text.items answer.status
refused_at word setting r events why answer ended line status = by r.refused ended.status_is ended.pieces_are
  where
    by : (o : Option (List ℕ)) → status_for (part_work word setting) events o ≡ InputRefused
        → last_pieces_for (part_work word setting) events o ≡ piece_of (refused_line (part_work word setting) (length events + 1) why)
        → AfterLines (part_work word setting) r.taken o Nothing answer.text.items answer.status
    by None is pieces = cc
    by (Some other) is pieces = (
      line
          ∙ sym (same_line (refused_line (part_work word setting) (length events + 1) other) (refused_line (part_work word setting) (length events + 1) why) pieces)
          ∙ ap (λ (es : List Event). refused_line (part_work word setting) (length es + 1) other) (sym ended.taken_are),
      status,
    )

not_refused : (word : List ℕ) (setting : Setting) (events : List Event) (o : Option (List ℕ)) → status_for (part_work word setting) events o ≡ Done → o ≡ None
not_refused word setting events None is = refl
not_refused word setting events (Some why) is = cc

module _ {S : Type 0} (g : Ghosts S) (word : List ℕ) (setting : Setting) (text : List ℕ) (reader : LineReader S Buffer g) (was now : QuietReplay)
    (reached : HasReached g word setting text reader was) where
  abbrev next : Step Event
  next =
      step_of (part_work word setting) (bytes_before reader + length (text_behind (length reached.taken) text)) (bytes_before reader) reached.taken
      (lines (text_behind (length reached.taken) text))

  comes : (result : Result Bool SetupError) → HoldsNext (StepsOn word was now result) (text_left g reader) (bytes_before reader)
      → ComesTo (part_work word setting) setting now reached.taken next result
  comes result steps =
      subst (λ (l : Option (List ℕ)). HoldsNext (StepsOn word was now result) l (bytes_before reader)) reached.left steps (part_work word setting) reached.taken
      setting refl reached.stands.1

  ends : (pieces : Pieces) (status : Status) → next ≡ Last pieces status
      → EndsWith (part_work word setting) (reading (part_work word setting) text) reached.taken pieces status
  ends pieces status is =
      let total : ℕ = bytes_before reader + length (text_behind (length reached.taken) text) in
      let further : reading (part_work word setting) text
      ≡ reading_from (part_work word setting) total (bytes_before reader) reached.taken (lines (text_behind (length reached.taken) text)) =
      reached.further
      ∙ ap (λ (n : ℕ). reading_from (part_work word setting) n (bytes_before reader) reached.taken (lines (text_behind (length reached.taken) text)))
      (sym reached.total) in
      subst (λ (r : Reading Event). EndsWith (part_work word setting) r reached.taken pieces status) (sym further)
      (reads_end (part_work word setting) total (bytes_before reader) reached.taken (lines (text_behind (length reached.taken) text)) pieces status is)

  -- at the end of the text
  is_read : HoldsNext (StepsOn word was now (Ok false)) (text_left g reader) (bytes_before reader) → HasRead word setting text now
  is_read steps =
      let came = comes (Ok false) steps in
      let ended = ends [] Done came.0 in
      record {
        whole = not_refused word setting reached.taken (reading (part_work word setting) text).refused ended.status_is;
        played = subst (λ (es : List Event). HasPlayed now setting es) (sym ended.taken_are) came.1;
      }

  -- where a line is refused, or the run is stopped
  is_stopped : (early : SetupError) → HoldsNext (StepsOn word was now (Err early)) (text_left g reader) (bytes_before reader)
      → IsAllowed (AfterPart (part_work word setting) text Nothing) (made_of early)
  is_stopped early steps = by early (comes (Err early) steps)
    where
      by : (x : SetupError) → ComesTo (part_work word setting) setting now reached.taken next (Err x)
          → IsAllowed (AfterPart (part_work word setting) text Nothing) (made_of x)
      by (Answered answer) came =
          refused_at word setting (reading (part_work word setting) text) reached.taken came.0 answer
          (ends (piece_of (refused_line (part_work word setting) (length reached.taken + 1) came.0)) InputRefused came.1) came.2 came.3
      by (Stopped (ended.Refused why)) came = absurd came
      by (Stopped ended.Shelf) came = tt
      by (Stopped ended.Memory) came = tt

-- the same of a text that is told or not
module _ {S : Type 0} (g : Ghosts S) (word : List ℕ) (setting : Setting) (rest : Option (List ℕ)) (reader : LineReader S Buffer g) (was now : QuietReplay)
    (reached : IfSome rest (λ text. HasReached g word setting text reader was)) where
  pub told_read : HoldsNext (StepsOn word was now (Ok false)) (text_left g reader) (bytes_before reader)
      → IfSome rest (λ text. HasRead word setting text now)
  told_read steps = by rest reached
    where
      by : (o : Option (List ℕ)) → IfSome o (λ text. HasReached g word setting text reader was) → IfSome o (λ text. HasRead word setting text now)
      by None none = tt
      by (Some text) come = is_read g word setting text reader was now come steps

  pub told_stopped : (early : SetupError) → HoldsNext (StepsOn word was now (Err early)) (text_left g reader) (bytes_before reader)
      → IfSome rest (λ text. IsAllowed (AfterPart (part_work word setting) text Nothing) (made_of early))
  told_stopped early steps = by rest reached
    where
      by : (o : Option (List ℕ)) → IfSome o (λ text. HasReached g word setting text reader was)
          → IfSome o (λ text. IsAllowed (AfterPart (part_work word setting) text Nothing) (made_of early))
      by None none = tt
      by (Some text) come = is_stopped g word setting text reader was now come early steps

-- what is told of the text of a name, from what is told of the rest of the shelf
from_rest : (P : List ℕ → Type 0) (held : Option (List ℕ → Option (List ℕ))) (name : List ℕ) (rest : Option (List ℕ)) → RestIs held name rest
    → IfSome rest P → IfSome held (λ h. P (texts_of h name))
from_rest P None name rest is p = tt
from_rest P (Some h) name None is p = absurd is
from_rest P (Some h) name (Some bytes) is p = subst P is p

module _ (word name : List ℕ) (old new : QuietReplay) (held : Option (List ℕ → Option (List ℕ))) (rest : Option (List ℕ)) (is : RestIs held name rest)
    (result : Result (Unit {0}) SetupError) where
  pub all_read : OnOk result ((setting : Setting) → HasPlayed old setting [] → IfSome rest (λ text. HasRead word setting text new))
      → OnOk result ((setting : Setting) → HasPlayed old setting [] → IfSome held (λ h. HasRead word setting (texts_of h name) new))
  all_read read = by result read
    where
      by : (r : Result (Unit {0}) SetupError)
          → OnOk r ((setting : Setting) → HasPlayed old setting [] → IfSome rest (λ text. HasRead word setting text new))
          → OnOk r ((setting : Setting) → HasPlayed old setting [] → IfSome held (λ h. HasRead word setting (texts_of h name) new))
      by (Ok done) was = λ setting fresh. from_rest (λ text. HasRead word setting text new) held name rest is (was setting fresh)
      by (Err early) was = tt

  pub none_read : IfErr result (λ early. (setting : Setting) → HasPlayed old setting []
      → IfSome rest (λ text. IsAllowed (AfterPart (part_work word setting) text Nothing) (made_of early)))
      → IfErr result (λ early. (setting : Setting) → HasPlayed old setting []
      → IfSome held (λ h. IsAllowed (AfterPart (part_work word setting) (texts_of h name) Nothing) (made_of early)))
  none_read makes = by result makes
    where
      by : (r : Result (Unit {0}) SetupError)
          → IfErr r (λ early. (setting : Setting) → HasPlayed old setting []
          → IfSome rest (λ text. IsAllowed (AfterPart (part_work word setting) text Nothing) (made_of early)))
          → IfErr r (λ early. (setting : Setting) → HasPlayed old setting []
          → IfSome held (λ h. IsAllowed (AfterPart (part_work word setting) (texts_of h name) Nothing) (made_of early)))
      by (Ok done) was = tt
      by (Err early) was =
          λ setting fresh.
          from_rest (λ text. IsAllowed (AfterPart (part_work word setting) text Nothing) (made_of early)) held name rest is (was setting fresh)
