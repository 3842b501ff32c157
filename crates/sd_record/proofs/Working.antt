-- That a recording does the work of a log.
use Rattle.std.specs.Prelude.{◌≡◌, ℕ, zero, suc, Bool, true, false, ◌||◌, List, [], ◌∷◌, ◌++◌, drop, length, Option, Some, None, option_map, Ok, Err, IfSome, refl}
use Rattle.std.specs.List.{list_any}
use Rattle.std.proofs.Common.{sym, ◌∙◌, ap, subst}
use Rattle.std.proofs.lemmas.List.{append-nil, drop_at}
use Rattle.sd_io.specs.outside.Pieces.{AddsPieces, Pieces}
use Rattle.sd_io.specs.outside.Rests.{RestIs}
use Rattle.sd_sched.specs.Events.{is_end_event}
use Rattle.sd_sched.specs.Spelled.{line_of_event, spelled_fields}
use Rattle.sd_sched.specs.declared.Event.{Event}
use Rattle.sd_sched.specs.declared.LineFault.{LineFault}
use Rattle.sd_history.specs.World.{Setting}
use Rattle.sd_history.specs.declared.ApplyFault.{ApplyFault}
use Rattle.sd_record.specs.logs.Entries.{event_with}
use Rattle.sd_record.specs.logs.Lines.{entry_of_line}
use Rattle.sd_record.specs.logs.Reasons.{line_reason}
use Rattle.sd_record.specs.declared.logs.Entry.{Entry}
use Rattle.sd_record.specs.declared.logs.Entry.TheVariants.{Loss, Plain, Receipt}
use Rattle.sd_files.specs.Texts.{texts_of}
use Rattle.sd_files.specs.declared.work.Taken.TheVariants as taken
use Rattle.sd_files.specs.work.Leaving.{are_lines}
use Rattle.sd_files.specs.work.Taking.{Takes}
use Rattle.sd_files.specs.work.WholeLines.{WritesWhole}
use Rattle.sd_files.specs.work.Works.{Work}
use Rattle.sd_files.proofs.work.Whole.{append_whole, text_whole}
use Rattle.sd_record.specs.Doing.{DoesRecord}
use Rattle.sd_record.specs.Printed.{line_bytes, schedule_text}
use Rattle.sd_record.specs.Reasons.{apply_name}
use Rattle.sd_record.specs.Recorded.{record_entry}
use Rattle.sd_record.specs.Standing.{Records, StandsFor}
use Rattle.sd_record.specs.Works.{has_ended, in_words, latest, lines_since, record_work, said}
use Rattle.sd_record.specs.declared.work.Recording.{Recording}
use Rattle.sd_record.proofs.Laws.{recorded}
use Rattle.sd_record.proofs.Standing.{is_history}

never : true ≡ false → ⊥
never same = cc

-- A line that is refused

-- it is none of a log
pub line_refused : (old new : Recording) (line printed : List ℕ) (why : LineFault) → entry_of_line line ≡ Err why → new.refused ≡ true → new.ended ≡ old.ended
    → printed ≡ line_reason why
    → (work : Work (List Event)) (xs : List (List Event)) → DoesRecord old work xs
    → Takes work xs line (DoesRecord new work) printed taken.Refused
line_refused old new line printed why is refused same tells work xs does =
    let says : said does.setting (latest xs) (entry_of_line line) ≡ Err printed =
    ap (said does.setting (latest xs)) is ∙ ap (λ (b : List ℕ). Err b) (sym tells) in
    subst (λ (w : Work (List Event)). Takes w xs line (DoesRecord new w) printed taken.Refused) (sym does.is)
    (says, record { setting = does.setting; is = refl; stands = λ not. absurd (never (sym refused ∙ not)); ended = same ∙ does.ended })

-- its entry is refused
pub entry_refused : (old new : Recording) (line printed : List ℕ) (entry : Entry) (why : ApplyFault) → entry_of_line line ≡ Ok entry → old.refused ≡ false
    → Records old.recorder new.recorder (λ s. record_entry s entry) (Some why)
    → new.refused ≡ true
    → new.ended ≡ old.ended
    → printed ≡ apply_name why
    → (work : Work (List Event)) (xs : List (List Event)) → DoesRecord old work xs
    → Takes work xs line (DoesRecord new work) printed taken.Refused
entry_refused old new line printed entry why is free records refused same tells work xs does =
    let came = records does.setting (latest xs) (does.stands free) in
    let says : said does.setting (latest xs) (entry_of_line line) ≡ Err printed =
    ap (said does.setting (latest xs)) is ∙ ap in_words came ∙ ap (λ (b : List ℕ). Err b) (sym tells) in
    subst (λ (w : Work (List Event)). Takes w xs line (DoesRecord new w) printed taken.Refused) (sym does.is)
    (says, record { setting = does.setting; is = refl; stands = λ not. absurd (never (sym refused ∙ not)); ended = same ∙ does.ended })

-- A line that is accepted

-- whether an entry ends a history does not ask for the number of a message
any_number : (entry : Entry) (number : ℕ) → is_end_event (event_with entry number) ≡ is_end_event (event_with entry 0)
any_number (Plain e) number = refl
any_number (Receipt reference counter name) number = refl
any_number (Loss reference name) number = refl

pub entry_accepted : (old new : Recording) (line printed : List ℕ) (entry : Entry) → entry_of_line line ≡ Ok entry → old.refused ≡ false
    → Records old.recorder new.recorder (λ s. record_entry s entry) None
    → new.ended ≡ (is_end_event (event_with entry 0) || old.ended)
    → printed ≡ new.recorder.text.items
    → (work : Work (List Event)) (xs : List (List Event)) → DoesRecord old work xs
    → Takes work xs line (DoesRecord new work) printed taken.Accepted
entry_accepted old new line printed entry is free records ended tells work xs does =
    let (events, came, holds) = records does.setting (latest xs) (does.stands free) in
    let says : said does.setting (latest xs) (entry_of_line line) ≡ Ok events = ap (said does.setting (latest xs)) is ∙ ap in_words came in
    let lines : lines_since (latest xs) events ≡ new.recorder.text.items =
    ap (drop (length (schedule_text (latest xs)))) holds.text
    ∙ drop_at (schedule_text (latest xs)) new.recorder.text.items (length (schedule_text (latest xs))) refl in
    let record_of = recorded does.setting entry (latest xs) events (is_history old.recorder does.setting (latest xs) (does.stands free)) came in
    let ends : has_ended events ≡ is_end_event (event_with entry 0) = ap has_ended record_of.is ∙ any_number entry _ in
    subst (λ (w : Work (List Event)). Takes w xs line (DoesRecord new w) printed taken.Accepted) (sym does.is) (
      events,
      says,
      tells ∙ sym lines,
      record {
        setting = does.setting;
        is = refl;
        stands = λ not. holds.stands;
        ended = ended ∙ ap (λ (b : Bool). b || old.ended) (sym ends) ∙ ap (λ (b : Bool). has_ended events || b) does.ended;
      },
    )

-- The end of a log

pub ends_as : (state : Recording) (work : Work (List Event)) (xs : List (List Event)) → DoesRecord state work xs → state.ended ≡ list_any work.ends xs
ends_as state work xs does = subst (λ (w : Work (List Event)). state.ended ≡ list_any w.ends xs) (sym does.is) does.ended

none_added : (o : Option Pieces) → o ≡ option_map (λ before. before ++ []) o
none_added None = refl
none_added (Some pieces) = ap (λ (p : Pieces). Some p) (sym (append-nil pieces))

-- nothing is written at the end
pub nothing_due : (state : Recording) (work : Work (List Event)) (xs : List (List Event)) (written : Option Pieces) → DoesRecord state work xs
    → AddsPieces written written (work.last_pieces xs)
nothing_due state work xs written does =
    subst (λ (w : Work (List Event)). AddsPieces written written (w.last_pieces xs)) (sym does.is) (none_added written)

-- Whole lines

-- what ends with a newline does so after its front
behind_front : (n : ℕ) (bytes : List ℕ) → are_lines bytes ≡ true → are_lines (drop n bytes) ≡ true
behind_front zero bytes are = are
behind_front (suc n) [] are = refl
behind_front (suc n) (byte ∷ []) are = behind_front n [] refl
behind_front (suc n) (byte ∷ next ∷ bytes) are = behind_front n (next ∷ bytes) are

line_whole : (e : Event) → are_lines (line_bytes e) ≡ true
unfolding line_of_event
line_whole e = text_whole (spelled_fields e)

text_ends : (events : List Event) → are_lines (schedule_text events) ≡ true
text_ends [] = refl
text_ends (e ∷ earlier) = append_whole (schedule_text earlier) (line_bytes e) (text_ends earlier) (line_whole e)

-- what is written for a line of a log is whole lines
pub record_whole : (setting : Setting) → WritesWhole (record_work setting)
record_whole setting taken events = behind_front (length (schedule_text (latest taken))) (schedule_text events) (text_ends events)

-- A whole log

-- a recording that has taken nothing does its work
pub does_nothing_yet : (state : Recording) (setting : Setting) → state.refused ≡ false → state.ended ≡ false → StandsFor state.recorder setting []
    → DoesRecord state (record_work setting) []
does_nothing_yet state setting free going stands = record { setting = setting; is = refl; stands = λ not. stands; ended = going }

-- what holds of the text that was begun holds of the text of its name
pub text_begun : (held : Option (List ℕ → Option (List ℕ))) (name : List ℕ) (rest : Option (List ℕ)) (P : List ℕ → Type 0) → RestIs held name rest
    → IfSome rest P
    → IfSome held (λ h. P (texts_of h name))
text_begun None name rest P is so = tt
text_begun (Some h) name None P is so = absurd is
text_begun (Some h) name (Some bytes) P is so = subst P is so
