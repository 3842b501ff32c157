-- That each line of a log which is accepted is recorded by the law.
use Rattle.std.specs.Prelude.{◌≡◌, ℕ, suc, ◌+◌, ◌<◌, List, [], ◌∷◌, drop, length, slice_index_or, Option, Some, None, Result, Ok, Err, refl}
use Rattle.std.proofs.Common.{arith, sym, ◌∙◌, ap, subst}
use Rattle.std.proofs.Math.Seq.{drop-cons}
use Rattle.std.proofs.lemmas.List.{length-drop}
use Rattle.sd_sched.specs.declared.Event.{Event}
use Rattle.sd_sched.specs.declared.LineFault.{LineFault}
use Rattle.sd_history.specs.World.{Setting}
use Rattle.sd_history.specs.Chronicle.{IsHistory}
use Rattle.sd_record.specs.logs.Lines.{entry_of_line}
use Rattle.sd_record.specs.declared.logs.Entry.{Entry}
use Rattle.sd_io.specs.stream.Lines.{lines}
use Rattle.sd_files.specs.work.Works.{judged, length_fault, read_on, reading, reading_from, unless_too_long}
use Rattle.sd_record.specs.Lawful.{AreRecorded, IsLineRecorded, LogIsRecorded}
use Rattle.sd_record.specs.Recorded.{Events, record_entry}
use Rattle.sd_record.specs.Works.{in_words, latest, record_work, said}
use Rattle.sd_record.proofs.Laws.{recorded, stays_history}

-- the line of a history that it leaves
line_recorded : (setting : Setting) (line : List ℕ) (before after : List Event) → IsHistory setting before
    → said setting before (entry_of_line line) ≡ Ok after → IsLineRecorded setting line before after
line_recorded setting line before after history is = by (entry_of_line line) refl is
  where
    inner : (entry : Entry) (came : Events) → record_entry setting entry before ≡ came → in_words came ≡ Ok after → record_entry setting entry before ≡ Ok after
    inner entry (Ok events) same told = let inside : events ≡ after = cc in same ∙ ap (λ (es : List Event). Ok es) inside
    inner entry (Err why) same told = cc

    by : (read : Result Entry LineFault) → entry_of_line line ≡ read → said setting before read ≡ Ok after → IsLineRecorded setting line before after
    by (Ok entry) same told =
        let came = inner entry (record_entry setting entry before) refl told in
        record {
          entry = entry;
          says = same;
          lawful = recorded setting entry before after history came;
          accepted = stays_history setting entry before after history came;
        }
    by (Err why) same told = cc

latest_accepted : (setting : Setting) (texts : List (List ℕ)) (taken : List (List Event)) → AreRecorded setting texts taken → IsHistory setting (latest taken)
latest_accepted setting texts [] are = tt
latest_accepted setting texts (events ∷ earlier) are = are.1.accepted

-- what a line says that is not too long
not_too_long : {E : Type 0} (long : Option (List ℕ)) (said' : Result E (List ℕ)) (x : E) → unless_too_long long said' ≡ Ok x → said' ≡ Ok x
not_too_long (Some why) said' x is = cc
not_too_long None said' x is = is

-- the lines that are left, from a place on
next_line : (texts others : List (List ℕ)) (line : List ℕ) (place : ℕ) → drop place texts ≡ line ∷ others
    → (line ≡ slice_index_or texts place []) × (drop (suc place) texts ≡ others)
next_line texts others line place left =
    let within : place < length texts = in_texts in
    let both : slice_index_or texts place [] ∷ drop (suc place) texts ≡ line ∷ others = sym (drop-cons texts place [] within) ∙ left in
    (cc, cc)
  where
    in_texts : place < length texts
    in_texts = let count = sym (length-drop place texts) ∙ ap length left in omega (arith, count)

-- from a place of the text on
recorded_from : (setting : Setting) (texts : List (List ℕ)) (total start : ℕ) (taken : List (List Event)) (left : List (List ℕ))
    → drop (length taken) texts ≡ left → AreRecorded setting texts taken
    → AreRecorded setting texts (reading_from (record_work setting) total start taken left).taken
unfolding reading_from
recorded_from setting texts total start taken [] rest are = are
recorded_from setting texts total start taken (line ∷ others) rest are =
    by (judged (record_work setting) total start taken line) refl
    (λ events. recorded_from setting texts total (start + length line + 1) (events ∷ taken) others)
  where
    next : (line ≡ slice_index_or texts (length taken) []) × (drop (suc (length taken)) texts ≡ others)
    next = next_line texts others line (length taken) rest

    by : (says : Result (List Event) (List ℕ)) → judged (record_work setting) total start taken line ≡ says
        → ((events : List Event) → drop (suc (length taken)) texts ≡ others → AreRecorded setting texts (events ∷ taken)
        → AreRecorded setting texts (reading_from (record_work setting) total (start + length line + 1) (events ∷ taken) others).taken)
        → AreRecorded setting texts
        (read_on says taken (λ events. reading_from (record_work setting) total (start + length line + 1) (events ∷ taken) others)).taken
    by (Err why) is more = are
    by (Ok events) is more =
        let told = not_too_long (length_fault total start line) (said setting (latest taken) (entry_of_line line)) events is in
        let one = line_recorded setting line (latest taken) events (latest_accepted setting texts taken are) told in
        more events next.1
        (are, subst (λ (l : List ℕ). IsLineRecorded setting l (latest taken) events) next.0 one)

pub log_is_recorded : LogIsRecorded
unfolding reading
log_is_recorded setting log = recorded_from setting (lines log) (length log) 0 [] (lines log) refl tt
