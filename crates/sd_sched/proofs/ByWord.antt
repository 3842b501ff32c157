-- A word of the schedule with its fields is read as the table of words says.
use Rattle.std.proofs.Common.{◌≡◌, ℕ, ◌+◌, Bool, true, false, cond, ◌||◌, not, List, [], ◌∷◌, length, Option, Some, None, Result, Ok, Err, refl, ap, ◌∙◌}
use Rattle.std.specs.Prelude.{codes, find, nat_eq}
use Rattle.std.specs.List.{list_any}
use Rattle.std.proofs.Math.Dec.{eqb-suc-suc, eqb-suc-zero, eqb-zero-suc}
use Rattle.std.proofs.lemmas.Bool.{or_parts}
use Rattle.sd_num.specs.Lists.{map_or}
use Rattle.sd_sched.specs.Lines.{Word as Row, words, same_bytes, field_number, field_numbers, has_unknown_kind, then_numbers, event_of_word, event_or_number, event_of_fields}
use Rattle.sd_sched.specs.Spelled.{is_word}
use Rattle.sd_sched.specs.Reading.{row_of, ◌then◌, read_of, numbers_from}
use Rattle.sd_sched.specs.declared.Event.{Event}
use Rattle.sd_sched.specs.declared.LineFault.{LineFault}
use Rattle.sd_sched.specs.declared.LineFault.TheVariants.{UnknownWord, FieldCount, Number}
use Rattle.sd_sched.specs.declared.words.Field.{Field}
use Rattle.sd_sched.specs.declared.words.Field.TheVariants.{Amount, Which, Kind}
use Rattle.sd_sched.specs.declared.words.Word.{Word}
use Rattle.sd_sched.specs.declared.words.Word.TheVariants.{Start, Tick, Recv, Lose, Fail, Fix, Ask, Stage, Give, Commit, Seal, Join, Mend, End}

-- the numbers, or the fault of the first field that has none
numbers_or_place : Result (List ℕ) ℕ → Result (List ℕ) LineFault
numbers_or_place (Ok ns) = Ok ns
numbers_or_place (Err place) = Err (Number place)

-- the count is judged first, then the kinds, then the numbers
verdict : (as_many unknown : Bool) → Result (List ℕ) ℕ → Result (List ℕ) LineFault
verdict as_many unknown numbers = cond (not as_many) (Err FieldCount) (cond unknown (Err UnknownWord) (numbers_or_place numbers))

-- a number before what is judged
number_first : (place : ℕ) (number : Option ℕ) (as_many unknown : Bool) (numbers : Result (List ℕ) ℕ)
    → verdict as_many unknown (map_or number (Err place) (λ n. then_numbers n numbers))
    ≡ map_or number (Err (Number place)) (λ n. Ok (n ∷ [])) then verdict as_many unknown numbers
unfolding verdict numbers_or_place
number_first place None false unknown numbers = refl
number_first place None true true numbers = refl
number_first place None true false (Ok ns) = refl
number_first place None true false (Err later) = refl
number_first place (Some n) false unknown numbers = refl
number_first place (Some n) true true numbers = refl
number_first place (Some n) true false (Ok ns) = refl
number_first place (Some n) true false (Err later) = refl

-- a kind before what is judged, by whether it says device and whether it says link
kind_first : (place : ℕ) (device link as_many unknown : Bool) (numbers : Result (List ℕ) ℕ)
    → verdict as_many (not (device || link) || unknown) (map_or (cond device (Some 0) (cond link (Some 1) None)) (Err place) (λ n. then_numbers n numbers))
    ≡ map_or (cond device (Some 0) (cond link (Some 1) None)) (Err UnknownWord) (λ n. Ok (n ∷ [])) then verdict as_many unknown numbers
unfolding verdict numbers_or_place
kind_first place true link false unknown numbers = refl
kind_first place true link true true numbers = refl
kind_first place true link true false (Ok ns) = refl
kind_first place true link true false (Err later) = refl
kind_first place false true false unknown numbers = refl
kind_first place false true true true numbers = refl
kind_first place false true true false (Ok ns) = refl
kind_first place false true true false (Err later) = refl
kind_first place false false false unknown numbers = refl
kind_first place false false true true numbers = refl
kind_first place false false true false (Ok ns) = refl
kind_first place false false true false (Err later) = refl

-- a field before what is judged
field_first : (field : Field) (text : List ℕ) (place : ℕ) (as_many : Bool) (shape : List Field) (texts : List (List ℕ)) (numbers : Result (List ℕ) ℕ)
    → verdict as_many (has_unknown_kind (field ∷ shape) (text ∷ texts)) (map_or (field_number field text) (Err place) (λ n. then_numbers n numbers))
    ≡ read_of field place (field_number field text) then verdict as_many (has_unknown_kind shape texts) numbers
field_first Amount text place as_many shape texts numbers = number_first place (field_number Amount text) as_many (has_unknown_kind shape texts) numbers
field_first Which text place as_many shape texts numbers = number_first place (field_number Which text) as_many (has_unknown_kind shape texts) numbers
field_first Kind text place as_many shape texts numbers =
    kind_first place (same_bytes (codes "device") text) (same_bytes (codes "link") text) as_many (has_unknown_kind shape texts) numbers

-- read one after the other, the fields are judged as they are all together
judged_together : (place : ℕ) (shape : List Field) (texts : List (List ℕ))
    → verdict (nat_eq (length texts) (length shape)) (has_unknown_kind shape texts) (field_numbers place shape texts) ≡ numbers_from place shape texts
unfolding verdict numbers_or_place
judged_together place [] [] = refl
judged_together place [] (text ∷ texts) = rw (eqb-suc-zero (length texts)) refl
judged_together place (field ∷ shape) [] = rw (eqb-zero-suc (length shape)) refl
judged_together place (field ∷ shape) (text ∷ texts) =
    rw (eqb-suc-suc (length texts) (length shape))
    (field_first field text place (nat_eq (length texts) (length shape)) shape texts (field_numbers (place + 1) shape texts)
    ∙ ap (λ (later : Result (List ℕ) LineFault). read_of field place (field_number field text) then later) (judged_together (place + 1) shape texts))

-- the event of the numbers, or the fault
abbrev pub event_of : (List ℕ → Event) → Result (List ℕ) LineFault → Result Event LineFault
event_of event (Ok ns) = Ok (event ns)
event_of event (Err fault) = Err fault

-- a word's event is that of its numbers
word_judged : (row : Row) (as_many unknown : Bool) (numbers : Result (List ℕ) ℕ)
    → cond (not as_many) (Err FieldCount) (cond unknown (Err UnknownWord) (event_or_number row numbers)) ≡ event_of row.event (verdict as_many unknown numbers)
unfolding verdict numbers_or_place
word_judged row false unknown numbers = refl
word_judged row true true numbers = refl
word_judged row true false (Ok ns) = refl
word_judged row true false (Err place) = refl

-- a word with its fields, read one after the other
pub event_of_word_is : (row : Row) (texts : List (List ℕ)) → event_of_word texts row ≡ event_of row.event (numbers_from 1 row.shape texts)
event_of_word_is row texts =
    word_judged row (nat_eq (length texts) (length row.shape)) (has_unknown_kind row.shape texts) (field_numbers 1 row.shape texts)
    ∙ ap (event_of row.event) (judged_together 1 row.shape texts)

-- fields that begin with a known word
pub known_word : (w : Word) (texts : List (List ℕ)) → event_of_fields ((row_of w).spelled ∷ texts) ≡ event_of_word texts (row_of w)
known_word Start texts = refl
known_word Tick texts = refl
known_word Recv texts = refl
known_word Lose texts = refl
known_word Fail texts = refl
known_word Fix texts = refl
known_word Ask texts = refl
known_word Stage texts = refl
known_word Give texts = refl
known_word Commit texts = refl
known_word Seal texts = refl
known_word Join texts = refl
known_word Mend texts = refl
known_word End texts = refl

-- where no word passes, none is found
none_found : (ws : List Row) (bytes : List ℕ) → list_any (λ w. same_bytes w.spelled bytes) ws ≡ false → find (λ w. same_bytes w.spelled bytes) ws ≡ None
none_found [] bytes none = refl
none_found (w ∷ ws) bytes none =
    let parts = or_parts (same_bytes w.spelled bytes) (list_any (λ v. same_bytes v.spelled bytes) ws) none in
    rw parts.0 (none_found ws bytes parts.1)

-- fields that begin with none
pub no_word : (first : List ℕ) (texts : List (List ℕ)) → is_word first ≡ false → event_of_fields (first ∷ texts) ≡ Err UnknownWord
unfolding is_word
no_word first texts none = rw (none_found words first none) refl
