-- Schedule lines: a word and its fields, parted by one space.
use Rattle.std.specs.Prelude.{ℕ, ◌+◌, ◌-◌, ◌^◌, Bool, true, false, ◌&&◌, not, List, ◌∷◌, length, find, nat_eq, nat_le, slice_index, Option, Some, None, Result, Ok, Err, codes, if◌then◌else◌, [], ◌||◌}
use Rattle.sd_num.specs.Lists.{map_or}
use Rattle.sd_num.specs.Decimals.{number}
use Rattle.sd_num.specs.declared.NumFault.{NumFault}
use Rattle.sd_sched.specs.declared.Event.{Event}
use Rattle.sd_sched.specs.declared.Event.TheVariants.{Start, Tick, Recv, Lose, FailDevice, FailLink, Fix, Ask, Stage, Give, Commit, Seal, Join, MendDevice, MendLink, End}
use Rattle.sd_sched.specs.declared.words.Field.{Field}
use Rattle.sd_sched.specs.declared.words.Field.TheVariants.{Amount, Which, Kind}
use Rattle.sd_sched.specs.declared.LineFault.{LineFault}
use Rattle.sd_sched.specs.declared.LineFault.TheVariants.{UnknownWord, FieldCount, Number}

-- the fields, with a byte before the first
abbrev pub with_front : ℕ → List (List ℕ) → List (List ℕ)
with_front byte [] = (byte ∷ []) ∷ []
with_front byte (field ∷ others) = (byte ∷ field) ∷ others

-- the fields of a line: what stands between single spaces
abbrev pub fields : List ℕ → List (List ℕ)
fields [] = [] ∷ []
fields (byte ∷ bytes) = if nat_eq byte 32 then [] ∷ fields bytes else with_front byte (fields bytes)

-- what stands before the first space of a line, or all of it
abbrev pub first_field : List ℕ → List ℕ
first_field [] = []
first_field (byte ∷ bytes) = if nat_eq byte 32 then [] else byte ∷ first_field bytes

-- a word of the schedule, its fields, and the event of their numbers; the kind counts as 0 for a device and 1 for a link
pub record Word : Type 0 where
  pub spelled : List ℕ
  pub shape : List Field
  pub event : List ℕ → Event

-- a word by its parts
abbrev pub word : List ℕ → List Field → (List ℕ → Event) → Word
word spelled shape event = record { spelled = spelled; shape = shape; event = event }

-- start REF DEVICE COUNTER CLOCK EPS
abbrev pub start_word : Word
start_word =
    word (codes "start") (Amount ∷ Which ∷ Amount ∷ Amount ∷ Amount ∷ [])
    (λ v. Start (slice_index v 0) (slice_index v 1) (slice_index v 2) (slice_index v 3) (slice_index v 4))

-- tick REF DEVICE COUNTER
abbrev pub tick_word : Word
tick_word = word (codes "tick") (Amount ∷ Which ∷ Amount ∷ []) (λ v. Tick (slice_index v 0) (slice_index v 1) (slice_index v 2))

-- recv REF DEVICE COUNTER MESSAGE
abbrev pub recv_word : Word
recv_word = word (codes "recv") (Amount ∷ Which ∷ Amount ∷ Amount ∷ []) (λ v. Recv (slice_index v 0) (slice_index v 1) (slice_index v 2) (slice_index v 3))

-- lose REF MESSAGE
abbrev pub lose_word : Word
lose_word = word (codes "lose") (Amount ∷ Amount ∷ []) (λ v. Lose (slice_index v 0) (slice_index v 1))

-- fail REF device|link NUMBER
abbrev pub fail_word : Word
fail_word = word (codes "fail") (Amount ∷ Kind ∷ Which ∷ [])
    (λ v. if nat_eq (slice_index v 1) 0 then FailDevice (slice_index v 0) (slice_index v 2) else FailLink (slice_index v 0) (slice_index v 2))

-- fix REF DEVICE COUNTER CLOCK EPS
abbrev pub fix_word : Word
fix_word = word (codes "fix") (Amount ∷ Which ∷ Amount ∷ Amount ∷ Amount ∷ [])
    (λ v. Fix (slice_index v 0) (slice_index v 1) (slice_index v 2) (slice_index v 3) (slice_index v 4))

-- ask REF DEVICE COUNTER
abbrev pub ask_word : Word
ask_word = word (codes "ask") (Amount ∷ Which ∷ Amount ∷ []) (λ v. Ask (slice_index v 0) (slice_index v 1) (slice_index v 2))

-- stage REF
abbrev pub stage_word : Word
stage_word = word (codes "stage") (Amount ∷ []) (λ v. Stage (slice_index v 0))

-- give REF DEVICE
abbrev pub give_word : Word
give_word = word (codes "give") (Amount ∷ Which ∷ []) (λ v. Give (slice_index v 0) (slice_index v 1))

-- commit REF DEVICE COUNTER
abbrev pub commit_word : Word
commit_word = word (codes "commit") (Amount ∷ Which ∷ Amount ∷ []) (λ v. Commit (slice_index v 0) (slice_index v 1) (slice_index v 2))

-- seal REF DEVICE
abbrev pub seal_word : Word
seal_word = word (codes "seal") (Amount ∷ Which ∷ []) (λ v. Seal (slice_index v 0) (slice_index v 1))

-- join REF DEVICE COUNTER CLOCK EPS
abbrev pub join_word : Word
join_word = word (codes "join") (Amount ∷ Which ∷ Amount ∷ Amount ∷ Amount ∷ [])
    (λ v. Join (slice_index v 0) (slice_index v 1) (slice_index v 2) (slice_index v 3) (slice_index v 4))

-- mend REF device|link NUMBER
abbrev pub mend_word : Word
mend_word = word (codes "mend") (Amount ∷ Kind ∷ Which ∷ [])
    (λ v. if nat_eq (slice_index v 1) 0 then MendDevice (slice_index v 0) (slice_index v 2) else MendLink (slice_index v 0) (slice_index v 2))

-- end REF
abbrev pub end_word : Word
end_word = word (codes "end") (Amount ∷ []) (λ v. End (slice_index v 0))

-- the fourteen words
abbrev pub words : List Word
words =
    start_word
    ∷ tick_word
    ∷ recv_word
    ∷ lose_word
    ∷ fail_word
    ∷ fix_word
    ∷ ask_word
    ∷ stage_word
    ∷ give_word
    ∷ commit_word
    ∷ seal_word
    ∷ join_word
    ∷ mend_word
    ∷ end_word
    ∷ []

-- the two lists of bytes are equal
abbrev pub same_bytes : List ℕ → List ℕ → Bool
same_bytes [] [] = true
same_bytes [] (b ∷ bs) = false
same_bytes (a ∷ as') [] = false
same_bytes (a ∷ as') (b ∷ bs) = nat_eq a b && same_bytes as' bs

-- the bytes say device or link
abbrev pub is_kind : List ℕ → Bool
is_kind bytes = same_bytes (codes "device") bytes || same_bytes (codes "link") bytes

-- the greatest number that a field may have
abbrev pub limit : Field → ℕ
limit Amount = 2 ^ 60
limit Which = 2 ^ 32 - 1
limit Kind = 1

-- a number that is read, if it is at most the given one
abbrev pub number_within : ℕ → Result ℕ NumFault → Option ℕ
number_within most (Ok n) = if nat_le n most then Some n else None
number_within most (Err fault) = None

-- the number of a field, or nothing where it has none within its limit
abbrev pub field_number : Field → List ℕ → Option ℕ
field_number Amount bytes = number_within (limit Amount) (number bytes)
field_number Which bytes = number_within (limit Which) (number bytes)
field_number Kind bytes = if same_bytes (codes "device") bytes then Some 0 else if same_bytes (codes "link") bytes then Some 1 else None

-- a number before the others, unless one of those has none
abbrev pub then_numbers : ℕ → Result (List ℕ) ℕ → Result (List ℕ) ℕ
then_numbers n (Ok ns) = Ok (n ∷ ns)
then_numbers n (Err place) = Err place

-- the numbers of the fields, or the place of the first field that has none; the fields are counted from the given place
abbrev pub field_numbers : ℕ → List Field → List (List ℕ) → Result (List ℕ) ℕ
field_numbers place [] texts = Ok []
field_numbers place (field ∷ shape) [] = Ok []
field_numbers place (field ∷ shape) (text ∷ texts) =
    let others = field_numbers (place + 1) shape texts in
    map_or (field_number field text) (Err place) (λ n. then_numbers n others)

-- a field that says device or link says neither
abbrev pub has_unknown_kind : List Field → List (List ℕ) → Bool
has_unknown_kind [] texts = false
has_unknown_kind (field ∷ shape) [] = false
has_unknown_kind (Amount ∷ shape) (text ∷ texts) = has_unknown_kind shape texts
has_unknown_kind (Which ∷ shape) (text ∷ texts) = has_unknown_kind shape texts
has_unknown_kind (Kind ∷ shape) (text ∷ texts) = not (is_kind text) || has_unknown_kind shape texts

-- the event of the numbers, or the field that has none
abbrev pub event_or_number : Word → Result (List ℕ) ℕ → Result Event LineFault
event_or_number w (Ok ns) = Ok (w.event ns)
event_or_number w (Err place) = Err (Number place)

-- a known word with these fields
abbrev pub event_of_word : List (List ℕ) → Word → Result Event LineFault
event_of_word texts w =
    if not (nat_eq (length texts) (length w.shape)) then Err FieldCount
    else if has_unknown_kind w.shape texts then Err UnknownWord
    else event_or_number w (field_numbers 1 w.shape texts)

-- the event of all fields of a line, the word first
abbrev pub event_of_fields : List (List ℕ) → Result Event LineFault
event_of_fields [] = Err UnknownWord
event_of_fields (first ∷ texts) = map_or (find (λ w. same_bytes w.spelled first) words) (Err UnknownWord) (event_of_word texts)

-- the event of a line, or its fault
unfoldable pub event_of_line : List ℕ → Result Event LineFault
event_of_line bytes = event_of_fields (fields bytes)
