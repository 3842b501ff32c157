-- Fields read one after the other, as they are found.
use Rattle.std.specs.Prelude.{ℕ, ◌+◌, ◌≤◌, Bool, true, false, List, [], ◌∷◌, ◌++◌, Option, Some, None, Result, Ok, Err, slice_index}
use Rattle.sd_num.specs.Lists.{map_or}
use Rattle.sd_sched.specs.Lines.{Word as Row, start_word, tick_word, recv_word, lose_word, fail_word, fix_word, ask_word, stage_word, give_word, commit_word, seal_word, join_word, mend_word, end_word, fields, field_number, limit}
use Rattle.sd_sched.specs.declared.LineFault.{LineFault}
use Rattle.sd_sched.specs.declared.LineFault.TheVariants.{UnknownWord, FieldCount, Number}
use Rattle.sd_sched.specs.declared.words.Field.{Field}
use Rattle.sd_sched.specs.declared.words.Field.TheVariants.{Amount, Which, Kind}
use Rattle.sd_sched.specs.declared.words.Word.{Word}
use Rattle.sd_sched.specs.declared.words.Word.TheVariants.{Start, Tick, Recv, Lose, Fail, Fix, Ask, Stage, Give, Commit, Seal, Join, Mend, End}

-- the row of a word in the table of words
abbrev pub row_of : Word → Row
row_of Start = start_word
row_of Tick = tick_word
row_of Recv = recv_word
row_of Lose = lose_word
row_of Fail = fail_word
row_of Fix = fix_word
row_of Ask = ask_word
row_of Stage = stage_word
row_of Give = give_word
row_of Commit = commit_word
row_of Seal = seal_word
row_of Join = join_word
row_of Mend = mend_word
row_of End = end_word

-- the words whose events set an estimate
abbrev pub sets_estimate : Word → Bool
sets_estimate Start = true
sets_estimate Fix = true
sets_estimate Join = true
sets_estimate _ = false

-- the words at which a device reads its counter and sets no estimate
abbrev pub only_reads : Word → Bool
only_reads Tick = true
only_reads Recv = true
only_reads Ask = true
only_reads Commit = true
only_reads _ = false

-- the fields of what is left of a line after a field: of nothing none, and else those after the space
abbrev pub fields_behind : List ℕ → List (List ℕ)
fields_behind [] = []
fields_behind (space ∷ bytes) = fields bytes

-- why a field that has no number is refused
abbrev pub fault_of : Field → ℕ → LineFault
fault_of Amount place = Number place
fault_of Which place = Number place
fault_of Kind place = UnknownWord

-- a field's fault and that of the line after it: the count is answered before a kind, a kind before a number, and of numbers the first
abbrev pub reported_first : LineFault → LineFault → LineFault
reported_first first FieldCount = FieldCount
reported_first first UnknownWord = UnknownWord
reported_first first (Number place) = first

infixl 10 ◌then◌
-- the numbers of some fields and of those after them, or the fault that is answered
abbrev pub ◌then◌ : Result (List ℕ) LineFault → Result (List ℕ) LineFault → Result (List ℕ) LineFault
(Ok front) then (Ok behind) = Ok (front ++ behind)
(Ok front) then (Err fault) = Err fault
(Err fault) then (Ok behind) = Err fault
(Err first) then (Err second) = Err (reported_first first second)

-- what is read of a single field
abbrev pub read_of : Field → ℕ → Option ℕ → Result (List ℕ) LineFault
read_of field place number = map_or number (Err (fault_of field place)) (λ n. Ok (n ∷ []))

-- the numbers of these fields, or the fault of the line: the fields are counted from the given place
abbrev pub numbers_from : ℕ → List Field → List (List ℕ) → Result (List ℕ) LineFault
numbers_from place [] [] = Ok []
numbers_from place [] (text ∷ texts) = Err FieldCount
numbers_from place (field ∷ shape) [] = Err FieldCount
numbers_from place (field ∷ shape) (text ∷ texts) = read_of field place (field_number field text) then numbers_from (place + 1) shape texts

-- what was read so far: the numbers, unless there was a fault
abbrev pub so_far : Option LineFault → List ℕ → Result (List ℕ) LineFault
so_far None numbers = Ok numbers
so_far (Some fault) numbers = Err fault

-- the number at each place, from the given one on, is within the limit of its field
abbrev pub WithinFrom : ℕ → List Field → List ℕ → Type 0
WithinFrom place [] numbers = Unit {0}
WithinFrom place (field ∷ shape) numbers = (slice_index numbers place ≤ limit field) × WithinFrom (place + 1) shape numbers
