-- Lines of a log: those of a schedule, and `recv` and `lose` with the name of a message in place of its number.
use Rattle.std.specs.Prelude.{ℕ, ◌+◌, List, [], ◌∷◌, drop, length, Result, Ok, Err, codes, if◌then◌else◌}
use Rattle.sd_num.specs.Lists.{map_or}
use Rattle.sd_num.specs.Decimals.{number}
use Rattle.sd_sched.specs.Lines.{event_of_line, first_field, limit, number_within, same_bytes}
use Rattle.sd_sched.specs.declared.Event.{Event}
use Rattle.sd_sched.specs.declared.LineFault.{LineFault}
use Rattle.sd_sched.specs.declared.LineFault.TheVariants.{FieldCount, Number}
use Rattle.sd_sched.specs.declared.words.Field.TheVariants.{Amount, Which}
use Rattle.sd_record.specs.declared.logs.Entry.{Entry}
use Rattle.sd_record.specs.declared.logs.Entry.TheVariants as entry
use Rattle.sd_record.specs.declared.logs.MessageName.{MessageName}
use Rattle.sd_record.specs.declared.logs.reading.Kind.{Kind}
use Rattle.sd_record.specs.declared.logs.reading.Kind.TheVariants.{Loss, Other, Receipt}
use Rattle.sd_record.specs.logs.Then.{◌>>=◌}

-- the number of the field after the space at the front, which is to be at most the given one, and what is left after it
abbrev pub next_number : (place most : ℕ) → List ℕ → Result (ℕ × List ℕ) LineFault
next_number place most [] = Err FieldCount
next_number place most (space ∷ bytes) =
    map_or (number_within most (number (first_field bytes))) (Err (Number place)) (λ n. Ok (n, drop (length (first_field bytes)) bytes))

-- nothing is left after what was read
abbrev pub at_end : {A : Type 0} → A → List ℕ → Result A LineFault
at_end x [] = Ok x
at_end x (byte ∷ bytes) = Err FieldCount

-- the name of a message to the receiver: its link, its epoch and its stamp, which end the line
abbrev pub named : (receiver place : ℕ) → List ℕ → Result MessageName LineFault
named receiver place left =
    next_number place (limit Which) left
    >>= (λ link. next_number (place + 1) (limit Which) link.1
    >>= (λ epoch. next_number (place + 2) (limit Which) epoch.1
    >>= (λ term. next_number (place + 3) (limit Amount) term.1
    >>= (λ round. at_end (record { receiver = receiver; link = link.0; epoch = epoch.0; term = term.0; round = round.0 }) round.1))))

-- recv REF DEVICE COUNTER LINK EPOCH TERM ROUND
abbrev pub receipt_of : List ℕ → Result Entry LineFault
receipt_of behind =
    next_number 1 (limit Amount) behind
    >>= (λ reference. next_number 2 (limit Which) reference.1
    >>= (λ device. next_number 3 (limit Amount) device.1
    >>= (λ counter. named device.0 4 counter.1
    >>= (λ name. Ok (entry.Receipt reference.0 counter.0 name)))))

-- lose REF DEVICE LINK EPOCH TERM ROUND
abbrev pub loss_of : List ℕ → Result Entry LineFault
loss_of behind =
    next_number 1 (limit Amount) behind
    >>= (λ reference. next_number 2 (limit Which) reference.1
    >>= (λ device. named device.0 3 device.1
    >>= (λ name. Ok (entry.Loss reference.0 name))))

-- an event of a schedule's line is an entry
abbrev pub plain : Result Event LineFault → Result Entry LineFault
plain read = read >>= (λ e. Ok (entry.Plain e))

-- what a word begins
unfoldable pub kind_in : List ℕ → Kind
kind_in word = if same_bytes (codes "recv") word then Receipt else if same_bytes (codes "lose") word then Loss else Other

-- the entry of a line of this kind, by what is after its word or by all of it
abbrev pub entry_of : Kind → (behind line : List ℕ) → Result Entry LineFault
entry_of Receipt behind line = receipt_of behind
entry_of Loss behind line = loss_of behind
entry_of Other behind line = plain (event_of_line line)

-- what a line says, or its fault
unfoldable pub entry_of_line : List ℕ → Result Entry LineFault
entry_of_line line = entry_of (kind_in (first_field line)) (drop (length (first_field line)) line) line
