-- Lines of an exchanges text, and what they say of a network's links.
use Rattle.std.specs.Prelude.{ℕ, ◌+◌, ◌-◌, ◌^◌, Bool, true, false, List, ◌∷◌, length, filter_map, nat_eq, slice_index, Option, Some, None, Result, Ok, Err, codes, if◌then◌else◌, []}
use Rattle.sd_num.specs.Lists.{map_or}
use Rattle.sd_num.specs.Decimals.{number}
use Rattle.sd_num.specs.declared.Rates.{Rates}
use Rattle.sd_plan.specs.topo.Network.{Network, rates_of, link_of}
use Rattle.sd_sched.specs.Lines.{fields, same_bytes, number_within, then_numbers}
use Rattle.sd_commands.specs.declared.exchanges.Exchange.{Exchange}
use Rattle.sd_commands.specs.declared.exchanges.Span.{Span}
use Rattle.sd_commands.specs.declared.exchanges.ExchangeFault.{ExchangeFault}
use Rattle.sd_commands.specs.declared.exchanges.ExchangeLine.{ExchangeLine}
use Rattle.sd_commands.specs.declared.exchanges.ExchangeLine.TheVariants.{Exchange as Exchanged, End}
use Rattle.sd_commands.specs.declared.exchanges.ExchangeLineFault.{ExchangeLineFault}
use Rattle.sd_commands.specs.declared.exchanges.ExchangeLineFault.TheVariants.{UnknownWord, FieldCount, Number}
use Rattle.sd_commands.specs.exchanges.Spans.{span_of, joint_span}

-- the greatest number of each field of an exchange: its link, its side, asym, and the four counters
abbrev pub limits : List ℕ
limits = (2 ^ 32 - 1) ∷ 1 ∷ 10 ^ 12 ∷ 2 ^ 60 ∷ 2 ^ 60 ∷ 2 ^ 60 ∷ 2 ^ 60 ∷ []

-- the numbers of the fields, or the place of the first that has none within its limit; the fields are counted from the given place
abbrev pub numbers_within : ℕ → List ℕ → List (List ℕ) → Result (List ℕ) ℕ
numbers_within place [] texts = Ok []
numbers_within place (most ∷ others) [] = Ok []
numbers_within place (most ∷ others) (text ∷ texts) =
    let rest = numbers_within (place + 1) others texts in
    map_or (number_within most (number text)) (Err place) (λ n. then_numbers n rest)

-- the exchange of seven numbers
abbrev pub exchange_of : List ℕ → ExchangeLine
exchange_of v =
    Exchanged (slice_index v 0) (slice_index v 1)
    (record { asym = slice_index v 2; t1 = slice_index v 3; t2 = slice_index v 4; t3 = slice_index v 5; t4 = slice_index v 6 })

-- the numbers, or the fault that the field at this place has none
abbrev pub numbers_or_fault : Result (List ℕ) ℕ → Result (List ℕ) ExchangeLineFault
numbers_or_fault (Ok v) = Ok v
numbers_or_fault (Err place) = Err (Number place)

-- the seven numbers of the fields after the word of an exchange, or the fault of the line
abbrev pub seven_numbers : List (List ℕ) → Result (List ℕ) ExchangeLineFault
seven_numbers texts = if nat_eq (length texts) 7 then numbers_or_fault (numbers_within 1 limits texts) else Err FieldCount

-- the exchange of the numbers, or the fault of the line
abbrev pub exchange_or_fault : Result (List ℕ) ExchangeLineFault → Result ExchangeLine ExchangeLineFault
exchange_or_fault (Ok v) = Ok (exchange_of v)
exchange_or_fault (Err why) = Err why

-- a line with this word and these fields
abbrev pub line_of_word : List ℕ → List (List ℕ) → Result ExchangeLine ExchangeLineFault
line_of_word word texts =
    if same_bytes (codes "exchange") word then exchange_or_fault (seven_numbers texts)
    else if same_bytes (codes "end") word then (if nat_eq (length texts) 0 then Ok End else Err FieldCount)
    else Err UnknownWord

-- the line with these fields, of which the first is its word
abbrev pub line_of_fields : List (List ℕ) → Result ExchangeLine ExchangeLineFault
line_of_fields [] = Err UnknownWord
line_of_fields (word ∷ texts) = line_of_word word texts

-- what a line says, or its fault
unfoldable pub exchange_line : List ℕ → Result ExchangeLine ExchangeLineFault
exchange_line bytes = line_of_fields (fields bytes)

-- Lines over a network

-- the line ends the exchanges
abbrev pub is_end_line : ExchangeLine → Bool
is_end_line (Exchanged link side exchange) = false
is_end_line End = true

-- the rates of the end of a link that begins an exchange, or of the one that replies: on side 0 the first end begins
abbrev pub rates_on : Network → ℕ → Bool → Rates
rates_on net link true = rates_of net (link_of net link).end_a
rates_on net link false = rates_of net (link_of net link).end_b

-- the span of an exchange over a link, or why it has none
abbrev pub span_over : Network → ℕ → ℕ → Exchange → Result Span ExchangeFault
span_over net link side x = span_of (rates_on net link (nat_eq side 0)) (rates_on net link (nat_eq side 1)) x

-- the span that a line adds to the link with this number
abbrev pub span_if : Bool → Result Span ExchangeFault → Option Span
span_if true (Ok span) = Some span
span_if true (Err why) = None
span_if false span = None

-- the span that a line adds to a link, if it is of that link
abbrev pub span_on : Network → ℕ → ExchangeLine → Option Span
span_on net l (Exchanged link side x) = span_if (nat_eq link l) (span_over net link side x)
span_on net l End = None

-- the least min and the greatest max of the spans that the lines add to the link, and how many there are
abbrev pub span_after : Network → List ExchangeLine → ℕ → Option (Span × ℕ)
span_after net taken l = joint_span (filter_map (span_on net l) taken)
