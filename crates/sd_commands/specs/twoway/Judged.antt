-- What a line of an exchanges text says after those before it, over a network, or why it is refused.
use Rattle.std.specs.Prelude.{ℕ, List, ◌++◌, length, nat_le, Result, Ok, Err, codes, decimal, if◌then◌else◌}
use Rattle.std.specs.List.{list_any}
use Rattle.sd_plan.specs.topo.Network.{Network}
use Rattle.sd_commands.specs.exchanges.Lines.{exchange_line, is_end_line, span_over}
use Rattle.sd_commands.specs.declared.exchanges.Span.{Span}
use Rattle.sd_commands.specs.declared.exchanges.ExchangeFault.{ExchangeFault}
use Rattle.sd_commands.specs.declared.exchanges.ExchangeFault.TheVariants.{Backwards, Impossible, TooLarge}
use Rattle.sd_commands.specs.declared.exchanges.ExchangeLine.{ExchangeLine}
use Rattle.sd_commands.specs.declared.exchanges.ExchangeLine.TheVariants.{Exchange as Exchanged, End}
use Rattle.sd_commands.specs.declared.exchanges.ExchangeLineFault.{ExchangeLineFault}
use Rattle.sd_commands.specs.declared.exchanges.ExchangeLineFault.TheVariants.{UnknownWord, FieldCount, Number}
use Rattle.sd_commands.specs.declared.twoway.TwowayFault.{TwowayFault}
use Rattle.sd_commands.specs.declared.twoway.TwowayFault.TheVariants.{Line, AfterEnd, UnknownLink, Spanless}

-- why a line is refused by itself
abbrev pub exchange_line_reason : ExchangeLineFault → List ℕ
exchange_line_reason UnknownWord = codes "UnknownWord"
exchange_line_reason FieldCount = codes "FieldCount"
exchange_line_reason (Number field) = codes "Number " ++ decimal field

-- why an exchange has no span
abbrev pub span_reason : ExchangeFault → List ℕ
span_reason Backwards = codes "Backwards"
span_reason Impossible = codes "Impossible"
span_reason TooLarge = codes "TooLarge"

-- why a line is refused
abbrev pub reason : TwowayFault → List ℕ
reason (Line fault) = exchange_line_reason fault
reason AfterEnd = codes "AfterEnd"
reason UnknownLink = codes "UnknownLink"
reason (Spanless fault) = span_reason fault

-- an exchange counts where it has a span
abbrev pub if_spanned : ExchangeLine → Result Span ExchangeFault → Result ExchangeLine TwowayFault
if_spanned x (Ok span) = Ok x
if_spanned x (Err why) = Err (Spanless why)

-- the link is one of the network's, and the exchange has a span
abbrev pub over_network : Network → ExchangeLine → Result ExchangeLine TwowayFault
over_network net End = Ok End
over_network net (Exchanged link side x) =
    if nat_le (length net.links) link then Err UnknownLink else if_spanned (Exchanged link side x) (span_over net link side x)

-- nothing comes after an `end`
abbrev pub behind : Network → List ExchangeLine → Result ExchangeLine ExchangeLineFault → Result ExchangeLine TwowayFault
behind net taken (Err why) = Err (Line why)
behind net taken (Ok x) = if list_any is_end_line taken then Err AfterEnd else over_network net x

-- what a line says after these, or why it is refused
abbrev pub exchange_said : Network → List ExchangeLine → List ℕ → Result ExchangeLine TwowayFault
exchange_said net taken line = behind net taken (exchange_line line)

-- with its reason, as it is printed
abbrev pub told_reason : Result ExchangeLine TwowayFault → Result ExchangeLine (List ℕ)
told_reason (Ok x) = Ok x
told_reason (Err why) = Err (reason why)
