-- How a text of exchanges is read over a network, and what is written for it.
use Rattle.std.specs.Prelude.{List, [], ◌++◌, flat_map, codes}
use Rattle.sd_num.specs.Lists.{map_or}
use Rattle.sd_io.specs.outside.Pieces.{Pieces, piece_of}
use Rattle.sd_plan.specs.topo.Network.{Network, link_numbers}
use Rattle.sd_commands.specs.exchanges.Lines.{is_end_line, span_after}
use Rattle.sd_commands.specs.exchanges.Printed.{done_line, link_line}
use Rattle.sd_commands.specs.declared.exchanges.ExchangeLine.{ExchangeLine}
use Rattle.sd_files.specs.declared.Status.TheVariants.{Done}
use Rattle.sd_files.specs.work.Works.{Work}
use Rattle.sd_commands.specs.twoway.Judged.{exchange_said, told_reason}

-- the lines of the links that have an exchange, by ascending number, each by one write
abbrev pub link_pieces : Network → List ExchangeLine → Pieces
link_pieces net taken = flat_map (λ l. piece_of (map_or (span_after net taken l) [] (link_line net l))) (link_numbers net)

-- nothing is written before the end of the text
abbrev pub twoway_work : Network → Work ExchangeLine
twoway_work net =
    record {
      name = codes "exchanges";
      says = λ taken line. told_reason (exchange_said net taken line);
      ends = is_end_line;
      bytes = λ earlier x. [];
      last_pieces = λ taken. link_pieces net taken ++ piece_of (done_line net taken);
      last_status = λ taken. Done;
    }
