-- The lines of links.
use Rattle.std.specs.Prelude.{ℕ, List, [], flat_map}
use Rattle.sd_num.specs.Lists.{map_or}
use Rattle.sd_plan.specs.topo.Network.{Network, link_numbers}
use Rattle.sd_commands.specs.declared.exchanges.ExchangeLine.{ExchangeLine}
use Rattle.sd_commands.specs.exchanges.Lines.{span_after}
use Rattle.sd_commands.specs.exchanges.Printed.{link_line}

-- the lines of the links that have an exchange, by ascending number
abbrev pub link_lines : Network → List ExchangeLine → List ℕ
link_lines net taken = flat_map (λ l. map_or (span_after net taken l) [] (link_line net l)) (link_numbers net)
