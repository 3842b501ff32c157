-- What is kept of exchanges does the work of their text.
use Rattle.std.specs.Prelude.{◌≡◌, List}
use Rattle.sd_plan.specs.topo.Topologies.{network}
use Rattle.sd_commands.specs.declared.exchanges.ExchangeLine.{ExchangeLine}
use Rattle.sd_files.specs.work.Works.{Work}
use Rattle.sd_commands.specs.twoway.Tallies.{StandsFor}
use Rattle.sd_commands.specs.twoway.Twoways.{twoway_work}
use Rattle.sd_commands.specs.declared.twoway.state.Exchanges.{Exchanges}

-- what is kept does this work, and stands for the lines that were taken
abbrev pub IsExchanges : Exchanges → Work ExchangeLine → List ExchangeLine → Type 0
IsExchanges exchanges work taken = (work ≡ twoway_work (network exchanges.topo.now)) × StandsFor (network exchanges.topo.now) exchanges.tally taken
