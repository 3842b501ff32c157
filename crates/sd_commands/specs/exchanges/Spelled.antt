-- How the words of an exchanges text are spelled.
use Rattle.std.specs.Prelude.{ℕ, List, codes}
use Rattle.sd_commands.specs.declared.exchanges.reading.Word.{Word}
use Rattle.sd_commands.specs.declared.exchanges.reading.Word.TheVariants.{Exchange, End}

-- the letters of a word
abbrev pub spelled : Word → List ℕ
spelled Exchange = codes "exchange"
spelled End = codes "end"
