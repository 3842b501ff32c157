-- The headline on bytes: what holds of whatever a run has added to its sink, whether it ended or was stopped.
use Rattle.std.specs.Prelude.{ℕ, Bool, true, ◌&&◌, List, Option, Some, IfSome}
use Rattle.sd_io.specs.outside.Pieces.{Pieces}
use Rattle.sd_headline.specs.Headlines.{Adds, no_case_alarm, no_early_alarm, no_early_disorder, no_early_interval}
use Rattle.sd_top.specs.Words.{Command, command_of}
use Rattle.sd_top.specs.Words.Command.{Replay, Case, Order}

-- what is promised of the bytes of each command; where it holds of all of them, it holds of each front
abbrev pub keeps_headline : Option Command → List ℕ → Bool
keeps_headline (Some (Replay topology plans schedule)) bytes = no_early_alarm bytes && no_early_interval bytes
keeps_headline (Some (Order topology plans schedule)) bytes = no_early_alarm bytes && no_early_interval bytes && no_early_disorder bytes
keeps_headline (Some (Case number fabric)) bytes = no_case_alarm bytes
keeps_headline _ bytes = true

-- what was added keeps the headline of the command, where the texts are told
unfoldable pub MeetsHeadline : Option (List ℕ → Option (List ℕ)) → List (List ℕ) → Option Pieces → Option Pieces → Type 0
MeetsHeadline held words old new = IfSome held (λ h. Adds old new (keeps_headline (command_of words)))
