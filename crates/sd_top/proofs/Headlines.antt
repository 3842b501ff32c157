-- All that a command of words may write keeps its headline, and so does each front of it that a run leaves.
use Rattle.std.proofs.Common.{◌≡◌, ℕ, ◌≤◌, true, List, length, map, Option, Some, None, refl, sym, subst}
use Rattle.std.specs.Prelude.{◌&&◌}
use Rattle.std.proofs.lemmas.Bool.{and_from, and_parts}
use Rattle.std.proofs.lemmas.List.{length-map}
use Rattle.sd_files.specs.Statuses.{stop_of}
use Rattle.sd_files.specs.Texts.{Texts, texts_of}
use Rattle.sd_files.specs.declared.Status.{Status}
use Rattle.sd_headline.specs.Headlines.{no_early_alarm, no_early_interval, no_early_disorder}
use Rattle.sd_headline.proofs.Left.{HoldsOfPrefixes, alarm_of_fronts, both_of_fronts, case_of_fronts, disorder_of_fronts, interval_of_fronts, leaves_adds}
use Rattle.sd_top.proofs.Cases.{case_keeps_alarms}
use Rattle.sd_top.proofs.Kept.{order_keeps, order_keeps_alarms, replay_keeps_alarms, replay_keeps_intervals}
use Rattle.sd_top.specs.Headlines.{MeetsHeadline, keeps_headline}
use Rattle.sd_top.specs.Promise.{Answers, MeetsOutcome, WritesOf, task_of}
use Rattle.std.specs.List.{concat}
use Rattle.sd_io.specs.outside.Pieces.{Pieces}
use Rattle.sd_top.specs.Words.{Command, command_of}
use Rattle.sd_top.specs.Words.Command.{Replay, Case, Order}
use Rattle.sd_top.proofs.Within.{IsWithin, words_are_within}

fronts_keep : (command : Option Command) → HoldsOfPrefixes (keeps_headline command)
fronts_keep (Some (Replay topology plans schedule)) = both_of_fronts no_early_alarm no_early_interval alarm_of_fronts interval_of_fronts
fronts_keep (Some (Order topology plans schedule)) =
    both_of_fronts (λ bytes. no_early_alarm bytes && no_early_interval bytes) no_early_disorder
    (both_of_fronts no_early_alarm no_early_interval alarm_of_fronts interval_of_fronts) disorder_of_fronts
fronts_keep (Some (Case number fabric)) = case_of_fronts
fronts_keep _ = record { nothing = refl; front = λ text more passes. refl }

some_texts : (texts : Texts) (plans : List (List ℕ)) → 1 ≤ length plans → 1 ≤ length (map texts plans)
some_texts texts plans some = subst (λ (n : ℕ). 1 ≤ n) (sym (length-map plans texts)) some

all_keep : (command : Option Command) (texts : Texts) → IsWithin command → (bytes : List ℕ) (status : Status) → Answers command texts bytes status
    → keeps_headline command bytes ≡ true
all_keep (Some (Replay topology plans schedule)) texts some bytes status written =
    and_from (no_early_alarm bytes) (no_early_interval bytes)
    (replay_keeps_alarms (texts topology) (map texts plans) (texts schedule) (some_texts texts plans some) bytes status written)
    (replay_keeps_intervals (texts topology) (map texts plans) (texts schedule) bytes status written)
all_keep (Some (Order topology plans schedule)) texts some bytes status written =
    let calm : no_early_alarm bytes ≡ true =
    order_keeps_alarms (texts topology) (map texts plans) (texts schedule) (some_texts texts plans some) bytes status written in
    let others =
    and_parts (no_early_interval bytes) (no_early_disorder bytes) (order_keeps (texts topology) (map texts plans) (texts schedule) bytes status written) in
    and_from (no_early_alarm bytes && no_early_interval bytes) (no_early_disorder bytes)
    (and_from (no_early_alarm bytes) (no_early_interval bytes) calm others.0) others.1
all_keep (Some (Case number fabric)) texts within bytes status written = case_keeps_alarms number fabric within bytes status written
all_keep _ texts some bytes status written = refl

pub meets_headline : (held : Option (List ℕ → Option (List ℕ))) (words : List (List ℕ)) (old new : Option Pieces) (status : Status)
    → MeetsOutcome held words old new status → MeetsHeadline held words old new
unfolding MeetsOutcome MeetsHeadline
meets_headline None words old new status left = tt
meets_headline (Some h) words old new status left =
    let command : Option Command = command_of words in
    leaves_adds (keeps_headline command) (fronts_keep command) old new (stop_of status) (task_of command).in_steps
    (WritesOf (task_of command) (texts_of h)) status
    (λ pieces answer written. all_keep command (texts_of h) (words_are_within words) (concat pieces) answer written.0) left
