-- What the words of the second program mean.
use Rattle.std.specs.Prelude.{ℕ, ◌+◌, ◌-◌, ◌^◌, ◌&&◌, ◌||◌, Bool, true, false, List, [], ◌∷◌, ◌++◌, length, take, drop, slice_index_or, Option, None, Some, Result, Ok, Err, codes, nat_lt, if◌then◌else◌}
use Rattle.std.specs.Str.{bytes_eq}
use Rattle.sd_num.specs.Decimals.{number}
use Rattle.sd_num.specs.Lists.{map_or}
use Rattle.sd_num.specs.declared.NumFault.{NumFault}
use Rattle.sd_drill.specs.declared.Budget.{Budget}
use Rattle.sd_search.specs.declared.searching.Settings.{Settings}
use Rattle.sd_record.specs.merge.Feeds.{from_one}

-- a command, with the names of its files and its settings or its budget, or how many plans an opening leaves out
pub data Command : Type 0 where
  Search : (topology : List ℕ) (settings : Settings) → Command
  Renew : (topology plan absent : List ℕ) (settings : Settings) → Command
  Why : (topology : List ℕ) → Command
  Bounds : (topology plan : List ℕ) (budget : Budget) → Command
  Resume : (topology : List ℕ) (plans : List (List ℕ)) (left : ℕ) (schedule opening : List ℕ) → Command
  Record : (topology : List ℕ) (plans : List (List ℕ)) (log : List ℕ) → Command
  Merge : (logs : ℕ) (feed : List ℕ) → Command
  Version : Command

-- the number that was read, where it is not above the greatest
abbrev pub if_at_most : ℕ → Result ℕ NumFault → Option ℕ
if_at_most greatest (Ok n) = if nat_lt greatest n then None else Some n
if_at_most greatest (Err why) = None

-- the number of a word, up to the greatest
abbrev pub read_up_to : ℕ → List ℕ → Option ℕ
read_up_to greatest word = if_at_most greatest (number word)

-- the budget of the words for base and hold, each up to its limit
abbrev pub budget_of : List ℕ → List ℕ → Option Budget
budget_of base hold =
    map_or (read_up_to (2 ^ 60) base) None (λ b. map_or (read_up_to (2 ^ 60) hold) None (λ h. Some (record { base = b; hold = h })))

-- the settings of the words for base, hold, seed and steps, each up to its limit
abbrev pub settings_of : List ℕ → List ℕ → List ℕ → List ℕ → Option Settings
settings_of base hold seed steps =
    map_or (budget_of base hold) None (λ b. map_or (read_up_to (2 ^ 64 - 1) seed) None (λ s. map_or (read_up_to (2 ^ 60) steps) None
    (λ n. Some (record { budget = b; seed = s; steps = n }))))

-- the settings of words, if they are four
abbrev pub settings_among : List (List ℕ) → Option Settings
settings_among [] = None
settings_among (base ∷ []) = None
settings_among (base ∷ hold ∷ []) = None
settings_among (base ∷ hold ∷ seed ∷ []) = None
settings_among (base ∷ hold ∷ seed ∷ steps ∷ []) = settings_of base hold seed steps
settings_among (base ∷ hold ∷ seed ∷ steps ∷ next ∷ others) = None

-- the budget of words, if they are two
abbrev pub budget_among : List (List ℕ) → Option Budget
budget_among [] = None
budget_among (base ∷ []) = None
budget_among (base ∷ hold ∷ []) = budget_of base hold
budget_among (base ∷ hold ∷ next ∷ others) = None

-- a search over a topology with the settings of the words
abbrev pub search_of : List (List ℕ) → Option Command
search_of [] = None
search_of (topology ∷ numbers) = map_or (settings_among numbers) None (λ settings. Some (Search topology settings))

-- a renewal of a plan, with what is absent and the settings of the words
abbrev pub renewal_without : List ℕ → List ℕ → List (List ℕ) → Option Command
renewal_without topology plan [] = None
renewal_without topology plan (absent ∷ numbers) = map_or (settings_among numbers) None (λ settings. Some (Renew topology plan absent settings))

-- a renewal over a topology, with the plan and all else of the words
abbrev pub renewal_over : List ℕ → List (List ℕ) → Option Command
renewal_over topology [] = None
renewal_over topology (plan ∷ others) = renewal_without topology plan others

-- a renewal with all of the words
abbrev pub renewal_of : List (List ℕ) → Option Command
renewal_of [] = None
renewal_of (topology ∷ others) = renewal_over topology others

-- the reason over a topology, where no word follows
abbrev pub why_of : List (List ℕ) → Option Command
why_of (topology ∷ []) = Some (Why topology)
why_of _ = None

-- the bounds of a plan over a topology, with the budget of the words
abbrev pub bounds_over : List ℕ → List (List ℕ) → Option Command
bounds_over topology [] = None
bounds_over topology (plan ∷ numbers) = map_or (budget_among numbers) None (λ budget. Some (Bounds topology plan budget))

-- the bounds with all of the words
abbrev pub bounds_of : List (List ℕ) → Option Command
bounds_of [] = None
bounds_of (topology ∷ others) = bounds_over topology others

-- the place of the first word that is a slash, of words from a place on
abbrev pub slash_from : ℕ → List (List ℕ) → Option ℕ
slash_from place [] = None
slash_from place (word ∷ others) = if bytes_eq word (codes "/") then Some place else slash_from (place + 1) others

-- the words are the same
abbrev pub same_words : List (List ℕ) → List (List ℕ) → Bool
same_words [] [] = true
same_words (one ∷ ones) (other ∷ others) = bytes_eq one other && same_words ones others
same_words _ _ = false

-- all words but the last, and the last
abbrev pub all_but_last : List (List ℕ) → List (List ℕ)
all_but_last words = take (length words - 1) words

abbrev pub last_word : List (List ℕ) → List ℕ
last_word words = slice_index_or words (length words - 1) []

-- an opening for a schedule: its plans are the last of those of the schedule, of which there are 1 to 64
abbrev pub resume_over : (topology : List ℕ) (plans : List (List ℕ)) (schedule : List ℕ) (later : List (List ℕ)) (opening : List ℕ) → Option Command
resume_over topology plans schedule later opening =
    if nat_lt (length later) 1 || nat_lt (length plans) (length later) || nat_lt 64 (length plans) then None
    else if same_words (drop (length plans - length later) plans) later then Some (Resume topology plans (length plans - length later) schedule opening)
    else None

-- of the words before the slash and after it: plans, and then a text
abbrev pub resume_parts : (topology : List ℕ) (before behind : List (List ℕ)) → Option Command
resume_parts topology before behind =
    if nat_lt (length before) 2 || nat_lt (length behind) 2 then None
    else resume_over topology (all_but_last before) (last_word before) (all_but_last behind) (last_word behind)

-- the opening of the words
abbrev pub resume_at : (topology : List ℕ) → List (List ℕ) → Option ℕ → Option Command
resume_at topology words None = None
resume_at topology words (Some place) = resume_parts topology (take place words) (drop (place + 1) words)

abbrev pub resume_of : List (List ℕ) → Option Command
resume_of [] = None
resume_of (topology ∷ others) = resume_at topology others (slash_from 0 others)

-- the recording over a topology, of the words for its plans, of which there are 1 to 64, and for its log
abbrev pub record_over : List ℕ → List (List ℕ) → Option Command
record_over topology words =
    if nat_lt (length words) 2 || nat_lt 65 (length words) then None else Some (Record topology (all_but_last words) (last_word words))

-- the recording with all of the words
abbrev pub record_of : List (List ℕ) → Option Command
record_of [] = None
record_of (topology ∷ others) = record_over topology others

-- the number of logs of a word, 1 to 4096
abbrev pub log_count : List ℕ → Option ℕ
log_count word = map_or (read_up_to 4096 word) None from_one

-- the merge of the words for the number of logs and the feed
abbrev pub merge_of : List (List ℕ) → Option Command
merge_of (count ∷ feed ∷ []) = map_or (log_count count) None (λ logs. Some (Merge logs feed))
merge_of _ = None

-- the version, where no word follows
abbrev pub version_of : List (List ℕ) → Option Command
version_of [] = Some Version
version_of (word ∷ others) = None

-- the command of the words, if they are in the table
abbrev pub command_of : List (List ℕ) → Option Command
command_of [] = None
command_of (word ∷ others) =
    if bytes_eq word (codes "search") then search_of others
    else if bytes_eq word (codes "renew") then renewal_of others
    else if bytes_eq word (codes "why") then why_of others
    else if bytes_eq word (codes "bounds") then bounds_of others
    else if bytes_eq word (codes "resume") then resume_of others
    else if bytes_eq word (codes "record") then record_of others
    else if bytes_eq word (codes "merge") then merge_of others
    else if bytes_eq word (codes "version") then version_of others
    else None

-- the names of the files that a command reads, in the order of its work
abbrev pub names_of : Option Command → List (List ℕ)
names_of None = []
names_of (Some (Search topology settings)) = topology ∷ []
names_of (Some (Renew topology plan absent settings)) = topology ∷ plan ∷ absent ∷ []
names_of (Some (Why topology)) = topology ∷ []
names_of (Some (Bounds topology plan budget)) = topology ∷ plan ∷ []
names_of (Some (Resume topology plans left schedule opening)) = topology ∷ (plans ++ schedule ∷ opening ∷ [])
names_of (Some (Record topology plans log)) = topology ∷ (plans ++ log ∷ [])
names_of (Some (Merge logs feed)) = feed ∷ []
names_of (Some Version) = []
