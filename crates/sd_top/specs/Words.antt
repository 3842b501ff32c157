-- What the words of the command mean.
use Rattle.std.specs.Prelude.{ℕ, ◌-◌, ◌^◌, ◌&&◌, ◌||◌, Bool, List, [], ◌∷◌, ◌++◌, length, map, Option, None, Some, Result, Ok, Err, codes, nat_le, if◌then◌else◌}
use Rattle.std.specs.Str.{bytes_eq}
use Rattle.sd_num.specs.Decimals.{number}
use Rattle.sd_num.specs.Lists.{map_or}
use Rattle.sd_num.specs.declared.NumFault.{NumFault}
use Rattle.sd_drill.specs.declared.Budget.{Budget}
use Rattle.sd_gen.specs.declared.command.FabricSize.{FabricSize}

-- a command, with the names of its files and its numbers
pub data Command : Type 0 where
  Solo : (schedule : List ℕ) → Command
  Plan : (topology : List ℕ) → Command
  Check : (topology plan : List ℕ) → Command
  Renew : (topology plan absent : List ℕ) → Command
  Replay : (topology : List ℕ) (plans : List (List ℕ)) (schedule : List ℕ) → Command
  Case : (number : ℕ) (fabric : FabricSize) → Command
  Migrate : (topology : List ℕ) → Command
  Order : (topology : List ℕ) (plans : List (List ℕ)) (schedule : List ℕ) → Command
  Twoway : (topology exchanges : List ℕ) → Command
  Drill : (topology plan : List ℕ) (budget : Budget) → Command

-- the command of a word with the name of one file
abbrev pub with_one_file : List ℕ → List ℕ → Option Command
with_one_file word file =
    if bytes_eq word (codes "solo") then Some (Solo file)
    else if bytes_eq word (codes "plan") then Some (Plan file)
    else if bytes_eq word (codes "migrate") then Some (Migrate file)
    else None

-- the command of a word with the names of two files
abbrev pub with_two_files : List ℕ → List ℕ → List ℕ → Option Command
with_two_files word first second =
    if bytes_eq word (codes "check") then Some (Check first second)
    else if bytes_eq word (codes "twoway") then Some (Twoway first second)
    else None

-- a number within its limits
abbrev pub if_within : ℕ → ℕ → Result ℕ NumFault → Option ℕ
if_within low high (Ok n) = if nat_le low n && nat_le n high then Some n else None
if_within low high (Err why) = None

-- the number of a word, from the least to the greatest
abbrev pub number_from : ℕ → ℕ → List ℕ → Option ℕ
number_from low high word = if_within low high (number word)

-- the sizes of the words for leaves and spines
abbrev pub fabric_of : List ℕ → List ℕ → Option FabricSize
fabric_of leaves spines = map_or (number_from 2 256 leaves) None (λ l. map_or (number_from 3 32 spines) None (λ s. Some (record { leaves = l; spines = s })))

-- the case of the words for its number and its sizes
abbrev pub case_of : List ℕ → List ℕ → List ℕ → Option Command
case_of number leaves spines = map_or (number_from 0 (2 ^ 64 - 1) number) None (λ n. map_or (fabric_of leaves spines) None (λ fabric. Some (Case n fabric)))

-- the command of a word with three words after it
abbrev pub with_three : List ℕ → List ℕ → List ℕ → List ℕ → Option Command
with_three word first second third =
    if bytes_eq word (codes "renew") then Some (Renew first second third)
    else if bytes_eq word (codes "case") then case_of first second third
    else None

-- the budget of the words for its base and its hold, each up to the limit of a budget
abbrev pub budget_of : List ℕ → List ℕ → Option Budget
budget_of base hold = map_or (number_from 0 (2 ^ 60) base) None (λ b. map_or (number_from 0 (2 ^ 60) hold) None (λ h. Some (record { base = b; hold = h })))

-- the command of a word with the names of two files and a budget
abbrev pub with_budget : List ℕ → List ℕ → List ℕ → List ℕ → List ℕ → Option Command
with_budget word first second base hold =
    if bytes_eq word (codes "drill") then map_or (budget_of base hold) None (λ budget. Some (Drill first second budget))
    else None

-- the command of a word with a fixed count of words after it
abbrev pub with_fixed : List ℕ → List (List ℕ) → Option Command
with_fixed word [] = None
with_fixed word (file ∷ []) = with_one_file word file
with_fixed word (first ∷ second ∷ []) = with_two_files word first second
with_fixed word (first ∷ second ∷ third ∷ []) = with_three word first second third
with_fixed word (first ∷ second ∷ third ∷ fourth ∷ []) = with_budget word first second third fourth
with_fixed word (first ∷ second ∷ third ∷ fourth ∷ fifth ∷ others) = None

-- all but the last of this word and the others, and the last
abbrev pub but_last : List ℕ → List (List ℕ) → List (List ℕ) × List ℕ
but_last word [] = ([], word)
but_last word (next ∷ others) = let rest = but_last next others in (word ∷ rest.0, rest.1)

-- the command of a word with the names of a topology, of plans, and of a schedule
abbrev pub of_plans : List ℕ → (topology : List ℕ) → (plans : List (List ℕ)) → (schedule : List ℕ) → Option Command
of_plans word topology plans schedule =
    if bytes_eq word (codes "replay") then Some (Replay topology plans schedule)
    else if bytes_eq word (codes "order") then Some (Order topology plans schedule)
    else None

-- of 1 to 64 plans
abbrev pub over_plans : List ℕ → (topology : List ℕ) → (plans : List (List ℕ)) → (schedule : List ℕ) → Option Command
over_plans word topology plans schedule = if nat_le 1 (length plans) && nat_le (length plans) 64 then of_plans word topology plans schedule else None

-- the command of such a word over a topology, plans and a schedule, if there are some
abbrev pub with_plans : List ℕ → List (List ℕ) → Option Command
with_plans word [] = None
with_plans word (topology ∷ []) = None
with_plans word (topology ∷ next ∷ others) = let rest = but_last next others in over_plans word topology rest.0 rest.1

-- a word whose command has any count of plans
abbrev pub takes_plans : List ℕ → Bool
takes_plans word = bytes_eq word (codes "replay") || bytes_eq word (codes "order")

-- the command of the words, if they are in the table
abbrev pub command_of : List (List ℕ) → Option Command
command_of [] = None
command_of (word ∷ others) = if takes_plans word then with_plans word others else with_fixed word others

-- a file that is read, by its name
pub data File : Type 0 where
  OfTopology : (name : List ℕ) → File
  OfPlan : (name : List ℕ) → File
  OfAbsent : (name : List ℕ) → File
  OfSchedule : (name : List ℕ) → File
  OfExchanges : (name : List ℕ) → File

-- the name of a file
abbrev pub name_of : File → List ℕ
name_of (OfTopology name) = name
name_of (OfPlan name) = name
name_of (OfAbsent name) = name
name_of (OfSchedule name) = name
name_of (OfExchanges name) = name

-- the plans of a command and then its schedule
abbrev pub plans_and_schedule : List (List ℕ) → List ℕ → List File
plans_and_schedule plans schedule = map OfPlan plans ++ OfSchedule schedule ∷ []

-- the files that a command reads, in the order of its work
abbrev pub files_of : Option Command → List File
files_of None = []
files_of (Some (Solo schedule)) = OfSchedule schedule ∷ []
files_of (Some (Plan topology)) = OfTopology topology ∷ []
files_of (Some (Check topology plan)) = OfTopology topology ∷ OfPlan plan ∷ []
files_of (Some (Renew topology plan absent)) = OfTopology topology ∷ OfPlan plan ∷ OfAbsent absent ∷ []
files_of (Some (Replay topology plans schedule)) = OfTopology topology ∷ plans_and_schedule plans schedule
files_of (Some (Case number fabric)) = []
files_of (Some (Migrate topology)) = OfTopology topology ∷ []
files_of (Some (Order topology plans schedule)) = OfTopology topology ∷ plans_and_schedule plans schedule
files_of (Some (Twoway topology exchanges)) = OfTopology topology ∷ OfExchanges exchanges ∷ []
files_of (Some (Drill topology plan budget)) = OfTopology topology ∷ OfPlan plan ∷ []
