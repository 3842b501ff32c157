-- The meaning of a plan text: the plan that its tree names, or its first fault. Keys are judged in the order of the lines below.
use Rattle.std.specs.Prelude.{ℕ, ◌+◌, ◌^◌, ◌&&◌, Bool, not, nat_le, nat_eq, List, [], ◌∷◌, ◌++◌, length, replicate, slice_set, Option, None, Some, is_none, is_some, option_and_then, Result, Ok, Err, if◌then◌else◌}
use Rattle.serde_json.specs.Data.{Data, Items, no_items, item}
use Rattle.serde_json.specs.Find.{get, as_null, as_number, as_u64, as_str, as_array, as_object}
use Rattle.sd_num.specs.Lists.{has, at_place, ascending}
use Rattle.sd_plan.specs.topo.Network.{Network, device_names, link_names, number_in}
use Rattle.sd_plan.specs.declared.Hop.{Hop}
use Rattle.sd_plan.specs.declared.PlanRow.{PlanRow}
use Rattle.sd_plan.specs.declared.Absent.{Absent as Left}
use Rattle.sd_plan.specs.declared.Plan.{Plan as PlanMeant}
use Rattle.sd_plantext.specs.Then.{◌>>=◌}
use Rattle.sd_plantext.specs.Keys.{word_of}
use Rattle.sd_plantext.specs.declared.fault.PlanPlace.{PlanPlace}
use Rattle.sd_plantext.specs.declared.fault.PlanKey.{PlanKey}
use Rattle.sd_plantext.specs.declared.fault.PlanKey.TheVariants as keys
use Rattle.sd_plantext.specs.declared.fault.PlanFault.{PlanFault}
use Rattle.sd_plantext.specs.declared.fault.PlanFault.TheVariants.{NotJson, Missing, WrongKind, Range, UnknownName, TwiceNamed, Version}

-- the key, in the entry of the array of rows, from 1; 0 at the top
abbrev pub place : PlanKey → ℕ → PlanPlace
place key entry = record { key = key; entry = entry }

-- x, where the test holds
abbrev pub allowed : {X : Type 0} → Bool → PlanFault → X → Result X PlanFault
allowed test fault x = if test then Ok x else Err fault

-- null counts as nothing
abbrev pub unless_null : Data → Option Data
unless_null d = if is_some (as_null d) then None else Some d

-- the value at a key of an object
abbrev pub value : PlanKey → Data → Option Data
value key d = option_and_then unless_null (get (word_of key) d)

-- what has to be there, and of its kind
abbrev pub there : {X : Type 0} → PlanPlace → Option X → Result X PlanFault
there p None = Err (Missing p)
there p (Some x) = Ok x

-- what is there, or the fault that it is of another kind
abbrev pub of_kind : {X : Type 0} → PlanPlace → Option X → Result X PlanFault
of_kind p None = Err (WrongKind p)
of_kind p (Some x) = Ok x

-- what has to be an object
abbrev pub an_object : PlanPlace → Data → Result Data PlanFault
an_object p d = allowed (is_some (as_object d)) (WrongKind p) d

-- the whole number that a value is
abbrev pub whole : Data → Option ℕ
whole d = option_and_then as_u64 (as_number d)

-- the whole number at a key
unfoldable pub number : PlanKey → Data → Result ℕ PlanFault
number key d = do
  found ← there (place key 0) (value key d)
  of_kind (place key 0) (whole found)

-- the version, which is 1
unfoldable pub version_in : Data → Result ℕ PlanFault
version_in d = do
  n ← number keys.Version d
  allowed (nat_eq n 1) (Version n) n

-- the wait at a key
unfoldable pub wait_in : PlanKey → Data → Result ℕ PlanFault
wait_in key d = do
  n ← number key d
  allowed (nat_le n (2 ^ 60)) (Range (place key 0)) n

-- the thing that is named
abbrev pub known : PlanPlace → Option ℕ → Result ℕ PlanFault
known p None = Err (UnknownName p)
known p (Some n) = Ok n

-- the number of the device or link that a value names
unfoldable pub referred : PlanPlace → List (List ℕ) → Data → Result ℕ PlanFault
referred p names d = do
  name ← of_kind p (as_str d)
  known p (number_in names name)

-- the number of the device or link that is named at a key
unfoldable pub named : PlanKey → ℕ → List (List ℕ) → Data → Result ℕ PlanFault
named key entry names d = do
  found ← there (place key entry) (value key d)
  referred (place key entry) names found

-- the array at a key
unfoldable pub array : PlanKey → Data → Result Items PlanFault
array key d = do
  found ← there (place key 0) (value key d)
  of_kind (place key 0) (as_array found)

-- the numbers listed so far and that of the next element. A name that was listed before is known, so it is TwiceNamed whichever is judged first
unfoldable pub one_more_name : PlanPlace → List (List ℕ) → List ℕ → Data → Result (List ℕ) PlanFault
one_more_name p names seen d = do
  n ← referred p names d
  allowed (not (has seen n)) (TwiceNamed p) (seen ++ n ∷ [])

-- the numbers listed so far and those of all further elements
abbrev pub names_from : PlanPlace → List (List ℕ) → List ℕ → Items → Result (List ℕ) PlanFault
names_from p names seen no_items = Ok seen
names_from p names seen (item d ds) = do
  more ← one_more_name p names seen d
  names_from p names more ds

-- the devices or links that are listed at a key, ascending
unfoldable pub names_in : PlanKey → List (List ℕ) → Data → Result (List ℕ) PlanFault
names_in key names d = do
  ds ← array key d
  numbers ← names_from (place key 0) names [] ds
  Ok (ascending (length names) numbers)

-- what is left out
unfoldable pub absent_in : Network → Data → Result Left PlanFault
absent_in net d = do
  devices ← names_in keys.AbsentDevices (device_names net) d
  links ← names_in keys.AbsentLinks (link_names net) d
  Ok (record { devices = devices; links = links })

-- the parent and the link that are named at two keys of a row
unfoldable pub hop_in : Network → PlanKey → PlanKey → ℕ → Data → Result Hop PlanFault
hop_in net parent link entry d = do
  p ← named parent entry (device_names net) d
  l ← named link entry (link_names net) d
  Ok (record { parent = p; link = l })

-- a row's backup, none where both its keys are missing
unfoldable pub backup_in : Network → ℕ → Data → Result (Option Hop) PlanFault
backup_in net entry d =
    if is_none (value keys.RowsBackup d) && is_none (value keys.RowsBackupLink d) then Ok None
    else (hop_in net keys.RowsBackup keys.RowsBackupLink entry d >>= (λ hop. Ok (Some hop)))

-- what a row says of its device
unfoldable pub row_in : Network → ℕ → Data → Result PlanRow PlanFault
row_in net entry d = do
  primary ← hop_in net keys.RowsParent keys.RowsLink entry d
  backup ← backup_in net entry d
  Ok (record { primary = primary; backup = backup })

-- the device has no row so far
abbrev pub is_free : List (Option PlanRow) → ℕ → Bool
is_free rows device = is_none (at_place rows device None (λ row. row))

-- the device of a row, which has none so far
unfoldable pub device_in : Network → ℕ → List (Option PlanRow) → Data → Result ℕ PlanFault
device_in net entry rows d = do
  device ← named keys.RowsDevice entry (device_names net) d
  allowed (is_free rows device) (TwiceNamed (place keys.RowsDevice entry)) device

-- the rows so far and that of the next entry
unfoldable pub one_more_row : Network → ℕ → List (Option PlanRow) → Data → Result (List (Option PlanRow)) PlanFault
one_more_row net entry rows d = do
  d ← an_object (place keys.Rows entry) d
  device ← device_in net entry rows d
  row ← row_in net entry d
  Ok (slice_set rows device (Some row))

-- the rows so far and those of the entries from this one on
abbrev pub rows_from : Network → ℕ → List (Option PlanRow) → Items → Result (List (Option PlanRow)) PlanFault
rows_from net entry rows no_items = Ok rows
rows_from net entry rows (item d ds) = do
  more ← one_more_row net entry rows d
  rows_from net (entry + 1) more ds

-- no device has a row
abbrev pub no_rows : Network → List (Option PlanRow)
no_rows net = replicate (length net.devices) None

-- perhaps a row for each device
unfoldable pub rows_in : Network → Data → Result (List (Option PlanRow)) PlanFault
rows_in net d = do
  ds ← array keys.Rows d
  rows_from net 1 (no_rows net) ds

-- the meaning of a plan's tree, or its first fault
unfoldable pub plan_in : Network → Data → Result PlanMeant PlanFault
plan_in net d = do
  d ← an_object (place keys.Plan 0) d
  version ← version_in d
  root ← named keys.Root 0 (device_names net) d
  backup_root ← named keys.BackupRoot 0 (device_names net) d
  wait_first ← wait_in keys.WaitFirst d
  wait_second ← wait_in keys.WaitSecond d
  wait ← wait_in keys.Wait d
  absent ← absent_in net d
  rows ← rows_in net d
  Ok (record { root = root; backup_root = backup_root; wait_first = wait_first; wait_second = wait_second; wait = wait; absent = absent; rows = rows })

-- the meaning of a plan text, from its tree where it has one
unfoldable pub plan_of : Network → Option Data → Result PlanMeant PlanFault
plan_of net None = Err NotJson
plan_of net (Some d) = plan_in net d

-- the meaning of a text of what is left out, from its tree where it has one
unfoldable pub absent_of : Network → Option Data → Result Left PlanFault
absent_of net None = Err NotJson
absent_of net (Some d) = an_object (place keys.Absent 0) d >>= absent_in net
