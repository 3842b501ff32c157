-- The value that a plan is printed from is read as the same plan.
use Rattle.std.proofs.Common.{◌≡◌, ℕ, zero, suc, ◌+◌, ◌<◌, ◌≤◌, ◌^◌, true, false, List, [], ◌∷◌, ◌++◌, length, map, replicate, Option, Some, None, option_map, Ok, All, refl, ap, sym, ◌∙◌, subst, arith, append_assoc, add-zero}
use Rattle.std.specs.List.{slice_get, cons_option}
use Rattle.std.proofs.lemmas.Bool.{le-leb, and_parts}
use Rattle.std.proofs.lemmas.List.{append-nil}
use Rattle.serde_json.specs.Data.{Data, Items, array as array_data, string}
use Rattle.serde_json.specs.View.{items_of}
use Rattle.sd_num.specs.Lists.{has, ascends, all_below, map_or, at_place}
use Rattle.sd_plan.specs.topo.Network.{Network, Device, Link, Each, name_at, device_names, link_names, device_numbers}
use Rattle.sd_plan.specs.topo.Limits.{IsNetwork, AreDistinct}
use Rattle.sd_plan.proofs.topo.Ascending.{ascending-itself}
use Rattle.sd_plan.proofs.topo.Laws.{within_all}
use Rattle.sd_plan.proofs.topo.Lists.{names_count, each_of}
use Rattle.sd_plan.proofs.topo.Places.{stands, number_back, rises-ascending, rising_none}
use Rattle.sd_plan.specs.declared.Hop.{Hop}
use Rattle.sd_plan.specs.declared.PlanRow.{PlanRow}
use Rattle.sd_plan.specs.declared.Plan.{Plan as PlanShown}
use Rattle.sd_plan.specs.Plans.{Fits, IsHop, IsRow, row_of}
use Rattle.sd_plantext.specs.declared.fault.PlanPlace.{PlanPlace}
use Rattle.sd_plantext.specs.declared.fault.PlanKey.{PlanKey}
use Rattle.sd_plantext.specs.declared.fault.PlanKey.TheVariants as keys
use Rattle.sd_plantext.specs.Meaning.{place, value, number, version_in, wait_in, referred, named, array, one_more_name, names_from, names_in, absent_in, hop_in, backup_in, row_in, device_in, one_more_row, rows_from, no_rows, rows_in, plan_in, plan_of}
use Rattle.sd_plantext.specs.PrintedTree.{count, device_data, link_data, list_data, row_members, row_data, rows_listed, rows_data, plan_members, plan_data}
use Rattle.sd_plantext.proofs.Filled.{run, below-run, filled, filled-none, filled-all, filled-free, filled-set, filled-skip}

-- a whole number that is there is read
number_read : (key : PlanKey) (d : Data) (n : ℕ) → value key d ≡ Some (count n) → number key d ≡ Ok n
unfolding number
number_read key d n at = rw at refl

version_read : (d : Data) → value keys.Version d ≡ Some (count 1) → version_in d ≡ Ok 1
unfolding version_in
version_read d at = rw (number_read keys.Version d 1 at) refl

wait_read : (key : PlanKey) (d : Data) (n : ℕ) → value key d ≡ Some (count n) → n ≤ 2 ^ 60 → wait_in key d ≡ Ok n
unfolding wait_in
wait_read key d n at low = rw (number_read key d n at, le-leb n (2 ^ 60) low) refl

-- a thing that is named is found
referred_read : (p : PlanPlace) (names : List (List ℕ)) (n : ℕ) → AreDistinct names → n < length names → referred p names (string (name_at names n)) ≡ Ok n
unfolding referred
referred_read p names n apart within = rw (number_back names n apart within) refl

named_read : (key : PlanKey) (entry : ℕ) (names : List (List ℕ)) (d : Data) (n : ℕ) → value key d ≡ Some (string (name_at names n)) → AreDistinct names
    → n < length names → named key entry names d ≡ Ok n
unfolding named
named_read key entry names d n at apart within = rw at (referred_read (place key entry) names n apart within)

array_read : (key : PlanKey) (d : Data) (ds : Items) → value key d ≡ Some (array_data ds) → array key d ≡ Ok ds
unfolding array
array_read key d ds at = rw at refl

-- one more name is read
one_more_read : (p : PlanPlace) (names : List (List ℕ)) (seen : List ℕ) (n : ℕ) → AreDistinct names → n < length names → has seen n ≡ false
    → one_more_name p names seen (string (name_at names n)) ≡ Ok (seen ++ n ∷ [])
unfolding one_more_name
one_more_read p names seen n apart within none = rw (referred_read p names n apart within, none) refl

-- names of which none comes twice are read one by one
names_read : (p : PlanPlace) (names : List (List ℕ)) (all : List ℕ) → AreDistinct names → Each (λ n. n < length names) all
    → ((before after : List ℕ) (n : ℕ) → before ++ n ∷ after ≡ all → has before n ≡ false)
    → (before rest : List ℕ) → before ++ rest ≡ all → names_from p names before (items_of (map (λ n. string (name_at names n)) rest)) ≡ Ok all
names_read p names all apart within new before [] is = ap (λ (l : List ℕ). Ok l) (sym (append-nil before) ∙ is)
names_read p names all apart within new before (n ∷ rest) is =
    rw (one_more_read p names before n apart (within (length before) n (stands all before rest n is)) (new before rest n is))
    (names_read p names all apart within new (before ++ n ∷ []) rest (append_assoc before (n ∷ []) rest ∙ is))

-- an ascending list is read
list_read : (key : PlanKey) (names : List (List ℕ)) (d : Data) (ns : List ℕ) → value key d ≡ Some (list_data (λ n. string (name_at names n)) ns)
    → AreDistinct names → ascends ns ≡ true → All (λ n. n < length names) ns
    → names_in key names d ≡ Ok ns
unfolding names_in
list_read key names d ns at apart up within =
    let rises = rises-ascending ns up in
    rw (
      array_read key d (items_of (map (λ n. string (name_at names n)) ns)) at,
      names_read (place key 0) names ns apart (each_of (λ n. n < length names) ns within)
          (λ before after n is. rising_none ns before after n rises is) [] ns refl,
      ascending-itself (length names) ns rises within,
    ) refl

-- a hop is read
hop_read : (net : Network) (parent link : PlanKey) (entry : ℕ) (d : Data) (hop : Hop) → value parent d ≡ Some (device_data net hop.parent)
    → value link d ≡ Some (link_data net hop.link) → IsNetwork net → IsHop net hop
    → hop_in net parent link entry d ≡ Ok hop
unfolding hop_in
hop_read net parent link entry d hop at_parent at_link law good =
    let within : hop.parent < length (device_names net) =
    subst (λ n. hop.parent < n) (sym (names_count (λ (device : Device). device.name) net.devices)) good.0 in
    let link_within : hop.link < length (link_names net) = subst (λ n. hop.link < n) (sym (names_count (λ (l : Link). l.name) net.links)) good.1 in
    rw (
      named_read parent entry (device_names net) d hop.parent at_parent law.distinct_devices within,
      named_read link entry
          (link_names net) d hop.link at_link law.distinct_links link_within,
    ) refl

-- what stands in a printed row
record ShowsRow (net : Network) (d : ℕ) (row : PlanRow) (shown : Data) : Type 0 where
  device : value keys.RowsDevice shown ≡ Some (device_data net d)
  parent : value keys.RowsParent shown ≡ Some (device_data net row.primary.parent)
  link : value keys.RowsLink shown ≡ Some (link_data net row.primary.link)
  backup : value keys.RowsBackup shown ≡ option_map (λ hop. device_data net hop.parent) row.backup
  backup_link : value keys.RowsBackupLink shown ≡ option_map (λ hop. link_data net hop.link) row.backup

row_shows : (net : Network) (d : ℕ) (row : PlanRow) (o : Option Hop) → row.backup ≡ o → ShowsRow net d row (row_data net d row)
unfolding row_members
row_shows net d row None is = record { device = rw is refl; parent = rw is refl; link = rw is refl; backup = rw is refl; backup_link = rw is refl }
row_shows net d row (Some hop) is = record { device = rw is refl; parent = rw is refl; link = rw is refl; backup = rw is refl; backup_link = rw is refl }

-- a backup is read, and that there is none
backup_read : (net : Network) (entry : ℕ) (shown : Data) (o : Option Hop) → value keys.RowsBackup shown ≡ option_map (λ hop. device_data net hop.parent) o
    → value keys.RowsBackupLink shown ≡ option_map (λ hop. link_data net hop.link) o
    → IsNetwork net → ((hop : Hop) → o ≡ Some hop → IsHop net hop) → backup_in net entry shown ≡ Ok o
unfolding backup_in
backup_read net entry shown None parent link law good = rw (parent, link) refl
backup_read net entry shown (Some hop) parent link law good =
    let read = hop_read net keys.RowsBackup keys.RowsBackupLink entry shown hop parent link law (good hop refl) in
    rw (parent, read) refl

-- a row is read
row_read : (net : Network) (entry d : ℕ) (row : PlanRow) (shown : Data) → ShowsRow net d row shown → IsNetwork net → IsRow net (Some row)
    → row_in net entry shown ≡ Ok row
unfolding row_in
row_read net entry d row shown shows law good =
    rw (
      hop_read net keys.RowsParent keys.RowsLink entry shown row.primary shows.parent shows.link law good.0,
      backup_read net entry shown row.backup
          shows.backup shows.backup_link law good.1,
    ) refl

-- the device of a row is read
device_read : (net : Network) (entry d : ℕ) (rows : List (Option PlanRow)) (shown : Data) → value keys.RowsDevice shown ≡ Some (device_data net d)
    → IsNetwork net → d < length net.devices → at_place rows d None (λ row. row) ≡ None
    → device_in net entry rows shown ≡ Ok d
unfolding device_in
device_read net entry d rows shown at law within free =
    let names_within : d < length (device_names net) = subst (λ n. d < n) (sym (names_count (λ (device : Device). device.name) net.devices)) within in
    rw (named_read keys.RowsDevice entry (device_names net) shown d at law.distinct_devices names_within, free) refl

-- one more row is read
more_read : (net : Network) (entry d : ℕ) (rows : List (Option PlanRow)) (row : PlanRow) → IsNetwork net → d < length net.devices → IsRow net (Some row)
    → at_place rows d None (λ r. r) ≡ Some row
    → one_more_row net entry (filled d rows) (row_data net d row) ≡ Ok (filled (suc d) rows)
unfolding one_more_row
more_read net entry d rows row law within good at =
    let shows = row_shows net d row row.backup refl in
    rw (
      device_read net entry d (filled d rows) (row_data net d row) shows.device law within (filled-free d rows),
      row_read net entry d row
          (row_data net d row) shows law good,
    )
    (ap (λ (l : List (Option PlanRow)). Ok l) (filled-set d rows row at))

-- a row that a plan has is one of the network
good_row : (net : Network) (plan : PlanShown) (d : ℕ) (row : PlanRow) → Fits net plan → row_of plan d ≡ Some row → IsRow net (Some row)
good_row net plan d row fits at = fits.rows d (Some row) (by (slice_get plan.rows d) at)
  where
    by : (o : Option (Option PlanRow)) → map_or o None (λ r. r) ≡ Some row → o ≡ Some (Some row)
    by None h = cc
    by (Some r) h = ap (λ (x : Option PlanRow). Some x) h

-- the rows from a device on are read
rows_from_read : (net : Network) (plan : PlanShown) → IsNetwork net → Fits net plan → (m k entry : ℕ) → k + m ≡ length plan.rows
    → rows_from net entry (filled k plan.rows) (items_of (rows_listed net plan (run k m))) ≡ Ok plan.rows
rows_from_read net plan law fits zero k entry size =
    let all : k ≡ length plan.rows = sym (add-zero k) ∙ size in
    ap (λ (l : List (Option PlanRow)). Ok l) (ap (λ n. filled n plan.rows) all ∙ filled-all plan.rows)
rows_from_read net plan law fits (suc m) k entry size =
    by (row_of plan k) refl (rows_listed net plan (run (suc k) m)) (λ e. rows_from_read net plan law fits m (suc k) e next)
  where
    next : suc k + m ≡ length plan.rows
    next = omega (arith, size)

    within : k < length net.devices
    within = omega (arith, size, fits.entries)

    by : (o : Option PlanRow) → row_of plan k ≡ o → (rest : List Data) → ((e : ℕ) → rows_from net e (filled (suc k) plan.rows) (items_of rest) ≡ Ok plan.rows)
        → rows_from net entry (filled k plan.rows) (items_of (cons_option (option_map (row_data net k) o) rest)) ≡ Ok plan.rows
    by None at rest more =
        subst (λ (xs : List (Option PlanRow)). rows_from net entry xs (items_of rest) ≡ Ok plan.rows) (filled-skip k plan.rows at) (more entry)
    by (Some row) at rest more = rw (more_read net entry k plan.rows row law within (good_row net plan k row fits at) at) (more (entry + 1))

-- all rows are read
rows_read : (net : Network) (plan : PlanShown) (d : Data) → value keys.Rows d ≡ Some (rows_data net plan (device_numbers net)) → IsNetwork net → Fits net plan
    → rows_in net d ≡ Ok plan.rows
unfolding rows_in
rows_read net plan d at law fits =
    let whole : 0 + length net.devices ≡ length plan.rows = omega (arith, fits.entries) in
    let from = rows_from_read net plan law fits (length net.devices) 0 1 whole in
    let numbers =
    subst (λ (ds : List ℕ). rows_from net 1 (filled 0 plan.rows) (items_of (rows_listed net plan ds)) ≡ Ok plan.rows)
    (sym (below-run (length net.devices))) from in
    let none : filled 0 plan.rows ≡ no_rows net = filled-none plan.rows ∙ ap (λ n. replicate n None) fits.entries in
    rw (array_read keys.Rows d (items_of (rows_listed net plan (device_numbers net))) at)
    (subst (λ (xs : List (Option PlanRow)). rows_from net 1 xs (items_of (rows_listed net plan (device_numbers net))) ≡ Ok plan.rows) none numbers)

-- what stands in a printed plan
record ShowsPlan (net : Network) (plan : PlanShown) (shown : Data) : Type 0 where
  version : value keys.Version shown ≡ Some (count 1)
  root : value keys.Root shown ≡ Some (device_data net plan.root)
  backup_root : value keys.BackupRoot shown ≡ Some (device_data net plan.backup_root)
  wait_first : value keys.WaitFirst shown ≡ Some (count plan.wait_first)
  wait_second : value keys.WaitSecond shown ≡ Some (count plan.wait_second)
  wait : value keys.Wait shown ≡ Some (count plan.wait)
  absent_devices : value keys.AbsentDevices shown ≡ Some (list_data (device_data net) plan.absent.devices)
  absent_links : value keys.AbsentLinks shown ≡ Some (list_data (link_data net) plan.absent.links)
  rows : value keys.Rows shown ≡ Some (rows_data net plan (device_numbers net))

plan_shows : (net : Network) (plan : PlanShown) → ShowsPlan net plan (plan_data net plan)
unfolding plan_members
plan_shows net plan =
    record {
      version = refl;
      root = refl;
      backup_root = refl;
      wait_first = refl;
      wait_second = refl;
      wait = refl;
      absent_devices = refl;
      absent_links = refl;
      rows = refl;
    }

-- what is left out is read
absent_read : (net : Network) (plan : PlanShown) (shown : Data) → ShowsPlan net plan shown → IsNetwork net → Fits net plan
    → absent_in net shown ≡ Ok plan.absent
unfolding absent_in
absent_read net plan shown shows law fits =
    let (up, below_devices) = and_parts (ascends plan.absent.devices) (all_below (length net.devices) plan.absent.devices) fits.absent_devices in
    let (links_up, below_links) = and_parts (ascends plan.absent.links) (all_below (length net.links) plan.absent.links) fits.absent_links in
    let devices =
    subst (λ n. All (λ d. d < n) plan.absent.devices) (sym (names_count (λ (device : Device). device.name) net.devices))
    (within_all (length net.devices) plan.absent.devices below_devices) in
    let links = subst (λ n. All (λ l. l < n) plan.absent.links) (sym (names_count (λ (link : Link). link.name) net.links))
    (within_all (length net.links) plan.absent.links below_links) in
    rw (
      list_read keys.AbsentDevices (device_names net) shown plan.absent.devices shows.absent_devices law.distinct_devices up devices,
      list_read keys.AbsentLinks (link_names net) shown plan.absent.links shows.absent_links law.distinct_links links_up links,
    ) refl

-- a printed plan is read as the same plan
pub plan_read_back : (net : Network) (plan : PlanShown) → IsNetwork net → Fits net plan → plan_of net (Some (plan_data net plan)) ≡ Ok plan
unfolding plan_of plan_in
plan_read_back net plan law fits =
    let shown = plan_data net plan in
    let shows = plan_shows net plan in
    let count_names = names_count (λ (device : Device). device.name) net.devices in
    let root : plan.root < length (device_names net) = subst (λ n. plan.root < n) (sym count_names) fits.root in
    let backup_root : plan.backup_root < length (device_names net) = subst (λ n. plan.backup_root < n) (sym count_names) fits.backup_root in
    rw (
      version_read shown shows.version,
      named_read keys.Root 0 (device_names net) shown plan.root shows.root law.distinct_devices root,
      named_read keys.BackupRoot 0 (device_names net) shown plan.backup_root shows.backup_root law.distinct_devices backup_root,
      wait_read keys.WaitFirst shown plan.wait_first shows.wait_first fits.waits.0,
      wait_read keys.WaitSecond shown plan.wait_second shows.wait_second fits.waits.1,
      wait_read keys.Wait shown plan.wait shows.wait fits.waits.2,
      absent_read net plan shown shows law fits,
      rows_read net plan shown shows.rows law fits,
    ) refl
