-- What a plan text means fits its network: names are those of things that are there, waits are in range, and lists ascend.
use Rattle.std.proofs.Common.{◌≡◌, ◌⊎◌, inl, inr, ℕ, ◌+◌, ◌<◌, ◌≤◌, ◌^◌, Bool, true, false, not, ◌&&◌, nat_le, cond, List, [], ◌∷◌, ◌++◌, length, set, Option, None, Some, is_none, Result, Ok, Err, All, IsTrue, refl, ap, sym, ◌∙◌, subst}
use Rattle.std.specs.Prelude.{IfSome}
use Rattle.std.specs.Str.{bytes_eq}
use Rattle.std.proofs.lemmas.Bool.{leb-true, not-true}
use Rattle.std.proofs.lemmas.List.{length-set, length-map, length-replicate}
use Rattle.std.proofs.lemmas.List.Elements.{All-push, All-nil, All-set, All-replicate}
use Rattle.std.proofs.lemmas.List.Quantifiers.{position-Some}
use Rattle.serde_json.specs.Data.{Data, Items, no_items, item}
use Rattle.serde_json.specs.Find.{as_str}
use Rattle.sd_num.specs.Lists.{has, ascends, all_below, ascending}
use Rattle.sd_plan.specs.topo.Network.{Network, device_names, link_names, number_in}
use Rattle.sd_plan.proofs.topo.Lists.{each_of, ascending_ok}
use Rattle.sd_plan.specs.declared.Hop.{Hop}
use Rattle.sd_plan.specs.declared.PlanRow.{PlanRow}
use Rattle.sd_plan.specs.declared.Absent.{Absent as Left}
use Rattle.sd_plan.specs.declared.Plan.{Plan}
use Rattle.sd_plan.specs.Plans.{Fits, IsHop, IsRow}
use Rattle.sd_plan.proofs.Shared.{plan_of}
use Rattle.sd_plantext.specs.declared.fault.PlanPlace.{PlanPlace}
use Rattle.sd_plantext.specs.declared.fault.PlanKey.{PlanKey}
use Rattle.sd_plantext.specs.declared.fault.PlanKey.TheVariants as keys
use Rattle.sd_plantext.specs.declared.fault.PlanFault.{PlanFault}
use Rattle.sd_plantext.specs.declared.fault.PlanFault.TheVariants.{Range, TwiceNamed}
use Rattle.sd_plantext.specs.Then.{◌>>=◌}
use Rattle.sd_plantext.specs.Meaning.{place, value, allowed, there, of_kind, an_object, number, version_in, wait_in, known, referred, named, array, one_more_name, names_from, names_in, absent_in, hop_in, backup_in, row_in, device_in, one_more_row, rows_from, no_rows, rows_in, plan_in}

-- what goes on without a fault had none before
pub bind_ok : {A B : Type 0} (r : Result A PlanFault) (f : A → Result B PlanFault) (y : B) → (r >>= f) ≡ Ok y → (x : A) × (r ≡ Ok x) × (f x ≡ Ok y)
bind_ok (Ok x) f y h = (x, refl, h)
bind_ok (Err e) f y h = cc

-- what is allowed passed its test
pub allowed_ok : {X : Type 0} (test : Bool) (fault : PlanFault) (x y : X) → allowed test fault x ≡ Ok y → (test ≡ true) × (x ≡ y)
allowed_ok true fault x y h = (refl, cc)
allowed_ok false fault x y h = cc

-- equal answers hold equal values
pub ok_inside : {X : Type 0} (x y : X) → let made : X → Result X PlanFault = λ z. Ok z in made x ≡ made y → x ≡ y
ok_inside x y h = cc

-- one of two answers
one_of : {X : Type 0} (b : Bool) (x y : X) (r : Result X PlanFault) → cond b (Ok x) r ≡ Ok y → (x ≡ y) ⊎ (r ≡ Ok y)
one_of true x y r h = inl cc
one_of false x y r h = inr h

-- what is known was found
known_ok : (p : PlanPlace) (o : Option ℕ) (n : ℕ) → known p o ≡ Ok n → o ≡ Some n
known_ok p None n h = cc
known_ok p (Some m) n h = cc

-- a wait that was read is in range
wait_ok : (key : PlanKey) (d : Data) (n : ℕ) → wait_in key d ≡ Ok n → n ≤ 2 ^ 60
unfolding wait_in
wait_ok key d n h =
    let (m, read, last) = bind_ok (number key d) (λ n. allowed (nat_le n (2 ^ 60)) (Range (place key 0)) n) n h in
    let (low, same) = allowed_ok (nat_le m (2 ^ 60)) (Range (place key 0)) m n last in
    subst (λ (k : ℕ). k ≤ 2 ^ 60) same (leb-true m (2 ^ 60) low)

-- a thing that was named is there
pub referred_ok : (p : PlanPlace) (names : List (List ℕ)) (d : Data) (n : ℕ) → referred p names d ≡ Ok n → n < length names
unfolding referred
referred_ok p names d n h =
    let (name, kind, last) = bind_ok (of_kind p (as_str d)) (λ name. known p (number_in names name)) n h in
    (position-Some (bytes_eq name) names n [] (known_ok p (number_in names name) n last)).0

-- so is one that was named at a key
pub named_ok : (key : PlanKey) (entry : ℕ) (names : List (List ℕ)) (d : Data) (n : ℕ) → named key entry names d ≡ Ok n → n < length names
unfolding named
named_ok key entry names d n h =
    let p = place key entry in
    let (found, at, last) = bind_ok (there p (value key d)) (referred p names) n h in
    referred_ok p names found n last

-- there are as many names as devices, and as links
pub device_count : (net : Network) → length (device_names net) ≡ length net.devices
device_count net = length-map net.devices (λ device. device.name)

pub link_count : (net : Network) → length (link_names net) ≡ length net.links
link_count net = length-map net.links (λ link. link.name)

-- a device that was named is there
pub device_named : (net : Network) (key : PlanKey) (entry : ℕ) (d : Data) (n : ℕ) → named key entry (device_names net) d ≡ Ok n → n < length net.devices
device_named net key entry d n h = subst (λ (count : ℕ). n < count) (device_count net) (named_ok key entry (device_names net) d n h)

-- so is a link
link_named : (net : Network) (key : PlanKey) (entry : ℕ) (d : Data) (n : ℕ) → named key entry (link_names net) d ≡ Ok n → n < length net.links
link_named net key entry d n h = subst (λ (count : ℕ). n < count) (link_count net) (named_ok key entry (link_names net) d n h)

-- one more listed thing is there, and new
one_more_ok : (p : PlanPlace) (names : List (List ℕ)) (seen : List ℕ) (d : Data) (more : List ℕ) → one_more_name p names seen d ≡ Ok more
    → (n : ℕ) × (more ≡ seen ++ n ∷ []) × (n < length names) × (has seen n ≡ false)
unfolding one_more_name
one_more_ok p names seen d more h =
    let (n, at, last) = bind_ok (referred p names d) (λ n. allowed (not (has seen n)) (TwiceNamed p) (seen ++ n ∷ [])) more h in
    let (new, same) = allowed_ok (not (has seen n)) (TwiceNamed p) (seen ++ n ∷ []) more last in
    (n, sym same, referred_ok p names d n at, not-true (has seen n) new)

-- listed things are there
pub listed_ok : (p : PlanPlace) (names : List (List ℕ)) (seen : List ℕ) (ds : Items) (out : List ℕ) → All (λ n. n < length names) seen
    → names_from p names seen ds ≡ Ok out → All (λ n. n < length names) out
listed_ok p names seen no_items out within h = let same : seen ≡ out = cc in subst (All (λ n. n < length names)) same within
listed_ok p names seen (item d ds) out within h =
    let (more, first, rest) = bind_ok (one_more_name p names seen d) (λ more. names_from p names more ds) out h in
    let (n, is, below, new) = one_more_ok p names seen d more first in
    listed_ok p names more ds out (subst (All (λ n. n < length names)) (sym is) (All-push (λ n. n < length names) seen n within below)) rest

-- a list of names from its array
pub names_are : (key : PlanKey) (names : List (List ℕ)) (d : Data) (ds : Items) (xs v : List ℕ) → array key d ≡ Ok ds
    → names_from (place key 0) names [] ds ≡ Ok xs
    → ((count : ℕ) → All (λ n. n < count) xs → v ≡ ascending count xs) → names_in key names d ≡ Ok v
unfolding names_in
names_are key names d ds xs v there listed is =
    let ok : List ℕ → Result (List ℕ) PlanFault = λ l. Ok l in
    rw (there, listed) (ap ok (sym (is (length names) (listed_ok (place key 0) names [] ds xs (All-nil (λ n. n < length names)) listed))))

-- the numbers ascend, below a bound
abbrev pub IsRising : ℕ → List ℕ → Type 0
IsRising bound xs = IsTrue (ascends xs && all_below bound xs)

-- numbers below a count ascend, below the count
rising : (count : ℕ) (xs : List ℕ) → IsRising count (ascending count xs)
rising count xs = let (up, within) = ascending_ok count xs in rw (up, within) refl

-- what is listed at a key ascends
names_ok : (key : PlanKey) (names : List (List ℕ)) (count : ℕ) (d : Data) (out : List ℕ) → length names ≡ count → names_in key names d ≡ Ok out
    → IsRising count out
unfolding names_in
names_ok key names count d out long h =
    let end : List ℕ → Result (List ℕ) PlanFault = λ numbers. Ok (ascending (length names) numbers) in
    let (ds, a, h1) = bind_ok (array key d) (λ ds. names_from (place key 0) names [] ds >>= end) out h in
    let (numbers, b, h2) = bind_ok (names_from (place key 0) names [] ds) end out h1 in
    subst (λ (n : ℕ). IsRising n out) long
    (subst (IsRising (length names)) (ok_inside (ascending (length names) numbers) out h2) (rising (length names) numbers))

-- what is left out ascends
pub absent_ok : (net : Network) (d : Data) (absent : Left) → absent_in net d ≡ Ok absent
    → IsRising (length net.devices) absent.devices × IsRising (length net.links) absent.links
unfolding absent_in
absent_ok net d absent h =
    let made : List ℕ → List ℕ → Left = λ devices links. record { devices = devices; links = links } in
    let end : List ℕ → Result Left PlanFault = λ devices. names_in keys.AbsentLinks (link_names net) d >>= (λ links. Ok (made devices links)) in
    let (devices, a, h1) = bind_ok (names_in keys.AbsentDevices (device_names net) d) end absent h in
    let (links, b, h2) = bind_ok (names_in keys.AbsentLinks (link_names net) d) (λ links. Ok (made devices links)) absent h1 in
    subst (λ (l : Left). IsRising (length net.devices) l.devices × IsRising (length net.links) l.links) (ok_inside (made devices links) absent h2) (
      names_ok keys.AbsentDevices (device_names net) (length net.devices) d devices (device_count net) a,
      names_ok keys.AbsentLinks (link_names net)
          (length net.links) d links (link_count net) b,
    )

-- a hop's parent and link are there
hop_ok : (net : Network) (parent link : PlanKey) (entry : ℕ) (d : Data) (hop : Hop) → hop_in net parent link entry d ≡ Ok hop → IsHop net hop
unfolding hop_in
hop_ok net parent link entry d hop h =
    let made : ℕ → ℕ → Hop = λ p l. record { parent = p; link = l } in
    let end : ℕ → Result Hop PlanFault = λ p. named link entry (link_names net) d >>= (λ l. Ok (made p l)) in
    let (p, a, h1) = bind_ok (named parent entry (device_names net) d) end hop h in
    let (l, b, h2) = bind_ok (named link entry (link_names net) d) (λ l. Ok (made p l)) hop h1 in
    subst (IsHop net) (ok_inside (made p l) hop h2) (device_named net parent entry d p a, link_named net link entry d l b)

-- so are those of a backup, if there is one
backup_ok : (net : Network) (entry : ℕ) (d : Data) (found : Option Hop) → backup_in net entry d ≡ Ok found → IfSome found (IsHop net)
unfolding backup_in
backup_ok net entry d found h =
    let some : Hop → Option Hop = λ hop. Some hop in
    let none : Option Hop = None in
    let read : Result (Option Hop) PlanFault = hop_in net keys.RowsBackup keys.RowsBackupLink entry d >>= (λ hop. Ok (some hop)) in
    elim (one_of (is_none (value keys.RowsBackup d) && is_none (value keys.RowsBackupLink d)) none found read h) [
      | inl same ↦ subst (λ (o : Option Hop). IfSome o (IsHop net)) same tt
      | inr own ↦
          let (hop, a, last) = bind_ok (hop_in net keys.RowsBackup keys.RowsBackupLink entry d) (λ hop. Ok (some hop)) found own in
          subst (λ (o : Option Hop). IfSome o (IsHop net)) (ok_inside (some hop) found last) (hop_ok net keys.RowsBackup keys.RowsBackupLink entry d hop a)
    ]

-- a row's hops are there
row_ok : (net : Network) (entry : ℕ) (d : Data) (row : PlanRow) → row_in net entry d ≡ Ok row → IsRow net (Some row)
unfolding row_in
row_ok net entry d row h =
    let made : Hop → Option Hop → PlanRow = λ primary backup. record { primary = primary; backup = backup } in
    let end : Hop → Result PlanRow PlanFault = λ primary. backup_in net entry d >>= (λ backup. Ok (made primary backup)) in
    let (primary, a, h1) = bind_ok (hop_in net keys.RowsParent keys.RowsLink entry d) end row h in
    let (backup, b, h2) = bind_ok (backup_in net entry d) (λ backup. Ok (made primary backup)) row h1 in
    let good : IfSome backup (IsHop net) = backup_ok net entry d backup b in
    subst (λ (r : PlanRow). IsRow net (Some r)) (ok_inside (made primary backup) row h2)
    (hop_ok net keys.RowsParent keys.RowsLink entry d primary a, λ hop is. subst (λ (o : Option Hop). IfSome o (IsHop net)) is good)

-- one row for each device, whose hops are there
record AreRows (net : Network) (rows : List (Option PlanRow)) : Type 0 where
  long : length rows ≡ length net.devices
  good : All (IsRow net) rows

-- one more row is good
row_step : (net : Network) (entry : ℕ) (rows : List (Option PlanRow)) (d : Data) (more : List (Option PlanRow)) → AreRows net rows
    → one_more_row net entry rows d ≡ Ok more → AreRows net more
unfolding one_more_row
row_step net entry rows d more known h =
    let made : ℕ → PlanRow → List (Option PlanRow) = λ device row. set rows device (Some row) in
    let filled : Data → ℕ → Result (List (Option PlanRow)) PlanFault = λ o device. row_in net entry o >>= (λ row. Ok (made device row)) in
    let placed : Data → Result (List (Option PlanRow)) PlanFault = λ o. device_in net entry rows o >>= filled o in
    let (o, a, h1) = bind_ok (an_object (place keys.Rows entry) d) placed more h in
    let (device, b, h2) = bind_ok (device_in net entry rows o) (filled o) more h1 in
    let (row, e, h3) = bind_ok (row_in net entry o) (λ row. Ok (made device row)) more h2 in
    subst (AreRows net) (ok_inside (set rows device (Some row)) more h3) (record {
      long = length-set rows device (Some row) ∙ known.long;
      good = All-set (IsRow net) rows device (Some row) (row_ok net entry o row e) known.good;
    })

-- all rows are good
rows_from_ok : (net : Network) (entry : ℕ) (rows out : List (Option PlanRow)) (ds : Items) → AreRows net rows → rows_from net entry rows ds ≡ Ok out
    → AreRows net out
rows_from_ok net entry rows out no_items known h = let same : rows ≡ out = cc in subst (AreRows net) same known
rows_from_ok net entry rows out (item d ds) known h =
    let (more, first, rest) = bind_ok (one_more_row net entry rows d) (λ more. rows_from net (entry + 1) more ds) out h in
    rows_from_ok net (entry + 1) more out ds (row_step net entry rows d more known first) rest

rows_ok : (net : Network) (d : Data) (rows : List (Option PlanRow)) → rows_in net d ≡ Ok rows → AreRows net rows
unfolding rows_in
rows_ok net d rows h =
    let (ds, a, last) = bind_ok (array keys.Rows d) (λ ds. rows_from net 1 (no_rows net) ds) rows h in
    let none : Option PlanRow = None in
    rows_from_ok net 1 (no_rows net) rows ds
    (record { long = length-replicate (length net.devices) none; good = All-replicate (IsRow net) (length net.devices) none tt }) last

-- what is read after the parts that are there
abbrev after_absent : Network → Data → ℕ → ℕ → ℕ → ℕ → ℕ → Left → Result Plan PlanFault
after_absent net d r b f s w absent = rows_in net d >>= (λ rows. Ok (plan_of r b f s w absent rows))

abbrev after_waits : Network → Data → ℕ → ℕ → ℕ → ℕ → ℕ → Result Plan PlanFault
after_waits net d r b f s w = absent_in net d >>= after_absent net d r b f s w

abbrev after_second : Network → Data → ℕ → ℕ → ℕ → ℕ → Result Plan PlanFault
after_second net d r b f s = wait_in keys.Wait d >>= after_waits net d r b f s

abbrev after_first : Network → Data → ℕ → ℕ → ℕ → Result Plan PlanFault
after_first net d r b f = wait_in keys.WaitSecond d >>= after_second net d r b f

abbrev after_roots : Network → Data → ℕ → ℕ → Result Plan PlanFault
after_roots net d r b = wait_in keys.WaitFirst d >>= after_first net d r b

abbrev after_root : Network → Data → ℕ → Result Plan PlanFault
after_root net d r = named keys.BackupRoot 0 (device_names net) d >>= after_roots net d r

abbrev after_version : Network → Data → Result Plan PlanFault
after_version net d = named keys.Root 0 (device_names net) d >>= after_root net d

-- roots that are there, and waits in range
record AreNumbers (net : Network) (r b f s w : ℕ) : Type 0 where
  root : r < length net.devices
  backup_root : b < length net.devices
  waits : (f ≤ 2 ^ 60) × (s ≤ 2 ^ 60) × (w ≤ 2 ^ 60)

-- such numbers with what is left out and rows fit
fits_of : (net : Network) (d : Data) (r b f s w : ℕ) (absent : Left) (rows : List (Option PlanRow)) → AreNumbers net r b f s w → absent_in net d ≡ Ok absent
    → AreRows net rows → Fits net (plan_of r b f s w absent rows)
fits_of net d r b f s w absent rows numbers left good =
    let rise = absent_ok net d absent left in
    record {
      root = numbers.root;
      backup_root = numbers.backup_root;
      entries = good.long;
      rows = each_of (IsRow net) rows good.good;
      waits = numbers.waits;
      absent_devices = rise.0;
      absent_links = rise.1;
    }

-- what is read after such numbers fits
lists_ok : (net : Network) (d : Data) (r b f s w : ℕ) (plan : Plan) → AreNumbers net r b f s w → after_waits net d r b f s w ≡ Ok plan → Fits net plan
lists_ok net d r b f s w plan numbers h =
    let (absent, left, h1) = bind_ok (absent_in net d) (after_absent net d r b f s w) plan h in
    let (rows, read, h2) = bind_ok (rows_in net d) (λ rows. Ok (plan_of r b f s w absent rows)) plan h1 in
    subst (Fits net) (ok_inside (plan_of r b f s w absent rows) plan h2) (fits_of net d r b f s w absent rows numbers left (rows_ok net d rows read))

-- what is read after the roots fits
waits_ok : (net : Network) (d : Data) (r b : ℕ) (plan : Plan) → r < length net.devices → b < length net.devices → after_roots net d r b ≡ Ok plan
    → Fits net plan
waits_ok net d r b plan root backup_root h =
    let (f, first, h1) = bind_ok (wait_in keys.WaitFirst d) (after_first net d r b) plan h in
    let (s, second, h2) = bind_ok (wait_in keys.WaitSecond d) (after_second net d r b f) plan h1 in
    let (w, ordinary, h3) = bind_ok (wait_in keys.Wait d) (after_waits net d r b f s) plan h2 in
    lists_ok net d r b f s w plan
    (record {
      root = root;
      backup_root = backup_root;
      waits =
          (wait_ok keys.WaitFirst d f first, wait_ok keys.WaitSecond d s second, wait_ok keys.Wait d w ordinary);
    }) h3

-- what a plan's tree means fits
pub plan_ok : (net : Network) (d : Data) (plan : Plan) → plan_in net d ≡ Ok plan → Fits net plan
unfolding plan_in
plan_ok net d plan h =
    let (o, is, h1) = bind_ok (an_object (place keys.Plan 0) d) (λ o. version_in o >>= (λ version. after_version net o)) plan h in
    let (v, version, h2) = bind_ok (version_in o) (λ version. after_version net o) plan h1 in
    let (r, root, h3) = bind_ok (named keys.Root 0 (device_names net) o) (after_root net o) plan h2 in
    let (b, backup_root, h4) = bind_ok (named keys.BackupRoot 0 (device_names net) o) (after_roots net o r) plan h3 in
    waits_ok net o r b plan (device_named net keys.Root 0 o r root) (device_named net keys.BackupRoot 0 o b backup_root) h4
