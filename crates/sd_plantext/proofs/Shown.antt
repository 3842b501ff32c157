-- The value that a plan is printed from has the text of the plan.
use Rattle.std.proofs.Common.{◌≡◌, ℕ, true, false, List, [], ◌∷◌, ◌++◌, map, Option, Some, None, option_map, codes, decimal, refl, ap, ap₂, sym, ◌∙◌, append_assoc}
use Rattle.std.specs.List.{filter_map, cons_option, join_with_byte}
use Rattle.json.specs.Print.{escape, escape_byte}
use Rattle.json.specs.Print as json
use Rattle.serde_json.specs.Data.{Data, array, object as object_data, Members, no_members, member}
use Rattle.serde_json.specs.View.{items_of}
use Rattle.serde_json.specs.Written.{compact_text, items_text, members_text}
use Rattle.sd_plan.specs.topo.Network.{Network, device_numbers}
use Rattle.sd_plan.specs.topo.Limits.{IsNetwork}
use Rattle.sd_plan.specs.declared.Hop.{Hop}
use Rattle.sd_plan.specs.declared.PlanRow.{PlanRow}
use Rattle.sd_plan.specs.declared.Plan.{Plan as PlanShown}
use Rattle.sd_plan.specs.Plans.{row_of}
use Rattle.sd_plantext.specs.Printed.{quoted, with_key, array as array_text, object, row_text, rows_text, plan_text}
use Rattle.sd_plan.specs.topo.Network.{device_name, link_name}
use Rattle.sd_plantext.specs.PrintedTree.{count, device_data, link_data, list_data, row_members, row_data, rows_listed, rows_data, plan_members, plan_data}
use Rattle.sd_plantext.proofs.Escapes.{device_quoted, link_quoted}

-- the elements of an array are parted by commas
joined_items : (d : Data) (ds : List Data) → items_text false (items_of (d ∷ ds)) ≡ join_with_byte 44 (compact_text d ∷ map compact_text ds) ++ 93 ∷ []
joined_items d [] = refl
joined_items d (e ∷ ds) =
    ap (λ t. compact_text d ++ 44 ∷ t) (joined_items e ds)
    ∙ sym (append_assoc (compact_text d) (44 ∷ join_with_byte 44 (compact_text e ∷ map compact_text ds)) (93 ∷ []))

array_shown : (ds : List Data) → compact_text (array (items_of ds)) ≡ array_text (map compact_text ds)
array_shown [] = refl
array_shown (d ∷ ds) = ap (λ t. 91 ∷ t) (joined_items d ds)

-- members one after another
abbrev members_from : List (List ℕ × Data) → Members
members_from [] = no_members
members_from (m ∷ ms) = member m.0 m.1 (members_from ms)

abbrev ArePlainKeys : List (List ℕ × Data) → Type 0
ArePlainKeys [] = Unit {0}
ArePlainKeys (m ∷ ms) = (escape m.0 ≡ m.0) × ArePlainKeys ms

abbrev member_shown : List ℕ × Data → List ℕ
member_shown m = with_key m.0 (compact_text m.1)

-- a key, its value and what follows
one_member : (k v rest : List ℕ) → escape k ≡ k → json.quoted k ++ 58 ∷ (v ++ rest) ≡ with_key k v ++ rest
one_member k v rest plain = ap (λ (t : List ℕ). (34 ∷ (t ++ 34 ∷ [])) ++ 58 ∷ (v ++ rest)) plain ∙ sym (append_assoc (quoted k) (58 ∷ v) rest)

joined_members : (m : List ℕ × Data) (ms : List (List ℕ × Data)) → ArePlainKeys (m ∷ ms)
    → members_text false (members_from (m ∷ ms)) ≡ join_with_byte 44 (member_shown m ∷ map member_shown ms) ++ 125 ∷ []
joined_members m [] plain = one_member m.0 (compact_text m.1) (125 ∷ []) plain.0
joined_members m (n ∷ ms) plain =
    one_member m.0 (compact_text m.1) (members_text true (members_from (n ∷ ms))) plain.0 ∙ ap (λ t. member_shown m ++ 44 ∷ t) (joined_members n ms plain.1)
    ∙ sym (append_assoc (member_shown m) (44 ∷ join_with_byte 44 (member_shown n ∷ map member_shown ms)) (125 ∷ []))

object_shown : (m : List ℕ × Data) (ms : List (List ℕ × Data)) → ArePlainKeys (m ∷ ms)
    → compact_text (object_data (members_from (m ∷ ms))) ≡ object (map member_shown (m ∷ ms))
object_shown m ms plain = ap (λ t. 123 ∷ t) (joined_members m ms plain)

-- names one after another
names_shown : (f : ℕ → Data) (g : ℕ → List ℕ) → ((n : ℕ) → compact_text (f n) ≡ g n) → (ns : List ℕ) → map compact_text (map f ns) ≡ map g ns
names_shown f g same [] = refl
names_shown f g same (n ∷ ns) = ap₂ (λ t ts. t ∷ ts) (same n) (names_shown f g same ns)

list_shown : (f : ℕ → Data) (g : ℕ → List ℕ) → ((n : ℕ) → compact_text (f n) ≡ g n) → (ns : List ℕ) → compact_text (list_data f ns) ≡ array_text (map g ns)
list_shown f g same ns = array_shown (map f ns) ∙ ap array_text (names_shown f g same ns)

-- what a row shows for its two hops
row_of_parts : (net : Network) (d : ℕ) (row : PlanRow) (o : Option Hop) → row.backup ≡ o → IsNetwork net
    → compact_text (row_data net d row) ≡ row_text net d row
unfolding row_members escape_byte
row_of_parts net d row None is law =
    rw is (object_shown (codes "device", device_data net d)
    ((codes "link", link_data net row.primary.link) ∷ (codes "parent", device_data net row.primary.parent) ∷ []) (refl, (refl, (refl, tt)))
    ∙ (λ i. object
    (with_key (codes "device") (device_quoted net d law i) ∷ with_key (codes "link") (link_quoted net row.primary.link law i) ∷ with_key (codes "parent")
    (device_quoted net row.primary.parent law i) ∷ [])))
row_of_parts net d row (Some hop) is law =
    rw is (object_shown (codes "backup", device_data net hop.parent)
    ((codes "backup_link", link_data net hop.link) ∷ (codes "device", device_data net d) ∷ (
      codes "link",
      link_data net
          row.primary.link,
    ) ∷ (codes "parent", device_data net row.primary.parent) ∷ []) (refl, (refl, (refl, (refl, (refl, tt)))))
    ∙ (λ i. object (with_key (codes "backup") (device_quoted net hop.parent law i) ∷ with_key (codes "backup_link") (link_quoted net hop.link law i)
    ∷ with_key (codes "device") (device_quoted net d law i) ∷ with_key (codes "link") (link_quoted net row.primary.link law i) ∷ with_key (codes "parent")
    (device_quoted net row.primary.parent law i) ∷ [])))

row_shown : (net : Network) (d : ℕ) (row : PlanRow) → IsNetwork net → compact_text (row_data net d row) ≡ row_text net d row
row_shown net d row law = row_of_parts net d row row.backup refl law

-- the rows that there are
listed_shown : (net : Network) (plan : PlanShown) (ds : List ℕ) → IsNetwork net
    → map compact_text (rows_listed net plan ds) ≡ filter_map (λ d. option_map (row_text net d) (row_of plan d)) ds
listed_shown net plan [] law = refl
listed_shown net plan (d ∷ ds) law =
    by (row_of plan d) (rows_listed net plan ds) (filter_map (λ e. option_map (row_text net e) (row_of plan e)) ds) (listed_shown net plan ds law)
  where
    by : (o : Option PlanRow) (xs : List Data) (ts : List (List ℕ)) → map compact_text xs ≡ ts
        → map compact_text (cons_option (option_map (row_data net d) o) xs) ≡ cons_option (option_map (row_text net d) o) ts
    by None xs ts rest = rest
    by (Some row) xs ts rest = ap₂ (λ u us. u ∷ us) (row_shown net d row law) rest

rows_shown : (net : Network) (plan : PlanShown) → IsNetwork net → compact_text (rows_data net plan (device_numbers net)) ≡ rows_text net plan
rows_shown net plan law = array_shown (rows_listed net plan (device_numbers net)) ∙ ap array_text (listed_shown net plan (device_numbers net) law)

-- the whole plan
pub plan_shown : (net : Network) (plan : PlanShown) → IsNetwork net → compact_text (plan_data net plan) ++ 10 ∷ [] ≡ plan_text net plan
unfolding plan_members escape_byte
plan_shown net plan law =
    let devices = list_shown (device_data net) (λ d. quoted (device_name net d)) (λ d. device_quoted net d law) plan.absent.devices in
    let links = list_shown (link_data net) (λ l. quoted (link_name net l)) (λ l. link_quoted net l law) plan.absent.links in
    ap (λ (t : List ℕ). t ++ 10 ∷ []) (object_shown (codes "absent_devices", list_data (device_data net) plan.absent.devices)
    ((codes "absent_links", list_data (link_data net) plan.absent.links) ∷ (codes "backup_root", device_data net plan.backup_root) ∷ (
      codes "root",
      device_data
          net plan.root,
    ) ∷ (codes "rows", rows_data net plan (device_numbers net))
    ∷ (codes "version", count 1) ∷ (codes "wait", count plan.wait) ∷ (codes "wait_first", count plan.wait_first) ∷ (
      codes "wait_second",
      count
          plan.wait_second,
    ) ∷ [])
    (refl, (refl, (refl, (refl, (refl, (refl, (refl, (refl, (refl, tt)))))))))
    ∙ (λ i. object
    (with_key (codes "absent_devices") (devices i) ∷ with_key (codes "absent_links") (links i) ∷ with_key (codes "backup_root")
    (device_quoted net plan.backup_root law i)
    ∷ with_key (codes "root") (device_quoted net plan.root law i) ∷ with_key (codes "rows") (rows_shown net plan law i) ∷ with_key (codes "version") (decimal 1)
    ∷ with_key (codes "wait") (decimal plan.wait) ∷ with_key (codes "wait_first") (decimal plan.wait_first) ∷ with_key (codes "wait_second")
    (decimal plan.wait_second) ∷ [])))
