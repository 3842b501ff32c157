-- A plan text says the same with less slack, since it speaks of devices and links by their names.
use Rattle.std.specs.Prelude.{◌≡◌, ℕ, ◌+◌, List, [], ◌∷◌, map, length, replicate, Option, None, Some, Result}
use Rattle.std.specs.List.{AllZip}
use Rattle.std.proofs.Common.{refl, sym, ap, ◌∙◌}
use Rattle.std.proofs.lemmas.List.{length-map}
use mathlib.Core.Path.{fun_ext}
use Rattle.serde_json.specs.Data.{Data, Items, no_items, item}
use Rattle.sd_plan.specs.topo.Network.{Network, device_names, link_names}
use Rattle.sd_plan.specs.declared.Plan.{Plan as PlanMeant}
use Rattle.sd_plan.specs.declared.PlanRow.{PlanRow}
use Rattle.sd_plantext.specs.Then.{◌>>=◌}
use Rattle.sd_plantext.specs.Meaning.{hop_in, backup_in, row_in, device_in, one_more_row, rows_from, no_rows, rows_in, absent_in, plan_in, plan_of, array}
use Rattle.sd_plantext.specs.declared.fault.PlanKey.TheVariants as keys
use Rattle.sd_plantext.specs.declared.fault.PlanFault.{PlanFault}
use Rattle.sd_bound.specs.slack.Tighter.{IsTighterDevice, IsTighterLink, IsTighter}

module _ (a b : Network) (devices : device_names a ≡ device_names b) (links : link_names a ≡ link_names b) where
  absent_same : absent_in a ≡ absent_in b
  unfolding absent_in
  absent_same = fun_ext (λ d. rw (devices, links) refl)

  hop_same : hop_in a ≡ hop_in b
  unfolding hop_in
  hop_same = fun_ext (λ parent. fun_ext (λ link. fun_ext (λ entry. fun_ext (λ d. rw (devices, links) refl))))

  backup_same : backup_in a ≡ backup_in b
  unfolding backup_in
  backup_same = fun_ext (λ entry. fun_ext (λ d. rw hop_same refl))

  row_same : row_in a ≡ row_in b
  unfolding row_in
  row_same = fun_ext (λ entry. fun_ext (λ d. rw (hop_same, backup_same) refl))

  device_same : device_in a ≡ device_in b
  unfolding device_in
  device_same = fun_ext (λ entry. fun_ext (λ rows. fun_ext (λ d. rw devices refl)))

  more_same : one_more_row a ≡ one_more_row b
  unfolding one_more_row
  more_same = fun_ext (λ entry. fun_ext (λ rows. fun_ext (λ d. rw (device_same, row_same) refl)))

  from_same : (entry : ℕ) (rows : List (Option PlanRow)) (items : Items) → rows_from a entry rows items ≡ rows_from b entry rows items
  from_same entry rows no_items = refl
  from_same entry rows (item d ds) =
      ap (λ (more : Result (List (Option PlanRow)) PlanFault). more >>= (λ rows'. rows_from a (entry + 1) rows' ds)) (ap (λ row. row entry rows d) more_same)
      ∙ ap (λ (next : List (Option PlanRow) → Result (List (Option PlanRow)) PlanFault). one_more_row b entry rows d >>= next)
      (fun_ext (λ rows'. from_same (entry + 1) rows' ds))

  count_same : length a.devices ≡ length b.devices
  count_same = sym (length-map a.devices (λ device. device.name)) ∙ ap length devices ∙ length-map b.devices (λ device. device.name)

  none_same : no_rows a ≡ no_rows b
  none_same = ap (λ (n : ℕ). replicate n None) count_same

  rows_same : rows_in a ≡ rows_in b
  unfolding rows_in
  rows_same = fun_ext (λ d. ap (λ (next : Items → Result (List (Option PlanRow)) PlanFault). array keys.Rows d >>= next)
      (fun_ext (λ ds. from_same 1 (no_rows a) ds ∙ ap (λ (rows : List (Option PlanRow)). rows_from b 1 rows ds) none_same)))

  in_same : plan_in a ≡ plan_in b
  unfolding plan_in
  in_same = fun_ext (λ d. rw (devices, absent_same, rows_same) refl)

  of_same : plan_of a ≡ plan_of b
  unfolding plan_of
  of_same = fun_ext by
    where
      by : (o : Option Data) → plan_of a o ≡ plan_of b o
      by None = refl
      by (Some d) = ap (λ (meaning : Data → Result PlanMeant PlanFault). meaning d) in_same

names_same : {A : Type 0} (R : A → A → Type 0) (name : A → List ℕ) → ((x y : A) → R x y → name y ≡ name x) → (xs ys : List A) → AllZip R xs ys
    → map name xs ≡ map name ys
names_same R name each [] [] zip = refl
names_same R name each [] (y ∷ ys) zip = absurd zip
names_same R name each (x ∷ xs) [] zip = absurd zip
names_same R name each (x ∷ xs) (y ∷ ys) zip =
    let first : name x ≡ name y = sym (each x y zip.0) in
    let rest : map name xs ≡ map name ys = names_same R name each xs ys zip.1 in
    cc

-- whatever the tree of the plan
pub same_plans : (before after : Network) → IsTighter before after → plan_of before ≡ plan_of after
same_plans before after tighter =
    of_same before after (names_same IsTighterDevice (λ device. device.name) (λ x y both. both.name) before.devices after.devices tighter.devices)
    (names_same IsTighterLink (λ link. link.name) (λ x y both. both.name) before.links after.links tighter.links)
