-- The value that a plan is printed from is plain, and nests three levels deep.
use Rattle.std.proofs.Common.{◌≡◌, ℕ, ◌≤◌, ◌<◌, ◌^◌, List, [], ◌∷◌, map, Option, Some, None, option_map, refl, arith}
use Rattle.std.specs.List.{cons_option}
use Rattle.serde_json.specs.Data.{Data, Items, string, depth, items_depth}
use Rattle.serde_json.specs.Read.{max_depth}
use Rattle.serde_json.specs.View.{items_of}
use Rattle.std.proofs.Common.{All, IsTrue, ◌&&◌, sym, subst}
use Rattle.std.proofs.lemmas.Bool.{and_parts}
use Rattle.sd_num.specs.Lists.{ascends, all_below}
use Rattle.sd_plan.proofs.topo.Laws.{within_all}
use Rattle.sd_plan.specs.topo.Network.{Network, device_numbers, name_at, device_names, link_names}
use Rattle.sd_plan.specs.declared.Hop.{Hop}
use Rattle.sd_plan.specs.declared.PlanRow.{PlanRow}
use Rattle.sd_plan.specs.declared.Plan.{Plan as PlanShown}
use Rattle.sd_plan.specs.Plans.{Fits, row_of}
use Rattle.sd_plantext.specs.PrintedTree.{IsPlain, ArePlain, device_data, link_data, row_members, row_data, rows_listed, plan_members, plan_data}

-- plain, and no deeper than n
record IsFlat (n : ℕ) (d : Data) : Type 0 where
  plain : IsPlain d
  shallow : depth d ≤ n

record AreFlat (n : ℕ) (ds : Items) : Type 0 where
  plain : ArePlain ds
  shallow : items_depth ds ≤ n

flat_map_of : (f : ℕ → Data) → ((n : ℕ) → IsFlat 0 (f n)) → (ns : List ℕ) → AreFlat 0 (items_of (map f ns))
flat_map_of f flat [] = record { plain = tt; shallow = omega arith }
flat_map_of f flat (n ∷ ns) =
    let first = flat n in
    let rest = flat_map_of f flat ns in
    record { plain = (first.plain, rest.plain); shallow = omega (arith, first.shallow, rest.shallow) }

row_flat : (net : Network) (d : ℕ) (row : PlanRow) (o : Option Hop) → row.backup ≡ o → IsFlat 1 (row_data net d row)
unfolding row_members
row_flat net d row None is = rw is (record { plain = (tt, (tt, (tt, tt))); shallow = omega arith })
row_flat net d row (Some hop) is = rw is (record { plain = (tt, (tt, (tt, (tt, (tt, tt))))); shallow = omega arith })

rows_flat : (net : Network) (plan : PlanShown) (ds : List ℕ) → AreFlat 1 (items_of (rows_listed net plan ds))
rows_flat net plan [] = record { plain = tt; shallow = omega arith }
rows_flat net plan (d ∷ ds) = by (row_of plan d) (rows_listed net plan ds) (rows_flat net plan ds)
  where
    by : (o : Option PlanRow) (xs : List Data) → AreFlat 1 (items_of xs) → AreFlat 1 (items_of (cons_option (option_map (row_data net d) o) xs))
    by None xs rest = rest
    by (Some row) xs rest =
        let first = row_flat net d row row.backup refl in
        record { plain = (first.plain, rest.plain); shallow = omega (arith, first.shallow, rest.shallow) }

name_flat : (name : List ℕ) → IsFlat 0 (string name)
name_flat name = record { plain = tt; shallow = omega arith }

pub plan_plain : (net : Network) (plan : PlanShown) → Fits net plan → IsPlain (plan_data net plan)
unfolding plan_members
plan_plain net plan fits =
    let devices = flat_map_of (device_data net) (λ d. name_flat (name_at (device_names net) d)) plan.absent.devices in
    let links = flat_map_of (link_data net) (λ l. name_flat (name_at (link_names net) l)) plan.absent.links in
    let rows = rows_flat net plan (device_numbers net) in
    let first : plan.wait_first < 2 ^ 64 = omega (arith, fits.waits.0) in
    let second : plan.wait_second < 2 ^ 64 = omega (arith, fits.waits.1) in
    let last : plan.wait < 2 ^ 64 = omega (arith, fits.waits.2) in
    let one : 1 < 2 ^ 64 = omega arith in
    (devices.plain, (links.plain, (tt, (tt, (rows.plain, (one, (last, (first, (second, tt)))))))))

pub plan_depth : (net : Network) (plan : PlanShown) → depth (plan_data net plan) ≤ max_depth
unfolding plan_members
plan_depth net plan =
    let devices = flat_map_of (device_data net) (λ d. name_flat (name_at (device_names net) d)) plan.absent.devices in
    let links = flat_map_of (link_data net) (λ l. name_flat (name_at (link_names net) l)) plan.absent.links in
    let rows = rows_flat net plan (device_numbers net) in
    omega (arith, devices.shallow, links.shallow, rows.shallow)

-- what is left out lies below the bound
pub absent_within : (bound : ℕ) (xs ys : List ℕ) → IsTrue (ascends ys && all_below bound ys) → xs ≡ ys → All (λ x. x < bound) xs
absent_within bound xs ys tests same =
    subst (λ (zs : List ℕ). All (λ x. x < bound) zs) (sym same) (within_all bound ys (and_parts (ascends ys) (all_below bound ys) tests).1)
