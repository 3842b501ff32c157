-- The plan of the fabric speaks of every network of its shape, and is right over it.
use Rattle.std.proofs.Common.{◌≡◌, ◌∙◌, None, ℕ, ◌<◌, List, [], ◌∷◌, Option, Some, refl, sym, ap, subst, arith, length, All}
use Rattle.std.specs.Prelude.{IfSome}
use Rattle.std.proofs.lemmas.List.Elements.{All-nil, All-cons}
use Rattle.sd_plan.specs.topo.Network.{Network}
use Rattle.sd_plan.proofs.topo.Lists.{each_of}
use Rattle.sd_plan.specs.Examples.{IsFabric, fabric_plan, hop, row}
use Rattle.sd_plan.specs.Plans.{Fits, IsHop, IsRow}
use Rattle.sd_plan.specs.Structure.{structure_breach}
use Rattle.sd_plan.specs.Tables.{table_of}
use Rattle.sd_plan.specs.IndexedPlan.{IndexedPlan, IsIndexOf, carried_over}
use Rattle.sd_plan.proofs.Numbered.{length-numbered}
use Rattle.sd_plan.proofs.TableLaws.{length-table}
use Rattle.sd_plan.specs.declared.Hop.{Hop}
use Rattle.sd_plan.specs.declared.PlanRow.{PlanRow}

-- a row whose two hops are there
pub is_row_of_two : (net : Network) (primary backup : Hop) → IsHop net primary → IsHop net backup
    → IsRow net (Some (record { primary = primary; backup = Some backup }))
is_row_of_two net primary backup one two = (one, λ h is. subst (λ (found : Option Hop). IfSome found (IsHop net)) is two)

-- a hop below given bounds
within : (net : Network) (parent link devices links : ℕ) → length net.devices ≡ devices → length net.links ≡ links → parent < devices → link < links
    → IsHop net (hop parent link)
within net parent link devices links is are p l = (subst (λ (n : ℕ). parent < n) (sym is) p, subst (λ (n : ℕ). link < n) (sym are) l)

-- each row of a list fits
abbrev pub RowsFit : Network → List (Option PlanRow) → Type 0
RowsFit net [] = Unit {0}
RowsFit net (row ∷ rows) = IsRow net row × RowsFit net rows

all_rows : (net : Network) (rows : List (Option PlanRow)) → RowsFit net rows → All (IsRow net) rows
all_rows net [] fit = All-nil (IsRow net)
all_rows net (row ∷ rows) fit = All-cons (IsRow net) row rows fit.0 (all_rows net rows fit.1)

-- the fabric's plan speaks of it
pub fabric_fits : (net : Network) → IsFabric net → Fits net fabric_plan
fabric_fits net fabric =
    let five : length net.devices ≡ 5 = fabric.devices in
    let six : length net.links ≡ 6 = fabric.links in
    let is : (parent link : ℕ) → parent < 5 → link < 6 → IsHop net (hop parent link) = λ parent link p l. within net parent link 5 6 five six p l in
    let second : IsRow net (row (hop 2 3) (Some (hop 3 4))) =
    is_row_of_two net (hop 2 3) (hop 3 4) (is 2 3 (omega arith) (omega arith)) (is 3 4 (omega arith) (omega arith)) in
    let third : IsRow net (row (hop 0 0) (Some (hop 1 3))) =
    is_row_of_two net (hop 0 0) (hop 1 3) (is 0 0 (omega arith) (omega arith)) (is 1 3 (omega arith) (omega arith)) in
    let fourth : IsRow net (row (hop 0 1) (Some (hop 1 4))) =
    is_row_of_two net (hop 0 1) (hop 1 4) (is 0 1 (omega arith) (omega arith)) (is 1 4 (omega arith) (omega arith)) in
    let fifth : IsRow net (row (hop 0 2) (Some (hop 1 5))) =
    is_row_of_two net (hop 0 2) (hop 1 5) (is 0 2 (omega arith) (omega arith)) (is 1 5 (omega arith) (omega arith)) in
    record {
      root = omega arith;
      backup_root = omega arith;
      entries = sym five;
      rows = each_of (IsRow net) fabric_plan.rows (all_rows net fabric_plan.rows (tt, (second, (third, (fourth, (fifth, tt))))));
      waits = (omega arith, omega arith, omega arith);
      absent_devices = refl;
      absent_links = refl;
    }

-- the structure of the fabric's plan is right over it
pub fabric_structured : (net : Network) → IsFabric net → structure_breach net fabric_plan ≡ None
fabric_structured net is =
    rw (is.devices, is.depth, is.a1.0, is.a1.1, is.a2.0, is.a2.1, is.a3.0, is.a3.1, is.b1.0, is.b1.1, is.b2.0, is.b2.1, is.b3.0, is.b3.1) refl

-- the table of the fabric's plan has a row for each of its devices
pub fabric_rows : (net : Network) (epoch : ℕ) → IsFabric net → length (table_of net fabric_plan epoch) ≡ 5
fabric_rows net epoch is = length-table net fabric_plan epoch ∙ is.devices

-- its index has a span for each device
pub fabric_spans : (net : Network) (index : IndexedPlan) → IsIndexOf net fabric_plan index → IsFabric net → length index.spans ≡ 5
fabric_spans net index law is = law.spans ∙ is.devices

-- and perhaps a device for each link
pub fabric_carried : (net : Network) (index : IndexedPlan) → IsIndexOf net fabric_plan index → IsFabric net → length index.carried ≡ 6
fabric_carried net index law is = ap length law.carried ∙ length-numbered (carried_over net fabric_plan) (length net.links) ∙ is.links
