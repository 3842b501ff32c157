-- Lemmas that several crates above share.
use Rattle.std.specs.Prelude.{◌≡◌, true, List, [], ◌∷◌, nat_eq, false, Option, Some, None, option_map, ℕ}
use Rattle.std.specs.List.{list_any}
use Rattle.std.proofs.Common.{sym, inl, inr, refl}
use Rattle.std.proofs.lemmas.Bool.{and_parts, or_cases, or_left, or_right, eqb-true, eq-eqb, or_parts}
use Rattle.sd_num.specs.Lists.{map_or}
use Rattle.sd_plan.specs.declared.Hop.{Hop}
use Rattle.sd_plan.specs.declared.PlanRow.{PlanRow}
use Rattle.sd_plan.specs.declared.Plan.{Plan}
use Rattle.sd_plan.specs.Plans.{is_root, is_backup_root}
use Rattle.sd_plan.specs.Walks.{ends_walks}
use Rattle.sd_checker.specs.check_loop.Loops.{same_hop}

-- one of the hops leads where it leads
pub parent_any : (hs : List Hop) (hop : Hop) → list_any (same_hop hop) hs ≡ true → list_any (λ h. nat_eq h.parent hop.parent) hs ≡ true
parent_any [] hop some = some
parent_any (h ∷ hs) hop some =
    elim (or_cases (same_hop hop h) (list_any (same_hop hop) hs) some) [
      | inl here ↦ or_left (nat_eq h.parent hop.parent) (list_any (λ x. nat_eq x.parent hop.parent) hs)
          (eq-eqb h.parent hop.parent (sym (eqb-true hop.parent h.parent (and_parts (nat_eq hop.parent h.parent) (nat_eq hop.link h.link) here).0)))
      | inr later ↦ or_right (nat_eq h.parent hop.parent) (list_any (λ x. nat_eq x.parent hop.parent) hs) (parent_any hs hop later)
    ]

-- a hop is there only in a row
pub primary_row : (o : Option PlanRow) (hop : Hop) → option_map (λ row. row.primary) o ≡ Some hop → map_or o false (λ row. true) ≡ true
primary_row None hop is = cc
primary_row (Some row) hop is = refl

-- a device that ends no walk is not the root
pub not_root : (plan : Plan) (d : ℕ) → ends_walks plan d ≡ false → is_root plan d ≡ false
not_root plan d other = (or_parts (is_root plan d) (is_backup_root plan d) other).0
