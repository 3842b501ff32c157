-- Which hops a device may be on, by its row.
use Rattle.std.specs.Prelude.{◌≡◌, ℕ, ◌<◌, Bool, true, false, ◌&&◌, not, List, [], ◌∷◌, ◌++◌, length, nat_eq, Option, Some, None, option_to_list, if◌then◌else◌}
use Rattle.std.specs.List.{list_any, slice_get}
use Rattle.std.proofs.Common.{refl, sym, ◌∙◌, subst, ◌⊎◌, inl, inr}
use Rattle.std.proofs.lemmas.Bool.{or_cases, or_left, or_right, eqb-true, eq-eqb}
use Rattle.std.proofs.lemmas.List.Folds.{list_any-append}
use Rattle.std.proofs.lemmas.Option.{slice_get_within}
use Rattle.sd_num.specs.Lists.{map_or}
use Rattle.sd_plan.specs.topo.Network.{Network}
use Rattle.sd_plan.specs.declared.domain.DomainId.{DomainId}
use Rattle.sd_plan.specs.declared.Hop.{Hop}
use Rattle.sd_plan.specs.declared.Plan.{Plan}
use Rattle.sd_plan.specs.declared.PlanRow.{PlanRow}
use Rattle.sd_plan.specs.Plans.{is_member, row_of, has_row, primary_of, backup_of}
use Rattle.sd_plan.specs.Walks.{ends_walks, is_hit}
use Rattle.sd_plan.proofs.Forest.{IsParent, one_parent}
use Rattle.sd_checker.specs.check_loop.Loops.{same_hop}
use Rattle.sd_checker.specs.check_loop.ShownCycles.{LeadsTo}
use Rattle.sd_checker.proofs.check_loop.Shared.{primary_row}

-- of hops, one that leads to the device
pub any_parent : (hs : List Hop) (e : ℕ) → list_any (λ hop. nat_eq hop.parent e) hs ≡ true
    → (hop : Hop) × (list_any (same_hop hop) hs ≡ true) × (hop.parent ≡ e)
any_parent [] e some = cc
any_parent (hop ∷ hs) e some =
    elim (or_cases (nat_eq hop.parent e) (list_any (λ h. nat_eq h.parent e) hs) some) [
      | inl here ↦ (hop, or_left (same_hop hop hop) (list_any (same_hop hop) hs) (itself hop), eqb-true hop.parent e here)
      | inr later ↦ (let rest = any_parent hs e later in (rest.0, or_right (same_hop rest.0 hop) (list_any (same_hop rest.0) hs) rest.1, rest.2))
    ]
  where
    itself : (h : Hop) → same_hop h h ≡ true
    itself h = rw (eq-eqb h.parent h.parent refl, eq-eqb h.link h.link refl) refl

parent_one : (o : Option Hop) (e : ℕ) → IsParent o e → list_any (λ hop. nat_eq hop.parent e) (option_to_list o) ≡ true
parent_one o e parent =
    subst (λ (found : Option Hop). list_any (λ hop. nat_eq hop.parent e) (option_to_list found) ≡ true) (sym parent.1)
    (or_left (nat_eq parent.0.parent e) false (eq-eqb parent.0.parent e parent.2))

-- the hops by what is known of a device
abbrev hops_by : Bool → Bool → Bool → Option Hop → Option Hop → List Hop
hops_by member ends hit primary backup =
    if member && not ends then option_to_list primary ++ (if hit then option_to_list backup else []) else []

-- one of the two hops leads to the device, the backup only where the domain hits
abbrev pub OneLeads : Bool → Option Hop → Option Hop → ℕ → Type 0
OneLeads hit primary backup e = IsParent primary e ⊎ ((hit ≡ true) × IsParent backup e)

-- what is known where one of the hops leads to the device
pub record Led (member ends hit : Bool) (primary backup : Option Hop) (e : ℕ) : Type 0 where
  pub member_is : member ≡ true
  pub ends_not : ends ≡ false
  pub parent : OneLeads hit primary backup e

led_by : (member ends hit : Bool) (primary backup : Option Hop) (e : ℕ) → list_any (λ hop. nat_eq hop.parent e) (hops_by member ends hit primary backup) ≡ true
    → Led member ends hit primary backup e
led_by false ends hit primary backup e some = cc
led_by true true hit primary backup e some = cc
led_by true false true primary backup e some =
    elim (or_cases (list_any (λ hop. nat_eq hop.parent e) (option_to_list primary)) (list_any (λ hop. nat_eq hop.parent e) (option_to_list backup))
    (sym (list_any-append (λ hop. nat_eq hop.parent e) (option_to_list primary) (option_to_list backup)) ∙ some)) [
      | inl here ↦ record { member_is = refl; ends_not = refl; parent = inl (one_parent primary e here) }
      | inr there ↦ record { member_is = refl; ends_not = refl; parent = inr (refl, one_parent backup e there) }
    ]
led_by true false false primary backup e some =
    elim (or_cases (list_any (λ hop. nat_eq hop.parent e) (option_to_list primary)) false
    (sym (list_any-append (λ (hop : Hop). nat_eq hop.parent e) (option_to_list primary) []) ∙ some)) [
      | inl here ↦ record { member_is = refl; ends_not = refl; parent = inl (one_parent primary e here) }
      | inr none ↦ absurd (wrong none)
    ]
  where
    wrong : false ≡ true → ⊥
    wrong same = cc

by_led : (member ends hit : Bool) (primary backup : Option Hop) (e : ℕ) → Led member ends hit primary backup e
    → list_any (λ hop. nat_eq hop.parent e) (hops_by member ends hit primary backup) ≡ true
by_led member ends hit primary backup e led =
    subst (λ (b : Bool). list_any (λ hop. nat_eq hop.parent e) (hops_by b ends hit primary backup) ≡ true) (sym led.member_is)
    (subst (λ (b : Bool). list_any (λ hop. nat_eq hop.parent e) (hops_by true b hit primary backup) ≡ true) (sym led.ends_not)
    (list_any-append (λ hop. nat_eq hop.parent e) (option_to_list primary) (if hit then option_to_list backup else []) ∙ elim led.parent [
      | inl here ↦ or_left (list_any (λ hop. nat_eq hop.parent e) (option_to_list primary))
          (list_any (λ hop. nat_eq hop.parent e) (if hit then option_to_list backup else [])) (parent_one primary e here)
      | inr there ↦ or_right (list_any (λ hop. nat_eq hop.parent e) (option_to_list primary))
          (list_any (λ hop. nat_eq hop.parent e) (if hit then option_to_list backup else []))
          (subst (λ (b : Bool). list_any (λ hop. nat_eq hop.parent e) (if b then option_to_list backup else []) ≡ true) (sym there.0)
          (parent_one backup e there.1))
    ]))

module _ (net : Network) (plan : Plan) (domain : DomainId) where
  abbrev pub IsLed : ℕ → ℕ → Type 0
  IsLed d e = Led (is_member plan d) (ends_walks plan d) (is_hit net plan domain d) (primary_of plan d) (backup_of plan d) e

  pub led : (d e : ℕ) → LeadsTo net plan domain d e → IsLed d e
  led d e some = led_by (is_member plan d) (ends_walks plan d) (is_hit net plan domain d) (primary_of plan d) (backup_of plan d) e some

  pub leads_to : (d e : ℕ) → IsLed d e → LeadsTo net plan domain d e
  leads_to d e led = by_led (is_member plan d) (ends_walks plan d) (is_hit net plan domain d) (primary_of plan d) (backup_of plan d) e led

backup_row : (o : Option PlanRow) (hop : Hop) → map_or o None (λ row. row.backup) ≡ Some hop → map_or o false (λ row. true) ≡ true
backup_row None hop is = cc
backup_row (Some row) hop is = refl

pub has_primary_row : (plan : Plan) (d e : ℕ) → IsParent (primary_of plan d) e → has_row plan d ≡ true
has_primary_row plan d e parent = primary_row (row_of plan d) parent.0 parent.1

pub has_backup_row : (plan : Plan) (d e : ℕ) → IsParent (backup_of plan d) e → has_row plan d ≡ true
has_backup_row plan d e parent = backup_row (row_of plan d) parent.0 parent.1

-- a row stands at a device
pub row_within : (plan : Plan) (d : ℕ) → has_row plan d ≡ true → d < length plan.rows
row_within plan d there = by (slice_get plan.rows d) refl there
  where
    by : (o : Option (Option PlanRow)) → slice_get plan.rows d ≡ o → map_or (map_or o None (λ row. row)) false (λ row. true) ≡ true → d < length plan.rows
    by None at some = cc
    by (Some row) at some = slice_get_within plan.rows d row at

pub led_row : (net : Network) (plan : Plan) (domain : DomainId) (d e : ℕ) → IsLed net plan domain d e → has_row plan d ≡ true
led_row net plan domain d e led = elim led.parent [ inl here ↦ has_primary_row plan d e here | inr there ↦ has_backup_row plan d e there.1 ]
