-- A link of a plan's hop to a device has one device that follows over it.
use Rattle.std.specs.Prelude.{◌≡◌, ℕ, ◌<◌, true, ◌&&◌, length, nat_eq, slice_get, Option, Some, None, option_map, ◌⊎◌, refl}
use Rattle.std.proofs.Common.{sym, ◌∙◌, subst, inl, inr}
use Rattle.std.proofs.lemmas.Bool.{and_parts, or_cases, eqb-true}
use Rattle.std.proofs.lemmas.Option.{slice_get_within}
use Rattle.sd_num.specs.Lists.{map_or}
use Rattle.sd_plan.specs.topo.Network.{Network, joins, link_of}
use Rattle.sd_plan.specs.declared.Hop.{Hop}
use Rattle.sd_plan.specs.declared.Plan.{Plan}
use Rattle.sd_plan.specs.declared.PlanRow.{PlanRow}
use Rattle.sd_plan.specs.Plans.{Fits, primary_of, backup_of}
use Rattle.sd_plan.specs.Duties.{leads_to, follows_over}
use Rattle.sd_plan.proofs.Rules.{KeepsRules, both_led}

-- who has a hop is a device of the network
row_within : (plan : Plan) (c : ℕ) (o : Option (Option PlanRow)) → slice_get plan.rows c ≡ o → (f : PlanRow → Option Hop) (d l : ℕ)
    → leads_to d l (map_or (map_or o None (λ row. row)) None f) ≡ true → c < length plan.rows
row_within plan c None at f d l leads = cc
row_within plan c (Some row) at f d l leads = slice_get_within plan.rows c row at

leads_within : (plan : Plan) (c x l : ℕ) → follows_over plan x l c ≡ true → c < length plan.rows
leads_within plan c x l follows = go (or_cases (leads_to x l (primary_of plan c)) (leads_to x l (backup_of plan c)) follows)
  where
    as_primary : (o : Option (Option PlanRow)) → slice_get plan.rows c ≡ o → leads_to x l (option_map (λ row. row.primary) (map_or o None (λ row. row))) ≡ true
        → c < length plan.rows
    as_primary None at leads = cc
    as_primary (Some row) at leads = slice_get_within plan.rows c row at

    go : (leads_to x l (primary_of plan c) ≡ true) ⊎ (leads_to x l (backup_of plan c) ≡ true) → c < length plan.rows
    go (inl leads) = as_primary (slice_get plan.rows c) refl leads
    go (inr leads) = row_within plan c (slice_get plan.rows c) refl (λ row. row.backup) x l leads

module _ (net : Network) (plan : Plan) (fits : Fits net plan) (rules : KeepsRules net plan) where
  follows_joins : (x l c : ℕ) → follows_over plan x l c ≡ true → joins net l c x ≡ true
  follows_joins x l c follows =
      let led = both_led net plan x l c rules (subst (λ n. c < n) fits.entries (leads_within plan c x l follows)) in
      elim (or_cases (leads_to x l (primary_of plan c)) (leads_to x l (backup_of plan c)) follows) [ inl h ↦ led.0 h | inr h ↦ led.1 h ]

  ends_are : (l d e : ℕ) → joins net l d e ≡ true → ((link_of net l).end_a ≡ d) × ((link_of net l).end_b ≡ e) ⊎ ((link_of net l).end_a ≡ e)
      × ((link_of net l).end_b ≡ d)
  ends_are l d e h =
      elim (or_cases (nat_eq (link_of net l).end_a d && nat_eq (link_of net l).end_b e) (nat_eq (link_of net l).end_a e && nat_eq (link_of net l).end_b d) h) [
        | inl one ↦ (let p = and_parts _ _ one in inl (eqb-true (link_of net l).end_a d p.0, eqb-true (link_of net l).end_b e p.1))
        | inr two ↦ (let p = and_parts _ _ two in inr (eqb-true (link_of net l).end_a e p.0, eqb-true (link_of net l).end_b d p.1))
      ]

  same_by : (a b x c y : ℕ) → (a ≡ c) × (b ≡ x) ⊎ (a ≡ x) × (b ≡ c) → (a ≡ y) × (b ≡ x) ⊎ (a ≡ x) × (b ≡ y) → c ≡ y
  same_by a b x c y (inl p) (inl q) = sym p.0 ∙ q.0
  same_by a b x c y (inl p) (inr q) = sym p.0 ∙ q.0 ∙ sym p.1 ∙ q.1
  same_by a b x c y (inr p) (inl q) = sym p.1 ∙ q.1 ∙ sym p.0 ∙ q.0
  same_by a b x c y (inr p) (inr q) = sym p.1 ∙ q.1

  pub alone : (x l y c : ℕ) → follows_over plan x l y ≡ true → follows_over plan x l c ≡ true → c ≡ y
  alone x l y c one two =
      same_by (link_of net l).end_a (link_of net l).end_b x c y (ends_are l c x (follows_joins x l c two)) (ends_are l y x (follows_joins x l y one))
