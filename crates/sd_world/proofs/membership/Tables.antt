-- The tables of plans that can be followed: their rows are sound.
use Rattle.std.specs.Prelude.{◌≡◌, ℕ, zero, suc, ◌+◌, ◌-◌, ◌/◌, ◌^◌, ◌<◌, ◌≤◌, Bool, true, false, List, [], ◌∷◌, ◌++◌, length, filter_map, find, nat_eq, slice_get, Option, Some, None, option_map, IfSome, refl, if◌then◌else◌}
use Rattle.std.proofs.Common.{ap, ◌∙◌, sym, subst, arith, inl, inr, get_or}
use Rattle.std.proofs.lemmas.Bool.{cases_lt, or_cases, eq-eqb}
use Rattle.std.specs.List.{cons_option}
use Rattle.std.proofs.lemmas.List.{append-nil}
use Rattle.std.proofs.lemmas.List.Elements.{filter_map-append}
use Rattle.std.proofs.lemmas.Option.{slice_get-get_or, slice_get_past, same_Some}
use Rattle.sd_num.specs.Lists.{below, map_or}
use Rattle.sd_num.proofs.Places.{at_cases}
use Rattle.sd_plan.specs.topo.Network.{Network, Each, device_numbers, link_of}
use Rattle.sd_plan.specs.topo.Limits.{IsNetwork, IsLink}
use Rattle.sd_plan.proofs.topo.Laws.{found_at, rates_law, link_law, joined_end}
use Rattle.sd_plan.specs.declared.Plan.{Plan}
use Rattle.sd_plan.specs.declared.Hop.{Hop}
use Rattle.sd_plan.specs.declared.End.{End}
use Rattle.sd_plan.specs.declared.Role.TheVariants.{Root, BackupRoot, Ordinary}
use Rattle.sd_plan.specs.Plans.{Fits, is_member, is_backup_root, primary_of, backup_of}
use Rattle.sd_plan.specs.Duties.{role_of, edge_of, duty_of, leads_to, follows_over, ends_of}
use Rattle.sd_plan.specs.Tables.{TableRow, EndsAt, table_of, row_at, end_over}
use Rattle.sd_plan.proofs.Numbered.{length-below, found_passes}
use Rattle.sd_plan.proofs.Rules.{KeepsRules, keeps_rules, both_led, both_end}
use Rattle.sd_plan.proofs.TableLaws.{length-table, row_at-table}
use Rattle.sd_device.specs.Limits.{IsEdge, IsDuty}
use Rattle.sd_world.specs.declared.membership.plans.NumberedPlan.{NumberedPlan}
use Rattle.sd_history.specs.World.{Setting, no_plan, plan_numbered}
use Rattle.sd_world.specs.membership.Plans.{IsFollowable, AreSound, IsNumber, IsEnd, IsSoundRow, AreTables, numbered, root_numbered, row_numbered}
use Rattle.sd_world.proofs.membership.ByNumber.{length-plans, table_is, root_is}

-- The duty

bounds_fit : (min max : ℕ) → min ≤ max → max ≤ 10 ^ 12 → ((min + max) / 2 ≤ 10 ^ 12) × (max - (min + max) / 2 ≤ 10 ^ 12)
bounds_fit min max order most = (omega arith, omega arith)

edge_fits : (net : Network) (d : ℕ) (hop : Hop) → IsNetwork net → EndsAt net d hop → IsEdge (edge_of net d hop)
edge_fits net d hop law ends = go (nat_eq d (link_of net hop.link).end_b) refl
  where
    link : IsLink (length net.devices) (link_of net hop.link)
    link = link_law net hop.link law ends.0

    go : (b : Bool) → nat_eq d (link_of net hop.link).end_b ≡ b → IsEdge (edge_of net d hop)
    go true towards =
        let fit = bounds_fit (link_of net hop.link).min (link_of net hop.link).max link.bounds.0 link.bounds.1 in
        record { mid = rw towards fit.0; half = rw towards fit.1 }
    go false away =
        let fit = bounds_fit (link_of net hop.link).back_min (link_of net hop.link).back_max link.back_bounds.0 link.back_bounds.1 in
        record { mid = rw away fit.0; half = rw away fit.1 }

edges_fit : (net : Network) (d : ℕ) (hop : Option Hop) → IsNetwork net → IfSome hop (EndsAt net d) → IfSome (option_map (edge_of net d) hop) IsEdge
edges_fit net d None law ends = tt
edges_fit net d (Some hop) law ends = edge_fits net d hop law ends

duty_fits : (net : Network) (plan : Plan) (epoch d : ℕ) → IsNetwork net → Fits net plan → KeepsRules net plan → 1 ≤ epoch → d < length net.devices
    → IsDuty (duty_of net plan epoch d)
duty_fits net plan epoch d law fits rules first within =
    let ends = both_end net plan d fits rules within in
    record {
      epoch = first;
      rates = rates_law net d law within;
      primary = edges_fit net d (primary_of plan d) law ends.0;
      backup = edges_fit net d (backup_of plan d) law ends.1;
    }

-- The ends below a device

-- what is made of the numbers below a bound
each_made : (P : End → Type 0) (f : ℕ → Option End) (n : ℕ) → ((l : ℕ) (e : End) → l < n → f l ≡ Some e → P e) → Each P (filter_map f (below n))
each_made P f zero made i x at = cc
each_made P f (suc n) made i x at =
    by (f n) refl (each_made P f n (λ l e within is. made l e (omega arith) is) i x)
    (ap (λ (ys : List End). slice_get ys i) (sym (filter_map-append f (below n) (n ∷ []))) ∙ at)
  where
    by : (o : Option End) → f n ≡ o → (slice_get (filter_map f (below n)) i ≡ Some x → P x)
        → slice_get (filter_map f (below n) ++ cons_option (f n) []) i ≡ Some x → P x
    by None none before at' = before (ap (λ (ys : List End). slice_get ys i) (sym (append-nil (filter_map f (below n)))) ∙ (rw none at at'))
    by (Some e) some before at' =
        elim (at_cases (filter_map f (below n)) e i x (rw some at at')) [
          | inl early ↦ before early
          | inr last ↦ subst P (sym last.1) (made n e (omega arith) some)
        ]

few_made : (f : ℕ → Option End) (xs : List ℕ) → length (filter_map f xs) ≤ length xs
few_made f [] = omega arith
few_made f (x ∷ xs) = by (f x) (few_made f xs)
  where
    by : (o : Option End) → length (filter_map f xs) ≤ length xs → length (cons_option o (filter_map f xs)) ≤ suc (length xs)
    by None few = omega arith
    by (Some e) few = omega arith

-- over a link some device follows d, and it is an end of the link
end_fits : (net : Network) (plan : Plan) (d l : ℕ) (e : End) → KeepsRules net plan → l < length net.links → end_over net plan d l ≡ Some e → IsEnd net e
end_fits net plan d l e rules within over = by (find (follows_over plan d l) (device_numbers net)) refl over
  where
    fits : (c : ℕ) → find (follows_over plan d l) (device_numbers net) ≡ Some c → IsEnd net (record { link = l; device = c })
    fits c found =
        let (known, follows) = found_passes (follows_over plan d l) (length net.devices) c found in
        let led = both_led net plan d l c rules known in
        record {
          link = within;
          device =
              joined_end net l c d
              (elim (or_cases (leads_to d l (primary_of plan c)) (leads_to d l (backup_of plan c)) follows)
              [ inl primary ↦ led.0 primary | inr backup ↦ led.1 backup ]);
        }

    by : (o : Option ℕ) → find (follows_over plan d l) (device_numbers net) ≡ o → option_map (λ c. record { link = l; device = c }) o ≡ Some e → IsEnd net e
    by None none over' = cc
    by (Some c) found over' = subst (IsEnd net) (same_Some (record { link = l; device = c }) e over') (fits c found)

row_fits : (net : Network) (plan : Plan) (epoch d : ℕ) → IsNetwork net → Fits net plan → KeepsRules net plan → 1 ≤ epoch → d < length net.devices
    → IsSoundRow net (record { duty = duty_of net plan epoch d; downstream = ends_of net plan d })
row_fits net plan epoch d law fits rules first within =
    record {
      duty = duty_fits net plan epoch d law fits rules first within;
      ends = each_made (IsEnd net) (end_over net plan d) (length net.links) (λ l e inside over. end_fits net plan d l e rules inside over);
      few = (let most = few_made (end_over net plan d) (below (length net.links)) in let size = length-below (length net.links) in omega arith);
    }

-- The tables

-- a row that there is
pub row_there : (net : Network) (plan : Plan) (epoch d : ℕ) (row : TableRow) → row_at (table_of net plan epoch) d ≡ Some row
    → (d < length net.devices) × (row ≡ record { duty = duty_of net plan epoch d; downstream = ends_of net plan d })
row_there net plan epoch d row at =
    elim (cases_lt d (length net.devices)) [
      | inl within ↦ (within, by (is_member plan d) (sym (row_at-table net plan epoch d within) ∙ at))
      | inr past ↦
          (let nothing : row_at (table_of net plan epoch) d ≡ None =
          ap (λ (o : Option (Option TableRow)). map_or o None (λ r. r))
          (slice_get_past (table_of net plan epoch) d (let size = length-table net plan epoch in omega arith))
          in
          cc)
    ]
  where
    by : (b : Bool)
        → option_map (λ duty. record { duty = duty; downstream = ends_of net plan d }) (if b then Some (duty_of net plan epoch d) else None) ≡ Some row
        → row ≡ record { duty = duty_of net plan epoch d; downstream = ends_of net plan d }
    by true some = sym (same_Some (record { duty = duty_of net plan epoch d; downstream = ends_of net plan d }) row some)
    by false some = cc

-- a plan with a number can be followed
pub followable : (setting : Setting) (epoch : ℕ) → AreSound setting.net setting.plans → IsNumber (numbered setting.net setting.plans) epoch
    → IsFollowable setting.net (plan_numbered setting epoch)
followable setting epoch sound number =
    let size = length-plans setting.net setting.plans in
    let first = number.first in
    let last = number.last in
    let within : epoch - 1 < length setting.plans = omega arith in
    subst (IsFollowable setting.net) (sym (found_at setting.plans (epoch - 1) no_plan no_plan (λ plan. plan) within))
    (sound (epoch - 1) (get_or setting.plans (epoch - 1) no_plan) (slice_get-get_or setting.plans (epoch - 1) no_plan within))

root_role : (plan : Plan) → role_of plan plan.root ≡ Root
root_role plan = ap (λ (b : Bool). if b then Root else if is_backup_root plan plan.root then BackupRoot else Ordinary) (eq-eqb plan.root plan.root refl)

module _ (setting : Setting) (law : IsNetwork setting.net) (sound : AreSound setting.net setting.plans) where
  abbrev plans : List NumberedPlan
  plans = numbered setting.net setting.plans

  -- a row of the plan with a number
  there_is : (epoch d : ℕ) (row : TableRow) → IsNumber plans epoch → row_numbered plans epoch d ≡ Some row
      → (d < length setting.net.devices)
      × (row ≡ record {
        duty = duty_of setting.net (plan_numbered setting epoch) epoch d;
        downstream = ends_of setting.net (plan_numbered setting epoch) d;
      })
  there_is epoch d row number at =
      row_there setting.net (plan_numbered setting epoch) epoch d row
      (ap (λ (t : List (Option TableRow)). row_at t d) (sym (table_is setting epoch number)) ∙ at)

  row_sound : (epoch d : ℕ) (row : TableRow) → IsNumber plans epoch → row_numbered plans epoch d ≡ Some row → IsSoundRow setting.net row
  row_sound epoch d row number at =
      let there = there_is epoch d row number at in
      let follows = followable setting epoch sound number in
      subst (IsSoundRow setting.net) (sym there.1)
      (row_fits setting.net (plan_numbered setting epoch) epoch d law follows.fits
      (keeps_rules setting.net (plan_numbered setting epoch) follows.structured) number.first there.0)

  root_row : (epoch : ℕ) (row : TableRow) → IsNumber plans epoch → row_numbered plans epoch (root_numbered plans epoch) ≡ Some row → row.duty.role ≡ Root
  root_row epoch row number at =
      ap (λ (r : TableRow). r.duty.role) (there_is epoch (root_numbered plans epoch) row number at).1
      ∙ ap (role_of (plan_numbered setting epoch)) (root_is setting epoch number)
      ∙ root_role (plan_numbered setting epoch)

  pub tables_fit : AreTables setting.net plans
  tables_fit =
      record {
        places = λ epoch number. ap (λ (t : List (Option TableRow)). length t) (table_is setting epoch number)
            ∙ length-table setting.net (plan_numbered setting epoch) epoch;
        rows = row_sound;
        numbers = λ epoch d row number at. ap (λ (r : TableRow). r.duty.epoch) (there_is epoch d row number at).1;
        roots = root_row;
      }
