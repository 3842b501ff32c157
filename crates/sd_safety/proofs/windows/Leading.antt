-- Where each new device other than the staged root is on its primary and its parent is new, parents lead from each to the staged root in at most H
-- steps: they are the primary hops of the staged plan (C9 d).
use Rattle.std.specs.Prelude.{◌≡◌, ℕ, zero, suc, ◌≤◌, Bool, true, false, ◌&&◌, ◌||◌, not, List, [], ◌∷◌, Option, Some, None, is_some, option_map, option_and_then, refl, if◌then◌else◌}
use Rattle.std.proofs.Common.{arith, ◌∙◌, ap, sym}
use Rattle.std.proofs.lemmas.Bool.{eqb-true}
use Rattle.sd_num.specs.Lists.{map_or, follow}
use Rattle.sd_plan.specs.declared.Hop.{Hop}
use Rattle.sd_plan.specs.declared.Duty.{Duty}
use Rattle.sd_plan.specs.Plans.{is_member, is_root, has_row, row_of, primary_of}
use Rattle.sd_plan.specs.Walks.{hops, walk, end_of}
use Rattle.sd_plan.specs.Duties.{edge_of}
use Rattle.sd_plan.proofs.Rules.{KeepsRules, member_is}
use Rattle.sd_checker.proofs.check_loop.Shared.{primary_row}
use Rattle.sd_device.specs.Words.{duty_now, is_acting, has_moved, primary_now, backup_now}
use Rattle.sd_sched.specs.declared.Event.{Event}
use Rattle.sd_history.specs.World.{Setting, staged_epoch, plan_numbered}
use Rattle.sd_history.specs.Steps.{Step, seen_of, live_answers, parent_in, acts_in}
use Rattle.sd_history.specs.Chronicle.{answers_by, past_in, chronicle}
use Rattle.sd_history.specs.Admitted.{IsAdmitted}
use Rattle.sd_safety.specs.invariant.Bounds.{depth}
use Rattle.sd_safety.specs.invariant.Eras.{is_new, live_past, moved, on_primary}
use Rattle.sd_safety.proofs.invariant.Cycles.{Over, follow_front}
use Rattle.sd_safety.proofs.invariant.Parents.{IsPlanned, duties_planned, live_is, over_hop}
use Rattle.sd_safety.proofs.invariant.Sides.{implied, not_both}
use Rattle.sd_history.proofs.Known.{admitted_up_is_known}
use Rattle.sd_safety.proofs.windows.Committing.{staged_plan}
use Rattle.sd_safety.proofs.windows.Senders.{NewPast, new_past_of}

-- a device on its primary with a new parent
pub record IsLinked (steps : List Step) (x : ℕ) : Type 0 where
  pub primary : on_primary steps x ≡ true
  pub parent : ℕ
  pub leads : parent_in steps x ≡ Some parent
  pub new : is_new steps parent ≡ true

pub stands_by : (some moved_ acts : Bool) → (some && not moved_ && not acts) ≡ true → (moved_ ≡ false) × (acts ≡ false)
stands_by true false false on = (refl, refl)
stands_by true false true on = cc
stands_by true true acts on = cc
stands_by false moved_ acts on = cc

-- the primary hop of a new device that is linked
module _ (setting : Setting) (history : List Event) where
  pub primary_hop : (x : ℕ) → is_new (chronicle setting history) x ≡ true → (of : IsLinked (chronicle setting history) x)
      → Over (primary_of (staged_plan setting (chronicle setting history)) x) of.parent
  primary_hop x new of = by (duty_now own.past) refl
    where
      own : NewPast (chronicle setting history) x
      own = new_past_of setting history x new

      live : live_past (chronicle setting history) x ≡ Some own.past
      live = ap (λ b. if b then past_in (chronicle setting history) x else None) own.up ∙ own.there

      answers : live_answers (chronicle setting history) x ≡ Some (answers_by own.past)
      answers = live_is setting history x ∙ ap (option_map answers_by) live

      put : (moved (chronicle setting history) x ≡ false) × (acts_in (chronicle setting history) x ≡ false)
      put = stands_by (is_some (live_past (chronicle setting history) x)) (moved (chronicle setting history) x)
          (acts_in (chronicle setting history) x) of.primary

      unmoved : has_moved own.past ≡ false
      unmoved = sym (ap (λ p. map_or p false has_moved) live) ∙ put.0

      idle : is_acting own.past ≡ false
      idle = sym (ap (λ o. map_or o false (λ a. a.acts)) answers) ∙ put.1

      parent : option_map (λ edge. edge.parent) (primary_now own.past) ≡ Some of.parent
      parent =
          sym (ap (λ b. option_map (λ edge. edge.parent) (if b then None else if has_moved own.past then backup_now own.past else primary_now own.past)) idle
          ∙ ap (λ b. option_map (λ edge. edge.parent) (if b then backup_now own.past else primary_now own.past)) unmoved)
          ∙ sym (ap (option_and_then (λ a. a.parent)) answers) ∙ of.leads

      by : (o : Option Duty) → duty_now own.past ≡ o → Over (primary_of (staged_plan setting (chronicle setting history)) x) of.parent
      by None none = let zero_ : 0 ≡ staged_epoch (seen_of (chronicle setting history)) = sym (ap (λ o. map_or o 0 (λ u. u.epoch)) none) ∙ own.epoch in
          absurd (omega (arith, zero_))
      by (Some u) has =
          let epoch : u.epoch ≡ staged_epoch (seen_of (chronicle setting history)) = sym (ap (λ o. map_or o 0 (λ v. v.epoch)) has) ∙ own.epoch in
          let planned : IsPlanned setting x u = (duties_planned setting history x own.past own.there).duty u has in
          over_hop setting.net x (primary_of (staged_plan setting (chronicle setting history)) x) of.parent
          (sym (ap (λ o. option_map (λ edge. edge.parent) (map_or o None (λ v. v.primary))) has
          ∙ ap (λ (v : Duty). option_map (λ edge. edge.parent) v.primary) planned.is
          ∙ ap (λ n. option_map (λ edge. edge.parent) (option_map (edge_of setting.net x) (primary_of (plan_numbered setting n) x))) epoch) ∙ parent)

-- this many steps lead from x to the root
pub record IsLedIn (parent : ℕ → Option ℕ) (n x root : ℕ) : Type 0 where
  pub steps : ℕ
  pub few : steps ≤ n
  pub led : follow parent steps x ≡ Some root

module _ (setting : Setting) (history : List Event) (each : (x : ℕ) → is_new (chronicle setting history) x ≡ true
    → is_root (staged_plan setting (chronicle setting history)) x ≡ false → IsLinked (chronicle setting history) x) where
  led_in : (n x : ℕ) → is_new (chronicle setting history) x ≡ true → is_root (staged_plan setting (chronicle setting history)) x ≡ false
      → is_root (staged_plan setting (chronicle setting history))
      (end_of x (hops (is_root (staged_plan setting (chronicle setting history))) (staged_plan setting (chronicle setting history)) n x)) ≡ true
      → IsLedIn (parent_in (chronicle setting history)) n x (staged_plan setting (chronicle setting history)).root
  led_in zero x new other ends = absurd (not_both (is_root (staged_plan setting (chronicle setting history)) x) ends other)
  led_in (suc n) x new other ends =
      let linked = each x new other in
      let over = primary_hop setting history x new linked in
      on linked (primary_of (staged_plan setting (chronicle setting history)) x) over.is over.leads
      (is_root (staged_plan setting (chronicle setting history)) over.hop.parent) refl ends
      (λ y other' new' ends'. led_in n y new' other' ends')
    where
      on : (linked : IsLinked (chronicle setting history) x) (o : Option Hop) {hop : Hop} → o ≡ Some hop → hop.parent ≡ linked.parent → (b : Bool)
          → is_root (staged_plan setting (chronicle setting history)) hop.parent ≡ b
          → is_root (staged_plan setting (chronicle setting history))
          (end_of x (elim o [
            | None ↦ []
            | Some
                h ↦ h ∷ (elim (is_root (staged_plan setting (chronicle setting history)) h.parent) [
                  | true ↦ []
                  | false ↦ hops (is_root (staged_plan setting (chronicle setting history)))
                      (staged_plan setting (chronicle setting history)) n h.parent
                ])
          ])) ≡ true
          → ((y : ℕ) → is_root (staged_plan setting (chronicle setting history)) y ≡ false → is_new (chronicle setting history) y ≡ true
          → is_root (staged_plan setting (chronicle setting history))
          (end_of y (hops (is_root (staged_plan setting (chronicle setting history))) (staged_plan setting (chronicle setting history)) n y)) ≡ true
          → IsLedIn (parent_in (chronicle setting history)) n y (staged_plan setting (chronicle setting history)).root)
          → IsLedIn (parent_in (chronicle setting history)) (suc n) x (staged_plan setting (chronicle setting history)).root
      on linked o {hop} is leads true root ends' rest =
          record {
            steps = suc zero;
            few = omega arith;
            led = linked.leads
                ∙ ap Some (sym leads ∙ sym (eqb-true (staged_plan setting (chronicle setting history)).root hop.parent root));
          }
      on linked o {hop} is leads false root ends' rest =
          let at : is_root (staged_plan setting (chronicle setting history))
          (end_of hop.parent
          (hops (is_root (staged_plan setting (chronicle setting history))) (staged_plan setting (chronicle setting history)) n hop.parent)) ≡ true =
          sym (ap (λ p. is_root (staged_plan setting (chronicle setting history))
          (end_of x (elim p [
            | None ↦ []
            | Some
                h ↦ h ∷ (elim (is_root (staged_plan setting (chronicle setting history)) h.parent) [
                  | true ↦ []
                  | false ↦ hops (is_root (staged_plan setting (chronicle setting history)))
                      (staged_plan setting (chronicle setting history)) n h.parent
                ])
          ]))) is
          ∙ ap (λ b. is_root (staged_plan setting (chronicle setting history))
          (end_of x (hop ∷ (elim b [
            | true ↦ []
            | false ↦ hops (is_root (staged_plan setting (chronicle setting history)))
                (staged_plan setting (chronicle setting history)) n hop.parent
          ])))) root) ∙ ends' in
          let go = rest hop.parent root (ap (is_new (chronicle setting history)) leads ∙ linked.new) at in
          record {
            steps = suc go.steps;
            few = omega (arith, go.few);
            led = follow_front (parent_in (chronicle setting history)) go.steps x (Some linked.parent) linked.leads
                ∙ ap (follow (parent_in (chronicle setting history)) go.steps) (sym leads) ∙ go.led;
          }

  -- C9 d: parents lead to the staged root
  pub leads : KeepsRules setting.net (staged_plan setting (chronicle setting history)) → IsAdmitted setting history → (x : ℕ)
      → is_new (chronicle setting history) x ≡ true
      → is_root (staged_plan setting (chronicle setting history)) x ≡ false
      → IsLedIn (parent_in (chronicle setting history)) (depth setting.net) x (staged_plan setting (chronicle setting history)).root
  leads rules is x new other =
      let linked = each x new other in
      let over = primary_hop setting history x new linked in
      let known = admitted_up_is_known setting history is x (new_past_of setting history x new).up in
      let member : is_member (staged_plan setting (chronicle setting history)) x ≡ true =
      sym (member_is setting.net (staged_plan setting (chronicle setting history)) x rules known)
      ∙ ap (λ b. b || has_row (staged_plan setting (chronicle setting history)) x) other
      ∙ primary_row (row_of (staged_plan setting (chronicle setting history)) x) over.hop over.is in
      let reaches =
      implied (is_member (staged_plan setting (chronicle setting history)) x)
      (is_root (staged_plan setting (chronicle setting history)) (end_of x (walk setting.net (staged_plan setting (chronicle setting history)) x)))
      (rules.reaches x known) member in
      led_in (depth setting.net) x new other
      (sym (ap (λ b. is_root (staged_plan setting (chronicle setting history))
      (end_of x (if b then [] else hops (is_root (staged_plan setting (chronicle setting history))) (staged_plan setting (chronicle setting history))
      (depth setting.net) x))) other) ∙ reaches)
