-- What is asked of links at a commit, link by link.
use Rattle.std.proofs.Common.{◌≡◌, ℕ, ◌-◌, ◌<◌, Bool, true, false, not, ◌&&◌, ◌||◌, List, length, Option, Some, ◌⊎◌, inl, inr, refl, sym, ap, ◌∙◌, subst, arith, get_or}
use Rattle.std.specs.Prelude.{slice_get}
use Rattle.std.proofs.lemmas.Bool.{and_parts, or_cases, both_ways, not-true, not_from_true, not_from_false}
use Rattle.std.proofs.lemmas.Option.{slice_get-get_or}
use Rattle.sd_num.specs.Lists.{has, map_or}
use Rattle.sd_num.proofs.Shared.{all_below}
use Rattle.sd_plan.specs.topo.Network.{joins, link_of}
use Rattle.sd_plan.specs.topo.Limits.{IsNetwork, IsLink}
use Rattle.sd_plan.proofs.topo.Laws.{link_law}
use Rattle.sd_plan.specs.declared.Hop.{Hop}
use Rattle.sd_plan.specs.declared.Plan.{Plan}
use Rattle.sd_plan.specs.Plans.{is_member, is_present, primary_of, backup_of}
use Rattle.sd_plan.specs.Structure.{hop_is_right}
use Rattle.sd_plan.proofs.Rules.{KeepsRules, keeps_rules}
use Rattle.sd_plan.proofs.Forest.{IsForest, forest_of}
use Rattle.sd_history.specs.World.{Setting, Seen, is_up, link_has_failed, epoch_in_force, staged_epoch, no_plan}
use Rattle.sd_history.specs.Premises.{leaves_out_failed, leaves_out_cleanly}
use Rattle.sd_world.specs.membership.Plans.{IsFollowable, AreSound}
use Rattle.sd_monitors.proofs.clocks.Judging.{each_below}
use Rattle.sd_monitors.specs.renewal.Moments.{staged_plan, uses_failed, leads_out, IsReady}
use Rattle.sd_monitors.proofs.renewal.Belows.{all_below_fails}
use Rattle.sd_monitors.proofs.renewal.Apart.{strays, none_strays, some_strays}

-- the plan that a window brings in is one of the setting
pub staged_sound : (setting : Setting) (seen : List Seen) → AreSound setting.net setting.plans → epoch_in_force seen < length setting.plans
    → IsFollowable setting.net (staged_plan setting seen)
staged_sound setting seen sound planned =
    subst (λ (o : Option Plan). IsFollowable setting.net (map_or o no_plan (λ plan. plan))) (sym there)
    (sound (epoch_in_force seen) (get_or setting.plans (epoch_in_force seen) no_plan)
    (slice_get-get_or setting.plans (epoch_in_force seen) no_plan planned))
  where
    there : slice_get setting.plans (staged_epoch seen - 1) ≡ Some (get_or setting.plans (epoch_in_force seen) no_plan)
    there = ap (λ (i : ℕ). slice_get setting.plans i) (omega arith) ∙ slice_get-get_or setting.plans (epoch_in_force seen) no_plan planned

module _ (setting : Setting) (seen : List Seen) where
  -- Failed links

  pub failed_all : ((l : ℕ) → l < length setting.net.links → uses_failed setting seen l ≡ false)
      → leaves_out_failed setting seen (staged_plan setting seen) ≡ true
  failed_all none =
      all_below (λ l. not (link_has_failed seen l) || has (staged_plan setting seen).absent.links l) (length setting.net.links)
      (λ l within. by (link_has_failed seen l) (has (staged_plan setting seen).absent.links l) (none l within))
    where
      by : (failed left : Bool) → (failed && not left) ≡ false → (not failed || left) ≡ true
      by true true none = refl
      by true false none = cc
      by false left none = refl

  pub failed_some : (l : ℕ) → l < length setting.net.links → uses_failed setting seen l ≡ true
      → leaves_out_failed setting seen (staged_plan setting seen) ≡ false
  failed_some l within uses =
      all_below_fails (λ l. not (link_has_failed seen l) || has (staged_plan setting seen).absent.links l) (length setting.net.links) l within
      (by (link_has_failed seen l) (has (staged_plan setting seen).absent.links l) uses)
    where
      by : (failed left : Bool) → (failed && not left) ≡ true → (not failed || left) ≡ false
      by true true uses = cc
      by true false uses = refl
      by false left uses = cc

  -- Devices that are left out

  module _ (network : IsNetwork setting.net) (sound : AreSound setting.net setting.plans) (ready : IsReady setting seen) where
    followable : IsFollowable setting.net (staged_plan setting seen)
    followable = staged_sound setting seen sound ready.planned

    rules : KeepsRules setting.net (staged_plan setting seen)
    rules = keeps_rules setting.net (staged_plan setting seen) followable.structured

    forest : IsForest setting.net (staged_plan setting seen)
    forest = forest_of setting.net (staged_plan setting seen) followable.fits followable.structured

    -- a primary link of the plan is not failed
    hops_live : (d : ℕ) (hop : Hop) → d < length setting.net.devices → primary_of (staged_plan setting seen) d ≡ Some hop
        → not (link_has_failed seen hop.link) ≡ true
    hops_live d hop within is = by (or_cases (not (link_has_failed seen hop.link)) (has (staged_plan setting seen).absent.links hop.link)
        (each_below (λ l. not (link_has_failed seen l) || has (staged_plan setting seen).absent.links l) (length setting.net.links) ready.links hop.link known))
      where
        right : hop_is_right setting.net (staged_plan setting seen) d (Some hop) ≡ true
        right = subst (λ (o : Option Hop). hop_is_right setting.net (staged_plan setting seen) d o ≡ true) is
            (and_parts (hop_is_right setting.net (staged_plan setting seen) d (primary_of (staged_plan setting seen) d))
            (hop_is_right setting.net (staged_plan setting seen) d (backup_of (staged_plan setting seen) d)) (rules.hops d within)).0

        present : is_present (staged_plan setting seen) hop.link ≡ true
        present = (and_parts (is_member (staged_plan setting seen) hop.parent) (is_present (staged_plan setting seen) hop.link)
            (and_parts (is_member (staged_plan setting seen) hop.parent && is_present (staged_plan setting seen) hop.link)
            (joins setting.net hop.link d hop.parent) right).0).1

        known : hop.link < length setting.net.links
        known = (forest.up d hop within is).link

        by : (not (link_has_failed seen hop.link) ≡ true) ⊎ (has (staged_plan setting seen).absent.links hop.link ≡ true)
            → not (link_has_failed seen hop.link) ≡ true
        by (inl lives) = lives
        by (inr left) =
            absurd (both_ways (has (staged_plan setting seen).absent.links hop.link)
            (not-true (has (staged_plan setting seen).absent.links hop.link) present) left)

    pub cleanly_all : ((l : ℕ) → l < length setting.net.links → leads_out setting seen l ≡ false)
        → leaves_out_cleanly setting seen (staged_plan setting seen) ≡ true
    cleanly_all none =
        all_below (λ d. not (strays setting.net (staged_plan setting seen) (is_up seen) (λ l. not (link_has_failed seen l)) d))
        (length setting.net.devices) (λ d within.
        not_from_false (strays setting.net (staged_plan setting seen) (is_up seen) (λ l. not (link_has_failed seen l)) d)
        (none_strays setting.net (staged_plan setting seen) (is_up seen) (λ l. not (link_has_failed seen l)) rules.root none d))

    pub cleanly_some : (l : ℕ) → l < length setting.net.links → leads_out setting seen l ≡ true
        → leaves_out_cleanly setting seen (staged_plan setting seen) ≡ false
    cleanly_some l within leads =
        let law : IsLink (length setting.net.devices) (link_of setting.net l) = link_law setting.net l network within in
        let found = some_strays setting.net (staged_plan setting seen) (is_up seen)
        (λ l. not (link_has_failed seen l)) forest ready.up hops_live l within law.first law.second leads in
        all_below_fails (λ d. not (strays setting.net (staged_plan setting seen) (is_up seen) (λ l. not (link_has_failed seen l)) d))
        (length setting.net.devices) found.0 found.1
        (not_from_true (strays setting.net (staged_plan setting seen) (is_up seen) (λ l. not (link_has_failed seen l)) found.0) found.2)
