-- After a renewal the estimate of each live device was set with no more than the drill says; so no report is above the number of the drill.
use Rattle.std.specs.Prelude.{◌≡◌, ℕ, ◌+◌, ◌≤◌, Bool, true, false, ◌&&◌, ◌||◌, not, List, [], ◌∷◌, nat_le, Some, None, refl}
use Rattle.std.proofs.Common.{ap, sym, ◌∙◌, subst}
use Rattle.std.proofs.lemmas.Bool.{and_parts, and_from, eqb-true, not-true, not_from_false}
use Rattle.sd_num.specs.Lists.{map_or, same_number}
use Rattle.sd_plan.specs.topo.Network.{rates_of}
use Rattle.sd_plan.specs.declared.domain.DomainId.{DomainId}
use Rattle.sd_plan.specs.declared.Plan.{Plan}
use Rattle.sd_plan.specs.Plans.{is_member, is_root, is_backup_root}
use Rattle.sd_drill.specs.ages.Ages.{ageing}
use Rattle.sd_drill.specs.recovery.Walks.{halves}
use Rattle.sd_drill.specs.declared.Budget.{Budget}
use Rattle.sd_drill.specs.Drill.{root_halves, source}
use Rattle.sd_num.proofs.Shared.{none_if_not_some}
use Rattle.sd_device.specs.Calls.{Past}
use Rattle.sd_device.specs.Words.{epoch_now, estimate_now}
use Rattle.sd_sched.specs.declared.Event.{Event}
use Rattle.sd_sched.specs.declared.Event.TheVariants as event
use Rattle.sd_sched.specs.Honesty.{clock_set}
use Rattle.sd_history.specs.World.{Setting, is_up, window, has_commit, is_counted}
use Rattle.sd_history.specs.Steps.{Step, seen_of, acts_in}
use Rattle.sd_history.specs.Chronicle.{past_in, chronicle, next_step}
use Rattle.sd_safety.specs.invariant.Eras.{era, plan_now, device_failed_now, is_old, is_new, is_ordinary}
use Rattle.sd_safety.specs.invariant.Invariant.{Core}
use Rattle.sd_safety.specs.invariant.Coming.{IsNextEvent}
use Rattle.sd_safety.proofs.invariant.Sides.{implied, not_both}
use Rattle.sd_safety.specs.messages.Moments.{whole}
use Rattle.sd_safety.proofs.moves.Ends.{within as within_sum}
use Rattle.sd_safety.proofs.moves.Tickings.{first_only}
use Rattle.sd_safety.proofs.receipts.Stood.{epoch_is}
use Rattle.sd_safety.proofs.waits.Standing.{now}
use Rattle.sd_safety.proofs.whole.Kept.{comes}
use Rattle.sd_bound.specs.Bound.{within_base, within_hold}
use Rattle.sd_bound.specs.Halves.{IsBased}
use Rattle.sd_bound.specs.RenewedBound.{IsHitRenewed}
use Rattle.sd_bound.specs.RenewedBases.{IsBudgeted, commits_so, commits_within, BasesHoldRenewed, DrillHoldsRenewed}
use Rattle.sd_bound.proofs.Composing.{held_at, held_when}
use Rattle.sd_bound.proofs.RenewedBound.{IsCounted, counted_so, bound_holds_renewed, none_more}
use Rattle.sd_bound.proofs.timeouts.Scenes.{up_unfailed}
use Rattle.sd_bound.proofs.timeouts.Unstaged.{uncommitted}
use Rattle.sd_bound.proofs.bases.Sums.{IsWalked}
use Rattle.sd_bound.proofs.bases.Concluding.{root_held, backup_held}
use Rattle.sd_bound.proofs.rebased.Walked.{walked_now, root_now, backup_now_}

module _ (setting : Setting) (budget : Budget) (f : DomainId) (x : Event) (h : List Event) (e : Event) (next : IsNextEvent setting (x ∷ h) e)
    (budgeted : IsBudgeted budget (chronicle setting (x ∷ h))) (struck : IsHitRenewed setting f (chronicle setting (x ∷ h))) (d : ℕ) (past : Past)
    (counted : is_counted setting (seen_of (chronicle setting (x ∷ h))) d ≡ true) (there : past_in (chronicle setting (x ∷ h)) d ≡ Some past) where
  abbrev steps : List Step
  steps = chronicle setting (x ∷ h)

  abbrev plan : Plan
  plan = plan_now setting (chronicle setting (x ∷ h))

  core : Core setting (chronicle setting (x ∷ h))
  core = (now setting x h e next).core

  shut : window (seen_of (chronicle setting (x ∷ h))) ≡ None
  shut = none_if_not_some (window (seen_of (chronicle setting (x ∷ h)))) struck.shut

  is_live : IsCounted setting (x ∷ h) d
  is_live = counted_so setting (x ∷ h) e next shut d counted

  -- it follows the plan in force
  old : is_old (chronicle setting (x ∷ h)) d ≡ true
  old =
      first_only (is_old steps d) (is_new steps d)
      (implied (is_member (plan_now setting steps) d && not (device_failed_now steps d) && is_up (seen_of steps) d) (is_old steps d || is_new steps d)
      (core.census.members_follow d)
      (and_from (is_member (plan_now setting steps) d && not (device_failed_now steps d)) (is_up (seen_of steps) d)
      (and_from (is_member (plan_now setting steps) d) (not (device_failed_now steps d)) is_live.member
      (ap not (up_unfailed setting (x ∷ h) core shut d is_live.up is_live.member))) is_live.up))
      (not-true (is_new steps d)
      (implied (not (has_commit (seen_of steps))) (not (is_new steps d)) (core.uncommitted.devices d) (ap not (uncommitted (seen_of steps) shut))))

  own : epoch_now past ≡ era (chronicle setting (x ∷ h))
  own =
      eqb-true (epoch_now past) (era (chronicle setting (x ∷ h)))
      (sym (ap (λ o. same_number o (era (chronicle setting (x ∷ h)))) (epoch_is setting (x ∷ h) d past is_live.up there)) ∙ old)

  is_walked : IsWalked setting.net (plan_now setting (chronicle setting (x ∷ h))) budget f d (estimate_now past).base
  is_walked = walked_now setting x h e next budget f budgeted struck.inside d past is_live.known is_live.member there own

  by_role : (r b : Bool) → is_root (plan_now setting (chronicle setting (x ∷ h))) d ≡ r
      → is_backup_root (plan_now setting (chronicle setting (x ∷ h))) d ≡ b → acts_in (chronicle setting (x ∷ h)) d ≡ true
      → (estimate_now past).base + ageing (rates_of setting.net d) budget.hold ≤ source setting.net (plan_now setting (chronicle setting (x ∷ h))) budget
  by_role true b is_r is_b acts =
      let same : plan.root ≡ d = eqb-true plan.root d is_r in
      subst (λ y. (estimate_now past).base + ageing (rates_of setting.net y) budget.hold ≤ source setting.net plan budget) same
      (root_held (estimate_now past).base budget.base (ageing (rates_of setting.net plan.root) budget.hold) (root_halves setting.net plan)
      (ageing (rates_of setting.net plan.backup_root) budget.hold)
      (root_now setting x h e next budget f budgeted struck.inside past (subst (λ y. past_in steps y ≡ Some past) (sym same) there) own))
  by_role false true is_r is_b acts =
      let same : plan.backup_root ≡ d = eqb-true plan.backup_root d is_b in
      subst (λ y. (estimate_now past).base + ageing (rates_of setting.net y) budget.hold ≤ source setting.net plan budget) same
      (backup_held (estimate_now past).base budget.base (ageing (rates_of setting.net plan.root) budget.hold) (root_halves setting.net plan)
      (ageing (rates_of setting.net plan.backup_root) budget.hold)
      (backup_now_ setting x h e next budget f budgeted struck.inside past (subst (λ y. past_in steps y ≡ Some past) (sym same) there) own))
  by_role false false is_r is_b acts =
      absurd (not_both (acts_in steps d) acts
      (not-true (acts_in steps d)
      (implied (is_old steps d && is_ordinary plan d) (not (acts_in steps d)) (core.roles.ordinary d)
      (and_from (is_old steps d) (is_ordinary plan d) old
      (and_from (is_member plan d && not (is_root plan d)) (not (is_backup_root plan d))
      (and_from (is_member plan d) (not (is_root plan d)) is_live.member (not_from_false (is_root plan d) is_r))
      (not_from_false (is_backup_root plan d) is_b))))))

  is_based : IsBased setting.net (plan_now setting (chronicle setting (x ∷ h))) budget f (chronicle setting (x ∷ h)) d (estimate_now past).base
  is_based =
      record {
        acting = λ acts. by_role (is_root plan d) (is_backup_root plan d) refl refl acts;
        walked = λ far most. within_sum (estimate_now past).base (source setting.net plan budget) (halves setting.net d is_walked.hops) far is_walked.sum
            (most.greatest is_walked.hops is_walked.walk);
      }

pub bases_hold_renewed : (setting : Setting) (budget : Budget) (f : DomainId) → BasesHoldRenewed setting budget f
bases_hold_renewed setting budget f e [] d past fair clean budgeted struck counted there = absurd (none_more struck.renewed)
bases_hold_renewed setting budget f e (x ∷ h) d past fair clean budgeted struck counted there =
    is_based setting budget f x h e (comes setting (x ∷ h) e fair clean) budgeted struck d past counted there

-- what is budgeted at a report was so before it
budgeted_before : (setting : Setting) (budget : Budget) (e : Event) (history : List Event) → IsBudgeted budget (chronicle setting (e ∷ history))
    → IsBudgeted budget (chronicle setting history)
budgeted_before setting budget e history budgeted =
    let steps : List Step = chronicle setting history in
    record {
      based = (and_parts (map_or (clock_set e) true (λ set. nat_le set.1 budget.base)) (within_base budget (seen_of steps)) budgeted.based).1;
      held = (and_parts (within_hold budget steps) _ budgeted.held).0;
      commits = (and_parts (commits_within budget steps) (commits_so budget steps e) budgeted.commits).0;
    }

pub drill_holds_renewed : (setting : Setting) (budget : Budget) (f : DomainId) → DrillHoldsRenewed setting budget f
drill_holds_renewed setting budget f at reference d counter history past fair clean budgeted struck counted there w worst =
    let asks : Event = event.Ask reference d counter in
    bound_holds_renewed setting budget f at reference d counter history past fair clean struck counted there
    (λ acts. held_when (acts_in (chronicle setting history) d) (past_in (chronicle setting history) d) past counter budget.hold there acts
    (held_at budget (chronicle setting history) (chronicle setting (asks ∷ history)) (next_step setting (chronicle setting history) asks) whole budgeted.held))
    (bases_hold_renewed setting budget f asks history d past fair clean (budgeted_before setting budget asks history budgeted) struck.hit counted there) w worst
