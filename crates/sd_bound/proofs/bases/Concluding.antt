-- The base half: what the induction gives of a live device.
use Rattle.std.specs.Prelude.{◌≡◌, ℕ, ◌+◌, ◌<◌, ◌≤◌, Bool, true, false, ◌&&◌, ◌||◌, not, List, length, refl, ◌⊎◌}
use Rattle.std.proofs.Common.{arith, subst, inl, inr}
use Rattle.std.proofs.lemmas.Bool.{and_parts, and_from, or_cases, eqb-true, not_from_false, both_ways}
use Rattle.sd_num.specs.Lists.{same_number}
use Rattle.sd_plan.specs.topo.Network.{Network, rates_of}
use Rattle.sd_plan.specs.declared.Plan.{Plan}
use Rattle.sd_plan.specs.Plans.{is_member, is_root, is_backup_root}
use Rattle.sd_device.specs.Words.{estimate_now}
use Rattle.sd_sched.specs.declared.Event.{Event}
use Rattle.sd_sched.specs.Events.{joined}
use Rattle.sd_history.specs.World.{Seen, is_up, in_force, joined_in_window, is_counted, alone}
use Rattle.sd_history.specs.Steps.{seen_of, acts_in}
use Rattle.sd_history.proofs.Known.{admitted_up_is_known}
use Rattle.sd_drill.specs.ages.Ages.{ageing}
use Rattle.sd_drill.specs.recovery.Walks.{halves, IsGreatestOfWalks}
use Rattle.sd_drill.specs.Drill.{root_halves, source}
use Rattle.sd_safety.specs.invariant.Kept.{StaysInvariant}
use Rattle.sd_safety.proofs.moves.Ends.{within as within_sum}
use Rattle.sd_bound.specs.Recovering.{steps_under}
use Rattle.sd_bound.specs.Halves.{BasesHold}
use Rattle.sd_bound.proofs.histories.Plain.{IsPlain, not_in_window, plan_is}
use Rattle.sd_bound.proofs.histories.Standing.{plain, stands}
use Rattle.sd_bound.proofs.bases.Sums.{Based}
use Rattle.sd_bound.proofs.bases.Holding.{all_hold_so}

-- a live device is a member that is up
pub record IsPresent (net : Network) (plan : Plan) (history : List Event) (d : ℕ) : Type 0 where
  pub up : is_up (seen_of (steps_under net plan history)) d ≡ true
  pub member : is_member plan d ≡ true
  pub within : d < length net.devices

pub present : (net : Network) (plan : Plan) (history : List Event) → IsPlain (alone net plan) history → (d : ℕ)
    → is_counted (alone net plan) (seen_of (steps_under net plan history)) d ≡ true → IsPresent net plan history d
present net plan history plain_ d counted =
    record {
      up = parts.0;
      member = by_case (or_cases (is_member (in_force (alone net plan) seen) d) (joined_in_window seen d) parts.1);
      within = admitted_up_is_known (alone net plan) history plain_.is d parts.0;
    }
  where
    seen : List Seen
    seen = seen_of (steps_under net plan history)

    parts : (is_up seen d ≡ true) × ((is_member (in_force (alone net plan) seen) d || joined_in_window seen d) ≡ true)
    parts = and_parts (is_up seen d) (is_member (in_force (alone net plan) seen) d || joined_in_window seen d) counted

    by_case : (is_member (in_force (alone net plan) seen) d ≡ true) ⊎ (joined_in_window seen d ≡ true) → is_member plan d ≡ true
    by_case (inl member) = subst (λ p. is_member p d ≡ true) (plan_is net plan history plain_) member
    by_case (inr came) = absurd (both_ways (joined_in_window seen d) (not_in_window (alone net plan) history plain_ (λ s. same_number (joined s.event) d)) came)

-- Sums

pub root_held : (x base a rh b : ℕ) → x ≤ base → x + a ≤ base + rh + a + b
root_held x base a rh b le = omega (arith, le)

pub backup_held : (x base a rh b : ℕ) → x ≤ base + a + rh → x + b ≤ base + rh + a + b
backup_held x base a rh b le = omega (arith, le)

pub bases_hold : (net : Network) (plan : Plan) → StaysInvariant (alone net plan) → BasesHold net plan
bases_hold net plan stays budget f whole_ history run t d past counted there =
    record { acting = λ acts. by_role (is_root plan d) (is_backup_root plan d) refl refl acts; walked = walked }
  where
    here : IsPresent net plan history d
    here = present net plan history (plain net plan budget f stays whole_ run history t) d counted

    based : Based net plan budget f history d (estimate_now past).base
    based = (all_hold_so net plan budget f stays whole_ run history t).based d past here.member here.within there

    by_role : (r b : Bool) → is_root plan d ≡ r → is_backup_root plan d ≡ b → acts_in (steps_under net plan history) d ≡ true
        → (estimate_now past).base + ageing (rates_of net d) budget.hold ≤ source net plan budget
    by_role true b is_r is_b acts =
        subst (λ x. (estimate_now past).base + ageing (rates_of net x) budget.hold ≤ source net plan budget) (eqb-true plan.root d is_r)
        (root_held (estimate_now past).base budget.base (ageing (rates_of net plan.root) budget.hold) (root_halves net plan)
        (ageing (rates_of net plan.backup_root) budget.hold) (based.root is_r))
    by_role false true is_r is_b acts =
        subst (λ x. (estimate_now past).base + ageing (rates_of net x) budget.hold ≤ source net plan budget) (eqb-true plan.backup_root d is_b)
        (backup_held (estimate_now past).base budget.base (ageing (rates_of net plan.root) budget.hold) (root_halves net plan)
        (ageing (rates_of net plan.backup_root) budget.hold) (based.backup is_b))
    by_role false false is_r is_b acts =
        absurd (both_ways (acts_in (steps_under net plan history) d)
        ((stands net plan budget f stays whole_ run history t).ordinary d
        (and_from (is_member plan d && not (is_root plan d)) (not (is_backup_root plan d))
        (and_from (is_member plan d) (not (is_root plan d)) here.member (not_from_false (is_root plan d) is_r))
        (not_from_false (is_backup_root plan d) is_b))
        here.up)
        acts)

    walked : (far : ℕ) → IsGreatestOfWalks net plan f d (halves net d) far → (estimate_now past).base ≤ source net plan budget + far
    walked far most =
        within_sum (estimate_now past).base (source net plan budget) (halves net d based.walked.hops) far based.walked.sum
        (most.greatest based.walked.hops based.walked.walk)
